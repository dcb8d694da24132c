-- Values that have stated widths.
use Rattle.std.proofs.Common.{◌≡◌, ℕ, zero, suc, List, [], ◌∷◌, Bool, true, false, length, map, take, Some, refl, sym, ap, ◌∙◌, nat_le, slice_get, slice_index_or, slice_set}
use Rattle.std.specs.List.{list_all}
use Rattle.std.specs.Option.{option_map_or}
use Rattle.std.proofs.lemmas.Bool.{and_from, and_parts, lt-ltb}
use Rattle.std.proofs.lemmas.List.{length-map}
use Rattle.lucid_base.specs.Bits.{bits_of}
use Rattle.lucid_base.specs.declared.bits.Bits.{Bits}
use Rattle.lucid_core.specs.declared.defs.EventDef.{EventDef}
use Rattle.lucid_core.specs.Computations.{begun_with}
use Rattle.lucid_core.specs.Fits.{args_fit}
use Rattle.lucid_core.specs.Meaning.{holding}
use Rattle.lucid_core.specs.Step.{taken_at}
use Rattle.lucid_core.specs.Values.{nothing, numbers}

abbrev pub widths : List Bits → List ℕ
widths vs = map (λ v. v.width) vs

-- A local's value has its width.
pub local_width_is : (vs : List Bits) (i w : ℕ) → slice_get (widths vs) i ≡ Some w → (slice_index_or vs i nothing).width ≡ w
local_width_is [] i w h = absurd (cc)
local_width_is (v ∷ vs) zero w h = cc
local_width_is (v ∷ vs) (suc i) w h = local_width_is vs i w h

-- A local keeps its width.
pub widths-set : (vs : List Bits) (i : ℕ) (v : Bits) → slice_get (widths vs) i ≡ Some v.width → widths (slice_set vs i v) ≡ widths vs
widths-set [] i v h = absurd (cc)
widths-set (u ∷ vs) zero v h = cc
widths-set (u ∷ vs) (suc i) v h = ap (λ (ws : List ℕ). u.width ∷ ws) (widths-set vs i v h)

-- Each local has the width of its new value.
abbrev pub HeldFit : List ℕ → List (ℕ × Bits) → Type 0
HeldFit locals [] = Unit {0}
HeldFit locals (h ∷ hs) = (slice_get locals h.0 ≡ Some h.1.width) × HeldFit locals hs

-- Locals keep their widths when they get values that fit them.
pub widths-holding : (locals : List ℕ) (hs : List (ℕ × Bits)) (vs : List Bits) → HeldFit locals hs → widths vs ≡ locals → widths (holding vs hs) ≡ locals
widths-holding locals [] vs fit e = e
widths-holding locals (h ∷ hs) vs fit e =
    let there : slice_get (widths vs) h.0 ≡ Some h.1.width = ap (λ (ws : List ℕ). slice_get ws h.0) e ∙ fit.0 in
    widths-holding locals hs (slice_set vs h.0 h.1) fit.1 (widths-set vs h.0 h.1 there ∙ e)

widths-zeros : (ws : List ℕ) → widths (map (λ w. bits_of w 0) ws) ≡ ws
widths-zeros [] = refl
widths-zeros (w ∷ ws) = ap (λ (rest : List ℕ). w ∷ rest) (widths-zeros ws)

-- Begun with values of the first of these widths, all have them.
pub widths-begun : (vs : List Bits) (n : ℕ) (ws : List ℕ) → widths vs ≡ take n ws → widths (begun_with vs ws) ≡ ws
widths-begun [] zero ws e = widths-zeros ws
widths-begun [] (suc n) [] e = refl
widths-begun [] (suc n) (w ∷ ws) e = absurd (cc)
widths-begun (v ∷ vs) zero ws e = absurd (cc)
widths-begun (v ∷ vs) (suc n) [] e = absurd (cc)
widths-begun (v ∷ vs) (suc n) (w ∷ ws) e =
    let first : v.width ≡ w = cc in
    let others : widths vs ≡ take n ws = cc in
    ap (λ (u : ℕ). u ∷ widths (begun_with vs ws)) first ∙ ap (λ (us : List ℕ). w ∷ us) (widths-begun vs n ws others)

-- Arguments are taken at the first widths.
pub widths-taken : (ws args : List ℕ) → widths (taken_at ws args) ≡ take (length args) ws
widths-taken [] [] = refl
widths-taken [] (a ∷ args) = refl
widths-taken (w ∷ ws) [] = refl
widths-taken (w ∷ ws) (a ∷ args) = ap (λ (us : List ℕ). w ∷ us) (widths-taken ws args)

-- Values fit their own widths.
args_fit-own : (vs : List Bits) → args_fit (widths vs) (numbers vs) ≡ true
args_fit-own [] = refl
args_fit-own (v ∷ vs) = and_from _ _ (lt-ltb _ _ v.fits) (args_fit-own vs)

-- Values of the widths of an event's parameters are arguments that fit it.
pub event_is_fit : (events : List EventDef) (id : ℕ) (params : List ℕ) (vs : List Bits) → slice_get (map (λ e. e.params) events) id ≡ Some params → widths vs ≡ params →
    option_map_or (λ e. args_fit e.params (numbers vs)) (slice_get events id) false ≡ true
event_is_fit [] id params vs h e = absurd (cc)
event_is_fit (d ∷ ds) zero params vs h e = let same : widths vs ≡ d.params = cc in ap (λ (ws : List ℕ). args_fit ws (numbers vs)) (sym same) ∙ args_fit-own vs
event_is_fit (d ∷ ds) (suc id) params vs h e = event_is_fit ds id params vs h e

-- Values of these widths are as many.
pub numbers-as_many : (vs : List Bits) (ws : List ℕ) → widths vs ≡ ws → length (numbers vs) ≡ length ws
numbers-as_many vs ws e = length-map vs _ ∙ sym (length-map vs _) ∙ ap length e

-- Where no event has more than 8 parameters.
pub params_are_few : (events : List EventDef) (id : ℕ) (params : List ℕ) → slice_get (map (λ e. e.params) events) id ≡ Some params →
    list_all (λ e. nat_le (length e.params) 8) events ≡ true → nat_le (length params) 8 ≡ true
params_are_few [] id params h all = absurd (cc)
params_are_few (d ∷ ds) zero params h all = let same : d.params ≡ params = cc in ap (λ (ws : List ℕ). nat_le (length ws) 8) (sym same) ∙ (and_parts _ _ all).0
params_are_few (d ∷ ds) (suc id) params h all = params_are_few ds id params h (and_parts _ _ all).1

-- A test of all of a list holds for each.
pub passes_at : {A : Type 0} (test : A → Bool) (xs : List A) (i : ℕ) (x : A) → list_all test xs ≡ true → slice_get xs i ≡ Some x → test x ≡ true
passes_at test [] i x all h = absurd (cc)
passes_at test (y ∷ ys) zero x all h = let e : y ≡ x = cc in ap test (sym e) ∙ (and_parts _ _ all).0
passes_at test (y ∷ ys) (suc i) x all h = passes_at test ys i x (and_parts _ _ all).1 h
