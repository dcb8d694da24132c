-- Locals of a body among those of a handler.
use Rattle.std.proofs.Common.{◌≡◌, ℕ, zero, suc, ◌+◌, ◌<◌, ◌≤◌, List, [], ◌∷◌, ◌++◌, length, map, refl, sym, ap, ◌∙◌, arith, append_assoc, append-nil, length-append, slice_index_or, slice_set}
use Rattle.std.specs.List.{enumerate_from}
use Rattle.std.proofs.lemmas.List.{length-map, length-set, map-append, get_or-append-add, get_or_append_left, get_or-set_other}
use Rattle.std.proofs.lemmas.Grind.{get_or-set_at}
use Rattle.lucid_base.specs.Bits.{bits_of}
use Rattle.lucid_base.specs.declared.bits.Bits.{Bits}
use Rattle.lucid_core.specs.Computations.{begun_with}
use Rattle.lucid_core.specs.Meaning.{holding}
use Rattle.lucid_core.specs.Values.{nothing}

abbrev pub local_at : List Bits → ℕ → Bits
local_at vs i = slice_index_or vs i nothing

abbrev pub zeros : List ℕ → List Bits
zeros ws = map (λ w. bits_of w 0) ws

-- These widths are the first of those.
abbrev pub Begins : List ℕ → List ℕ → Type 0
Begins xs ys = (more : List ℕ) × (ys ≡ xs ++ more)

pub begins_self : (xs : List ℕ) → Begins xs xs
begins_self xs = ([], sym (append-nil xs))

pub begins_then : (xs ys zs : List ℕ) → Begins xs ys → Begins ys zs → Begins xs zs
begins_then xs ys zs a b = (a.0 ++ b.0, b.1 ∙ ap (λ (q : List ℕ). q ++ b.0) a.1 ∙ append_assoc xs a.0 b.0)

pub begins_append : (xs more : List ℕ) → Begins xs (xs ++ more)
begins_append xs more = (more, refl)

pub begins_length : (xs ys : List ℕ) → Begins xs ys → length xs ≤ length ys
begins_length xs ys b = let e : length ys ≡ length xs + length b.0 = ap length b.1 ∙ length-append xs b.0 in omega arith

-- A body begins with its arguments, and then zeros.
pub begun-length : (vs : List Bits) (ws : List ℕ) → length vs ≤ length ws → length (begun_with vs ws) ≡ length ws
begun-length [] ws h = length-map ws _
begun-length (v ∷ vs) [] h = absurd (omega arith)
begun-length (v ∷ vs) (w ∷ ws) h = ap suc (begun-length vs ws (omega arith))

pub begun_first : (vs : List Bits) (ws : List ℕ) (i : ℕ) → i < length vs → local_at (begun_with vs ws) i ≡ local_at vs i
begun_first vs ws i h = get_or_append_left vs _ nothing i h

pub begun_past : (vs : List Bits) (ws : List ℕ) (i : ℕ) → length vs ≤ length ws → length vs ≤ i → local_at (begun_with vs ws) i ≡ local_at (zeros ws) i
begun_past [] ws i h k = refl
begun_past (v ∷ vs) [] i h k = absurd (omega arith)
begun_past (v ∷ vs) (w ∷ ws) zero h k = absurd (omega arith)
begun_past (v ∷ vs) (w ∷ ws) (suc i) h k = begun_past vs ws i (omega arith) (omega arith)

-- Zeros in the midst of zeros.
pub zeros_part : (xs ws more : List ℕ) (i : ℕ) → i < length ws → local_at (zeros ((xs ++ ws) ++ more)) (length xs + i) ≡ local_at (zeros ws) i
zeros_part xs ws more i h =
    let zero_of : ℕ → Bits = λ w. bits_of w 0 in
    let e : zeros ((xs ++ ws) ++ more) ≡ zeros xs ++ (zeros ws ++ zeros more) =
    ap zeros (append_assoc xs ws more) ∙ map-append zero_of xs (ws ++ more) ∙ ap (λ (q : List Bits). zeros xs ++ q) (map-append zero_of ws more) in
    let l : length xs + i ≡ length (zeros xs) + i = ap (λ (k : ℕ). k + i) (sym (length-map xs zero_of)) in
    let h2 : i < length (zeros ws) = let z = length-map ws zero_of in omega arith in
    ap (λ (q : List Bits). local_at q (length xs + i)) e ∙ ap (local_at (zeros xs ++ (zeros ws ++ zeros more))) l
    ∙ get_or-append-add (zeros xs) (zeros ws ++ zeros more) i nothing ∙ get_or_append_left (zeros ws) (zeros more) nothing i h2

-- Values held from a number on.
pub held-length : (vs : List Bits) (b : ℕ) (xs : List Bits) → length (holding xs (enumerate_from b vs)) ≡ length xs
held-length [] b xs = refl
held-length (v ∷ vs) b xs = held-length vs (b + 1) (slice_set xs b v) ∙ length-set xs b v

pub held_below : (vs : List Bits) (b : ℕ) (xs : List Bits) (j : ℕ) → j < b → local_at (holding xs (enumerate_from b vs)) j ≡ local_at xs j
held_below [] b xs j h = refl
held_below (v ∷ vs) b xs j h = held_below vs (b + 1) (slice_set xs b v) j (omega arith) ∙ get_or-set_other xs b j v nothing (omega arith)

pub held_above : (vs : List Bits) (b : ℕ) (xs : List Bits) (j : ℕ) → b + length vs ≤ j → local_at (holding xs (enumerate_from b vs)) j ≡ local_at xs j
held_above [] b xs j h = refl
held_above (v ∷ vs) b xs j h = held_above vs (b + 1) (slice_set xs b v) j (omega arith) ∙ get_or-set_other xs b j v nothing (omega arith)

pub held_there : (vs : List Bits) (b : ℕ) (xs : List Bits) (i : ℕ) → i < length vs → b + length vs ≤ length xs → local_at (holding xs (enumerate_from b vs)) (b + i) ≡ local_at vs i
held_there [] b xs i h k = absurd (omega arith)
held_there (v ∷ vs) b xs zero h k = held_below vs (b + 1) (slice_set xs b v) (b + 0) (omega arith) ∙ get_or-set_at xs b (b + 0) v nothing (omega arith) (omega arith)
held_there (v ∷ vs) b xs (suc i) h k =
    let e : b + suc i ≡ (b + 1) + i = omega arith in
    let l = length-set xs b v in
    ap (local_at (holding (slice_set xs b v) (enumerate_from (b + 1) vs))) e ∙ held_there vs (b + 1) (slice_set xs b v) i (omega arith) (omega arith)
