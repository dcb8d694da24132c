-- The invariant of the state of a body, and acts that keep it.
use Rattle.std.proofs.Common.{◌≡◌, ℕ, zero, suc, List, [], ◌∷◌, ◌++◌, Bool, true, false, not, ◌&&◌, ◌||◌, if◌then◌else◌, map, take, Option, None, Some, refl, sym, ap, subst, ◌∙◌, length, slice_get, slice_index, nat_eq, nat_le}
use Rattle.std.specs.List.{list_all}
use Rattle.std.specs.Option.{option_eq, option_map_or}
use Rattle.std.proofs.lemmas.List.Folds.{list_all-append}
use Rattle.std.proofs.lemmas.Bool.{and_from, and_parts, eqb-true, eq-eqb}
use Rattle.lucid_base.specs.declared.bits.Bits.{Bits}
use Rattle.lucid_base.specs.declared.event.Out.{Out}
use Rattle.lucid_base.specs.declared.event.Target.{Target}
use Rattle.lucid_base.specs.declared.event.Target.TheVariants.{At}
use Rattle.lucid_core.specs.declared.defs.FunDef.{FunDef}
use Rattle.lucid_core.specs.Computations.{Computation, Frame, Fun, State, Ran, both}
use Rattle.lucid_core.specs.Fits.{carried, cells_fit, out_fits}
use Rattle.lucid_core.specs.Meaning.{call, generated}
use Rattle.lucid_core.specs.Parts.{CoreParts}
use Rattle.lucid_core.specs.Scope.{Scope}
use Rattle.lucid_core.specs.Texts.{holes_of}
use Rattle.lucid_core.specs.Typing.{Answer}
use Rattle.lucid_core.proofs.Pairwise.{Pairwise}
use Rattle.lucid_core.proofs.WidthLists.{widths, event_is_fit, numbers-as_many, params_are_few}

-- The value has the width that is answered; where no value is answered, any will do.
abbrev pub Has : Answer → Bits → Type 0
Has None v = Unit {0}
Has (Some w) v = v.width ≡ w

-- Nothing is known of an answer until it is given.
abbrev pub once : Bool → Answer → Answer
once true a = a
once false a = None

-- The out fits, and carries at most 8 numbers.
abbrev pub goes_out : CoreParts → Out → Bool
goes_out core out = out_fits core out && nat_le (length (carried out)) 8

-- The conditions on a state beyond widths: whether its outs fit, and whether its cells do.
pub record Asked : Type 0 where
  pub outs : Bool
  pub cells : Bool

-- Each local has its width, and so has the answer; where it is asked, all that was sent out fits and carries few numbers, and the cells fit.
pub record IsFine (k : Asked) (core : CoreParts) (ws : List ℕ) (a : Answer) (s : State) : Type 0 where
  pub locals : widths s.locals ≡ ws
  pub answer : Has a s.answer
  pub outs : k.outs ≡ true → list_all (goes_out core) s.outs ≡ true
  pub cells : k.cells ≡ true → cells_fit core s.cells ≡ true

-- The result of a run has P, and its final state is fine.
pub record Goes {A : Type 0} (k : Asked) (core : CoreParts) (ws : List ℕ) (a : Answer) (P : A → Type 0) (ran : Ran A) : Type 0 where
  pub gives : P ran.gives
  pub fine : IsFine k core ws a ran.after

-- Array `a` has cells of this width.
abbrev pub IsWide : CoreParts → ℕ → ℕ → Type 0
IsWide core a w = slice_get (map (λ d. d.width) core.arrays) a ≡ Some w

-- Each array parameter of these widths denotes an array of its width.
abbrev pub AreWide : CoreParts → List ℕ → List ℕ → Type 0
AreWide core params arrays = (i w : ℕ) → slice_get params i ≡ Some w → IsWide core (slice_index arrays i) w

-- A function that is given values of its parameters' widths gives a value of its answer's width, and its caller's state stays fine.
abbrev pub FunFits : Asked → CoreParts → FunDef → Fun → Type 0
FunFits k core f g = (arrays : List ℕ) (vs : List Bits) → widths vs ≡ take f.params f.locals → (k.cells ≡ true → AreWide core f.arrays arrays) →
    (ws : List ℕ) (a : Answer) (s : State) → IsFine k core ws a s → Goes k core ws a (Has f.answer) (g arrays vs s)

-- A body runs where its scope says.
pub record Stands (k : Asked) (core : CoreParts) (s : Scope) (p : Frame) : Type 0 where
  pub events : s.events ≡ map (λ e. e.params) core.events
  pub few : list_all (λ e. nat_le (length e.params) 8) core.events ≡ true
  pub funs : Pairwise (FunFits k core) s.funs p.funs
  pub arrays : s.arrays ≡ map (λ d. d.width) core.arrays
  pub params : k.cells ≡ true → AreWide core s.params p.arrays

-- Ways to have the width that is answered.
pub has : (a : Answer) (w : ℕ) (v : Bits) → a ≡ Some w → v.width ≡ w → Has a v
has a w v e h = subst (λ (b : Answer). Has b v) (sym e) h

pub has_once : (given : Bool) (a : Answer) (v : Bits) → Has a v → Has (once given a) v
has_once true a v h = h
has_once false a v h = tt

pub has_none : (a : Answer) (v : Bits) → a ≡ None → Has a v
has_none a v e = subst (λ (b : Answer). Has b v) (sym e) tt

-- A call of a declared function.
pub call_fits : (k : Asked) (core : CoreParts) (p : Frame) (fs : List FunDef) (gs : List Fun) → Pairwise (FunFits k core) fs gs → (i : ℕ) (f : FunDef) → slice_get fs i ≡ Some f →
    FunFits k core f (λ arrays vs. call i arrays vs (record p { funs = gs }))
call_fits k core p [] [] all i f h = absurd (cc)
call_fits k core p (d ∷ fs) (g ∷ gs) all zero f h = let e : d ≡ f = cc in subst (λ (x : FunDef). FunFits k core x g) e all.0
call_fits k core p (d ∷ fs) (g ∷ gs) all (suc i) f h = call_fits k core p fs gs all.1 i f h
call_fits k core p [] (g ∷ gs) all i f h = absurd all
call_fits k core p (d ∷ fs) [] all i f h = absurd all

module _ (k : Asked) (core : CoreParts) (ws : List ℕ) where
  -- Of an answer that is not given, nothing is asked.
  pub forget : (a : Answer) (s : State) → IsFine k core ws a s → IsFine k core ws None s
  forget a s fine = record { locals = fine.locals; answer = tt; outs = fine.outs; cells = fine.cells }

  -- After a part that never returns.
  pub still : (given : Bool) (a : Answer) (s : State) → IsFine k core ws (once given a) s → IsFine k core ws (once (given || false) a) s
  still true a s fine = fine
  still false a s fine = fine

  -- After one statement and the rest of its block.
  pub or_later : (given first later : Bool) (a : Answer) (s : State) → IsFine k core ws (once ((given || first) || later) a) s → IsFine k core ws (once (given || (first || later)) a) s
  or_later true first later a s fine = fine
  or_later false first later a s fine = fine

  -- After either branch of an if.
  pub on_the_first : (given first second : Bool) (a : Answer) (s : State) → IsFine k core ws (once (given || first) a) s → IsFine k core ws (once (given || (first && second)) a) s
  on_the_first true first second a s fine = fine
  on_the_first false true true a s fine = fine
  on_the_first false true false a s fine = forget a s fine
  on_the_first false false second a s fine = fine

  pub on_the_second : (given first second : Bool) (a : Answer) (s : State) → IsFine k core ws (once (given || second) a) s → IsFine k core ws (once (given || (first && second)) a) s
  on_the_second true first second a s fine = fine
  on_the_second false true second a s fine = fine
  on_the_second false false true a s fine = forget a s fine
  on_the_second false false false a s fine = fine

  -- An act after which the state is fine, for any result.
  abbrev pub StaysFine : {A : Type 0} → Frame → Computation A → Type 0
  StaysFine p act = (a : Answer) (s : State) → IsFine k core ws a s → IsFine k core ws a (act p s).after

  pub both_stay : {A B : Type 0} (p : Frame) (first : Bool) (f : Computation A) (g : Computation B) → StaysFine p f → StaysFine p g → StaysFine p (both first f g)
  both_stay p true f g one two a s fine = two a (f p s).after (one a s fine)
  both_stay p false f g one two a s fine = one a (g p s).after (two a s fine)

  -- Outs that fit may follow.
  pub sent_too : (a : Answer) (s : State) (outs : List Out) → IsFine k core ws a s → (k.outs ≡ true → list_all (goes_out core) outs ≡ true) → IsFine k core ws a (record s { outs = s.outs ++ outs })
  sent_too a s outs fine fit = record {
    locals = fine.locals;
    answer = fine.answer;
    outs = λ asked. list_all-append (goes_out core) s.outs outs ∙ and_from _ _ (fine.outs asked) (fit asked);
    cells = fine.cells;
  }

-- An event with values of the widths of its parameters fits, wherever it goes.
pub generated_fits : (k : Asked) (core : CoreParts) (s : Scope) (p : Frame) → Stands k core s p → (event : ℕ) (params : List ℕ) (vs : List Bits) (delay : ℕ) (to : Target) →
    slice_get s.events event ≡ Some params → widths vs ≡ params → goes_out core (generated event vs delay to) ≡ true
generated_fits k core s p stands event params vs delay to declared e =
    let is : slice_get (map (λ d. d.params) core.events) event ≡ Some params = ap (λ (es : List (List ℕ)). slice_get es event) (sym stands.events) ∙ declared in
    let few = params_are_few core.events event params is stands.few in
    and_from _ _ (event_is_fit core.events event params vs is e) (ap (λ n. nat_le n 8) (numbers-as_many vs params e) ∙ few)

-- So do those to all members of a group.
pub group_fits : (core : CoreParts) (event : ℕ) (vs : List Bits) (delay : ℕ) (members : List ℕ) → ((m : ℕ) → goes_out core (generated event vs delay (At m)) ≡ true) →
    list_all (goes_out core) (map (generated event vs delay) (map At members)) ≡ true
group_fits core event vs delay [] fit = refl
group_fits core event vs delay (m ∷ ms) fit = and_from _ _ (fit m) (group_fits core event vs delay ms fit)

-- A print has as many numbers as its text has `%d`, and few.
holes_filled : (text : Option (List ℕ)) (n m : ℕ) → n ≡ m → option_map_or (λ t. nat_eq n (holes_of t)) text false ≡ true →
    option_map_or (λ t. nat_eq (holes_of t) m) text false ≡ true
holes_filled None n m e h = h
holes_filled (Some t) n m e h = eq-eqb _ _ (sym (eqb-true n (holes_of t) h) ∙ e)

pub say_is_fit : (text : Option (List ℕ)) (n m : ℕ) → n ≡ m → (nat_le n 8 && option_map_or (λ t. nat_eq n (holes_of t)) text false) ≡ true →
    (option_map_or (λ t. nat_eq (holes_of t) m) text false && nat_le m 8) ≡ true
say_is_fit text n m e h =
    let rule = and_parts _ _ h in
    and_from _ _ (holes_filled text n m e rule.1) (ap (λ k. nat_le k 8) (sym e) ∙ rule.0)

-- Of two lists of which all pass a test.
pub both_pass : {A : Type 0} (test : A → Bool) (xs ys : List A) → list_all test (xs ++ ys) ≡ true → (list_all test xs ≡ true) × (list_all test ys ≡ true)
both_pass test xs ys h = and_parts _ _ (sym (list_all-append test xs ys) ∙ h)

pub both_pass_of : {A : Type 0} (test : A → Bool) (all xs ys : List A) → all ≡ xs ++ ys → list_all test all ≡ true → (list_all test xs ≡ true) × (list_all test ys ≡ true)
both_pass_of test all xs ys e h = both_pass test xs ys (subst (λ zs. list_all test zs ≡ true) e h)

-- The same for facts where they are asked.
pub parts_asked : {asked a b : Bool} → (asked ≡ true → (a && b) ≡ true) → (asked ≡ true → a ≡ true) × (asked ≡ true → b ≡ true)
parts_asked {a = a} {b = b} h = (λ is. (and_parts a b (h is)).0, λ is. (and_parts a b (h is)).1)

pub both_asked : {A : Type 0} {asked : Bool} (test : A → Bool) (xs ys : List A) → (asked ≡ true → list_all test (xs ++ ys) ≡ true) →
    (asked ≡ true → list_all test xs ≡ true) × (asked ≡ true → list_all test ys ≡ true)
both_asked test xs ys h = (λ is. (both_pass test xs ys (h is)).0, λ is. (both_pass test xs ys (h is)).1)

-- A body that returns a value always returns.
pub answer_given : (k : Asked) (core : CoreParts) (ws : List ℕ) (a : Answer) (value always : Bool) (s : State) → ((w : ℕ) → a ≡ Some w → value ≡ true) → (not value || always) ≡ true →
    IsFine k core ws (once (false || always) a) s → Has a s.answer
answer_given k core ws None value always s seen rule fine = tt
answer_given k core ws (Some w) true true s seen rule fine = fine.answer
answer_given k core ws (Some w) true false s seen rule fine = absurd (cc)
answer_given k core ws (Some w) false always s seen rule fine = let no : false ≡ true = seen w refl in absurd (cc)

-- A call of an array gives a value where it answers.
pub touched_has : (answers : Bool) (w : ℕ) (a : Answer) (v : Bits) → a ≡ (if answers then Some w else None) → v.width ≡ w → Has a v
touched_has true w a v e width = has a w v e width
touched_has false w a v e width = has_none a v e

-- The answer of returns, if all have a.
pub is_none : (a : Answer) → option_eq nat_eq a None ≡ true → a ≡ None
is_none None h = refl
is_none (Some w) h = absurd (cc)

pub is_this : (a : Answer) (w : ℕ) → option_eq nat_eq a (Some w) ≡ true → a ≡ Some w
is_this None w h = absurd (cc)
is_this (Some v) w h = ap (λ (u : ℕ). Some u) (eqb-true v w h)
