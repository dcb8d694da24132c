-- The expressions that break a rule have no core.
use Rattle.std.proofs.Common.{◌≡◌, inl, inr, ℕ, ◌<◌, ◌^◌, List, [], ◌∷◌, Option, None, Some, true, refl, sym, ap, subst, ◌∙◌, codes, arith}
use Rattle.lucid_base.specs.declared.array.ArrayName.{ArrayName}
use Rattle.lucid_base.specs.declared.bits.Bits.{Bits}
use Rattle.lucid_core.specs.declared.body.Expr.{Expr}
use Rattle.lucid_base.specs.Bits.{bits_of}
use Rattle.lucid_base.specs.declared.array.ArrayName.TheVariants.{Global}
use Rattle.lucid_base.specs.declared.memory_alu.MemAlu.{MemAlu}
use Rattle.lucid_core.specs.ExamplePrograms.{plus}
use Rattle.lucid_parse_tree.specs.declared.tree.A.TheOpen.{A-F, E-F}
use Rattle.lucid_parse_tree.specs.declared.tree.A.TheViews.{out-E, out-roll-E}
use Rattle.lucid_parse_tree.specs.declared.tree.Infix.TheVariants as sign
use Rattle.lucid_parse_tree.specs.declared.tree.Pre.TheVariants.{Not}
use Rattle.lucid_parse_tree.specs.declared.tree.A.TheVariants as a
use Rattle.lucid_parse_tree.specs.declared.tree.E.{E}
use Rattle.lucid_parse_tree.specs.declared.tree.E.TheVariants as e
use Rattle.lucid_types_spec.specs.declared.scope.Entry.{Entry}
use Rattle.lucid_types_spec.specs.declared.scope.Entry.TheVariants as entry
use Rattle.lucid_types_spec.specs.declared.scope.Param.{Param}
use Rattle.lucid_types_spec.specs.declared.scope.Param.TheVariants as param
use Rattle.lucid_types_spec.specs.declared.scope.ValueType.{ValueType}
use Rattle.lucid_types_spec.specs.declared.scope.ValueType.TheVariants.{Int}
use Rattle.lucid_types_spec.specs.declared.scope.ValueType.TheVariants as vt
use Rattle.lucid_parse_tree.specs.declared.tree.Infix.{Infix}
use Rattle.lucid_types_spec.specs.Leaves.{FreeWidth, OnlyNumbers}
use Rattle.lucid_types_spec.specs.Leaves as leaves
use Rattle.lucid_types_spec.specs.Names.{Names, seen}
use Rattle.lucid_types_spec.specs.Refused.{RefusedExpressions, i, n, sight, yes}
use Rattle.lucid_types_spec.specs.Typed.{Typed, Free, AllFree, Called, Given}
use Rattle.lucid_types_spec.specs.Typed as rule
use Rattle.std.specs.List.{AllByRecursion}
use Rattle.lucid_types_spec.specs.Operators.{arithmetic, comparison, logic}
use Rattle.lucid_types_spec.proofs.Opened.{AtInt, Has, HasFree, OpenInfix, Opened, at_call, at_form}

abbrev large : E
large = e.Number 4294967296

-- ---- parts

-- A name that gives a value stands for a constant or a local.
abbrev pub IsValue : Option Entry → Type 0
IsValue (Some (entry.Constant b)) = Unit {0}
IsValue (Some (entry.Local k t)) = Unit {0}
IsValue _ = ⊥

pub value_seen : {s : Names} {t : ValueType} {c : Expr} (m : List ℕ) → Typed s t (e.Name m) c → IsValue (seen m s)
value_seen {s} {t} m of = by (at_form (E-F.Name m) (e.rolls-Name m) of)
  where
    by : Opened s t (E-F.Name m) → IsValue (seen m s)
    by (inl h) = subst IsValue (sym h.1) tt
    by (inr h) = subst IsValue (sym h.1) tt

pub local_type : {s : Names} {t : ValueType} {c : Expr} (m : List ℕ) (k : ℕ) (u : ValueType) → seen m s ≡ Some (entry.Local k u) → Typed s t (e.Name m) c → t ≡ u
local_type {s} {t} m k u is of = by (at_form (E-F.Name m) (e.rolls-Name m) of)
  where
    by : Opened s t (E-F.Name m) → t ≡ u
    by (inl h) = let no : Some (entry.Local k u) ≡ Some (entry.Constant h.0) = sym is ∙ h.1 in absurd (cc)
    by (inr h) = let same : Some (entry.Local k u) ≡ Some (entry.Local h.0 t) = sym is ∙ h.1 in cc

constant_type : {s : Names} {t : ValueType} {c : Expr} (m : List ℕ) (b : Bits) → seen m s ≡ Some (entry.Constant b) → Typed s t (e.Name m) c → t ≡ Int b.width
constant_type {s} {t} m b is of = by (at_form (E-F.Name m) (e.rolls-Name m) of)
  where
    by : Opened s t (E-F.Name m) → t ≡ Int b.width
    by (inl h) =
        let whole : Some (entry.Constant b) ≡ Some (entry.Constant h.0) = sym is ∙ h.1 in
        let same : b ≡ h.0 = cc in
        h.2 ∙ ap (λ (d : Bits). Int d.width) (sym same)
    by (inr h) = let no : Some (entry.Constant b) ≡ Some (entry.Local h.0 t) = sym is ∙ h.1 in absurd (cc)

pub of_i : {t : ValueType} {c : Expr} → Typed sight t i c → t ≡ Int 32
of_i of = local_type (codes "i") 0 (Int 32) refl of

pub of_n : {t : ValueType} {c : Expr} → Typed sight t n c → t ≡ Int 8
of_n of = local_type (codes "n") 1 (Int 8) refl of

pub of_yes : {t : ValueType} {c : Expr} → Typed sight t yes c → t ≡ vt.Bool
of_yes of = local_type (codes "yes") 2 vt.Bool refl of

pub same_width : (w v : ℕ) → Int w ≡ Int v → w ≡ v
same_width w v is = cc

at_width : (w : ℕ) (P : ℕ → Type 0) → AtInt (Int w) P → P w
at_width w P h = subst P (sym (same_width w h.0 h.1)) h.2

no_int : (P : ℕ → Type 0) → AtInt vt.Bool P → ⊥
no_int P h = let no = h.1 in cc

-- A number that is too large for its width.
pub too_large : {s : Names} (w k : ℕ) {c : Expr} → (k < 2 ^ w → ⊥) → Typed s (Int w) (e.Number k) c → ⊥
too_large w k wrong of = wrong (at_width w (λ v. k < 2 ^ v) (at_form (E-F.Number k) (e.rolls-Number k) of))

pub int_32_is_no_8 : Int 32 ≡ Int 8 → ⊥
int_32_is_no_8 is = let no : 32 ≡ 8 = same_width 32 8 is in cc

pub int_8_is_no_32 : Int 8 ≡ Int 32 → ⊥
int_8_is_no_32 is = let no : 8 ≡ 32 = same_width 8 32 is in cc

pub bool_is_no_int : (w : ℕ) → Int w ≡ vt.Bool → ⊥
bool_is_no_int w is = cc

-- A free place of a bool.
pub no_free_bool : {w : ℕ} {c : Expr} → Free sight yes w c → ⊥
no_free_bool (rule.free x w c ok of) = bool_is_no_int w (of_yes of)

-- Of the three kinds of signs one is left.
arithmetic_only : {s : Names} {t : ValueType} {x y : E} (sign : Infix) → logic sign ≡ None → comparison sign ≡ None → OpenInfix s t sign x y → AtInt t (λ w. Has s (Int w) x × Has s (Int w) y)
arithmetic_only sign no_logic no_comparison (inl h) = h.2
arithmetic_only sign no_logic no_comparison (inr (inl h)) = let no = sym no_logic ∙ h.1 in absurd (cc)
arithmetic_only sign no_logic no_comparison (inr (inr h)) = let no = sym no_comparison ∙ h.1 in absurd (cc)

logic_only : {s : Names} {t : ValueType} {x y : E} (sign : Infix) → arithmetic sign ≡ None → comparison sign ≡ None → OpenInfix s t sign x y → Has s vt.Bool x × Has s vt.Bool y
logic_only sign no_arithmetic no_comparison (inl h) = let no = sym no_arithmetic ∙ h.1 in absurd (cc)
logic_only sign no_arithmetic no_comparison (inr (inl h)) = (h.3, h.4)
logic_only sign no_arithmetic no_comparison (inr (inr h)) = let no = sym no_comparison ∙ h.1 in absurd (cc)

comparison_only : {s : Names} {t : ValueType} {x y : E} (sign : Infix) → arithmetic sign ≡ None → logic sign ≡ None → OpenInfix s t sign x y →
    (w : ℕ) × FreeWidth (x ∷ y ∷ []) w × Has s (Int w) x × Has s (Int w) y
comparison_only sign no_arithmetic no_logic (inl h) = let no = sym no_arithmetic ∙ h.1 in absurd (cc)
comparison_only sign no_arithmetic no_logic (inr (inl h)) = let no = sym no_logic ∙ h.1 in absurd (cc)
comparison_only sign no_arithmetic no_logic (inr (inr h)) = h.3

-- Numbers alone have 32 bits.
numbers_32 : {xs : List E} {w : ℕ} → FreeWidth xs w → AllByRecursion OnlyNumbers xs → w ≡ 32
numbers_32 (leaves.of_leaves xs w ok none) all = absurd (none all)
numbers_32 (leaves.of_numbers xs all_again) all = refl

pub head_free : {s : Names} {x : E} {xs : List E} {cs : List Expr} → AllFree s (x ∷ xs) cs → HasFree s x
head_free (rule.more x xs w c cs of rest) = (w, c, of)

second_free : {s : Names} {x y : E} {ys : List E} {cs : List Expr} → AllFree s (x ∷ y ∷ ys) cs → HasFree s y
second_free (rule.more x xs w c cs of rest) = head_free rest

free_number : {s : Names} {w : ℕ} {c : Expr} (k : ℕ) → (k < 2 ^ 32 → ⊥) → Free s (e.Number k) w c → ⊥
free_number {s} k wrong (rule.free x w c ok of) = too_large 32 k wrong (subst (λ (v : ℕ). Typed s (Int v) (e.Number k) c) (numbers_32 ok (leaves.number k, tt)) of)

-- ---- calls

-- The bare name of an array of cells of this width.
abbrev pub IsArray : Names → ℕ → E → Type 0
IsArray s w x = (m : List ℕ) × (array : ArrayName) × (e.Name m ≡ x) × (seen m s ≡ Some (entry.Array array w))

abbrev pub OpenGiven : Names → List Param → List E → Type 0
OpenGiven s [] [] = Unit {0}
OpenGiven s (param.Value t ∷ ps) (x ∷ xs) = Has s t x × OpenGiven s ps xs
OpenGiven s (param.Array w ∷ ps) (x ∷ xs) = IsArray s w x × OpenGiven s ps xs
OpenGiven s _ _ = ⊥

pub open_given : {s : Names} {ps : List Param} {xs : List E} {arrays : List ArrayName} {cs : List Expr} → Given s ps xs arrays cs → OpenGiven s ps xs
open_given rule.nothing = tt
open_given (rule.value t ps x xs arrays c cs of all) = ((c, of), open_given all)
open_given (rule.array_name w ps m xs array arrays cs is all) = ((m, array, refl, is), open_given all)

open_called : {s : Names} {m : List ℕ} {xs : List E} {t : Option ValueType} {c : Expr} → Called s m xs t c →
    (k : ℕ) × (ps : List Param) × (seen m s ≡ Some (entry.Fun k ps t)) × OpenGiven s ps xs
open_called (rule.fun m k ps t xs arrays cs is all) = (k, ps, is, open_given all)

pub open_call : {s : Names} {t : ValueType} {c : Expr} (m : List ℕ) (xs : List E) → Typed s t (e.Call m xs) c →
    (k : ℕ) × (ps : List Param) × (seen m s ≡ Some (entry.Fun k ps (Some t))) × OpenGiven s ps xs
open_call m xs of = open_called (at_form (E-F.Call m xs) (e.rolls-Call m xs) of).1

-- What `count` is given: an array of 32 bits, and then an int.
count_given : {t : ValueType} {c : Expr} (xs : List E) → Typed sight t (e.Call (codes "count") xs) c → OpenGiven sight (param.Array 32 ∷ param.Value (Int 32) ∷ []) xs
count_given {t} xs of =
    let h = open_call (codes "count") xs of in
    let same : Some (entry.Fun 0 (param.Array 32 ∷ param.Value (Int 32) ∷ []) (Some (Int 32))) ≡ Some (entry.Fun h.0 h.1 (Some t)) = h.2 in
    let params : param.Array 32 ∷ param.Value (Int 32) ∷ [] ≡ h.1 = cc in
    subst (λ (ps : List Param). OpenGiven sight ps xs) (sym params) h.3

no_fun : {t : ValueType} {c : Expr} (m : List ℕ) (d : Entry) → seen m sight ≡ Some d → ((k : ℕ) (ps : List Param) → d ≡ entry.Fun k ps (Some t) → ⊥) → Typed sight t (e.Call m []) c → ⊥
no_fun {t} m d is wrong of =
    let h = open_call m [] of in
    let both : Some d ≡ Some (entry.Fun h.0 h.1 (Some t)) = sym is ∙ h.2 in
    let same : d ≡ entry.Fun h.0 h.1 (Some t) = cc in
    wrong h.0 h.1 same

-- What a name is opened to.
out_name : (m : List ℕ) → out-E (e.Name m) ≡ E-F.Name m
out_name m = ap out-E (sym (e.rolls-Name m)) ∙ out-roll-E _

same_name : (m k : List ℕ) → e.Name m ≡ e.Name k → m ≡ k
same_name m k is = let both : E-F.Name m ≡ E-F.Name k = sym (out_name m) ∙ ap out-E is ∙ out_name k in cc

no_paren : (m : List ℕ) (x : E) → e.Name m ≡ e.Paren x → ⊥
no_paren m x is = let both : E-F.Name m ≡ E-F.Paren x = sym (out_name m) ∙ ap out-E is ∙ ap out-E (sym (e.rolls-Paren x)) ∙ out-roll-E _ in cc

array_width : (k : List ℕ) (a : ArrayName) (v w : ℕ) → seen k sight ≡ Some (entry.Array a v) → IsArray sight w (e.Name k) → v ≡ w
array_width k a v w is h =
    let same : k ≡ h.0 = sym (same_name h.0 k h.2) in
    let both : Some (entry.Array a v) ≡ Some (entry.Array h.1 w) = sym is ∙ ap (λ (m : List ℕ). seen m sight) same ∙ h.3 in
    cc

pub refused_expressions : RefusedExpressions
refused_expressions = record {
  number_fits = λ c of. too_large 8 256 (λ below. omega (arith, below)) of;
  number_is_no_bool = λ c of. no_int _ (at_form (E-F.Number 1) (e.rolls-Number 1) of);
  truth_is_no_int = λ c of. bool_is_no_int 1 (at_form (E-F.Truth true) (e.rolls-Truth true) of);
  bool_is_no_int = λ c of. bool_is_no_int 1 (of_yes of);
  name_is_visible = λ t c of. value_seen (codes "x") of;
  array_is_no_value = λ t c of. value_seen (codes "a") of;
  group_is_no_value = λ t c of. value_seen (codes "both") of;
  local_has_its_width = λ c of. int_32_is_no_8 (of_n of);
  constant_has_its_width = λ c of. int_32_is_no_8 (constant_type (codes "limit") (bits_of 8 10) refl of);
  switch_has_32_bits = λ c of. int_8_is_no_32 (at_form E-F.Me e.rolls-Me of);
  time_has_32_bits = λ c of. int_8_is_no_32 (at_form E-F.Time e.rolls-Time of);
  sum_has_one_width = λ c of.
      let h = at_width 32 _ (arithmetic_only sign.Plus refl refl (at_form (E-F.Infix sign.Plus i n) (e.rolls-Infix sign.Plus i n) of)) in int_32_is_no_8 (of_n h.1.1);
  sum_is_no_bool = λ c of. no_int _ (arithmetic_only sign.Plus refl refl (at_form (E-F.Infix sign.Plus i i) (e.rolls-Infix sign.Plus i i) of));
  not_takes_a_bool = λ c of. let h = at_form (E-F.Prefix Not i) (e.rolls-Prefix Not i) of in bool_is_no_int 32 (sym (of_i h.1.1));
  and_takes_bools = λ c of.
      let h = logic_only sign.AndAnd refl refl (at_form (E-F.Infix sign.AndAnd yes i) (e.rolls-Infix sign.AndAnd yes i) of) in bool_is_no_int 32 (sym (of_i h.1.1));
  sides_have_one_width = λ c of.
      let h = comparison_only sign.Less refl refl (at_form (E-F.Infix sign.Less i n) (e.rolls-Infix sign.Less i n) of) in
      int_32_is_no_8 (sym (of_i h.2.1) ∙ of_n h.3.1);
  sides_are_no_bools = λ c of.
      let h = comparison_only sign.EqualEqual refl refl (at_form (E-F.Infix sign.EqualEqual yes yes) (e.rolls-Infix sign.EqualEqual yes yes) of) in
      bool_is_no_int h.0 (of_yes h.2.1);
  numbers_have_32_bits = λ c of.
      let h = comparison_only sign.EqualEqual refl refl (at_form (E-F.Infix sign.EqualEqual large (e.Number 0)) (e.rolls-Infix sign.EqualEqual large (e.Number 0)) of) in
      too_large 32 4294967296 (λ below. omega (arith, below))
      (subst (λ (w : ℕ). Typed sight (Int w) large h.2.0) (numbers_32 h.1 (leaves.number _, (leaves.number _, tt))) h.2.1);
  cast_of_an_int = λ c of. let h = at_form (E-F.Cast (Some 8) yes) (e.rolls-Cast (Some 8) yes) of in no_free_bool h.2.2;
  cast_to_a_width = λ c of. let h = at_form (E-F.Cast (Some 65) i) (e.rolls-Cast (Some 65) i) of in let no = h.0.1 in omega (arith, no);
  cast_of_32_bits = λ c of. let h = at_form (E-F.Cast (Some 64) large) (e.rolls-Cast (Some 64) large) of in free_number 4294967296 (λ below. omega (arith, below)) h.2.2;
  hash_of_a_width = λ c of. let h = at_form (E-F.Hash 0 (i ∷ [])) (e.rolls-Hash 0 (i ∷ [])) of in let no = h.0.0 in omega (arith, no);
  hash_of_ints = λ c of. let h = at_form (E-F.Hash 8 (e.Number 1 ∷ yes ∷ [])) (e.rolls-Hash 8 (e.Number 1 ∷ yes ∷ [])) of in no_free_bool (second_free h.2.1).2;
  void_gives_no_value = λ t c of. no_fun (codes "stop") (entry.Fun 1 [] None) refl (λ k ps is. cc) of;
  event_is_not_called = λ t c of. no_fun (codes "done") (entry.Event 1 []) refl (λ k ps is. cc) of;
  too_few_are_given = λ c of. (count_given (e.Name (codes "a") ∷ []) of).1;
  too_many_are_given = λ c of. (count_given (e.Name (codes "a") ∷ i ∷ i ∷ []) of).1.1;
  array_has_its_width = λ c of. let no : 8 ≡ 32 = array_width (codes "b") (Global 1) 8 32 refl (count_given (e.Name (codes "b") ∷ i ∷ []) of).0 in cc;
  array_is_a_bare_name = λ c of. let h = (count_given (e.Paren (e.Name (codes "a")) ∷ i ∷ []) of).0 in no_paren h.0 (e.Name (codes "a")) h.2;
  set_gives_no_value = λ t c of.
      let h = at_form (E-F.Array (a.Set (codes "a") i i)) (e.rolls-Array (a.Set (codes "a") i i)) of in
      let touch = at_call (A-F.Set (codes "a") i i) (a.rolls-Set (codes "a") i i) h.2.1 in
      let no : Some h.0 ≡ None = touch.3.0 in
      cc;
  get_of_an_array = λ t c of.
      let h = at_form (E-F.Array (a.Get (codes "limit") i)) (e.rolls-Array (a.Get (codes "limit") i)) of in
      let touch = at_call (A-F.Get (codes "limit") i) (a.rolls-Get (codes "limit") i) h.2.1 in
      let no : Some (entry.Constant (bits_of 8 10)) ≡ Some (entry.Array touch.0 touch.1) = touch.2 in
      cc;
  index_is_an_int = λ c of.
      let h = at_form (E-F.Array (a.Get (codes "a") yes)) (e.rolls-Array (a.Get (codes "a") yes)) of in
      let touch = at_call (A-F.Get (codes "a") yes) (a.rolls-Get (codes "a") yes) h.2.1 in
      no_free_bool touch.3.1.2;
  memop_has_the_cells_width = λ c of.
      let call = a.Getm (codes "b") i (codes "plus") n in
      let h = at_form (E-F.Array call) (e.rolls-Array call) of in
      let touch = at_call (A-F.Getm (codes "b") i (codes "plus") n) (a.rolls-Getm (codes "b") i (codes "plus") n) h.2.1 in
      let cells : Some (entry.Array (Global 1) 8) ≡ Some (entry.Array touch.0 touch.1) = touch.2 in
      let width : 8 ≡ touch.1 = cc in
      let memop : Some (entry.Memop plus) ≡ Some (entry.Memop touch.3.2.0) = touch.3.2.1 in
      let same : plus ≡ touch.3.2.0 = cc in
      let no : 32 ≡ 8 = ap (λ (m : MemAlu). m.width) same ∙ touch.3.2.2 ∙ sym width in
      cc;
}
