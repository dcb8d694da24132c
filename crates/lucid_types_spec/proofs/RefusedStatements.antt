-- The statements that break a rule have no core.
use Rattle.std.proofs.Common.{◌≡◌, ◌⊎◌, inl, inr, ℕ, ◌<◌, ◌^◌, List, [], ◌∷◌, Option, None, Some, true, false, length, refl, sym, ap, subst, ◌∙◌, codes, arith}
use Rattle.lucid_base.specs.Bits.{bits_of}
use Rattle.lucid_core.specs.declared.body.Expr.{Expr}
use Rattle.lucid_core.specs.declared.ending.Ending.{Ending}
use Rattle.lucid_core.specs.declared.ending.Ending.TheVariants.{Never, Always}
use Rattle.lucid_parse_tree.specs.declared.tree.C.{C, roll-C}
use Rattle.lucid_parse_tree.specs.declared.tree.No.TheViews.{out-C, out-roll-C}
use Rattle.lucid_parse_tree.specs.declared.tree.E.{E}
use Rattle.lucid_parse_tree.specs.declared.tree.E.TheVariants as e
use Rattle.lucid_parse_tree.specs.declared.tree.No.TheOpen.{S-F, C-F}
use Rattle.lucid_parse_tree.specs.declared.tree.No.{No}
use Rattle.lucid_parse_tree.specs.declared.tree.No.TheVariants as no
use Rattle.lucid_parse_tree.specs.declared.tree.S.{S}
use Rattle.lucid_parse_tree.specs.declared.tree.S.TheVariants as s
use Rattle.lucid_parse_tree.specs.declared.tree.Ty.TheVariants as ty
use Rattle.lucid_parse_tree.specs.declared.tree.V.{V}
use Rattle.lucid_parse_tree.specs.declared.tree.V.TheOpen.{V-F}
use Rattle.lucid_parse_tree.specs.declared.tree.V.TheVariants as v
use Rattle.lucid_types_spec.specs.declared.body.Body.{Body}
use Rattle.lucid_types_spec.specs.declared.body.Sending.{Sending}
use Rattle.lucid_types_spec.specs.declared.scope.Entry.TheVariants as entry
use Rattle.lucid_types_spec.specs.declared.scope.ValueType.{ValueType}
use Rattle.lucid_types_spec.specs.declared.scope.ValueType.TheVariants.{Int}
use Rattle.lucid_types_spec.specs.declared.scope.ValueType.TheVariants as vt
use Rattle.lucid_types_spec.specs.Block.{Block, Cases, Numbered, if_of}
use Rattle.lucid_types_spec.specs.Block as rule
use Rattle.lucid_types_spec.specs.Examples.{int, int_of, name}
use Rattle.lucid_types_spec.specs.Refused.{RefusedStatements, done, generates, i, n, sight, yes}
use Rattle.lucid_types_spec.specs.Sends.{Sends}
use Rattle.lucid_types_spec.specs.Typed.{Typed, Free, AllFree, Given}
use Rattle.lucid_types_spec.specs.Typed as typed
use Rattle.lucid_types_spec.specs.Types.{IsWidth, Means, ints, stated}
use Rattle.lucid_types_spec.specs.Types as types
use Rattle.lucid_types_spec.proofs.OpenedStatement.{at_event, at_first}
use Rattle.lucid_types_spec.proofs.RefusedExpressions.{bool_is_no_int, int_32_is_no_8, int_8_is_no_32, no_free_bool, of_i, of_n, of_yes, open_given, value_seen, same_width}

-- ---- types

pub width_of_int : {w : Option ℕ} {t : ValueType} → Means (ty.Int w) t → IsWidth (stated w) × (t ≡ Int (stated w))
width_of_int (types.int w ok) = (ok, refl)

pub bool_only : {t : ValueType} → Means ty.Bool t → t ≡ vt.Bool
bool_only types.bool = refl

-- ---- generates

-- What the one statement of a block sends.
generated : {answer : Option ValueType} {m k : Numbered} {b : Body} (x : V) → Block answer sight m (generates x) b k → (g : Sending) × Sends sight x g
generated x of = (at_first (S-F.Generate x) (s.rolls-Generate x) of).1

-- ---- the free place of a match

width_of_n : {w : ℕ} {c : Expr} → Free sight n w c → w ≡ 8
width_of_n (typed.free x w c ok of) = same_width w 8 (of_n of)

case_fits : {answer : Option ValueType} {m k : Numbered} {j w v : ℕ} {ys : List S} {cases : List (ℕ × List S)} {last : Option (List S)} {b : Body} →
    Cases answer sight m j w ((v, ys) ∷ cases) last b k → v < 2 ^ w
case_fits (rule.next s m j w v ys b l cases last d k fits of rest) = fits

one_core : {x : E} {cs : List Expr} → AllFree sight (x ∷ []) cs → length cs ≡ 1
one_core (typed.more x xs w c cs of typed.none) = refl

-- What returns always is the last.
not_both : (r : Ending) (x : S) (xs : List S) → r ≡ Always → (r ≡ Never) ⊎ (x ∷ xs ≡ []) → ⊥
not_both r x xs always (inl never) = let wrong : Always ≡ Never = sym always ∙ never in cc
not_both r x xs always (inr last) = cc

condition : {answer : Option ValueType} {m k : Numbered} {b : Body} → Block answer sight m (if_of i [] no.Absent ∷ []) b k → ⊥
condition of =
    let h = at_first (S-F.«S::Cond» (roll-C (record { test = i; yes = []; no = no.Absent }))) (s.rolls-Cond _) of in
    let both = sym (out-roll-C (record { test = h.0; yes = h.1; no = h.2 })) ∙ ap out-C h.3 ∙ out-roll-C (record { test = i; yes = []; no = no.Absent }) in
    let same : h.0 ≡ i = ap (λ (z : C-F No S C). z.test) both in
    bool_is_no_int 32 (sym (of_i (subst (λ (x : E). Typed sight vt.Bool x h.4.0) same h.4.1)))

pub refused_statements : RefusedStatements
refused_statements = record {
  local_has_a_width = λ m b k of. let ok = (width_of_int (at_first (S-F.Declare (int_of 0) (codes "x") (e.Number 0)) (s.rolls-Declare _ _ _) of).1).0.0 in omega (arith, ok);
  local_is_of_its_type = λ m b k of.
      let h = at_first (S-F.Declare int (codes "x") yes) (s.rolls-Declare _ _ _) of in
      bool_is_no_int 32 (sym (width_of_int h.1).1 ∙ of_yes h.2.1);
  name_is_visible_after_it = λ m b k of. let h = at_first (S-F.Declare int (codes "x") (name (codes "x"))) (s.rolls-Declare _ _ _) of in value_seen (codes "x") h.2.1;
  constant_is_not_assigned = λ m b k of.
      let h = (at_first (S-F.Assign (codes "limit") (e.Number 1)) (s.rolls-Assign _ _) of).1 in
      let wrong : Some (entry.Constant (bits_of 8 10)) ≡ Some (entry.Local h.0 h.1) = h.2 in
      cc;
  assigned_is_of_its_type = λ m b k of.
      let h = (at_first (S-F.Assign (codes "n") i) (s.rolls-Assign _ _) of).1 in
      let is : Some (entry.Local 1 (Int 8)) ≡ Some (entry.Local h.0 h.1) = h.2 in
      let same : Int 8 ≡ h.1 = cc in
      int_8_is_no_32 (same ∙ of_i h.3.1);
  handler_returns_no_value = λ m b k of.
      let h = (at_first (S-F.Return (Some i)) (s.rolls-Return _) of).1.0 in
      let wrong : None ≡ Some h.0 = h.1 in
      cc;
  function_returns_a_value = λ m b k of.
      let wrong : Some (Int 32) ≡ None = (at_first (S-F.Return None) (s.rolls-Return _) of).1.0 in
      cc;
  value_is_of_the_answers_type = λ m b k of.
      let h = (at_first (S-F.Return (Some n)) (s.rolls-Return _) of).1.0 in
      let is : Some (Int 32) ≡ Some h.0 = h.1 in
      let same : Int 32 ≡ h.0 = cc in
      int_32_is_no_8 (same ∙ of_n h.2.1);
  return_is_the_last = λ m b k of. let h = at_first (S-F.Return None) (s.rolls-Return _) of in not_both h.0.ending _ _ h.1.1 h.2;
  condition_is_a_bool = λ m b k of. condition of;
  as_many_as_holes = λ m b k of.
      let h = (at_first (S-F.Printf (codes "%d %d") (i ∷ [])) (s.rolls-Printf _ _) of).1 in
      let wrong : 1 ≡ 2 = sym (one_core h.1) ∙ h.2 in
      cc;
  event_is_visible = λ m b k of.
      let h = at_event (V-F.Call (codes "a") []) (v.rolls-Call _ _) (generated (v.Call (codes "a") []) of).1 in
      let wrong : Some (entry.Array _ _) ≡ Some (entry.Event h.0 h.1) = h.3 in
      cc;
  event_is_given_its_params = λ m b k of.
      let h = at_event (V-F.Call (codes "out") []) (v.rolls-Call _ _) (generated (v.Call (codes "out") []) of).1 in
      let is : Some (entry.Event 0 (32 ∷ [])) ≡ Some (entry.Event h.0 h.1) = h.3 in
      let same : 32 ∷ [] ≡ h.1 = cc in
      open_given (subst (λ (ws : List ℕ). Given sight (ints ws) [] [] h.2) (sym same) h.4);
  one_delay = λ m b k of.
      let inner = v.Delay done (e.Number 1) in
      let h = at_event (V-F.Delay inner (e.Number 1)) (v.rolls-Delay _ _) (generated (v.Delay inner (e.Number 1)) of).1 in
      let again = at_event (V-F.Delay done (e.Number 1)) (v.rolls-Delay _ _) h.0.1 in
      again.1 h.0.2;
  one_locate = λ m b k of.
      let inner = v.Locate done (e.Number 1) in
      let h = at_event (V-F.Locate inner (e.Number 1)) (v.rolls-Locate _ _) (generated (v.Locate inner (e.Number 1)) of).1 in
      let again = at_event (V-F.Locate done (e.Number 1)) (v.rolls-Locate _ _) h.0.1 in
      again.1 h.0.2;
  group_is_the_one_locate = λ m b k of.
      let inner = v.Locate done (e.Number 1) in
      let h = at_event (V-F.Locate inner (name (codes "both"))) (v.rolls-Locate _ _) (generated (v.Locate inner (name (codes "both"))) of).1 in
      let again = at_event (V-F.Locate done (e.Number 1)) (v.rolls-Locate _ _) h.0.1 in
      again.1 h.0.2;
  test_is_an_int = λ m b k of. let h = (at_first (S-F.Match yes ((1, []) ∷ []) None) (s.rolls-Match _ _ _) of).1 in no_free_bool h.2;
  case_fits = λ m b k of.
      let h = (at_first (S-F.Match n ((256, []) ∷ []) None) (s.rolls-Match _ _ _) of).1 in
      let fits : 256 < 2 ^ 8 = subst (λ (w : ℕ). 256 < 2 ^ w) (width_of_n h.2) (case_fits h.4.3) in
      omega (arith, fits);
  cases_differ = λ m b k of. let wrong : false ≡ true = (at_first (S-F.Match n ((1, []) ∷ (1, []) ∷ []) None) (s.rolls-Match _ _ _) of).1.3 in cc;
  match_has_a_case = λ m b k of. (at_first (S-F.Match n [] None) (s.rolls-Match _ _ _) of).1.5 refl;
}
