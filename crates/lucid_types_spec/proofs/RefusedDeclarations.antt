-- The declarations that break a rule have none.
use Rattle.std.proofs.Common.{◌≡◌, ℕ, ◌<◌, ◌≤◌, ◌^◌, List, [], ◌∷◌, Option, None, Some, Bool, true, false, slice_get, refl, sym, ap, subst, ◌∙◌, codes, arith}
use Rattle.lucid_base.specs.declared.bits.Bits.{Bits}
use Rattle.lucid_core.specs.declared.body.Stmt.{Stmt}
use Rattle.lucid_core.specs.declared.defs.EventDef.{EventDef}
use Rattle.lucid_core.specs.Limits.{are_members}
use Rattle.lucid_core.specs.declared.ending.Ending.{Ending}
use Rattle.lucid_core.specs.declared.ending.Ending.TheVariants.{Never, Always}
use Rattle.lucid_parse_tree.specs.declared.tree.DeclKind.TheVariants as d
use Rattle.lucid_parse_tree.specs.declared.tree.E.TheVariants as e
use Rattle.lucid_parse_tree.specs.declared.tree.No.TheOpen.{S-F}
use Rattle.lucid_parse_tree.specs.declared.tree.P.{P}
use Rattle.lucid_parse_tree.specs.declared.tree.P.TheVariants as p
use Rattle.lucid_parse_tree.specs.declared.tree.S.{S}
use Rattle.lucid_parse_tree.specs.declared.tree.S.TheVariants as s
use Rattle.lucid_parse_tree.specs.declared.tree.Size.{Size}
use Rattle.lucid_parse_tree.specs.declared.tree.Size.TheVariants as size
use Rattle.lucid_parse_tree.specs.declared.tree.Ty.{Ty}
use Rattle.lucid_types_spec.specs.declared.body.Body.{Body}
use Rattle.lucid_types_spec.specs.declared.scope.Entry.TheVariants as entry
use Rattle.lucid_types_spec.specs.declared.scope.Param.{Param}
use Rattle.lucid_types_spec.specs.declared.scope.Param.TheVariants as param
use Rattle.lucid_types_spec.specs.declared.scope.ValueType.{ValueType}
use Rattle.lucid_types_spec.specs.declared.scope.ValueType.TheVariants.{Int}
use Rattle.lucid_types_spec.specs.Block.{Block, Numbered}
use Rattle.lucid_types_spec.specs.Block as block
use Rattle.lucid_types_spec.specs.Declaration.{Declared, Definitions, Sized}
use Rattle.lucid_types_spec.specs.Declaration as rule
use Rattle.lucid_types_spec.specs.Memop.{MemopBody, Returned, memop_names}
use Rattle.lucid_types_spec.specs.Memop as memop
use Rattle.lucid_types_spec.specs.Names.{Names, seen}
use Rattle.lucid_types_spec.specs.Refused.{RefusedDeclarations, before}
use Rattle.lucid_types_spec.specs.Types.{Answers, IsWidth, Means, Parameters, ints, stated}
use Rattle.lucid_types_spec.specs.Types as types
use Rattle.lucid_types_spec.proofs.OpenedStatement.{at_first}
use Rattle.lucid_types_spec.proofs.RefusedExpressions.{bool_is_no_int, int_32_is_no_8, int_8_is_no_32, open_call, same_width}
use Rattle.lucid_types_spec.proofs.RefusedStatements.{bool_only, width_of_int}

-- ---- what the rule of each kind asks

constant_is : {number line : ℕ} {m : Definitions} {t : Ty} {n : List ℕ} {v : ℕ} {l : Definitions} → Declared number line m (d.Const t n v) l → (w : ℕ) × Means t (Int w) × (v < 2 ^ w)
constant_is (rule.constant t w n v ok fits) = (w, ok, fits)

global_is : {number line : ℕ} {m : Definitions} {short : Bool} {w : ℕ} {n : List ℕ} {size : Size} {l : Definitions} → Declared number line m (d.Global short w n size) l →
    IsWidth w × ((k : ℕ) × Sized m.names size k × (1 ≤ k) × (k ≤ 65536))
global_is (rule.global short w n size k ok is low high) = (ok, (k, is, low, high))

memop_is : {number line : ℕ} {m : Definitions} {t u : Ty} {n first second : List ℕ} {body : List S} {l : Definitions} → Declared number line m (d.Memop n (t, first) (u, second) body) l →
    (w : ℕ) × Means t (Int w) × Means u (Int w) × ((steps : List Stmt) × MemopBody (memop_names w first second m.names) w body steps)
memop_is (rule.memop t u w n first second body steps alu one two of shape) = (w, one, two, (steps, of))

event_is : {number line : ℕ} {m : Definitions} {n : List ℕ} {ps : List P} {l : Definitions} → Declared number line m (d.Event n ps) l → (ws : List ℕ) × (s : Names) × Parameters 0 0 m.names ps (ints ws) s
event_is (rule.event n ps ws s of) = (ws, s, of)

handle_is : {number line : ℕ} {m : Definitions} {n : List ℕ} {ps : List P} {body : List S} {l : Definitions} → Declared number line m (d.Handle n ps body) l →
    (i : ℕ) × (ws : List ℕ) × (seen n m.names ≡ Some (entry.Event i ws)) × ((e : EventDef) × (slice_get m.events i ≡ Some e) × (e.handler ≡ None))
    × ((s : Names) × Parameters 0 0 m.names ps (ints ws) s)
handle_is (rule.handle n ps body i ws e s b k is there free params of) = (i, ws, is, (e, there, free), (s, params))

fun_is : {number line : ℕ} {m : Definitions} {a : Option Ty} {n : List ℕ} {ps : List P} {body : List S} {l : Definitions} → Declared number line m (d.Fun a n ps body) l →
    (t : Option ValueType) × (qs : List Param) × (s : Names) × (b : Body) × Answers a t b.ending × Parameters 0 0 m.names ps qs s
    × ((m : Numbered) × (k : Numbered) × Block t s m body b k)
fun_is (rule.fun a n ps body t qs s b k answers params of) = (t, qs, s, b, answers, params, (_, k, of))

group_is : {number line : ℕ} {m : Definitions} {n members : List ℕ} {l : Definitions} → Declared number line m (d.Group n members) l → are_members members ≡ true
group_is (rule.group n members ok) = ok

-- ---- their parts

number_size : {s : Names} {j k : ℕ} → Sized s (size.Number j) k → j ≡ k
number_size (rule.number k) = refl

named_size : {s : Names} {n : List ℕ} {k : ℕ} → Sized s (size.Named n) k → (b : Bits) × (seen n s ≡ Some (entry.Constant b))
named_size (rule.constant n b is) = (b, is)

no_body : {s : Names} {w : ℕ} {steps : List Stmt} → MemopBody s w [] steps → ⊥
no_body of = empty of refl
  where
    returned : {s : Names} {w : ℕ} {ys : List S} {steps : List Stmt} → Returned s w ys steps → ys ≡ [] → ⊥
    returned (memop.returned x c of) is = cc

    empty : {s : Names} {w : ℕ} {ys : List S} {steps : List Stmt} → MemopBody s w ys steps → ys ≡ [] → ⊥
    empty (memop.plain ys cs of) is = returned of is
    empty (memop.choice x ys zs c cs ds of one two) is = cc
    empty (memop.guard x ys zs c cs ds of one two) is = cc

first_value : {i j : ℕ} {s k : Names} {t : Ty} {n : List ℕ} {ps : List P} {qs : List Param} → Parameters i j s (p.Value t n ∷ ps) qs k →
    (v : ValueType) × (rest : List Param) × (qs ≡ param.Value v ∷ rest) × Means t v
first_value (types.value i j s k t v n ps qs ok rest) = (v, qs, refl, ok)

first_array : {i j : ℕ} {s k : Names} {short : Bool} {w : ℕ} {n : List ℕ} {ps : List P} {qs : List Param} → Parameters i j s (p.Array short w n ∷ ps) qs k →
    (rest : List Param) × (qs ≡ param.Array w ∷ rest)
first_array (types.array i j s k short w n ps qs ok rest) = (qs, refl)

int_first : (ws : List ℕ) (v : ValueType) (rest : List Param) → ints ws ≡ param.Value v ∷ rest → (w : ℕ) × (vs : List ℕ) × (ws ≡ w ∷ vs) × (v ≡ Int w)
int_first [] v rest is = absurd (cc)
int_first (w ∷ vs) v rest is = let same : Int w ≡ v = cc in (w, vs, refl, sym same)

no_array_first : (ws : List ℕ) (w : ℕ) (rest : List Param) → ints ws ≡ param.Array w ∷ rest → ⊥
no_array_first [] w rest is = cc
no_array_first (v ∷ vs) w rest is = cc

answer_is : {t : Ty} {v : Option ValueType} {r : Ending} → Answers (Some t) v r → ((u : ValueType) × (v ≡ Some u) × Means t u) × (r ≡ Always)
answer_is (types.value t v ok) = ((v, refl, ok), refl)

empty_never : {a : Option ValueType} {s : Names} {m k : Numbered} {b : Body} → Block a s m [] b k → b.ending ≡ Never
empty_never (block.end s m) = refl

never_always : Never ≡ Always → ⊥
never_always is = cc

no_params : {i j : ℕ} {s k : Names} {qs : List Param} → Parameters i j s [] qs k → s ≡ k
no_params (types.none i j s) = refl

abbrev done_event : EventDef
done_event = record { name = codes "done"; params = []; handler = Some 0 }

pub refused_declarations : RefusedDeclarations
refused_declarations = record {
  constant_fits = λ l of.
      let h = constant_is of in
      let fits : 256 < 2 ^ 8 = subst (λ (w : ℕ). 256 < 2 ^ w) (same_width h.0 8 (width_of_int h.1).1) h.2 in
      omega (arith, fits);
  constant_is_an_int = λ l of. let h = constant_is of in bool_is_no_int h.0 (bool_only h.1);
  width_is_at_least_1 = λ l of. let ok = (width_of_int (constant_is of).1).0.0 in omega (arith, ok);
  width_is_at_most_64 = λ l of. let ok = (width_of_int (constant_is of).1).0.1 in omega (arith, ok);
  cells_have_a_width = λ l of. let ok = (global_is of).0.1 in omega (arith, ok);
  array_has_a_cell = λ l of. let h = (global_is of).1 in let low : 1 ≤ 0 = subst (λ (k : ℕ). 1 ≤ k) (sym (number_size h.1)) h.2 in omega (arith, low);
  array_is_not_too_large = λ l of. let h = (global_is of).1 in let high : 65537 ≤ 65536 = subst (λ (k : ℕ). k ≤ 65536) (sym (number_size h.1)) h.3 in omega (arith, high);
  size_is_a_constant = λ l of.
      let h = named_size (global_is of).1.1 in
      let wrong : Some (entry.Event 0 (32 ∷ [])) ≡ Some (entry.Constant h.0) = h.1 in
      cc;
  memop_has_one_width = λ body l of.
      let h = memop_is of in
      int_8_is_no_32 (sym (width_of_int h.2).1 ∙ (width_of_int h.1).1);
  memop_is_of_ints = λ body l of. let h = memop_is of in bool_is_no_int h.0 (bool_only h.1);
  memop_returns = λ l of. no_body (memop_is of).3.1;
  event_is_of_ints = λ l of.
      let h = event_is of in
      let f = first_value h.2 in
      let g = int_first h.0 f.0 f.1 f.2 in
      bool_is_no_int g.0 (sym g.3 ∙ bool_only f.3);
  event_takes_no_arrays = λ l of. let h = event_is of in let f = first_array h.2 in no_array_first h.0 32 f.0 f.1;
  handler_is_of_an_event = λ body l of.
      let h = handle_is of in
      let wrong : Some (entry.Array _ _) ≡ Some (entry.Event h.0 h.1) = h.2 in
      cc;
  event_has_one_handler = λ body l of.
      let h = handle_is of in
      let is : Some (entry.Event 1 []) ≡ Some (entry.Event h.0 h.1) = h.2 in
      let same : 1 ≡ h.0 = cc in
      let there : Some done_event ≡ Some h.3.0 = ap (slice_get before.events) same ∙ h.3.1 in
      let event : done_event ≡ h.3.0 = cc in
      let wrong : Some 0 ≡ None = ap (λ (x : EventDef). x.handler) event ∙ h.3.2 in
      cc;
  handler_repeats_widths = λ body l of.
      let h = handle_is of in
      let is : Some (entry.Event 0 (32 ∷ [])) ≡ Some (entry.Event h.0 h.1) = h.2 in
      let widths : 32 ∷ [] ≡ h.1 = cc in
      let f = first_value h.4.1 in
      let g = int_first h.1 f.0 f.1 f.2 in
      let first : 32 ∷ [] ≡ g.0 ∷ g.1 = widths ∙ g.2 in
      let same : 32 ≡ g.0 = cc in
      int_32_is_no_8 (ap Int same ∙ sym g.3 ∙ (width_of_int f.3).1);
  function_always_returns = λ l of. let h = fun_is of in never_always (sym (empty_never h.6.2) ∙ (answer_is h.4).1);
  answer_is_a_type = λ body l of. let ok = (width_of_int (answer_is (fun_is of).4).0.2).0.0 in omega (arith, ok);
  function_is_not_visible_in_itself = λ l of.
      let h = fun_is of in
      let names = no_params h.5 in
      let first = at_first (S-F.Return (Some (e.Call (codes "x") []))) (s.rolls-Return _) h.6.2 in
      let call = open_call (codes "x") [] first.1.0.2.1 in
      let wrong : None ≡ Some (entry.Fun call.0 call.1 (Some first.1.0.0)) = ap (λ (s : Names). seen (codes "x") s) names ∙ call.2 in
      cc;
  group_has_a_member = λ l of. let wrong : false ≡ true = group_is of in cc;
  group_has_at_most_8 = λ l of. let wrong : false ≡ true = group_is of in cc;
  member_is_a_switch = λ l of. let wrong : false ≡ true = group_is of in cc;
  members_differ = λ l of. let wrong : false ≡ true = group_is of in cc;
}
