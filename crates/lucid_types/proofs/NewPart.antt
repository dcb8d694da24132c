-- The limit that a declaration passes, told from the newest part.
use Rattle.std.proofs.Common.{◌≡◌, ℕ, ◌-◌, Bool, List, [], ◌∷◌, ◌++◌, Option, None, Some, Result, Ok, Err, IfOk, length, length-append, append-nil, slice_get, refl, sym, ap, ◌∙◌, arith}
use Rattle.std.specs.Option.{option_and_then, option_to_list}
use Rattle.lucid_base.specs.declared.memory.Memory.{Memory as WantOfMemory}
use Rattle.lucid_core.specs.declared.defs.EventDef.{EventDef}
use Rattle.lucid_core.specs.declared.defs.FunDef.{FunDef}
use Rattle.lucid_core.specs.declared.defs.HandlerDef.{HandlerDef}
use Rattle.lucid_core.specs.OutCount.{funs_outs}
use Rattle.lucid_core.proofs.Grown.{get_last}
use Rattle.lucid_parse_tree.specs.declared.tree.DeclKind.{DeclKind}
use Rattle.lucid_parse_tree.specs.declared.tree.DeclKind.TheVariants as d
use Rattle.lucid_parse_tree.specs.declared.tree.P.{P}
use Rattle.lucid_parse_tree.specs.declared.tree.S.{S}
use Rattle.lucid_parse_tree.specs.declared.tree.Size.{Size}
use Rattle.lucid_parse_tree.specs.declared.tree.Tree.{Tree}
use Rattle.lucid_parse_tree.specs.declared.tree.Ty.{Ty}
use Rattle.lucid_types_spec.specs.declared.limit.What.{What}
use Rattle.lucid_types_spec.specs.Declaration.{Declared, Definitions, parts_of}
use Rattle.lucid_types_spec.specs.Declaration as rule
use Rattle.lucid_types_spec.specs.Found.{Computes}
use Rattle.lucid_types_spec.specs.Limits.{passed}
use Rattle.lucid_types_spec.specs.Makes.{IsTyped}
use Rattle.lucid_types_spec.specs.Types.{answer_width, cell_widths, value_widths}
use Rattle.lucid_types_laws.specs.Declaration.{declaration}
use Rattle.lucid_types_limits.specs.declared.limits.Limits.{Limits}
use Rattle.lucid_types_limits.specs.Laws.{NewAlone, OnlyTheNew}
use Rattle.lucid_types_limits.specs.NewPart.{Knows, array_passes, event_passes, fun_passes, handler_passes}
use Rattle.lucid_types.specs.Answers.{Judges, Passes}

newest : {A : Type 0} (xs : List A) (x : A) (o : Option A) → slice_get (xs ++ x ∷ []) (length (xs ++ x ∷ []) - 1) ≡ o → Some x ≡ o
newest xs x o h =
    let long = length-append xs (x ∷ []) in
    let last : length (xs ++ x ∷ []) - 1 ≡ length xs = omega (arith, long) in
    sym (get_last xs x) ∙ ap (slice_get (xs ++ x ∷ [])) (sym last) ∙ h

-- ---- what each declaration passes

array_is : (number line : ℕ) (m l : Definitions) (short : Bool) (w : ℕ) (n : List ℕ) (size : Size) → NewAlone (parts_of m) →
    Declared number line m (d.Global short w n size) l → (passed (d.Global short w n size) (parts_of l) ≡ array_passes (length l.arrays)) × (l.funs ≡ m.funs)
array_is number line m _ _ _ _ _ new (rule.global short w n size k ok sized least most) =
    let long = length-append m.arrays (record { name = n; width = w; size = k } ∷ []) in
    (new.array (d.Global short w n size) (record { name = n; width = w; size = k }) refl ∙ ap array_passes (sym long), refl)

event_is : (number line : ℕ) (m l : Definitions) (n : List ℕ) (ps : List P) (o : Option EventDef) → NewAlone (parts_of m) →
    Declared number line m (d.Event n ps) l → slice_get l.events (length l.events - 1) ≡ o → (passed (d.Event n ps) (parts_of l) ≡ option_and_then event_passes o) × (l.funs ≡ m.funs)
event_is number line m _ _ _ o new (rule.event n ps ws s of) last =
    let def : EventDef = record { name = n; params = ws; handler = None } in
    (new.event (d.Event n ps) def refl ∙ ap (option_and_then event_passes) (newest m.events def o last), refl)

handler_is : (number line : ℕ) (m l : Definitions) (n : List ℕ) (ps : List P) (body : List S) (o : Option HandlerDef) → NewAlone (parts_of m) →
    Declared number line m (d.Handle n ps body) l → slice_get l.handlers (length l.handlers - 1) ≡ o →
    (passed (d.Handle n ps body) (parts_of l) ≡ option_and_then (λ h. handler_passes (funs_outs [] m.funs) h body) o) × (l.funs ≡ m.funs)
handler_is number line m _ _ _ _ o new (rule.handle n ps body i ws e s b k seen there free of block) last =
    let def : HandlerDef = record { event = i; locals = k.locals; body = b.steps; decl = number; line = line } in (
      new.handler (d.Handle n ps body) def i e (Some (length m.handlers)) there
          ∙ ap (option_and_then (λ h. handler_passes (funs_outs [] m.funs) h body)) (newest m.handlers def o last),
      refl,
    )

fun_is : (number line : ℕ) (m l : Definitions) (a : Option Ty) (n : List ℕ) (ps : List P) (body : List S) (o : Option FunDef) → NewAlone (parts_of m) →
    Declared number line m (d.Fun a n ps body) l → slice_get l.funs (length l.funs - 1) ≡ o →
    (passed (d.Fun a n ps body) (parts_of l) ≡ option_and_then (λ f. fun_passes (funs_outs [] m.funs) f body) o) × (l.funs ≡ m.funs ++ option_to_list o)
fun_is number line m _ _ _ _ _ o new (rule.fun a n ps body t qs s b k answers of block) last =
    let def : FunDef = record {
      name = n;
      arrays = cell_widths qs;
      params = length (value_widths qs);
      locals = k.locals;
      answer = answer_width t;
      body = b.steps;
      decl = number;
      line = line;
    } in
    let same : Some def ≡ o = newest m.funs def o last in (
      new.fun (d.Fun a n ps body) def ∙ ap (option_and_then (λ f. fun_passes (funs_outs [] m.funs) f body)) same,
      ap (λ (x : Option FunDef). m.funs ++ option_to_list x) same,
    )

constant_is : (number line : ℕ) (t : Ty) (n : List ℕ) (v : ℕ) (m l : Definitions) → NewAlone (parts_of m) → Declared number line m (d.Const t n v) l →
    (passed (d.Const t n v) (parts_of l) ≡ None) × (l.funs ≡ m.funs)
constant_is number line _ _ _ m _ new (rule.constant t w n v means fits) = (new.nothing (d.Const t n v) refl, refl)

memop_is : (number line : ℕ) (m l : Definitions) (n : List ℕ) (first second : Ty × List ℕ) (body : List S) → NewAlone (parts_of m) →
    Declared number line m (d.Memop n first second body) l → (passed (d.Memop n first second body) (parts_of l) ≡ None) × (l.funs ≡ m.funs)
memop_is number line m _ _ _ _ _ new (rule.memop t u w n x y body steps alu means also of shaped) =
    (new.nothing (d.Memop n (t, x) (u, y) body) refl, refl)

group_is : (number line : ℕ) (m l : Definitions) (n : List ℕ) (members : List ℕ) → NewAlone (parts_of m) → Declared number line m (d.Group n members) l →
    (passed (d.Group n members) (parts_of l) ≡ None) × (l.funs ≡ m.funs)
group_is number line m _ _ _ new (rule.group n members ok) = (new.nothing (d.Group n members) refl, refl)

-- ---- the same of a declaration that is known to be of this form

module _ (alone : OnlyTheNew) (computes : Computes declaration) (x : DeclKind) (l : Definitions) (limits : Limits) where
  declared : (number line : ℕ) (m : Definitions) (y : DeclKind) → x ≡ y → declaration number line x m ≡ Some l → Declared number line m y l
  declared number line m y e made = computes.sound number line m l y (ap (λ z. declaration number line z m) (sym e) ∙ made)

  told : (m : Definitions) (y : DeclKind) (w v : Option What) → x ≡ y → v ≡ w → (passed y (parts_of l) ≡ w) × (l.funs ≡ m.funs) → Knows m.funs limits →
      Passes (Ok v) x l limits
  told m y w v e answers is knows =
      (answers ∙ sym is.0 ∙ ap (λ z. passed z (parts_of l)) (sym e), λ none. knows ∙ ap (funs_outs []) (sym is.1))

  pub array_judged : (short : Bool) (w : ℕ) (n : List ℕ) (size : Size) (v : Option What) → x ≡ d.Global short w n size →
      v ≡ array_passes (length l.arrays) →
      Judges (Ok v) x l limits limits
  array_judged short w n size v e is front number line m typed knows made =
      let y : DeclKind = d.Global short w n size in
      told m y (array_passes (length l.arrays)) v e is
      (array_is number line m l short w n size (alone front (parts_of m) typed) (declared number line m y e made)) knows

  pub event_judged : (n : List ℕ) (ps : List P) (o : Option EventDef) (v : Option What) → x ≡ d.Event n ps →
      slice_get l.events (length l.events - 1) ≡ o → v ≡ option_and_then event_passes o → Judges (Ok v) x l limits limits
  event_judged n ps o v e last is front number line m typed knows made =
      told m (d.Event n ps) (option_and_then event_passes o) v e is
      (event_is number line m l n ps o (alone front (parts_of m) typed) (declared number line m (d.Event n ps) e made) last) knows

  pub handler_judged : (n : List ℕ) (ps : List P) (body : List S) (o : Option HandlerDef) (v : Option What) → x ≡ d.Handle n ps body →
      slice_get l.handlers (length l.handlers - 1) ≡ o → v ≡ option_and_then (λ h. handler_passes limits.outs.items h body) o →
      Judges (Ok v) x l limits limits
  handler_judged n ps body o v e last is front number line m typed knows made =
      let y : DeclKind = d.Handle n ps body in
      told m y (option_and_then (λ h. handler_passes (funs_outs [] m.funs) h body) o) v e
      (is ∙ ap (λ (outs : List ℕ). option_and_then (λ h. handler_passes outs h body) o) knows)
      (handler_is number line m l n ps body o (alone front (parts_of m) typed) (declared number line m y e made) last) knows

  pub constant_judged : (t : Ty) (n : List ℕ) (v : ℕ) → x ≡ d.Const t n v → Judges (Ok None) x l limits limits
  constant_judged t n v e front number line m typed knows made =
      told m (d.Const t n v) None None e refl
      (constant_is number line t n v m l (alone front (parts_of m) typed) (declared number line m (d.Const t n v) e made)) knows

  pub memop_judged : (n : List ℕ) (first second : Ty × List ℕ) (body : List S) → x ≡ d.Memop n first second body → Judges (Ok None) x l limits limits
  memop_judged n first second body e front number line m typed knows made =
      let y : DeclKind = d.Memop n first second body in
      told m y None None e refl
      (memop_is number line m l n first second body (alone front (parts_of m) typed) (declared number line m y e made)) knows

  pub group_judged : (n : List ℕ) (members : List ℕ) → x ≡ d.Group n members → Judges (Ok None) x l limits limits
  group_judged n members e front number line m typed knows made =
      told m (d.Group n members) None None e refl
      (group_is number line m l n members (alone front (parts_of m) typed) (declared number line m (d.Group n members) e made)) knows

  fun_facts : (a : Option Ty) (n : List ℕ) (ps : List P) (body : List S) (o : Option FunDef) → x ≡ d.Fun a n ps body →
      slice_get l.funs (length l.funs - 1) ≡ o →
      (front : Tree) (number line : ℕ) (m : Definitions) → IsTyped front (parts_of m) → Knows m.funs limits → declaration number line x m ≡ Some l →
      (option_and_then (λ f. fun_passes limits.outs.items f body) o ≡ passed x (parts_of l)) × (l.funs ≡ m.funs ++ option_to_list o)
  fun_facts a n ps body o e last front number line m typed knows made =
      let y : DeclKind = d.Fun a n ps body in
      let both = fun_is number line m l a n ps body o (alone front (parts_of m) typed) (declared number line m y e made) last in
      (ap (λ (outs : List ℕ). option_and_then (λ f. fun_passes outs f body) o) knows ∙ sym both.0 ∙ ap (λ z. passed z (parts_of l)) (sym e), both.1)

  pub fun_judged : (a : Option Ty) (n : List ℕ) (ps : List P) (body : List S) (f : FunDef) (r : Result (Option What) WantOfMemory)
      (new : Limits) → x ≡ d.Fun a n ps body → slice_get l.funs (length l.funs - 1) ≡ Some f →
      IfOk r (λ w. w ≡ fun_passes limits.outs.items f body) →
      IfOk r (λ w. w ≡ None → (funs : List FunDef) → Knows funs limits → Knows (funs ++ f ∷ []) new) → Judges r x l limits new
  fun_judged a n ps body f (Ok w) new e last is known front number line m typed knows made =
      let both = fun_facts a n ps body (Some f) e last front number line m typed knows made in
      (is ∙ both.0, λ none. known none m.funs knows ∙ ap (funs_outs []) (sym both.1))
  fun_judged a n ps body f (Err w) new e last is known front number line m typed knows made = tt

  -- There is a newest one.
  pub no_fun_judged : (a : Option Ty) (n : List ℕ) (ps : List P) (body : List S) → x ≡ d.Fun a n ps body →
      slice_get l.funs (length l.funs - 1) ≡ None → Judges (Ok None) x l limits limits
  no_fun_judged a n ps body e last front number line m typed knows made =
      let both = fun_facts a n ps body None e last front number line m typed knows made in
      (both.0, λ none. knows ∙ ap (funs_outs []) (sym (both.1 ∙ append-nil m.funs)))
