-- A program that is derived is a valid core.
use Rattle.std.proofs.Common.{◌≡◌, ℕ, ◌+◌, ◌≤◌, ◌<◌, List, [], ◌∷◌, ◌++◌, Option, None, Some, Bool, true, false, is_some, length, map, take, drop, nat_eq, nat_le, refl, sym, ap, subst, ◌∙◌, slice_get, append_assoc, append-nil, arith}
use Rattle.std.specs.List.{list_all, starts_with}
use Rattle.std.specs.Option.{option_map, option_map_or}
use Rattle.std.proofs.lemmas.Option.{slice_get-map}
use Rattle.std.proofs.lemmas.Bool.{and_from, and_parts, le-leb}
use Rattle.std.proofs.lemmas.List.Folds.{list_all-map}
use Rattle.lucid_base.specs.Memop.{memop_fits}
use Rattle.lucid_base.specs.declared.array.ArrayDef.{ArrayDef}
use Rattle.lucid_core.specs.declared.body.Stmt.{Stmt}
use Rattle.lucid_core.specs.declared.defs.EventDef.{EventDef}
use Rattle.lucid_core.specs.declared.defs.FunDef.{FunDef}
use Rattle.lucid_core.specs.declared.defs.HandlerDef.{HandlerDef}
use Rattle.lucid_core.specs.declared.defs.MemopDef.{MemopDef}
use Rattle.lucid_core.specs.Events.{event_params}
use Rattle.lucid_core.specs.Limits.{is_between}
use Rattle.lucid_base.specs.Numbers.{is_in}
use Rattle.lucid_core.specs.Numbers.{are_in, places}
use Rattle.lucid_core.specs.OutCount.{outs_are_few}
use Rattle.lucid_core.specs.Parts.{CoreParts}
use Rattle.lucid_core.specs.Uses.{body_uses}
use Rattle.lucid_core.specs.Valid.{IsValid}
use Rattle.lucid_core.proofs.Grown.{get_last}
use Rattle.lucid_core.specs.declared.ending.Ending.{Ending}
use Rattle.lucid_core_laws.specs.AssigningNodes.{Assigns}
use Rattle.lucid_core.specs.Endings.{on_every_path}
use Rattle.lucid_core.specs.Few.{arguments_are_few}
use Rattle.lucid_core_laws.specs.Programs.{IsBuilt, KeepFuns, KeepHandlers, KeepsFun, KeepsHandler}
use Rattle.lucid_core_laws.proofs.Built.{core_is_valid}
use Rattle.lucid_parse_tree.specs.declared.tree.Decl.{Decl}
use Rattle.lucid_parse_tree.specs.declared.tree.DeclKind.{DeclKind}
use Rattle.lucid_parse_tree.specs.declared.tree.P.{P}
use Rattle.lucid_parse_tree.specs.declared.tree.S.{S}
use Rattle.lucid_parse_tree.specs.declared.tree.Ty.{Ty}
use Rattle.lucid_types_spec.specs.declared.body.Body.{Body}
use Rattle.lucid_types_spec.specs.declared.limit.What.{What}
use Rattle.lucid_types_spec.specs.declared.scope.Entry.{Entry}
use Rattle.lucid_types_spec.specs.declared.scope.Entry.TheVariants as entry
use Rattle.lucid_types_spec.specs.declared.scope.Param.{Param}
use Rattle.lucid_types_spec.specs.declared.scope.ValueType.{ValueType}
use Rattle.lucid_types_spec.specs.Block.{Block, Numbered}
use Rattle.lucid_types_spec.specs.Declaration.{Declared, Definitions, parts_of, start}
use Rattle.lucid_types_spec.specs.Declaration as rule
use Rattle.lucid_types_spec.specs.Limits.{first_passed, limits, passed}
use Rattle.lucid_types_spec.specs.Makes.{Makes}
use Rattle.lucid_types_spec.specs.Makes as made
use Rattle.lucid_types_spec.specs.Names.{Names, called}
use Rattle.lucid_types_spec.specs.Types.{Answers, Parameters, answer_width, cell_widths, ints, value_widths}
use Rattle.lucid_types_spec.specs.Types as types
use Rattle.lucid_types_laws.specs.ValidLaws.{TypedIsValid}
use Rattle.lucid_types_laws.proofs.Assigns.{block_assigns}
use Rattle.lucid_types_laws.proofs.Blocks.{block, params_are}
use Rattle.lucid_types_laws.proofs.Counted.{Counted, fun_more, handler_more, none_more}
use Rattle.lucid_types_laws.proofs.Linked.{Handled, Handles, event_handled, event_handles, handler_handled, handler_handles}
use Rattle.lucid_types_laws.proofs.Lists.{Grows, all_end, begins, both_all, front_of, grows_end, grows_itself, grows_map, last_of_map, map-set, no_shorter, places_after}
use Rattle.lucid_types_laws.proofs.ValidMemops.{shaped_fits}
use Rattle.lucid_types_laws.proofs.Numbering.{block_grows}
use Rattle.lucid_types_laws.proofs.Suits.{Suits}
use Rattle.lucid_types_laws.proofs.Tops.{Few, Tops, TopHolds, TopsGrow, TopSuits, parameters_suit, place, same_tops, top_more, top_stays, top_suits}

-- ---- lists of bodies

funs_end : (q : CoreParts) (before fs : List FunDef) (f : FunDef) → KeepFuns false q before fs → KeepsFun false q (before ++ fs) f → KeepFuns false q before (fs ++ f ∷ [])
funs_end q before [] f all keeps = (subst (λ (gs : List FunDef). KeepsFun false q gs f) (append-nil before) keeps, tt)
funs_end q before (g ∷ fs) f all keeps =
    (all.0, funs_end q (before ++ g ∷ []) fs f all.1 (subst (λ (gs : List FunDef). KeepsFun false q gs f) (sym (append_assoc before (g ∷ []) fs)) keeps))

handlers_end : (q : CoreParts) (hs : List HandlerDef) (h : HandlerDef) → KeepHandlers false q hs → KeepsHandler false q h → KeepHandlers false q (hs ++ h ∷ [])
handlers_end q [] h all keeps = (keeps, tt)
handlers_end q (g ∷ hs) h all keeps = (all.0, handlers_end q hs h all.1 keeps)

-- ---- what is made grows

abbrev tops : CoreParts → Tops
tops q = record { arrays = map (λ (a : ArrayDef). a.width) q.arrays; events = map (λ (e : EventDef). e.params) q.events; funs = q.funs }

record Steps (m l : Definitions) : Type 0 where
  grow : TopsGrow (tops (parts_of m)) (tops (parts_of l))
  forms : Grows m.forms l.forms

steps : {number line : ℕ} {m l : Definitions} {x : DeclKind} → Declared number line m x l → Steps m l
steps {m = m} (rule.constant t w n v ok fits) = record { grow = same_tops (tops (parts_of m)); forms = λ i x h. h }
steps {m = m} (rule.global short w n size k ok is low high) = record {
  grow = record { arrays = grows_map (λ (a : ArrayDef). a.width) m.arrays _ (grows_end m.arrays _); events = λ i x h. h; funs = λ i x h. h };
  forms = λ i x h. h;
}
steps {m = m} (rule.memop t u w n first second body ss alu ok same of shape) = record { grow = same_tops (tops (parts_of m)); forms = λ i x h. h }
steps {m = m} (rule.event n ps ws s params) = record {
  grow = record { arrays = λ i x h. h; events = grows_map (λ (e : EventDef). e.params) m.events _ (grows_end m.events _); funs = λ i x h. h };
  forms = λ i x h. h;
}
steps {m = m} (rule.handle n ps body i ws e s b k is there free params of) = record {
  grow = record {
    arrays = λ i x h. h;
    events = λ j x h. ap (λ (es : List (List ℕ)). slice_get es j) (map-set (λ (e : EventDef). e.params) m.events i e (record e { handler = Some (length m.handlers) }) there refl) ∙ h;
    funs = λ i x h. h;
  };
  forms = (block_grows of).forms;
}
steps {m = m} (rule.fun a n ps body t qs s b k answers params of) = record {
  grow = record { arrays = λ i x h. h; events = λ i x h. h; funs = grows_end m.funs _ };
  forms = (block_grows of).forms;
}
steps {m = m} (rule.group n members ok) = record { grow = same_tops (tops (parts_of m)); forms = λ i x h. h }

-- A program that has all that was made.
record Extends (m : Definitions) (q : CoreParts) : Type 0 where
  grow : TopsGrow (tops (parts_of m)) (tops q)
  forms : Grows m.forms q.forms
  few : Few (tops q)

extends_before : {m l : Definitions} (q : CoreParts) → Steps m l → Extends l q → Extends m q
extends_before q s e = record {
  grow = record {
    arrays = λ i x h. e.grow.arrays i x (s.grow.arrays i x h);
    events = λ i x h. e.grow.events i x (s.grow.events i x h);
    funs = λ i x h. e.grow.funs i x (s.grow.funs i x h);
  };
  forms = λ i x h. e.forms i x (s.forms i x h);
  few = e.few;
}

-- ---- one body

-- The names of a body, at its place in a program that has what its names at the top stand for.
body_suits : (m : Definitions) (t : Tops) (arrays locals : List ℕ) (forms : List (List ℕ)) (known : List ℕ) {ps : List P} {qs : List Param} {s : Names} →
    TopSuits (tops (parts_of m)) m.names → TopsGrow (tops (parts_of m)) t → (few : Few t) → Parameters 0 0 m.names ps qs s →
    Grows (value_widths qs) locals → known ≡ places (value_widths qs) → Grows (cell_widths qs) arrays → Suits (place t arrays locals forms known) s
body_suits m t arrays locals forms known names grow few params vs ks cs =
    parameters_suit params (place t arrays locals forms known)
    (top_suits t arrays locals forms known few m.names (λ n d is. top_stays (tops (parts_of m)) t grow d (names n d is))) vs ks cs

assigned_after : (params locals : List ℕ) (xs : List Stmt) (n : ℕ) → ((i : ℕ) → length params ≤ i → i < length locals → Assigns i (xs ++ [])) → length params ≡ n →
    are_in (body_uses xs).assigns (drop n (places locals)) ≡ true
assigned_after params locals xs n h is =
    places_after (λ (n : ℕ). is_in n (body_uses xs).assigns) locals 0 n (λ i low high. subst (λ (ys : List Stmt). Assigns i ys) (append-nil xs) (h i (omega (arith, low, is)) (omega (arith, high))))

always : {a : Option Ty} {t : Option ValueType} {r : Ending} → Answers a t r → is_some (answer_width t) ≡ true → on_every_path r ≡ true
always (types.void r) h = absurd (cc)
always (types.value t v of) h = refl

fun_keeps : (number line : ℕ) (m : Definitions) (n : List ℕ) (b : Body) (k : Numbered) {a : Option Ty} {t : Option ValueType} {ps : List P} {qs : List Param} {s : Names} {body : List S} →
    TopSuits (tops (parts_of m)) m.names → Answers a t b.ending → Parameters 0 0 m.names ps qs s → Block t s (record { locals = value_widths qs; forms = m.forms }) body b k →
    (q : CoreParts) → TopsGrow (tops (parts_of m)) (record (tops q) { funs = m.funs }) → Grows k.forms q.forms → Few (tops q) →
    KeepsFun false q m.funs (record { name = n; arrays = cell_widths qs; params = length (value_widths qs); locals = k.locals; answer = answer_width t; body = b.steps; decl = number; line = line })
fun_keeps number line m n b k {qs = qs} names answers params of q grow forms few =
    let vs = value_widths qs in
    let longer = (block_grows of).locals in
    let front : take (length vs) k.locals ≡ vs = front_of vs k.locals longer in
    let known = places (take (length vs) k.locals) in
    let top : Tops = record (tops q) { funs = m.funs } in
    record {
      ending = b.ending;
      body = block of (place top (cell_widths qs) k.locals q.forms known)
          (body_suits m top (cell_widths qs) k.locals q.forms known names grow few params longer (ap places front) (grows_itself (cell_widths qs)))
          (record { locals = grows_itself k.locals; forms = forms });
      ends = always answers;
      params = le-leb (length vs) (length k.locals) (no_shorter vs k.locals longer);
      assigns = assigned_after vs k.locals b.steps (length vs) (block_assigns of []) refl;
    }

params_by : (o : Option EventDef) (ws : List ℕ) → option_map (λ (e : EventDef). e.params) o ≡ Some ws → option_map_or (λ (e : EventDef). e.params) o [] ≡ ws
params_by None ws h = absurd (cc)
params_by (Some e) ws h = cc

event_params_are : (events : List EventDef) (i : ℕ) (ws : List ℕ) → slice_get (map (λ (e : EventDef). e.params) events) i ≡ Some ws → event_params events i ≡ ws
event_params_are events i ws h = params_by (slice_get events i) ws (sym (slice_get-map (λ (e : EventDef). e.params) events i) ∙ h)

no_arrays : (ws : List ℕ) → cell_widths (ints ws) ≡ []
no_arrays [] = refl
no_arrays (w ∷ ws) = no_arrays ws

handler_keeps : (number line : ℕ) (m : Definitions) (i : ℕ) (ws : List ℕ) (b : Body) (k : Numbered) {ps : List P} {s : Names} {body : List S} →
    TopSuits (tops (parts_of m)) m.names → Parameters 0 0 m.names ps (ints ws) s → Block None s (record { locals = ws; forms = m.forms }) body b k →
    (q : CoreParts) → TopsGrow (tops (parts_of m)) (tops q) → Grows k.forms q.forms → Few (tops q) → slice_get (tops q).events i ≡ Some ws →
    KeepsHandler false q (record { event = i; locals = k.locals; body = b.steps; decl = number; line = line })
handler_keeps number line m i ws b k names params of q grow forms few there =
    let longer = (block_grows of).locals in
    let are = event_params_are q.events i ws there in
    let known = places (event_params q.events i) in
    record {
      ending = b.ending;
      body = block of (place (tops q) [] k.locals q.forms known)
          (body_suits m (tops q) [] k.locals q.forms known names grow few params
          (subst (λ (us : List ℕ). Grows us k.locals) (sym (params_are ws)) longer) (ap places (are ∙ sym (params_are ws)))
          (subst (λ (cs : List ℕ). Grows cs []) (sym (no_arrays ws)) (grows_itself [])))
          (record { locals = grows_itself k.locals; forms = forms });
      begins = subst (λ (us : List ℕ). starts_with nat_eq k.locals us ≡ true) (sym are) (begins ws k.locals longer);
      assigns = assigned_after ws k.locals b.steps (length (event_params q.events i)) (block_assigns of []) (ap length (sym are));
    }

-- ---- what holds all along

record Stands (number : ℕ) (m : Definitions) : Type 0 where
  names : TopSuits (tops (parts_of m)) m.names
  funs : (q : CoreParts) → Extends m q → KeepFuns false q [] m.funs
  handlers : (q : CoreParts) → Extends m q → KeepHandlers false q m.handlers
  handled : Handled m.events m.handlers
  handles : Handles m.events m.handlers
  memops : list_all (λ d. memop_fits d.alu) m.memops ≡ true
  sizes : list_all (λ a. is_between 1 65536 a.size) m.arrays ≡ true
  counted : Counted number m.funs m.handlers

begun : Stands 1 start
begun = record {
  names = λ n d h. absurd (cc);
  funs = λ q e. tt;
  handlers = λ q e. tt;
  handled = λ i e k h is. absurd (cc);
  handles = λ k h is. absurd (cc);
  memops = refl;
  sizes = refl;
  counted = record { first = omega arith; funs_rise = refl; handlers_rise = refl; funs_before = refl; handlers_before = refl; apart = refl };
}

module _ {number : ℕ} {m l : Definitions} (s : Steps m l) (inv : Stands number m) where
  -- What was made before keeps the rules in every program that has what is made now.
  old_funs : (q : CoreParts) → Extends l q → KeepFuns false q [] m.funs
  old_funs q ext = inv.funs q (extends_before q s ext)

  old_handlers : (q : CoreParts) → Extends l q → KeepHandlers false q m.handlers
  old_handlers q ext = inv.handlers q (extends_before q s ext)

  old_names : TopSuits (tops (parts_of l)) m.names
  old_names n d is = top_stays (tops (parts_of m)) (tops (parts_of l)) s.grow d (inv.names n d is)

  one_name : (n : List ℕ) (d : Entry) → TopHolds (tops (parts_of l)) d → TopSuits (tops (parts_of l)) (called n d ∷ m.names)
  one_name n d h = top_more (tops (parts_of m)) (tops (parts_of l)) m.names n d s.grow inv.names h

one_more : {number line : ℕ} {m l : Definitions} {x : DeclKind} → Declared number line m x l → Steps m l → Stands number m → Stands (number + 1) l
one_more {number} {m = m} (rule.constant t w n v ok fits) s inv = record {
  names = one_name s inv n _ tt;
  funs = old_funs s inv;
  handlers = old_handlers s inv;
  handled = inv.handled;
  handles = inv.handles;
  memops = inv.memops;
  sizes = inv.sizes;
  counted = none_more number m.funs m.handlers inv.counted;
}
one_more {number} {m = m} (rule.global short w n size k ok is low high) s inv =
    let a : ArrayDef = record { name = n; width = w; size = k } in
    record {
      names = one_name s inv n _ (last_of_map (λ (d : ArrayDef). d.width) m.arrays a);
      funs = old_funs s inv;
      handlers = old_handlers s inv;
      handled = inv.handled;
      handles = inv.handles;
      memops = inv.memops;
      sizes = all_end (λ (d : ArrayDef). is_between 1 65536 d.size) m.arrays a inv.sizes (and_from _ _ (le-leb 1 k low) (le-leb k 65536 high));
      counted = none_more number m.funs m.handlers inv.counted;
    }
one_more {number} {m = m} (rule.memop t u w n first second body ss alu ok same of shape) s inv = record {
  names = one_name s inv n _ (shaped_fits shape);
  funs = old_funs s inv;
  handlers = old_handlers s inv;
  handled = inv.handled;
  handles = inv.handles;
  memops = all_end (λ (d : MemopDef). memop_fits d.alu) m.memops (record { name = n; alu = alu }) inv.memops (shaped_fits shape);
  sizes = inv.sizes;
  counted = none_more number m.funs m.handlers inv.counted;
}
one_more {number} {m = m} (rule.event n ps ws k params) s inv =
    let e : EventDef = record { name = n; params = ws; handler = None } in
    record {
      names = one_name s inv n _ (last_of_map (λ (d : EventDef). d.params) m.events e);
      funs = old_funs s inv;
      handlers = old_handlers s inv;
      handled = event_handled m.events m.handlers e refl inv.handled;
      handles = event_handles m.events m.handlers e refl inv.handles;
      memops = inv.memops;
      sizes = inv.sizes;
      counted = none_more number m.funs m.handlers inv.counted;
    }
one_more {number} {line} {m = m} (rule.handle n ps body i ws e k b z is there free params of) s inv =
    let g : HandlerDef = record { event = i; locals = z.locals; body = b.steps; decl = number; line = line } in
    record {
      names = old_names s inv;
      funs = old_funs s inv;
      handlers = λ q ext.
          let before = extends_before q s ext in
          handlers_end q m.handlers g (inv.handlers q before)
          (handler_keeps number line m i ws b z inv.names params of q before.grow ext.forms ext.few (before.grow.events i ws (inv.names n (entry.Event i ws) is)));
      handled = handler_handled m.events m.handlers i e g refl inv.handled;
      handles = handler_handles m.events m.handlers i e g refl there free inv.handles;
      memops = inv.memops;
      sizes = inv.sizes;
      counted = handler_more number m.funs m.handlers g refl inv.counted;
    }
one_more {number} {line} {m = m} (rule.fun a n ps body t qs k b z answers params of) s inv =
    let vs = value_widths qs in
    let f : FunDef = record { name = n; arrays = cell_widths qs; params = length vs; locals = z.locals; answer = answer_width t; body = b.steps; decl = number; line = line } in
    record {
      names = one_name s inv n _ (record { def = f; there = get_last m.funs f; arrays = refl; values = front_of vs z.locals (block_grows of).locals; answer = refl });
      funs = λ q ext.
          let before = extends_before q s ext in
          funs_end q [] m.funs f (inv.funs q before)
          (fun_keeps number line m n b z inv.names answers params of q (record { arrays = before.grow.arrays; events = before.grow.events; funs = grows_itself m.funs }) ext.forms ext.few);
      handlers = old_handlers s inv;
      handled = inv.handled;
      handles = inv.handles;
      memops = inv.memops;
      sizes = inv.sizes;
      counted = fun_more number m.funs m.handlers f refl inv.counted;
    }
one_more {number} {m = m} (rule.group n members ok) s inv = record {
  names = one_name s inv n _ ok;
  funs = old_funs s inv;
  handlers = old_handlers s inv;
  handled = inv.handled;
  handles = inv.handles;
  memops = inv.memops;
  sizes = inv.sizes;
  counted = none_more number m.funs m.handlers inv.counted;
}

-- ---- limits

record Within (q : CoreParts) : Type 0 where
  arrays : nat_le (length q.arrays) 64 ≡ true
  array_params : list_all (λ (f : FunDef). nat_le (length f.arrays) 8) q.funs ≡ true
  event_params : list_all (λ (e : EventDef). nat_le (length e.params) 8) q.events ≡ true
  fun_params : list_all (λ (f : FunDef). nat_le f.params 8) q.funs ≡ true
  funs : list_all (λ (f : FunDef). arguments_are_few f.body) q.funs ≡ true
  handlers : list_all (λ (h : HandlerDef). arguments_are_few h.body) q.handlers ≡ true
  outs : outs_are_few q ≡ true

all_kept : (ls : List (What × Bool)) → first_passed ls ≡ None → list_all (λ (l : What × Bool). l.1) ls ≡ true
all_kept [] none = refl
all_kept ((w, true) ∷ ls) none = all_kept ls none
all_kept ((w, false) ∷ ls) none = absurd (cc)

within : (x : DeclKind) (q : CoreParts) → passed x q ≡ None → Within q
within x q none =
    let a = and_parts _ _ (all_kept (limits x q) none) in
    let b = and_parts _ _ a.1 in
    let c = and_parts _ _ b.1 in
    let d = and_parts _ _ c.1 in
    let e = and_parts _ _ d.1 in
    let values = and_parts _ _ c.0 in
    let few = and_parts _ _ d.0 in
    record { arrays = a.0; array_params = b.0; event_params = values.0; fun_params = values.1; funs = few.0; handlers = few.1; outs = e.0 }

-- ---- the law

stands : {number : ℕ} {m k : Definitions} {xs : List Decl} → Makes number m xs k → Stands number m → Within (parts_of m) → (n : ℕ) × Stands n k × Within (parts_of k)
stands (made.done number m) inv limits = (number, inv, limits)
stands (made.one_more number m l k x xs of kept rest) inv limits = stands rest (one_more of (steps of) inv) (within x.kind (parts_of l) kept)

built : (number : ℕ) (m : Definitions) → Stands number m → Within (parts_of m) → IsBuilt false (parts_of m)
built number m inv limits =
    let q = parts_of m in
    let ext : Extends m q = record {
      grow = same_tops (tops q);
      forms = λ i x h. h;
      few = list_all-map (λ (ws : List ℕ). nat_le (length ws) 8) (λ (e : EventDef). e.params) m.events ∙ limits.event_params;
    } in
    record {
      funs = inv.funs q ext;
      handlers = inv.handlers q ext;
      handled = inv.handled;
      handles = inv.handles;
      few_in_funs = limits.funs;
      few_in_handlers = limits.handlers;
      declarations = and_from _ _ (and_from _ _ (and_from _ _ (and_from _ _ limits.arrays inv.sizes) inv.memops) limits.event_params)
          (both_all (λ (f : FunDef). nat_le (length f.arrays) 8) (λ (f : FunDef). nat_le f.params 8) m.funs limits.array_params limits.fun_params);
      numbered = and_from _ _ (and_from _ _ inv.counted.funs_rise inv.counted.handlers_rise) inv.counted.apart;
      outs = limits.outs;
    }

pub typed_is_valid : TypedIsValid
typed_is_valid tree core typed =
    let m = typed.0 in
    let s = stands typed.1 begun (record { arrays = refl; array_params = refl; event_params = refl; fun_params = refl; funs = refl; handlers = refl; outs = refl }) in
    subst IsValid typed.2 (core_is_valid (parts_of m) (built s.0 m s.1 s.2))
