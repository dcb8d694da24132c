-- What is numbered in a body grows, and a place that has what is numbered in the end has it all along.
use Rattle.std.proofs.Common.{◌≡◌, ℕ, List, [], ◌∷◌, ◌++◌, Option, None, Some, if◌then◌else◌, bytes_eq, is_some, length, position, unwrap_or, get_or, refl, sym, slice_get}
use Rattle.std.specs.Cmp.Lexicographic.{same_text}
use Rattle.std.proofs.lemmas.List.Quantifiers.{position-Some}
use Rattle.std.proofs.lemmas.Option.{slice_get_read}
use Rattle.lucid_core.proofs.Grown.{get_last}
use Rattle.lucid_core_laws.specs.Place.{Place, behind}
use Rattle.lucid_parse_tree.specs.declared.tree.No.{No}
use Rattle.lucid_parse_tree.specs.declared.tree.S.{S}
use Rattle.lucid_types_spec.specs.declared.body.Body.{Body}
use Rattle.lucid_types_spec.specs.declared.scope.ValueType.{ValueType}
use Rattle.lucid_types_spec.specs.Block.{Block, Branches, Cases, Numbered, Statement, form_number, one_form, one_local}
use Rattle.lucid_types_spec.specs.Block as rule
use Rattle.lucid_types_spec.specs.Names.{Names}
use Rattle.lucid_types_spec.specs.Types.{width_of}
use Rattle.lucid_types_laws.proofs.Lists.{Grows, grows_end}

pub record GrowsTo (m k : Numbered) : Type 0 where
  pub locals : Grows m.locals k.locals
  pub forms : Grows m.forms k.forms

itself : (m : Numbered) → GrowsTo m m
itself m = record { locals = λ i x h. h; forms = λ i x h. h }

pub further : {m l k : Numbered} → GrowsTo m l → GrowsTo l k → GrowsTo m k
further f g = record { locals = λ i x h. g.locals i x (f.locals i x h); forms = λ i x h. g.forms i x (f.forms i x h) }

pub one_local_grows : (w : ℕ) (m : Numbered) → GrowsTo m (one_local w m)
one_local_grows w m = record { locals = grows_end m.locals w; forms = λ i x h. h }

forms_grow_by : (o : Option ℕ) (t : List ℕ) (forms : List (List ℕ)) → Grows forms (if is_some o then forms else forms ++ t ∷ [])
forms_grow_by None t forms = grows_end forms t
forms_grow_by (Some i) t forms = λ i x h. h

one_form_grows : (t : List ℕ) (m : Numbered) → GrowsTo m (one_form t m)
one_form_grows t m = record { locals = λ i x h. h; forms = forms_grow_by (position (bytes_eq t) m.forms) t m.forms }

form_by : (o : Option ℕ) (t : List ℕ) (forms : List (List ℕ)) → position (bytes_eq t) forms ≡ o →
    slice_get (if is_some o then forms else forms ++ t ∷ []) (unwrap_or o (length forms)) ≡ Some t
form_by None t forms is = get_last forms t
form_by (Some i) t forms is =
    let at = position-Some (bytes_eq t) forms i t is in
    slice_get_read forms (length forms) i t refl at.0 (same_text t (get_or forms i t) (sym at.1))

pub form_there : (t : List ℕ) (m : Numbered) → slice_get (one_form t m).forms (form_number t m.forms) ≡ Some t
form_there t m = form_by (position (bytes_eq t) m.forms) t m.forms refl

-- ---- rule by rule

mutual
  pub statement_grows : {a : Option ValueType} {s : Names} {m : Numbered} {x : S} {d : Body} {k : Numbered} → Statement a s m x d k → GrowsTo m k
  statement_grows (rule.assign s m n i t x c is of) = itself m
  statement_grows (rule.call s m n xs t c of) = itself m
  statement_grows (rule.array s m x w c of) = itself m
  statement_grows (rule.generate s m x g of) = itself m
  statement_grows (rule.printf s m text xs cs all filled) = one_form_grows text m
  statement_grows (rule.return_nothing s m is) = itself m
  statement_grows (rule.return_value s m t x c is of) = itself m
  statement_grows (rule.choose s m x ys other c b d k of both) = branches_grow both
  statement_grows (rule.matched s m x w c y ys last b k of far all) = further (one_local_grows w m) (cases_grow all)

  pub block_grows : {a : Option ValueType} {s : Names} {m : Numbered} {xs : List S} {b : Body} {k : Numbered} → Block a s m xs b k → GrowsTo m k
  block_grows (rule.end s m) = itself m
  block_grows (rule.declare s m t v n x c xs b k ok of rest) = further (one_local_grows (width_of v) m) (block_grows rest)
  block_grows (rule.goes_on s m x d l xs b k of is rest) = further (statement_grows of) (block_grows rest)
  block_grows (rule.stops s m x d k of is) = statement_grows of
  block_grows (rule.guards s m x c ys d l xs b k of first is rest) = further (block_grows first) (block_grows rest)

  pub branches_grow : {a : Option ValueType} {s : Names} {m : Numbered} {ys : List S} {other : No} {b d : Body} {k : Numbered} → Branches a s m ys other b d k → GrowsTo m k
  branches_grow (rule.alone s m ys b k of is) = block_grows of
  branches_grow (rule.block s m ys b l zs d k of and) = further (block_grows of) (block_grows and)
  branches_grow (rule.chain s m ys b l z d k of and) = further (block_grows of) (block_grows and)

  pub cases_grow : {a : Option ValueType} {s : Names} {m : Numbered} {i w : ℕ} {cases : List (ℕ × List S)} {last : Option (List S)} {b : Body} {k : Numbered} →
      Cases a s m i w cases last b k → GrowsTo m k
  cases_grow (rule.no_last s m i w) = itself m
  cases_grow (rule.last_arm s m i w zs b k of) = block_grows of
  cases_grow (rule.next s m i w n ys b l cases last d k fits of rest) = further (block_grows of) (cases_grow rest)

-- ---- places

-- A place that has what was numbered.
pub record Covers (p : Place) (m : Numbered) : Type 0 where
  pub locals : Grows m.locals p.scope.locals
  pub forms : Grows m.forms p.scope.forms

pub covered : {m k : Numbered} (p : Place) → GrowsTo m k → Covers p k → Covers p m
covered p g c = record { locals = λ i w h. c.locals i w (g.locals i w h); forms = λ i t h. c.forms i t (g.forms i t h) }

pub covers_behind : (p : Place) (ks : List ℕ) (m : Numbered) → Covers p m → Covers (behind p ks) m
covers_behind p ks m c = record { locals = c.locals; forms = c.forms }

-- The local that was added is there.
pub local_there : {k : Numbered} (m : Numbered) (p : Place) (w : ℕ) → GrowsTo (one_local w m) k → Covers p k → slice_get p.scope.locals (length m.locals) ≡ Some w
local_there m p w g c = c.locals (length m.locals) w (g.locals (length m.locals) w (get_last m.locals w))
