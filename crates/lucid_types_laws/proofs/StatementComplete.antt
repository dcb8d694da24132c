-- What the rules of statements derive, the function gives.
use Rattle.std.proofs.Common.{◌≡◌, ◌≢◌, ℕ, ◌^◌, List, [], ◌∷◌, Option, None, Some, map, option_map, length, refl, ap, ◌∙◌}
use Rattle.std.proofs.lemmas.Bool.{eq-eqb, lt-ltb}
use Rattle.std.proofs.lemmas.List.{append-nil}
use Rattle.lucid_core.specs.declared.body.Expr.{Expr}
use Rattle.lucid_core.specs.declared.body.Stmt.TheVariants as core
use Rattle.lucid_base.specs.Numbers.{all_differ}
use Rattle.lucid_core.specs.Texts.{holes_of}
use Rattle.lucid_core.specs.declared.ending.Ending.{Ending}
use Rattle.lucid_core.specs.declared.ending.Ending.TheVariants.{Never, Sometimes, Always}
use Rattle.lucid_core.specs.Endings.{of_either}
use Rattle.lucid_parse_tree.specs.declared.tree.E.{E}
use Rattle.lucid_parse_tree.specs.declared.tree.No.{No}
use Rattle.lucid_parse_tree.specs.declared.tree.No.TheVariants as no
use Rattle.lucid_parse_tree.specs.declared.tree.S.{S}
use Rattle.lucid_parse_tree.specs.declared.tree.S.TheVariants as form
use Rattle.lucid_parse_tree.specs.declared.tree.Ty.{Ty}
use Rattle.lucid_types_spec.specs.declared.body.Body.{Body}
use Rattle.lucid_types_spec.specs.declared.scope.Entry.TheVariants as entry
use Rattle.lucid_types_spec.specs.declared.scope.ValueType.{ValueType}
use Rattle.lucid_types_spec.specs.Block.{Block, Branches, Cases, Numbered, Statement, before, empty, if_of, is_number, one, one_local}
use Rattle.lucid_types_spec.specs.Block as rule
use Rattle.lucid_types_spec.specs.Names.{Names, called}
use Rattle.lucid_types_spec.specs.Typed.{Free}
use Rattle.lucid_types_spec.specs.Typed as typed
use Rattle.lucid_types_spec.specs.Types.{Means, stated, width_of}
use Rattle.lucid_types_spec.specs.Types as types
use Rattle.lucid_types_laws.specs.declared.part.Part.{Part}
use Rattle.lucid_types_laws.specs.declared.part.Part.TheVariants.{Does, Guard}
use Rattle.lucid_types_laws.specs.Lead.{or_32}
use Rattle.lucid_types_laws.specs.Reading.{reading}
use Rattle.lucid_types_laws.specs.Statement as take
use Rattle.lucid_types_laws.specs.Statement.{Taken, Taking, block, chosen, onto, or_empty, other, other_of, parts, put, taking, type_of}
use Rattle.lucid_types_laws.proofs.Complete as complete
use Rattle.lucid_types_laws.proofs.Leads.{fits_width, free_found}
use Rattle.lucid_types_laws.proofs.Sendings.{sends}
use Rattle.lucid_types_laws.proofs.StatementForms.{absent_is, array_is, assign_is, block_is, call_is, chain_is, declare_is, generate_is, if_is, match_is, match_last_is, printf_is, return_is, taken_cases}

pub means : {t : Ty} {v : ValueType} → Means t v → type_of t ≡ Some v
means (types.int w ok) = rw (fits_width (stated w) ok) refl
means types.bool = refl

width : {s : Names} {x : E} {w : ℕ} {c : Expr} → Free s x w c → or_32 ((reading x).lead s) ≡ w
width (typed.free x w c place of) = (free_found place of).0

-- What never returns goes before all that stands behind it, nothing too.
pub put_before : (d : Body) (o : Option Body) → d.ending ≡ Never → put (Does d) o ≡ Some (before d.steps (or_empty o))
put_before d None is = rw (append-nil d.steps, is) refl
put_before d (Some b) is = rw is refl

-- The parts of a block, and what they are put together to.
record Goes (a : Option ValueType) (s : Names) (m : Numbered) (xs : List S) (b : Body) (k : Numbered) : Type 0 where
  pub steps : List Part
  pub behind : Option Body
  pub ran : parts (map taking xs) a s m ≡ Some (steps, k)
  pub joined : onto steps None ≡ Some behind
  pub all : or_empty behind ≡ b

cons : (x : S) (xs : List S) (a : Option ValueType) (s t : Names) (m l k : Numbered) (p : Part) (ps : List Part) (o : Option Body) (b : Body) →
    taking x a s m ≡ Some (record { part = p; names = t; numbered = l }) → parts (map taking xs) a t l ≡ Some (ps, k) → onto ps None ≡ Some o →
    put p o ≡ Some b → Goes a s m (x ∷ xs) b k
cons x xs a s t m l k p ps o b is rest behind all =
    record { steps = p ∷ ps; behind = Some b; ran = rw (is, rest) refl; joined = rw (behind, all) refl; all = refl }

made : {a : Option ValueType} {s : Names} {m : Numbered} {xs : List S} {b : Body} {k : Numbered} → Goes a s m xs b k → block (map taking xs) a s m ≡ Some (b, k)
made r = rw (r.ran, r.joined, r.all) refl

at : {f g : Taking} → f ≡ g → (a : Option ValueType) (s : Names) (m : Numbered) → f a s m ≡ g a s m
at is a s m = ap (λ (h : Taking). h a s m) is

alone_is : (c : Expr) (b : Body) (r : Ending) → r ≢ Always → take.alone c b r ≡ Does (one (core.If c b.steps []) (of_either r Never))
alone_is c b Never ends = refl
alone_is c b Sometimes ends = refl
alone_is c b Always ends = absurd (ends refl)

-- The two branches of an if that is no guard.
record Both (a : Option ValueType) (s : Names) (m : Numbered) (ys : List S) (z : No) (b d : Body) (k : Numbered) : Type 0 where
  pub between : Numbered
  pub second : Option Body
  pub first : block (map taking ys) a s m ≡ Some (b, between)
  pub rest : other_of (other z) a s between ≡ Some (second, k)
  pub whole : (c : Expr) → chosen c b second ≡ Does (one (core.If c b.steps d.steps) (of_either b.ending d.ending))

pub numbers_are : (ys : List (ℕ × List S)) → map (λ z. z.0) (taken_cases ys) ≡ map (λ z. z.0) ys
numbers_are [] = refl
numbers_are (y ∷ ys) = ap (λ (ns : List ℕ). y.0 ∷ ns) (numbers_are ys)

mutual
  taken : {a : Option ValueType} {s : Names} {m : Numbered} {x : S} {d : Body} {k : Numbered} → Statement a s m x d k →
      taking x a s m ≡ Some (record { part = Does d; names = s; numbered = k })
  taken {a} (rule.assign s m n i t x c is of) = at (assign_is n x) a s m ∙ rw (is, complete.typed of) refl
  taken {a} (rule.call s m n xs t c of) = at (call_is n xs) a s m ∙ rw (complete.called of) refl
  taken {a} (rule.array s m x w c of) = at (array_is x) a s m ∙ rw (complete.touched of) refl
  taken {a} (rule.generate s m x g of) = at (generate_is x) a s m ∙ rw (sends of) refl
  taken {a} (rule.printf s m text xs cs all is) =
      at (printf_is text xs) a s m ∙ rw (complete.all_free all, eq-eqb (length cs) (holes_of text) is) refl
  taken {a} (rule.return_nothing s m is) = at (return_is None) a s m ∙ rw is refl
  taken {a} (rule.return_value s m t x c is of) = at (return_is (Some x)) a s m ∙ rw (is, complete.typed of) refl
  taken {a} (rule.choose s m x ys z c b d k of both) =
      let r = branches both in at (if_is x ys z) a s m ∙ rw (complete.typed of, r.first, r.rest, r.whole c) refl
  taken {a} (rule.matched s m x w c y ys None b k of distinct all) =
      at (match_is x (y ∷ ys)) a s m ∙ rw (ap all_differ (numbers_are (y ∷ ys)) ∙ distinct, complete.free of, width of, cases all) refl
  taken {a} (rule.matched s m x w c y ys (Some zs) b k of distinct all) =
      at (match_last_is x (y ∷ ys) zs) a s m ∙ rw (ap all_differ (numbers_are (y ∷ ys)) ∙ distinct, complete.free of, width of, cases all) refl

  goes : {a : Option ValueType} {s : Names} {m : Numbered} {xs : List S} {b : Body} {k : Numbered} → Block a s m xs b k → Goes a s m xs b k
  goes (rule.end s m) = record { steps = []; behind = None; ran = refl; joined = refl; all = refl }
  goes {a} (rule.declare s m t v n x c xs b k mean of rest) =
      let r = goes rest in
      let i = length m.locals in
      let step = one (core.Assign i c) Never in
      cons (form.Declare t n x) xs a s (called n (entry.Local i v) ∷ s) m (one_local (width_of v) m) k (Does step) r.steps r.behind (before step.steps b)
      (at (declare_is t n x) a s m ∙ rw (means mean, complete.typed of) refl) r.ran r.joined (put_before step r.behind refl ∙ rw r.all refl)
  goes {a} (rule.goes_on s m x d l xs b k of never rest) =
      let r = goes rest in cons x xs a s s m l k (Does d) r.steps r.behind (before d.steps b) (taken of) r.ran r.joined (put_before d r.behind never ∙ rw r.all refl)
  goes {a} (rule.stops s m x d k of ends) = cons x [] a s s m k k (Does d) [] None d (taken of) refl refl refl
  goes {a} (rule.guards s m x c ys d l xs b k of first always rest) =
      let r = goes rest in
      cons (if_of x ys no.Absent) xs a s s m l k (Guard c d.steps) r.steps r.behind (one (core.If c d.steps b.steps) (of_either d.ending b.ending))
      (at (if_is x ys no.Absent) a s m ∙ rw (complete.typed of, made (goes first), absent_is, always) refl) r.ran r.joined (rw (r.all, always) refl)

  branches : {a : Option ValueType} {s : Names} {m : Numbered} {ys : List S} {z : No} {b d : Body} {k : Numbered} → Branches a s m ys z b d k → Both a s m ys z b d k
  branches (rule.alone s m ys b k of ends) =
      record { between = k; second = None; first = made (goes of); rest = rw absent_is refl; whole = λ c. alone_is c b b.ending ends }
  branches (rule.block s m ys b l zs d k of and) =
      record { between = l; second = Some d; first = made (goes of); rest = rw (block_is zs, made (goes and)) refl; whole = λ c. refl }
  branches (rule.chain s m ys b l z d k of and) =
      record { between = l; second = Some d; first = made (goes of); rest = rw (chain_is z, made (goes and)) refl; whole = λ c. refl }

  cases : {a : Option ValueType} {s : Names} {m : Numbered} {i w : ℕ} {ys : List (ℕ × List S)} {last : Option (List S)} {b : Body} {k : Numbered} →
      Cases a s m i w ys last b k → take.cases (taken_cases ys) (option_map (map taking) last) i w a s m ≡ Some (b, k)
  cases (rule.no_last s m i w) = refl
  cases (rule.last_arm s m i w zs b k of) = made (goes of)
  cases (rule.next s m i w n ys b l all last d k fits of rest) = rw (lt-ltb n (2 ^ w) fits, made (goes of), cases rest) refl

pub block_made : {a : Option ValueType} {s : Names} {m : Numbered} {xs : List S} {b : Body} {k : Numbered} → Block a s m xs b k →
    take.body_of xs a s m ≡ Some (b, k)
block_made of = made (goes of)
