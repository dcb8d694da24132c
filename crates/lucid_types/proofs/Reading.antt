-- A program is read declaration by declaration.
use Rattle.std.proofs.Common.{◌≡◌, ℕ, suc, ◌+◌, ◌<◌, ◌≤◌, List, [], ◌∷◌, ◌++◌, Option, None, Some, Result, Ok, Err, take, drop, length, get_or, append-nil, take_all, refl, sym, ap, subst, ◌∙◌, arith, drop-cons}
use Rattle.std.proofs.lemmas.List.{append_assoc, take-append-drop, take_more}
use Rattle.lucid_parse_tree.specs.declared.tree.Decl.{Decl}
use Rattle.lucid_parse_tree.specs.declared.tree.Tree.{Tree}
use Rattle.lucid_types_spec.specs.declared.limit.What.{What}
use Rattle.lucid_types_spec.specs.Declaration.{Definitions, parts_of, start}
use Rattle.lucid_types_spec.specs.Found.{Decides, Refusal, found, on_limit, on_made}
use Rattle.lucid_types_spec.specs.Limits.{passed}
use Rattle.lucid_types_spec.specs.Makes.{IsTyped}
use Rattle.lucid_types_laws.specs.Declaration.{declaration}
use Rattle.lucid_types_limits.specs.declared.limits.Limits.{Limits}
use Rattle.lucid_types_limits.specs.NewPart.{Knows}
use Rattle.lucid_types.specs.declared.error.TypeError.{TypeError}
use Rattle.lucid_types.specs.declared.error.TypeError.TheVariants.{NoRule, Limit, Memory}
use Rattle.lucid_types.specs.Answers.{Adds, IsTold, Tells}
use Rattle.lucid_types.specs.SoFar.{SoFar}

-- A declaration that has a rule is judged by its limit.
pub judged : (number : ℕ) (x : Decl) (m l : Definitions) (w v : Option What) → declaration number x.line x.kind m ≡ Some l →
    v ≡ passed x.kind (parts_of l) → v ≡ w → (next : Definitions → Result Definitions Refusal) → on_made number x (declaration number x.line x.kind m) next ≡ on_limit number x.line w (next l)
judged number x m l w v made is e next =
    ap (λ (o : Option Definitions). on_made number x o next) made ∙ ap (λ (u : Option What). on_limit number x.line u (next l)) (sym is ∙ e)

pub nothing_read : (ds : List Decl) → SoFar ds 0 start
nothing_read ds rest = refl

pub one_more_read : (ds : List Decl) (i : ℕ) (x : Decl) (m l : Definitions) → i < length ds → get_or ds i x ≡ x → SoFar ds i m →
    ((next : Definitions → Result Definitions Refusal) → on_made (i + 1) x (declaration (i + 1) x.line x.kind m) next ≡ next l) → SoFar ds (i + 1) l
one_more_read ds i x m l within at so adds rest =
    ap (λ (front : List Decl). found declaration 1 start (front ++ rest)) (take_more ds i x within ∙ ap (λ (y : Decl). take i ds ++ y ∷ []) at)
    ∙ ap (found declaration 1 start) (append_assoc (take i ds) (x ∷ []) rest)
    ∙ so (x ∷ rest)
    ∙ adds (λ k. found declaration (i + 1 + 1) k rest)

-- ---- where the rules decide all trees

module _ (decides : (tree : Tree) → Decides declaration tree) where
  -- What was read is typed.
  typed_so_far : (ds : List Decl) (i : ℕ) (m : Definitions) → SoFar ds i m → IsTyped (record { decls = take i ds }) (parts_of m)
  typed_so_far ds i m so = (decides (record { decls = take i ds })).on_ok m (ap (found declaration 1 start) (sym (append-nil (take i ds))) ∙ so [])

  pub all_read : (tree : Tree) (i : ℕ) (m : Definitions) → length tree.decls ≤ i → SoFar tree.decls i m → IsTyped tree (parts_of m)
  all_read tree i m all so =
      (decides tree).on_ok m (ap (found declaration 1 start) (sym (take_all i tree.decls all) ∙ sym (append-nil (take i tree.decls))) ∙ so [])

  -- One declaration more.
  pub read_on : (tree : Tree) (i number : ℕ) (x : Decl) (m l : Definitions) (old new : Limits) → i < length tree.decls → get_or tree.decls i x ≡ x →
      number ≡ i + 1 → SoFar tree.decls i m → Knows m.funs old →
      ((front : Tree) → IsTyped front (parts_of m) → Knows m.funs old → Adds (Ok tt) number x m l new) →
      SoFar tree.decls (i + 1) l × Knows l.funs new
  read_on tree i number x m l old new within at counted so knows adds =
      let both = adds (record { decls = take i tree.decls }) (typed_so_far tree.decls i m so) knows in
      let steps = subst (λ (k : ℕ). (next : Definitions → Result Definitions Refusal) → on_made k x (declaration k x.line x.kind m) next ≡ next l) counted both.0 in
      (one_more_read tree.decls i x m l within at so steps, both.1)

  told : (tree : Tree) (e : TypeError) (r : Result Definitions Refusal) → found declaration 1 start tree.decls ≡ r → IsTold e r → Tells tree e
  told tree (NoRule d k) r is t = (decides tree).on_err (record { decl = d; line = k; limit = None }) (is ∙ t)
  told tree (Limit w d k) r is t = (decides tree).on_err (record { decl = d; line = k; limit = Some w }) (is ∙ t)
  told tree Memory r is t = tt

  -- One declaration that is refused.
  pub refused_here : (tree : Tree) (i number : ℕ) (x : Decl) (m l : Definitions) (e : TypeError) (old new : Limits) → i < length tree.decls →
      get_or tree.decls i x ≡ x → number ≡ i + 1 → SoFar tree.decls i m → Knows m.funs old →
      ((front : Tree) → IsTyped front (parts_of m) → Knows m.funs old → Adds (Err e) number x m l new) → Tells tree e
  refused_here tree i number x m l e old new within at counted so knows adds =
      let parts : tree.decls ≡ take i tree.decls ++ x ∷ drop (i + 1) tree.decls =
      sym (take-append-drop i tree.decls) ∙ ap (λ (back : List Decl). take i tree.decls ++ back) (one_before tree.decls i x within at) in
      let tells = adds (record { decls = take i tree.decls }) (typed_so_far tree.decls i m so) knows in
      let here = subst (λ (k : ℕ). (next : Definitions → Result Definitions Refusal) → IsTold e (on_made k x (declaration k x.line x.kind m) next)) counted tells in
      told tree e _ (ap (found declaration 1 start) parts ∙ so (x ∷ drop (i + 1) tree.decls))
      (here (λ k. found declaration (i + 1 + 1) k (drop (i + 1) tree.decls)))
    where
      one_before : (ds : List Decl) (j : ℕ) (y : Decl) → j < length ds → get_or ds j y ≡ y → drop j ds ≡ y ∷ drop (j + 1) ds
      one_before ds j y h is =
          let on : suc j ≡ j + 1 = omega arith in
          drop-cons ds j y h ∙ ap (λ (z : Decl). z ∷ drop (suc j) ds) is ∙ ap (λ (k : ℕ). y ∷ drop k ds) on
