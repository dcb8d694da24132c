-- Induction over expressions, case by case.
use Rattle.std.proofs.Common.{ℕ, Bool, List, [], ◌∷◌, map, Option, sym, subst}
use Rattle.std.specs.List.{AllByRecursion}
use Rattle.lucid_parse_tree.specs.declared.tree.E.{E, ind-E, roll-E, map-E}
use Rattle.lucid_parse_tree.specs.declared.tree.E.TheVariants as e
use Rattle.lucid_parse_tree.specs.declared.tree.A.{A, ind-A, roll-A, map-A}
use Rattle.lucid_parse_tree.specs.declared.tree.A.TheVariants as a
use Rattle.lucid_parse_tree.specs.declared.tree.A.TheOpen.{A-F, E-F}
use Rattle.lucid_parse_tree.specs.declared.tree.Pre.{Pre}
use Rattle.lucid_parse_tree.specs.declared.tree.Infix.{Infix}

all_of : (P : E → Type 0) (ps : List ((x : E) × P x)) → AllByRecursion P (map (λ p. p.0) ps)
all_of P [] = tt
all_of P (p ∷ ps) = (p.1, all_of P ps)

-- the cases of an induction
pub record Cases (P : E → Type 0) (Q : A → Type 0) : Type 0 where
  pub number : (n : ℕ) → P (e.Number n)
  pub truth : (b : Bool) → P (e.Truth b)
  pub me : P e.Me
  pub time : P e.Time
  pub hash : (w : ℕ) (xs : List E) → AllByRecursion P xs → P (e.Hash w xs)
  pub name : (n : List ℕ) → P (e.Name n)
  pub call : (n : List ℕ) (xs : List E) → AllByRecursion P xs → P (e.Call n xs)
  pub array : (x : A) → Q x → P (e.Array x)
  pub paren : (x : E) → P x → P (e.Paren x)
  pub prefix : (op : Pre) (x : E) → P x → P (e.Prefix op x)
  pub cast : (w : Option ℕ) (x : E) → P x → P (e.Cast w x)
  pub shift : (x : E) (up : Bool) (n : ℕ) → P x → P (e.Shift x up n)
  pub infix_of : (op : Infix) (x y : E) → P x → P y → P (e.Infix op x y)
  pub get : (n : List ℕ) (i : E) → P i → Q (a.Get n i)
  pub set : (n : List ℕ) (i x : E) → P i → P x → Q (a.Set n i x)
  pub getm : (n : List ℕ) (i : E) (m : List ℕ) (x : E) → P i → P x → Q (a.Getm n i m x)
  pub setm : (n : List ℕ) (i : E) (m : List ℕ) (x : E) → P i → P x → Q (a.Setm n i m x)
  pub update : (n : List ℕ) (i : E) (g : List ℕ) (x : E) (s : List ℕ) (y : E) → P i → P x → P y → Q (a.Update n i g x s y)

module _ (P : E → Type 0) (Q : A → Type 0) (c : Cases P Q) where
  of_array : (y : A-F ((x : A) × Q x) ((x : E) × P x)) → Q (roll-A (map-A ((x : A) × Q x) ((x : E) × P x) A E (λ p. p.0) (λ p. p.0) y))
  of_array (A-F.Get n i) = subst Q (sym (a.rolls-Get n i.0)) (c.get n i.0 i.1)
  of_array (A-F.Set n i x) = subst Q (sym (a.rolls-Set n i.0 x.0)) (c.set n i.0 x.0 i.1 x.1)
  of_array (A-F.Getm n i m x) = subst Q (sym (a.rolls-Getm n i.0 m x.0)) (c.getm n i.0 m x.0 i.1 x.1)
  of_array (A-F.Setm n i m x) = subst Q (sym (a.rolls-Setm n i.0 m x.0)) (c.setm n i.0 m x.0 i.1 x.1)
  of_array (A-F.Update n i g x s y) = subst Q (sym (a.rolls-Update n i.0 g x.0 s y.0)) (c.update n i.0 g x.0 s y.0 i.1 x.1 y.1)

  of_expression : (y : E-F ((x : A) × Q x) ((x : E) × P x)) → P (roll-E (map-E ((x : A) × Q x) ((x : E) × P x) A E (λ p. p.0) (λ p. p.0) y))
  of_expression (E-F.Number n) = subst P (sym (e.rolls-Number n)) (c.number n)
  of_expression (E-F.Truth b) = subst P (sym (e.rolls-Truth b)) (c.truth b)
  of_expression E-F.Me = subst P (sym e.rolls-Me) c.me
  of_expression E-F.Time = subst P (sym e.rolls-Time) c.time
  of_expression (E-F.Hash w ps) = subst P (sym (e.rolls-Hash w (map (λ p. p.0) ps))) (c.hash w (map (λ p. p.0) ps) (all_of P ps))
  of_expression (E-F.Name n) = subst P (sym (e.rolls-Name n)) (c.name n)
  of_expression (E-F.Call n ps) = subst P (sym (e.rolls-Call n (map (λ p. p.0) ps))) (c.call n (map (λ p. p.0) ps) (all_of P ps))
  of_expression (E-F.Array x) = subst P (sym (e.rolls-Array x.0)) (c.array x.0 x.1)
  of_expression (E-F.Paren x) = subst P (sym (e.rolls-Paren x.0)) (c.paren x.0 x.1)
  of_expression (E-F.Prefix op x) = subst P (sym (e.rolls-Prefix op x.0)) (c.prefix op x.0 x.1)
  of_expression (E-F.Cast w x) = subst P (sym (e.rolls-Cast w x.0)) (c.cast w x.0 x.1)
  of_expression (E-F.Shift x up n) = subst P (sym (e.rolls-Shift x.0 up n)) (c.shift x.0 up n x.1)
  of_expression (E-F.Infix op x y) = subst P (sym (e.rolls-Infix op x.0 y.0)) (c.infix_of op x.0 y.0 x.1 y.1)

  pub induction : (x : E) → P x
  induction = ind-E Q P (λ x y is. subst (λ z. Q (roll-A z)) is (of_array y)) (λ x y is. subst (λ z. P (roll-E z)) is (of_expression y))

  pub array_induction : (x : A) → Q x
  array_induction = ind-A Q P (λ x y is. subst (λ z. Q (roll-A z)) is (of_array y)) (λ x y is. subst (λ z. P (roll-E z)) is (of_expression y))
