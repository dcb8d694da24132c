-- What is found of declarations, one after another, is what the rules say.
use Rattle.std.proofs.Common.{◌≡◌, ℕ, ◌+◌, List, [], ◌∷◌, ◌++◌, Option, None, Some, Result, Ok, Err, length, append-nil, refl, sym, ap, subst, ◌∙◌, arith}
use Rattle.lucid_parse_tree.specs.declared.tree.Decl.{Decl}
use Rattle.lucid_parse_tree.specs.declared.tree.Tree.{Tree}
use Rattle.lucid_types_spec.specs.declared.limit.What.{What}
use Rattle.lucid_types_spec.specs.Declaration.{Declared, Definitions, parts_of, start}
use Rattle.lucid_types_spec.specs.Found.{Adds, Computes, Determines, FindsFirst, Refusal, found, on_limit, on_made}
use Rattle.lucid_types_spec.specs.Limits.{passed}
use Rattle.lucid_types_spec.specs.Makes.{Because, IsRefused, Makes}
use Rattle.lucid_types_spec.specs.Makes as rule

-- The first of these declarations that is refused, behind what was made before the declaration of this number.
record First (number : ℕ) (m : Definitions) (xs : List Decl) (r : Refusal) : Type 0 where
  front : List Decl
  bad : Decl
  back : List Decl
  before : Definitions
  splits : xs ≡ front ++ bad ∷ back
  counted : r.decl ≡ number + length front
  at : r.line ≡ bad.line
  accepted : Makes number m front before
  because : Because r.decl before bad r.limit

abbrev Tells : Result Definitions Refusal → ℕ → Definitions → List Decl → Type 0
Tells (Ok k) number m xs = Makes number m xs k
Tells (Err r) number m xs = First number m xs r

-- ---- what is found is so

here : (number : ℕ) (m : Definitions) (x : Decl) (xs : List Decl) (why : Option What) → Because number m x why → First number m (x ∷ xs) (record { decl = number; line = x.line; limit = why })
here number m x xs why because = record {
  front = [];
  bad = x;
  back = xs;
  before = m;
  splits = refl;
  counted = omega arith;
  at = refl;
  accepted = rule.done number m;
  because = because;
}

later : (number : ℕ) (m l : Definitions) (x : Decl) (xs : List Decl) (r : Refusal) → Declared number x.line m x.kind l → passed x.kind (parts_of l) ≡ None →
    First (number + 1) l xs r → First number m (x ∷ xs) r
later number m l x xs r of kept f = record {
  front = x ∷ f.front;
  bad = f.bad;
  back = f.back;
  before = f.before;
  splits = ap (λ (ys : List Decl). x ∷ ys) f.splits;
  counted = f.counted ∙ omega arith;
  at = f.at;
  accepted = rule.one_more number m l f.before x f.front of kept f.accepted;
  because = f.because;
}

after : (number : ℕ) (m l : Definitions) (x : Decl) (xs : List Decl) (t : Result Definitions Refusal) → Declared number x.line m x.kind l → passed x.kind (parts_of l) ≡ None →
    Tells t (number + 1) l xs → Tells t number m (x ∷ xs)
after number m l x xs (Ok k) of kept tells = rule.one_more number m l k x xs of kept tells
after number m l x xs (Err r) of kept tells = later number m l x xs r of kept tells

limited : (number : ℕ) (m l : Definitions) (x : Decl) (xs : List Decl) (t : Result Definitions Refusal) (o : Option What) → Declared number x.line m x.kind l → passed x.kind (parts_of l) ≡ o →
    Tells t (number + 1) l xs → Tells (on_limit number x.line o t) number m (x ∷ xs)
limited number m l x xs t (Some w) of is tells = here number m x xs (Some w) (rule.limit number m l x w of is)
limited number m l x xs t None of is tells = after number m l x xs t of is tells

module _ (adds : Adds) (computes : Computes adds) where
  on_rule : (number : ℕ) (m : Definitions) (x : Decl) (xs : List Decl) (o : Option Definitions) (next : Definitions → Result Definitions Refusal) → adds number x.line x.kind m ≡ o →
      ((l : Definitions) → Tells (next l) (number + 1) l xs) → Tells (on_made number x o next) number m (x ∷ xs)
  on_rule number m x xs None next is tells =
      here number m x xs None (rule.no_rule number m x (λ l of. let no : None ≡ Some l = sym is ∙ computes.complete number x.line m l x.kind of in absurd (cc)))
  on_rule number m x xs (Some l) next is tells =
      limited number m l x xs (next l) (passed x.kind (parts_of l)) (computes.sound number x.line m l x.kind is) refl (tells l)

  tells : (number : ℕ) (m : Definitions) (xs : List Decl) → Tells (found adds number m xs) number m xs
  tells number m [] = rule.done number m
  tells number m (x ∷ xs) = on_rule number m x xs (adds number x.line x.kind m) (λ l. found adds (number + 1) l xs) refl (λ l. tells (number + 1) l xs)

  -- ---- what is so is found

  step : (number : ℕ) (m l : Definitions) (x : Decl) (xs : List Decl) → Declared number x.line m x.kind l → passed x.kind (parts_of l) ≡ None →
      found adds number m (x ∷ xs) ≡ found adds (number + 1) l xs
  step number m l x xs of kept = rw (computes.complete number x.line m l x.kind of, kept) refl

  behind : {number : ℕ} {m k : Definitions} {front : List Decl} → Makes number m front k → (xs : List Decl) (t : Result Definitions Refusal) →
      ((n : ℕ) → n ≡ number + length front → found adds n k xs ≡ t) → found adds number m (front ++ xs) ≡ t
  behind (rule.done number m) xs t rest = rest number (omega arith)
  behind (rule.one_more number m l k x front of kept more) xs t rest =
      step number m l x (front ++ xs) of kept ∙ behind more xs t (λ n is. rest n (is ∙ omega arith))

  bad_one : {number : ℕ} {m : Definitions} {x : Decl} {why : Option What} → Because number m x why → (xs : List Decl) →
      found adds number m (x ∷ xs) ≡ Err (record { decl = number; line = x.line; limit = why })
  bad_one (rule.no_rule number m x none) xs = none_is (adds number x.line x.kind m) refl
    where
      none_is : (o : Option Definitions) → adds number x.line x.kind m ≡ o → on_made number x o (λ l. found adds (number + 1) l xs) ≡ Err (record { decl = number; line = x.line; limit = None })
      none_is None is = refl
      none_is (Some l) is = absurd (none l (computes.sound number x.line m l x.kind is))
  bad_one (rule.limit number m l x w of is) xs = rw (computes.complete number x.line m l x.kind of, is) refl

module _ (tree : Tree) where
  as_refused : (r : Refusal) → First 1 start tree.decls r → IsRefused tree r.decl r.line r.limit
  as_refused r f = record {
    front = f.front;
    bad = f.bad;
    back = f.back;
    before = f.before;
    splits = f.splits;
    counted = f.counted ∙ omega arith;
    at = f.at;
    accepted = f.accepted;
    because = f.because;
  }

pub finds_first : FindsFirst
finds_first adds computes tree = record {
  typed = λ core typed. (typed.0, ap (found adds 1 start) (sym (append-nil tree.decls)) ∙ behind adds computes typed.1 [] (Ok typed.0) (λ n is. refl), typed.2);
  refused = λ number line limit r.
      let whole = ap (found adds 1 start) r.splits in
      whole ∙ behind adds computes r.accepted (r.bad ∷ r.back) (Err (record { decl = number; line = line; limit = limit })) (λ n is.
      let same : number ≡ n = r.counted ∙ omega (arith, is) in
      subst (λ (k : ℕ). found adds k r.before (r.bad ∷ r.back) ≡ Err (record { decl = number; line = line; limit = limit })) same
      (bad_one adds computes r.because r.back ∙ ap (λ (l : ℕ). Err (record { decl = number; line = l; limit = limit })) (sym r.at)));
  on_ok = λ m is. (m, subst (λ (t : Result Definitions Refusal). Tells t 1 start tree.decls) is (tells adds computes 1 start tree.decls), refl);
  on_err = λ r is. as_refused tree r (subst (λ (t : Result Definitions Refusal). Tells t 1 start tree.decls) is (tells adds computes 1 start tree.decls));
}

-- ---- so all is determined

same_made : (r : Result Definitions Refusal) (m k : Definitions) → r ≡ Ok m → r ≡ Ok k → m ≡ k
same_made r m k one two = let both = sym one ∙ two in cc

same_refusal : (r : Result Definitions Refusal) (p q : Refusal) → r ≡ Err p → r ≡ Err q → p ≡ q
same_refusal r p q one two = let both = sym one ∙ two in cc

not_both : (r : Result Definitions Refusal) (m : Definitions) (p : Refusal) → r ≡ Ok m → r ≡ Err p → ⊥
not_both r m p one two = let both = sym one ∙ two in cc

pub determines : Determines
determines adds computes tree =
    let d = finds_first adds computes tree in
    record {
      one_core = λ core other typed again.
          let one = d.typed core typed in
          let two = d.typed other again in
          sym one.2 ∙ ap parts_of (same_made _ one.0 two.0 one.1 two.1) ∙ two.2;
      one_refusal = λ number line number_again line_again limit limit_again refused again.
          let same = same_refusal _ _ _ (d.refused number line limit refused) (d.refused number_again line_again limit_again again) in
          (ap (λ (r : Refusal). r.decl) same, ap (λ (r : Refusal). r.line) same, ap (λ (r : Refusal). r.limit) same);
      never_both = λ core number line limit typed refused.
          let one = d.typed core typed in
          not_both _ one.0 _ one.1 (d.refused number line limit refused);
    }
