-- The numbers of declarations rise along functions and along handlers, and no function has that of a handler.
use Rattle.std.proofs.Common.{◌≡◌, ℕ, ◌+◌, ◌≤◌, List, [], ◌∷◌, ◌++◌, Bool, true, false, not, map, nat_eq, nat_lt, refl, ap, ◌∙◌, arith}
use Rattle.std.specs.List.{list_all}
use Rattle.std.proofs.lemmas.Bool.{and_from, and_parts, le-leb}
use Rattle.std.proofs.lemmas.Bool.Decides.{nat_tests}
use Rattle.lucid_core.specs.declared.defs.FunDef.{FunDef}
use Rattle.lucid_core.specs.declared.defs.HandlerDef.{HandlerDef}
use Rattle.lucid_core.specs.Numbered.{rising}
use Rattle.lucid_types_laws.proofs.Lists.{all_end}

-- Of what was declared before this number.
pub record Counted (number : ℕ) (funs : List FunDef) (handlers : List HandlerDef) : Type 0 where
  pub first : 1 ≤ number
  pub funs_rise : rising 1 (map (λ f. f.decl) funs) ≡ true
  pub handlers_rise : rising 1 (map (λ h. h.decl) handlers) ≡ true
  pub funs_before : list_all (λ f. nat_lt f.decl number) funs ≡ true
  pub handlers_before : list_all (λ h. nat_lt h.decl number) handlers ≡ true
  pub apart : list_all (λ h. list_all (λ f. not (nat_eq f.decl h.decl)) funs) handlers ≡ true

next_is : (x n : ℕ) → nat_lt x n ≡ true → x + 1 ≤ n
next_is x n h = grind (arith, nat_tests)

below_next : (x n : ℕ) → nat_lt x n ≡ true → nat_lt x (n + 1) ≡ true
below_next x n h = grind (arith, nat_tests)

below_itself : (n : ℕ) → nat_lt n (n + 1) ≡ true
below_itself n = grind (arith, nat_tests)

not_same : (x n : ℕ) → nat_lt x n ≡ true → not (nat_eq x n) ≡ true
not_same x n h = by (nat_eq x n) refl
  where
    by : (b : Bool) → nat_eq x n ≡ b → not b ≡ true
    by true is = absurd (grind (arith, nat_tests))
    by false is = refl

not_same_back : (x n : ℕ) → nat_lt x n ≡ true → not (nat_eq n x) ≡ true
not_same_back x n h = by (nat_eq n x) refl
  where
    by : (b : Bool) → nat_eq n x ≡ b → not b ≡ true
    by true is = absurd (grind (arith, nat_tests))
    by false is = refl

module _ {A : Type 0} (decl : A → ℕ) where
  rising_end : (least : ℕ) (xs : List A) (x : A) → least ≤ decl x → rising least (map decl xs) ≡ true → list_all (λ y. nat_lt (decl y) (decl x)) xs ≡ true →
      rising least (map decl (xs ++ x ∷ [])) ≡ true
  rising_end least [] x low rise before = and_from _ _ (le-leb least (decl x) low) refl
  rising_end least (y ∷ xs) x low rise before =
      let r = and_parts _ _ rise in
      let b = and_parts _ _ before in
      and_from _ _ r.0 (rising_end (decl y + 1) xs x (next_is (decl y) (decl x) b.0) r.1 b.1)

  weaker : (one two : A → Bool) (xs : List A) → ((x : A) → one x ≡ true → two x ≡ true) → list_all one xs ≡ true → list_all two xs ≡ true
  weaker one two [] f h = refl
  weaker one two (x ∷ xs) f h = let parts = and_parts _ _ h in and_from _ _ (f x parts.0) (weaker one two xs f parts.1)

  before_next : (number : ℕ) (xs : List A) → list_all (λ x. nat_lt (decl x) number) xs ≡ true → list_all (λ x. nat_lt (decl x) (number + 1)) xs ≡ true
  before_next number xs h = weaker (λ x. nat_lt (decl x) number) (λ x. nat_lt (decl x) (number + 1)) xs (λ x is. below_next (decl x) number is) h

-- Neither a function nor a handler is declared.
pub none_more : (number : ℕ) (funs : List FunDef) (handlers : List HandlerDef) → Counted number funs handlers → Counted (number + 1) funs handlers
none_more number funs handlers c = record {
  first = (let low = c.first in omega (arith, low));
  funs_rise = c.funs_rise;
  handlers_rise = c.handlers_rise;
  funs_before = before_next (λ f. f.decl) number funs c.funs_before;
  handlers_before = before_next (λ h. h.decl) number handlers c.handlers_before;
  apart = c.apart;
}

pub fun_more : (number : ℕ) (funs : List FunDef) (handlers : List HandlerDef) (f : FunDef) → f.decl ≡ number → Counted number funs handlers →
    Counted (number + 1) (funs ++ f ∷ []) handlers
fun_more number funs handlers f is c =
    let old = none_more number funs handlers c in
    record {
      first = old.first;
      funs_rise = rising_end (λ g. g.decl) 1 funs f (let low = c.first in omega (arith, low, is)) c.funs_rise
          (weaker (λ g. g.decl) (λ g. nat_lt g.decl number) (λ g. nat_lt g.decl f.decl) funs (λ g h. ap (nat_lt g.decl) is ∙ h) c.funs_before);
      handlers_rise = c.handlers_rise;
      funs_before = all_end (λ g. nat_lt g.decl (number + 1)) funs f old.funs_before (ap (λ n. nat_lt n (number + 1)) is ∙ below_itself number);
      handlers_before = old.handlers_before;
      apart = each handlers c.handlers_before c.apart;
    }
  where
    each : (hs : List HandlerDef) → list_all (λ h. nat_lt h.decl number) hs ≡ true → list_all (λ h. list_all (λ g. not (nat_eq g.decl h.decl)) funs) hs ≡ true →
        list_all (λ h. list_all (λ g. not (nat_eq g.decl h.decl)) (funs ++ f ∷ [])) hs ≡ true
    each [] before apart = refl
    each (h ∷ hs) before apart =
        let b = and_parts _ _ before in
        let a = and_parts _ _ apart in
        and_from _ _ (all_end (λ g. not (nat_eq g.decl h.decl)) funs f a.0 (ap (λ n. not (nat_eq n h.decl)) is ∙ not_same_back h.decl number b.0)) (each hs b.1 a.1)

pub handler_more : (number : ℕ) (funs : List FunDef) (handlers : List HandlerDef) (g : HandlerDef) → g.decl ≡ number → Counted number funs handlers →
    Counted (number + 1) funs (handlers ++ g ∷ [])
handler_more number funs handlers g is c =
    let old = none_more number funs handlers c in
    record {
      first = old.first;
      funs_rise = c.funs_rise;
      handlers_rise = rising_end (λ h. h.decl) 1 handlers g (let low = c.first in omega (arith, low, is)) c.handlers_rise
          (weaker (λ h. h.decl) (λ h. nat_lt h.decl number) (λ h. nat_lt h.decl g.decl) handlers (λ h below. ap (nat_lt h.decl) is ∙ below) c.handlers_before);
      funs_before = old.funs_before;
      handlers_before = all_end (λ h. nat_lt h.decl (number + 1)) handlers g old.handlers_before (ap (λ n. nat_lt n (number + 1)) is ∙ below_itself number);
      apart = all_end (λ h. list_all (λ f. not (nat_eq f.decl h.decl)) funs) handlers g c.apart
          (weaker (λ f. f.decl) (λ f. nat_lt f.decl number) (λ f. not (nat_eq f.decl g.decl)) funs (λ f below. ap (λ n. not (nat_eq f.decl n)) is ∙ not_same f.decl number below) c.funs_before);
    }
