-- What the expansion answered is what a text is expanded to, or the first cause why it isn't.
use Rattle.std.proofs.Common.{◌≡◌, ℕ, ◌<◌, ◌≤◌, List, [], Option, Some, None, Result, Ok, Err, length, ap, sym, ◌∙◌, subst, refl, arith}
use Rattle.lucid_lex.specs.declared.token.Token.{Token}
use Rattle.lucid_lex.specs.Piece.{Piece}
use Rattle.lucid_lex.specs.Reading.{joined}
use Rattle.lucid_size.specs.declared.error.SizeError.{SizeError}
use Rattle.lucid_size.specs.declared.error.SizeError.TheVariants as size
use Rattle.lucid_size.specs.Expansion.{ExpandsTo, IsBroken, IsExpansion, IsTooBig, IsTwice, first_repeat, most}
use Rattle.lucid_size.specs.Parts.{names_of}
use Rattle.lucid_top_words.specs.declared.refusal.Refusal.{Refusal}
use Rattle.lucid_top_words.specs.declared.refusal.Refusal.TheVariants as refusal
use Rattle.lucid_top_words.specs.declared.sizes.BadSizes.TheVariants as sizes
use Rattle.lucid_top_words.specs.Outcome.{Alike, IsTheAnswer, Declines}
use Rattle.lucid_top_program.specs.Causes.{of_size}
use Rattle.lucid_top_program.specs.Program.{IsExpanded}

one-ok : {A B : Type 0} {x y : A} → ◌≡◌ {A = Result A B} (Ok x) (Ok y) → x ≡ y
one-ok same = cc

ok-err : {A B : Type 0} {x : A} {e : B} → ◌≡◌ {A = Result A B} (Ok x) (Err e) → ⊥
ok-err same = absurd (cc)

one-err : {A B : Type 0} {e f : B} → ◌≡◌ {A = Result A B} (Err e) (Err f) → e ≡ f
one-err same = cc

module _ (text : List ℕ) (ts : List Token)
    (one : (pieces others : List Piece) → IsExpansion text ts pieces → IsExpansion text ts others → pieces ≡ others) where
  same-text : (out other : List ℕ) → ExpandsTo text ts out → ExpandsTo text ts other → other ≡ out
  same-text out other a b = b.2 ∙ ap (λ (pieces : List Piece). joined pieces []) (one b.0 a.0 b.1 a.1) ∙ sym a.2

  -- the text has two templates of one name, or none has the name of another
  distinct-twice : (name : List ℕ) (pieces : List Piece) → IsExpansion text ts pieces → IsTwice text ts name → ⊥
  distinct-twice name pieces is twice =
      let same = one-ok (sym twice.whole ∙ is.whole) in
      let none = subst (λ xs. first_repeat [] (names_of text ts xs) ≡ None) (sym same) is.distinct in
      let both : ◌≡◌ {A = Option (List ℕ)} None (Some name) = sym none ∙ twice.repeats in absurd (cc)

  one-name : (name other : List ℕ) → IsTwice text ts name → IsTwice text ts other → other ≡ name
  one-name name other a b =
      let same = one-ok (sym b.whole ∙ a.whole) in
      let there = subst (λ xs. first_repeat [] (names_of text ts xs) ≡ Some other) same b.repeats in
      let both : ◌≡◌ {A = Option (List ℕ)} (Some other) (Some name) = sym there ∙ a.repeats in cc

  pub expanded : (out : List ℕ) → ExpandsTo text ts out → length out ≤ most → IsTheAnswer (IsExpanded text ts) (Ok out)
  expanded out is small = record { is = (is, small); only = only }
    where
      only : (p : Result (List ℕ) Refusal) → IsExpanded text ts p → Alike p (Ok out)
      only (Ok other) o = same-text out other is o.0
      only (Err (refusal.Sizes (sizes.Broken n))) o = absurd (ok-err (sym is.1.whole ∙ o))
      only (Err (refusal.Sizes (sizes.Twice name))) o = absurd (distinct-twice name is.0 is.1 o)
      only (Err (refusal.Sizes sizes.TooLong)) o =
          let large : most < length out = subst (λ (l : List ℕ). most < length l) (same-text out o.0 is o.1) o.2 in absurd (omega arith)
      only (Err r) o = absurd o

  pub not-expanded : (e : SizeError) → ((n : ℕ) → e ≡ size.Broken n → IsBroken ts n) → ((name : List ℕ) → e ≡ size.Twice name → IsTwice text ts name) →
      (e ≡ size.TooBig → IsTooBig text ts) → Declines (IsExpanded text ts) (of_size e)
  not-expanded size.Memory broken twice big = tt
  not-expanded (size.Broken m) broken twice big = record { is = broken m refl; only = only }
    where
      only : (p : Result (List ℕ) Refusal) → IsExpanded text ts p → Alike p (Err (refusal.Sizes (sizes.Broken m)))
      only (Ok other) o = absurd (ok-err (sym o.0.1.whole ∙ broken m refl))
      only (Err (refusal.Sizes (sizes.Broken n))) o = ap (λ (k : ℕ). refusal.Sizes (sizes.Broken k)) (one-err (sym o ∙ broken m refl))
      only (Err (refusal.Sizes (sizes.Twice name))) o = absurd (ok-err (sym o.whole ∙ broken m refl))
      only (Err (refusal.Sizes sizes.TooLong)) o = absurd (ok-err (sym o.1.1.whole ∙ broken m refl))
      only (Err r) o = absurd o
  not-expanded (size.Twice name) broken twice big = record { is = twice name refl; only = only }
    where
      only : (p : Result (List ℕ) Refusal) → IsExpanded text ts p → Alike p (Err (refusal.Sizes (sizes.Twice name)))
      only (Ok other) o = absurd (distinct-twice name o.0.0 o.0.1 (twice name refl))
      only (Err (refusal.Sizes (sizes.Broken n))) o = absurd (ok-err (sym (twice name refl).whole ∙ o))
      only (Err (refusal.Sizes (sizes.Twice other))) o = ap (λ (n : List ℕ). refusal.Sizes (sizes.Twice n)) (one-name name other (twice name refl) o)
      only (Err (refusal.Sizes sizes.TooLong)) o = absurd (distinct-twice name o.1.0 o.1.1 (twice name refl))
      only (Err r) o = absurd o
  not-expanded size.TooBig broken twice big = record { is = big refl; only = only }
    where
      only : (p : Result (List ℕ) Refusal) → IsExpanded text ts p → Alike p (Err (refusal.Sizes sizes.TooLong))
      only (Ok other) o =
          let large : most < length other = subst (λ (l : List ℕ). most < length l) (same-text other (big refl).0 o.0 (big refl).1) (big refl).2 in
          let small : length other ≤ most = o.1 in absurd (omega arith)
      only (Err (refusal.Sizes (sizes.Broken n))) o = absurd (ok-err (sym (big refl).1.1.whole ∙ o))
      only (Err (refusal.Sizes (sizes.Twice name))) o = absurd (distinct-twice name (big refl).1.0 (big refl).1.1 o)
      only (Err (refusal.Sizes sizes.TooLong)) o = refl
      only (Err r) o = absurd o
