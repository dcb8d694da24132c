-- The outcomes of an expansion exclude each other.
use Rattle.std.proofs.Common.{◌≡◌, ℕ, ◌≤◌, ◌⊎◌, List, [], length, Option, Some, None, Result, Ok, Err, refl, sym, ◌∙◌, ap, subst, inl, inr, arith}
use Rattle.std.specs.Prelude.{IfErr, IfOk, IsErrOf, IsOkAnd}
use Rattle.lucid_lex.specs.declared.token.Token.{Token}
use Rattle.lucid_lex.specs.Piece.{Piece}
use Rattle.lucid_lex.specs.Reading.{Reads, joined, tokens_from}
use Rattle.lucid_size.specs.declared.error.SizeError.{SizeError}
use Rattle.lucid_size.specs.declared.error.SizeError.TheVariants as errors
use Rattle.lucid_size.specs.declared.template.Template.{Template}
use Rattle.lucid_size.specs.Parts.{names_of}
use Rattle.lucid_size.specs.Error.{Refuses}
use Rattle.lucid_size.specs.Expansion.{ExpandsTo, IsBroken, IsExpansion, IsTooBig, IsTwice, first_repeat, most}
use Rattle.lucid_size.specs.Templates.{Cut, templates}
use Rattle.lucid_size.proofs.Read.{expansion_reads}
use Rattle.lucid_size.proofs.Unique.{one_expansion, same_ok}

-- facts of a result
pub record Sound {T : Type 0} (text : List ℕ) (ts : List Token) (items : T → List ℕ) (r : Result T SizeError) : Type 0 where
  pub ok : IfOk r (λ o. ExpandsTo text ts (items o) × (length (items o) ≤ most))
  pub err : IfErr r (Refuses text ts)

module _ (text : List ℕ) (ts : List Token) where
  whole_or_broken : (n : ℕ) (xs : List Template) → IsBroken ts n → templates ts ≡ Ok xs → ⊥
  whole_or_broken n xs b w = let both : ◌≡◌ {A = Cut} (Err n) (Ok xs) = sym b ∙ w in cc

  one_broken : (n m : ℕ) → IsBroken ts n → IsBroken ts m → n ≡ m
  one_broken n m a b = let both : ◌≡◌ {A = Cut} (Err n) (Err m) = sym a ∙ b in cc

  one_twice : (a b : List ℕ) → IsTwice text ts a → IsTwice text ts b → a ≡ b
  one_twice a b s t =
      let xs = same_ok s.found t.found (templates ts) s.whole t.whole in
      let both : ◌≡◌ {A = Option (List ℕ)} (Some a) (Some b) = sym s.repeats ∙ ap (λ l. first_repeat [] (names_of text ts l)) xs ∙ t.repeats in
      cc

  twice_or_text : (a out : List ℕ) → IsTwice text ts a → ExpandsTo text ts out → ⊥
  twice_or_text a out s e =
      let xs = same_ok s.found e.1.found (templates ts) s.whole e.1.whole in
      let both : ◌≡◌ {A = Option (List ℕ)} (Some a) None = sym s.repeats ∙ ap (λ l. first_repeat [] (names_of text ts l)) xs ∙ e.1.distinct in
      cc

  one_text : (a b : List ℕ) → ExpandsTo text ts a → ExpandsTo text ts b → a ≡ b
  one_text a b s t = s.2 ∙ ap (λ ps. joined ps []) (one_expansion text ts s.0 t.0 s.1 t.1) ∙ sym t.2

  not_big : (out : List ℕ) → ExpandsTo text ts out → length out ≤ most → IsTooBig text ts → ⊥
  not_big out e small big =
      let same : length big.0 ≡ length out = ap length (one_text big.0 out big.1 e) in
      let above = big.2 in
      omega arith

  pub if_text : {T : Type 0} (items : T → List ℕ) (r : Result T SizeError) → Sound text ts items r → (out : List ℕ) → ExpandsTo text ts out → length out ≤ most → IsOkAnd r (λ o. items o ≡ out) ⊎ IsErrOf r errors.Memory
  if_text items (Ok o) s out e small = inl (one_text (items o) out s.ok.0 e)
  if_text items (Err (errors.Broken n)) s out e small = absurd (whole_or_broken n e.1.found s.err e.1.whole)
  if_text items (Err (errors.Twice name)) s out e small = absurd (twice_or_text name out s.err e)
  if_text items (Err errors.TooBig) s out e small = absurd (not_big out e small s.err)
  if_text items (Err errors.Memory) s out e small = inr refl

  pub if_broken : {T : Type 0} (items : T → List ℕ) (r : Result T SizeError) → Sound text ts items r → (n : ℕ) → IsBroken ts n → IsErrOf r (errors.Broken n) ⊎ IsErrOf r errors.Memory
  if_broken items (Ok o) s n b = absurd (whole_or_broken n s.ok.0.1.found b s.ok.0.1.whole)
  if_broken items (Err (errors.Broken k)) s n b = inl (ap (λ i. Err (errors.Broken i)) (one_broken k n s.err b))
  if_broken items (Err (errors.Twice name)) s n b = let t = s.err in absurd (whole_or_broken n t.found b t.whole)
  if_broken items (Err errors.TooBig) s n b = let t = s.err in absurd (whole_or_broken n t.1.1.found b t.1.1.whole)
  if_broken items (Err errors.Memory) s n b = inr refl

  pub if_twice : {T : Type 0} (items : T → List ℕ) (r : Result T SizeError) → Sound text ts items r → (name : List ℕ) → IsTwice text ts name → IsErrOf r (errors.Twice name) ⊎ IsErrOf r errors.Memory
  if_twice items (Ok o) s name t = absurd (twice_or_text name (items o) t s.ok.0)
  if_twice items (Err (errors.Broken k)) s name t = absurd (whole_or_broken k t.found s.err t.whole)
  if_twice items (Err (errors.Twice other)) s name t = inl (ap (λ i. Err (errors.Twice i)) (one_twice other name s.err t))
  if_twice items (Err errors.TooBig) s name t = let b = s.err in absurd (twice_or_text name b.0 t b.1)
  if_twice items (Err errors.Memory) s name t = inr refl

  pub if_big : {T : Type 0} (items : T → List ℕ) (r : Result T SizeError) → Sound text ts items r → IsTooBig text ts → IsErrOf r errors.TooBig ⊎ IsErrOf r errors.Memory
  if_big items (Ok o) s b = absurd (not_big (items o) s.ok.0 s.ok.1 b)
  if_big items (Err (errors.Broken k)) s b = absurd (whole_or_broken k b.1.1.found s.err b.1.1.whole)
  if_big items (Err (errors.Twice other)) s b = absurd (twice_or_text other b.0 s.err b.1)
  if_big items (Err errors.TooBig) s b = inl refl
  if_big items (Err errors.Memory) s b = inr refl

  text_reads : (out : List ℕ) → Reads text ts → ExpandsTo text ts out → (pieces : List Piece) → IsExpansion text ts pieces → Reads out (tokens_from 0 pieces)
  text_reads out reads e pieces is =
      let same : joined pieces [] ≡ out = ap (λ ps. joined ps []) (one_expansion text ts pieces e.0 is e.1) ∙ sym e.2 in
      subst (λ l. Reads l (tokens_from 0 pieces)) same (expansion_reads text ts pieces reads is)

  pub ok_reads : {T : Type 0} (items : T → List ℕ) (r : Result T SizeError) → Reads text ts → Sound text ts items r → IfOk r (λ o. (pieces : List Piece) → IsExpansion text ts pieces → Reads (items o) (tokens_from 0 pieces))
  ok_reads items (Ok o) reads s = text_reads (items o) reads s.ok.0
  ok_reads items (Err e) reads s = tt
