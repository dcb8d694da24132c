-- Texts that are drawn and written one after another.
use Rattle.std.proofs.Common.{◌≡◌, ℕ, zero, suc, ◌+◌, ◌<◌, List, [], ◌∷◌, ◌++◌, length, refl, sym, ◌∙◌, ap, append_assoc, add-one, length-append, arith}
use Rattle.std.specs.List.{concat, join_with_byte}
use Rattle.std.proofs.lemmas.List.{append-nil}
use Rattle.std.proofs.lemmas.List.Folds.{concat-append}
use Rattle.lucid_gen.specs.Draws.{Draw, Drawn, Writes, give, times, ◌>>=◌}
use Rattle.lucid_gen.specs.Scene.{item, items}

-- one text more
pub concat_more : (texts : List (List ℕ)) (text before so out : List ℕ) → so ≡ before ++ concat texts → out ≡ so ++ text → out ≡ before ++ concat (texts ++ text ∷ [])
concat_more texts text before so out was wrote =
    wrote ∙ ap (λ t. t ++ text) was ∙ append_assoc before (concat texts) text
    ∙ ap (λ t. before ++ t) (ap (λ t. concat texts ++ t) (sym (append-nil text)) ∙ sym (concat-append texts (text ∷ [])))

join_more : (texts : List (List ℕ)) (text : List ℕ) → 0 < length texts → join_with_byte 44 (texts ++ text ∷ []) ≡ join_with_byte 44 texts ++ 44 ∷ text
join_more [] text some = absurd (omega arith)
join_more (x ∷ []) text some = refl
join_more (x ∷ y ∷ ys) text some = ap (λ t. x ++ 44 ∷ t) (join_more (y ∷ ys) text (omega arith)) ∙ sym (append_assoc x (44 ∷ join_with_byte 44 (y ∷ ys)) (44 ∷ text))

-- one more draw
times_more : {A : Type 0} (draw : ℕ → Draw A) (s n : ℕ)
    → times (n + 1) draw s ≡ record { gives = (times n draw s).gives ++ (draw n (times n draw s).after).gives ∷ []; after = (draw n (times n draw s).after).after }
unfolding times
times_more draw s n = rw add-one refl

times_length : {A : Type 0} (draw : ℕ → Draw A) (s n : ℕ) → length (times n draw s).gives ≡ n
unfolding times
times_length draw s zero = refl
times_length draw s (suc n) = length-append (times n draw s).gives _ ∙ (let h = times_length draw s n in omega arith)

-- n texts in a row
abbrev pub row : ℕ → (ℕ → Draw (List ℕ)) → Draw (List ℕ)
row n draw = do texts ← times n draw; give (concat texts)

module _ (draw : ℕ → Draw (List ℕ)) {s : ℕ} {before : List ℕ} where
  pub none_written : Writes (row 0 draw) s before s before
  unfolding times
  none_written = record { gives = sym (append-nil before); after = refl }

  pub one_more : {n now end : ℕ} {so out : List ℕ} → Writes (row n draw) s before now so → out ≡ so ++ (draw n now).gives → end ≡ (draw n now).after
      → Writes (row (n + 1) draw) s before end out
  one_more {n = n} {so = so} {out = out} w wrote is = record {
    gives = concat_more (times n draw s).gives (draw n (times n draw s).after).gives before so out w.gives (wrote ∙ ap (λ t. so ++ (draw n t).gives) w.after)
        ∙ ap (λ (d : Drawn (List (List ℕ))). before ++ concat d.gives) (sym (times_more draw s n));
    after = is ∙ ap (λ t. (draw n t).after) w.after ∙ ap (λ (d : Drawn (List (List ℕ))). d.after) (sym (times_more draw s n));
  }

module _ {s : ℕ} {before : List ℕ} where
  pub first_joined : {end : ℕ} {out : List ℕ} → out ≡ before ++ (item 0 s).gives → end ≡ (item 0 s).after → Writes (items 1) s before end out
  unfolding times
  first_joined wrote is = record { gives = wrote; after = is }

  pub next_joined : {n now end : ℕ} {so cut out : List ℕ} → 0 < n → Writes (items n) s before now so → cut ≡ so ++ 44 ∷ [] → out ≡ cut ++ (item n now).gives → end ≡ (item n now).after
      → Writes (items (n + 1)) s before end out
  next_joined {n = n} {now = now} {so = so} {out = out} some j comma wrote is =
      let texts = (times n item s).gives in
      let text = (item n (times n item s).after).gives in
      let few : 0 < length texts = let h = times_length item s n in omega arith in
      record {
        gives = wrote ∙ ap (λ t. t ++ (item n now).gives) comma ∙ append_assoc so (44 ∷ []) (item n now).gives ∙ ap (λ t. so ++ 44 ∷ (item n t).gives) j.after ∙ ap (λ t. t ++ 44 ∷ text) j.gives
            ∙ append_assoc before (join_with_byte 44 texts) (44 ∷ text) ∙ ap (λ t. before ++ t) (sym (join_more texts text few))
            ∙ ap (λ (d : Drawn (List (List ℕ))). before ++ join_with_byte 44 d.gives) (sym (times_more item s n));
        after = is ∙ ap (λ t. (item n t).after) j.after ∙ ap (λ (d : Drawn (List (List ℕ))). d.after) (sym (times_more item s n));
      }

-- four parts, one behind another
pub four_parts : (start a b c d : List ℕ) {first second third end : List ℕ} → first ≡ start ++ a → second ≡ first ++ b → third ≡ second ++ c → end ≡ third ++ d → end ≡ start ++ (a ++ b ++ c ++ d)
four_parts start a b c d p q r s = s ∙ ap (λ t. t ++ d) (r ∙ ap (λ t. t ++ c) (q ∙ ap (λ t. t ++ b) p)) ∙ simp append_assoc
