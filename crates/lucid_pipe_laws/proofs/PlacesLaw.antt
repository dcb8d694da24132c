-- The positions of packets in a picture.
use Rattle.std.proofs.Common.{◌≡◌, ℕ, zero, suc, ◌<◌, List, [], ◌∷◌, ◌++◌, length, take, get_or, Option, None, Some, is_some, nat_lt, true, refl, sym, ◌∙◌, ap, subst, arith, length-append}
use Rattle.std.proofs.lemmas.List.{get_or-take, get_or_at}
use Rattle.lucid_pipe_laws.proofs.LooksLaw.{after_first_stage, take-outs_of, take-take, after_none}
use Rattle.std.proofs.lemmas.Bool.Decides.{nat_tests}
use Rattle.lucid_pipe_laws.specs.Rows.{Row, row, Steps, after_first, whole}
use Rattle.lucid_pipe_laws.specs.Picture.{cells_after, outs_of, after, waiting, IsPicture}
use Rattle.lucid_pipe_laws.specs.Places.{Places, Leaves}

module _ {P : Type 0} where
  -- one stage's slot
  slot_place : (s : Option P) (m : ℕ) (ins : List P) → length (take m ins) ≡ m → take m ins ++ waiting s ≡ ins → is_some s ≡ nat_lt m (length ins)
  slot_place None m ins long parts = let e = ap length parts in let l = length-append (take m ins) (waiting {P = P} None) in grind (arith, nat_tests)
  slot_place (Some p) m ins long parts = let e = ap length parts in let l = length-append (take m ins) (p ∷ []) in grind (arith, nat_tests)

  some_true : (s : Option P) (p : P) → s ≡ Some p → is_some s ≡ true
  some_true s p is = ap is_some is

module _ {C P : Type 0} where
  outs_long : (f : C → P → C × P) (c : C) (ps : List P) → length (outs_of f c ps) ≡ length ps
  outs_long f c [] = refl
  outs_long f c (p ∷ ps) = ap suc (outs_long f (f c p).0 ps)

  pub places : (step : Steps C P) → Places step
  places step [] ins [] [] k d is lt = absurd (omega (arith, lt))
  places step [] ins [] (r ∷ rs) k d is lt = absurd is
  places step [] ins (m ∷ ms) rows k d is lt = absurd is
  places step (c ∷ cs) ins [] rows k d is lt = absurd is
  places step (c ∷ cs) ins (m ∷ ms) [] k d is lt = absurd is
  places step (c ∷ cs) ins (m ∷ ms) (r ∷ rs) zero d is lt = slot_place r.slot m ins is.0 is.1
  places step (c ∷ cs) ins (m ∷ ms) (r ∷ rs) (suc zero) d is lt =
      places (after_first step) cs (outs_of (step 0) c (take m ins)) ms rs zero d is.3 (omega (arith, lt)) ∙ ap (nat_lt (get_or ms zero 0)) (outs_long (step 0) c (take m ins) ∙ is.0)
  places step (c ∷ cs) ins (m ∷ ms) (r ∷ rs) (suc (suc k)) d is lt = places (after_first step) cs (outs_of (step 0) c (take m ins)) ms rs (suc k) d is.3 (omega (arith, lt))

  -- a packet before stage k is one of all
  of_all : (step : Steps C P) (cs : List C) (ins : List P) (ms : List ℕ) (rows : List (Row C P)) (k : ℕ) (d : Row C P) (p : P) → IsPicture step cs ins ms rows → k < length rows → (get_or rows k d).slot ≡ Some p →
      get_or ms k 0 < length ins
  of_all step [] ins [] [] k d p is lt full = absurd (omega (arith, lt))
  of_all step [] ins [] (r ∷ rs) k d p is lt full = absurd is
  of_all step [] ins (m ∷ ms) rows k d p is lt full = absurd is
  of_all step (c ∷ cs) ins [] rows k d p is lt full = absurd is
  of_all step (c ∷ cs) ins (m ∷ ms) [] k d p is lt full = absurd is
  of_all step (c ∷ cs) ins (m ∷ ms) (r ∷ rs) zero d p is lt full = let e = slot_place r.slot m ins is.0 is.1 in let f = some_true r.slot p full in grind (arith, nat_tests)
  of_all step (c ∷ cs) ins (m ∷ ms) (r ∷ rs) (suc k) d p is lt full =
      omega (arith, of_all (after_first step) cs (outs_of (step 0) c (take m ins)) ms rs k d p is.3 (omega (arith, lt)) full, outs_long (step 0) c (take m ins), is.0, ap length is.1, length-append (take m ins) (waiting r.slot))

  outs_at : (f : C → P → C × P) (c : C) (ps : List P) (j : ℕ) (e : P) → j < length ps → get_or (outs_of f c ps) j e ≡ (f (cells_after f c (take j ps)) (get_or ps j e)).1
  outs_at f c [] j e lt = absurd (omega (arith, lt))
  outs_at f c (p ∷ ps) zero e lt = refl
  outs_at f c (p ∷ ps) (suc j) e lt = outs_at f (f c p).0 ps j e (omega (arith, lt))

  pub leaves_whole : (step : Steps C P) → Leaves step
  leaves_whole step [] ins [] [] k c p e is here end = cc
  leaves_whole step [] ins [] (r ∷ rs) k c p e is here end = absurd is
  leaves_whole step [] ins (m ∷ ms) rows k c p e is here end = absurd is
  leaves_whole step (c0 ∷ cs) ins [] rows k c p e is here end = absurd is
  leaves_whole step (c0 ∷ cs) ins (m ∷ ms) [] k c p e is here end = absurd is
  leaves_whole step (c0 ∷ []) ins (m ∷ []) (r ∷ []) zero c p e is here end =
      let front = take m ins in
      let cells : c ≡ cells_after (step 0) c0 front = ap (λ (x : Row C P). x.cells) (sym here) ∙ is.2 in
      let parts : front ++ p ∷ [] ≡ ins = subst (λ (s : Option P). front ++ waiting s ≡ ins) (ap (λ (x : Row C P). x.slot) here) is.1 in
      let packet : p ≡ get_or ins m e = sym (get_or_at front p [] e m is.0) ∙ ap (λ (l : List P). get_or l m e) parts in
      let rest : after step (c0 ∷ []) front ≡ cells_after (step 0) c0 front ∷ [] =
      after_first_stage step c0 [] front ∙ ap (λ (l : List C). cells_after (step 0) c0 front ∷ l) (after_none (after_first step) (outs_of (step 0) c0 front)) in
      let ran : (step 0 c p).1 ≡ (step 0 (cells_after (step 0) c0 front) (get_or ins m e)).1 = ap (λ (x : C). (step 0 x p).1) cells ∙ ap (λ (q : P). (step 0 (cells_after (step 0) c0 front) q).1) packet in
      ran ∙ sym (ap (λ (l : List C). (whole step l (get_or ins m e)).1) rest)
  leaves_whole step (c0 ∷ []) ins (m ∷ n ∷ ms) (r ∷ rs) zero c p e is here end = absurd is.3
  leaves_whole step (c0 ∷ []) ins (m ∷ []) (r ∷ q ∷ rs) zero c p e is here end = absurd is.3
  leaves_whole step (c0 ∷ c1 ∷ cs) ins (m ∷ []) (r ∷ rs) zero c p e is here end = absurd is.3
  leaves_whole step (c0 ∷ c1 ∷ cs) ins (m ∷ n ∷ ms) (r ∷ []) zero c p e is here end = absurd is.3
  leaves_whole step (c0 ∷ c1 ∷ cs) ins (m ∷ n ∷ ms) (r ∷ q ∷ rs) zero c p e is here end = cc
  leaves_whole step (c0 ∷ cs) ins (m ∷ ms) (r ∷ rs) (suc k) c p e is here end =
      let j = get_or ms k 0 in
      let front = take m ins in
      let outs = outs_of (step 0) c0 front in
      let before : j < length outs = of_all (after_first step) cs outs ms rs k (row c None) p is.3 (omega (arith, end)) (ap (λ (x : Row C P). x.slot) here) in
      let below : j < length front = omega (arith, before, outs_long (step 0) c0 front) in
      let short : take j front ≡ take j ins = take-take j m ins (omega (arith, below, is.0)) in
      let outs_short : take j outs ≡ outs_of (step 0) c0 (take j ins) = take-outs_of (step 0) c0 j front ∙ ap (outs_of (step 0) c0) short in
      let first : C = cells_after (step 0) c0 (take j ins) in
      let packet : get_or outs j e ≡ (step 0 first (get_or ins j e)).1 =
      outs_at (step 0) c0 front j e below ∙ ap (λ (l : List P). (step 0 (cells_after (step 0) c0 l) (get_or front j e)).1) short ∙ ap (λ (x : P). (step 0 first x).1) (get_or-take m ins j e (omega (arith, below, is.0))) in
      let deeper = leaves_whole (after_first step) cs outs ms rs k c p e is.3 here cc in
      let cells = ap (λ (l : List P). (whole (after_first step) (after (after_first step) cs l) (get_or outs j e)).1) outs_short in
      let same = ap (λ (x : P). (whole (after_first step) (after (after_first step) cs (outs_of (step 0) c0 (take j ins))) x).1) packet in
      let all = ap (λ (l : List C). (whole step l (get_or ins j e)).1) (after_first_stage step c0 cs (take j ins)) in
      deeper ∙ cells ∙ same ∙ sym all
