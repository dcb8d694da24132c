-- The result of a look in the middle of flight.
use Rattle.std.proofs.Common.{◌≡◌, ℕ, zero, suc, ◌+◌, ◌≤◌, List, [], ◌∷◌, ◌++◌, length, take, get_or, Option, None, Some, refl, sym, ◌∙◌, ap, subst, arith, length-append}
use Rattle.std.proofs.lemmas.List.{append-nil, take_all, take_at}
use Rattle.lucid_pipe_laws.specs.Rows.{Row, row, Steps, after_first, whole, settled, settled_row}
use Rattle.lucid_pipe_laws.specs.Picture.{cells_after, outs_of, after, waiting, IsPicture, Looks, KeepsPicture, LeavesPicture, EntersPicture, SettlesToAll}

pub take-take : {P : Type 0} (n m : ℕ) (ps : List P) → n ≤ m → take n (take m ps) ≡ take n ps
take-take zero m ps le = refl
take-take (suc n) zero ps le = absurd (omega (arith, le))
take-take (suc n) (suc m) [] le = refl
take-take {P = P} (suc n) (suc m) (p ∷ ps) le = ap (λ (l : List P). p ∷ l) (take-take n m ps (omega (arith, le)))

module _ {C P : Type 0} where
  -- the first stage's cells, and the other stages' over the packets after it
  pub after_first_stage : (step : Steps C P) (c : C) (cs : List C) (ps : List P) → after step (c ∷ cs) ps ≡ cells_after (step 0) c ps ∷ after (after_first step) cs (outs_of (step 0) c ps)
  after_first_stage step c cs [] = refl
  after_first_stage step c cs (p ∷ ps) = after_first_stage step (step 0 c p).0 (whole (after_first step) cs (step 0 c p).1).0 ps

  pub take-outs_of : (f : C → P → C × P) (c : C) (n : ℕ) (ps : List P) → take n (outs_of f c ps) ≡ outs_of f c (take n ps)
  take-outs_of f c zero ps = refl
  take-outs_of f c (suc n) [] = refl
  take-outs_of f c (suc n) (p ∷ ps) = ap (λ (l : List P). (f c p).1 ∷ l) (take-outs_of f (f c p).0 n ps)

  length-outs_of : (f : C → P → C × P) (c : C) (ps : List P) → length (outs_of f c ps) ≡ length ps
  length-outs_of f c [] = refl
  length-outs_of f c (p ∷ ps) = ap suc (length-outs_of f (f c p).0 ps)

  -- no more passed a stage than came before the first
  pub no_more : (step : Steps C P) (cs : List C) (ins : List P) (ms : List ℕ) (rows : List (Row C P)) (k : ℕ) → IsPicture step cs ins ms rows → get_or ms k 0 ≤ length ins
  no_more step [] ins [] [] k is = omega arith
  no_more step [] ins [] (r ∷ rs) k is = absurd is
  no_more step [] ins (m ∷ ms) rows k is = absurd is
  no_more step (c ∷ cs) ins [] rows k is = absurd is
  no_more step (c ∷ cs) ins (m ∷ ms) [] k is = absurd is
  no_more step (c ∷ cs) ins (m ∷ ms) (r ∷ rs) zero is = omega (arith, is.0, ap length is.1, length-append (take m ins) (waiting r.slot))
  no_more step (c ∷ cs) ins (m ∷ ms) (r ∷ rs) (suc k) is =
      omega (arith, no_more (after_first step) cs (outs_of (step 0) c (take m ins)) ms rs k is.3, length-outs_of (step 0) c (take m ins), is.0, ap length is.1, length-append (take m ins) (waiting r.slot))

  pub looks : (step : Steps C P) → Looks step
  looks step [] ins [] [] k d is lt = absurd (omega (arith, lt))
  looks step [] ins [] (r ∷ rs) k d is lt = absurd is
  looks step [] ins (m ∷ ms) rows k d is lt = absurd is
  looks step (c ∷ cs) ins [] rows k d is lt = absurd is
  looks step (c ∷ cs) ins (m ∷ ms) [] k d is lt = absurd is
  looks step (c ∷ cs) ins (m ∷ ms) (r ∷ rs) zero d is lt = is.2 ∙ sym (ap (λ (l : List C). get_or l 0 d.cells) (after_first_stage step c cs (take m ins)))
  looks step (c ∷ cs) ins (m ∷ ms) (r ∷ rs) (suc k) d is lt =
      let n = get_or ms k 0 in
      let less : n ≤ m = omega (arith, no_more (after_first step) cs (outs_of (step 0) c (take m ins)) ms rs k is.3, length-outs_of (step 0) c (take m ins), is.0) in
      looks (after_first step) cs (outs_of (step 0) c (take m ins)) ms rs k d is.3 (omega (arith, lt))
      ∙ ap (λ (l : List P). get_or (after (after_first step) cs l) k d.cells) (take-outs_of (step 0) c n (take m ins) ∙ ap (outs_of (step 0) c) (take-take n m ins less))
      ∙ sym (ap (λ (l : List C). get_or l (suc k) d.cells) (after_first_stage step c cs (take n ins)))

  cells_after-push : (f : C → P → C × P) (c : C) (ps : List P) (p : P) → cells_after f c (ps ++ p ∷ []) ≡ (f (cells_after f c ps) p).0
  cells_after-push f c [] p = refl
  cells_after-push f c (x ∷ ps) p = cells_after-push f (f c x).0 ps p

  outs_of-push : (f : C → P → C × P) (c : C) (ps : List P) (p : P) → outs_of f c (ps ++ p ∷ []) ≡ outs_of f c ps ++ (f (cells_after f c ps) p).1 ∷ []
  outs_of-push f c [] p = refl
  outs_of-push f c (x ∷ ps) p = ap (λ (l : List P). (f c x).1 ∷ l) (outs_of-push f (f c x).0 ps p)

  goes_first : (step : Steps C P) (c0 c1 c d : C) (cs : List C) (ins : List P) (m n : ℕ) (ms : List ℕ) (p : P) (rs : List (Row C P)) →
      IsPicture step (c0 ∷ c1 ∷ cs) ins (m ∷ n ∷ ms) (row c (Some p) ∷ row d None ∷ rs) →
      IsPicture step (c0 ∷ c1 ∷ cs) ins ((m + 1) ∷ n ∷ ms) (row (step 0 c p).0 None ∷ row d (Some (step 0 c p).1) ∷ rs)
  goes_first step c0 c1 c d cs ins m n ms p rs is =
      let front = take m ins in
      let long : length ins ≡ m + 1 = omega (arith, is.0, ap length is.1, length-append front (p ∷ [])) in
      let all : take (m + 1) ins ≡ ins = take_all (m + 1) ins (omega (arith, long)) in
      let parts : take (m + 1) ins ≡ front ++ p ∷ [] = all ∙ sym is.1 in
      let outs = outs_of (step 0) c0 front in
      let x = (step 0 c p).1 in
      let outs_are : outs_of (step 0) c0 (take (m + 1) ins) ≡ outs ++ x ∷ [] =
      ap (outs_of (step 0) c0) parts ∙ outs_of-push (step 0) c0 front p ∙ ap (λ (e : C). outs ++ (step 0 e p).1 ∷ []) (sym is.2) in
      let kept : take n outs ≡ outs = sym (append-nil (take n outs)) ∙ is.3.1 in
      let same : take n (outs_of (step 0) c0 (take (m + 1) ins)) ≡ take n outs =
      ap (take n) outs_are ∙ take_at outs (x ∷ []) n (sym (ap length kept) ∙ is.3.0) ∙ sym kept in (
        ap length all ∙ long,
        append-nil (take (m + 1) ins) ∙ all,
        ap (λ (e : C). (step 0 e p).0) is.2 ∙ sym (cells_after-push (step 0) c0 front p) ∙ ap (cells_after (step 0) c0) (sym parts),
        (
          ap length same ∙ is.3.0,
          ap (λ (l : List P). l ++ x ∷ []) (same ∙ kept) ∙ sym outs_are,
          is.3.2 ∙ ap (cells_after (step (suc zero)) c1) (sym same),
          subst (λ (l : List P). IsPicture (after_first (after_first step)) cs (outs_of (step (suc zero)) c1 l) ms rs) (sym same) is.3.3,
        ),
      )

  pub keeps_picture : (step : Steps C P) → KeepsPicture step
  keeps_picture step [] ins [] [] k c d p is here next = cc
  keeps_picture step [] ins [] (r ∷ rs) k c d p is here next = absurd is
  keeps_picture step [] ins (m ∷ ms) rows k c d p is here next = absurd is
  keeps_picture step (c0 ∷ cs) ins [] rows k c d p is here next = absurd is
  keeps_picture step (c0 ∷ cs) ins (m ∷ ms) [] k c d p is here next = absurd is
  keeps_picture step (c0 ∷ cs) ins (m ∷ ms) (r ∷ rs) (suc k) c d p is here next =
      (is.0, is.1, is.2, keeps_picture (after_first step) cs (outs_of (step 0) c0 (take m ins)) ms rs k c d p is.3 here next)
  keeps_picture step (c0 ∷ []) ins (m ∷ ms) (r ∷ []) zero c d p is here next = cc
  keeps_picture step (c0 ∷ []) ins (m ∷ []) (r ∷ q ∷ rs) zero c d p is here next = absurd is.3
  keeps_picture step (c0 ∷ []) ins (m ∷ n ∷ ms) (r ∷ q ∷ rs) zero c d p is here next = absurd is.3
  keeps_picture step (c0 ∷ c1 ∷ cs) ins (m ∷ []) (r ∷ rs) zero c d p is here next = absurd is.3
  keeps_picture step (c0 ∷ c1 ∷ cs) ins (m ∷ n ∷ ms) (r ∷ []) zero c d p is here next = cc
  keeps_picture step (c0 ∷ c1 ∷ cs) ins (m ∷ n ∷ ms) (r ∷ q ∷ rs) zero c d p is here next =
      let first : r ≡ row c (Some p) = cc in
      let second : q ≡ row d None = cc in
      goes_first step c0 c1 c d cs ins m n ms p rs
      (subst (λ (y : Row C P). IsPicture step (c0 ∷ c1 ∷ cs) ins (m ∷ n ∷ ms) (row c (Some p) ∷ y ∷ rs)) second
      (subst (λ (x : Row C P). IsPicture step (c0 ∷ c1 ∷ cs) ins (m ∷ n ∷ ms) (x ∷ q ∷ rs)) first is))

  pub leaves_picture : (step : Steps C P) → LeavesPicture step
  leaves_picture step [] ins [] [] k c p is here end = cc
  leaves_picture step [] ins [] (r ∷ rs) k c p is here end = absurd is
  leaves_picture step [] ins (m ∷ ms) rows k c p is here end = absurd is
  leaves_picture step (c0 ∷ cs) ins [] rows k c p is here end = absurd is
  leaves_picture step (c0 ∷ cs) ins (m ∷ ms) [] k c p is here end = absurd is
  leaves_picture step (c0 ∷ cs) ins (m ∷ ms) (r ∷ rs) (suc k) c p is here end =
      (is.0, is.1, is.2, leaves_picture (after_first step) cs (outs_of (step 0) c0 (take m ins)) ms rs k c p is.3 here cc)
  leaves_picture step (c0 ∷ []) ins (m ∷ []) (r ∷ []) zero c p is here end =
      let front = take m ins in
      let first : r ≡ row c (Some p) = cc in
      let joined : front ++ p ∷ [] ≡ ins = subst (λ (x : Row C P). front ++ waiting x.slot ≡ ins) first is.1 in
      let cells : c ≡ cells_after (step 0) c0 front = subst (λ (x : Row C P). x.cells ≡ cells_after (step 0) c0 front) first is.2 in
      let long : length ins ≡ m + 1 = omega (arith, is.0, ap length joined, length-append front (p ∷ [])) in
      let all : take (m + 1) ins ≡ ins = take_all (m + 1) ins (omega (arith, long)) in (
        ap length all ∙ long,
        append-nil (take (m + 1) ins) ∙ all,
        ap (λ (e : C). (step 0 e p).0) cells ∙ sym (cells_after-push (step 0) c0 front p) ∙ ap (cells_after (step 0) c0) (joined ∙ sym all),
        tt,
      )
  leaves_picture step (c0 ∷ []) ins (m ∷ n ∷ ms) (r ∷ rs) zero c p is here end = absurd is.3
  leaves_picture step (c0 ∷ []) ins (m ∷ []) (r ∷ q ∷ rs) zero c p is here end = absurd is.3
  leaves_picture step (c0 ∷ c1 ∷ cs) ins (m ∷ []) (r ∷ rs) zero c p is here end = absurd is.3
  leaves_picture step (c0 ∷ c1 ∷ cs) ins (m ∷ n ∷ ms) (r ∷ []) zero c p is here end = absurd is.3
  leaves_picture step (c0 ∷ c1 ∷ cs) ins (m ∷ n ∷ ms) (r ∷ q ∷ rs) zero c p is here end = cc

  pub enters_picture : (step : Steps C P) → EntersPicture step
  enters_picture step [] ins [] [] c p is here = cc
  enters_picture step [] ins [] (r ∷ rs) c p is here = absurd is
  enters_picture step [] ins (m ∷ ms) rows c p is here = absurd is
  enters_picture step (c0 ∷ cs) ins [] rows c p is here = absurd is
  enters_picture step (c0 ∷ cs) ins (m ∷ ms) [] c p is here = absurd is
  enters_picture step (c0 ∷ cs) ins (m ∷ ms) (r ∷ rs) c p is here =
      let first : r ≡ row c None = cc in
      let all : take m ins ≡ ins = sym (append-nil (take m ins)) ∙ subst (λ (x : Row C P). take m ins ++ waiting x.slot ≡ ins) first is.1 in
      let cells : c ≡ cells_after (step 0) c0 (take m ins) = subst (λ (x : Row C P). x.cells ≡ cells_after (step 0) c0 (take m ins)) first is.2 in
      let same : take m (ins ++ p ∷ []) ≡ take m ins = take_at ins (p ∷ []) m (sym (ap length all) ∙ is.0) ∙ sym all in (
        ap length same ∙ is.0,
        ap (λ (l : List P). l ++ p ∷ []) (same ∙ all),
        cells ∙ ap (cells_after (step 0) c0) (sym same),
        subst (λ (l : List P). IsPicture (after_first step) cs (outs_of (step 0) c0 l) ms rs) (sym same) is.3,
      )

  after-push : (step : Steps C P) (cs : List C) (ps : List P) (p : P) → after step cs (ps ++ p ∷ []) ≡ (whole step (after step cs ps) p).0
  after-push step cs [] p = refl
  after-push step cs (x ∷ ps) p = after-push step (whole step cs x).0 ps p

  -- no stage, no cells
  pub after_none : (step : Steps C P) (ps : List P) → after step [] ps ≡ []
  after_none step [] = refl
  after_none step (p ∷ ps) = after_none step ps

  settles_row : (step : Steps C P) (c0 c : C) (s : Option P) (cs : List C) (ins : List P) (m : ℕ) (older : List C × List P) → take m ins ++ waiting s ≡ ins → c ≡ cells_after (step 0) c0 (take m ins) →
      older.0 ≡ after (after_first step) cs (outs_of (step 0) c0 (take m ins)) → (settled_row step c s older).0 ≡ after step (c0 ∷ cs) ins
  settles_row step c0 c None cs ins m older joined cells is =
      ap (λ (e : C). e ∷ older.0) cells ∙ ap (λ (l : List C). cells_after (step 0) c0 (take m ins) ∷ l) is ∙ sym (after_first_stage step c0 cs (take m ins))
      ∙ ap (after step (c0 ∷ cs)) (sym (append-nil (take m ins)) ∙ joined)
  settles_row step c0 c (Some p) cs ins m older joined cells is =
      ap (λ (l : List C). (whole step l p).0) (ap (λ (e : C). e ∷ older.0) cells ∙ ap (λ (l : List C). cells_after (step 0) c0 (take m ins) ∷ l) is ∙ sym (after_first_stage step c0 cs (take m ins)))
      ∙ sym (after-push step (c0 ∷ cs) (take m ins) p) ∙ ap (after step (c0 ∷ cs)) joined

  pub settles_to_all : (step : Steps C P) → SettlesToAll step
  settles_to_all step [] ins [] [] is = sym (after_none step ins)
  settles_to_all step [] ins [] (r ∷ rs) is = absurd is
  settles_to_all step [] ins (m ∷ ms) rows is = absurd is
  settles_to_all step (c0 ∷ cs) ins [] rows is = absurd is
  settles_to_all step (c0 ∷ cs) ins (m ∷ ms) [] is = absurd is
  settles_to_all step (c0 ∷ cs) ins (m ∷ ms) (r ∷ rs) is =
      settles_row step c0 r.cells r.slot cs ins m (settled (after_first step) rs) is.1 is.2 (settles_to_all (after_first step) cs (outs_of (step 0) c0 (take m ins)) ms rs is.3)
