-- Rows of any kind that are driven: each move of a row is a move of the drive; the leaving packets and the cells.
use Rattle.std.proofs.Common.{◌≡◌, ℕ, zero, suc, ◌+◌, ◌<◌, ◌≤◌, List, [], ◌∷◌, ◌++◌, Option, None, Some, Bool, true, ◌&&◌, fold, get_or, length, map, nat_lt, slice_get, slice_index, slice_set, take, is_some, refl, sym, ◌∙◌, ap, subst, add-one, length-set, arith}
use Rattle.std.proofs.lemmas.Bool.Decides.{nat_tests}
use Rattle.std.proofs.lemmas.List.{length-map}
use Rattle.std.specs.List.{AllByRecursion}
use Rattle.std.specs.Option.{option_map_or}
use Rattle.lucid_core.specs.Parts.{CoreParts}
use Rattle.lucid_core.specs.Step as core
use Rattle.lucid_core.specs.Step.{Entry}
use Rattle.lucid_pipe_laws.specs.Picture.{IsPicture, after}
use Rattle.lucid_pipe_laws.specs.Places as places
use Rattle.lucid_pipe_laws.specs.Rows.{Row, Steps, row, whole}
use Rattle.lucid_pipe_laws.proofs.LooksLaw.{enters_picture, keeps_picture, leaves_picture, looks}
use Rattle.lucid_pipe_laws.proofs.PlacesLaw as laws
use Rattle.lucid_drive.specs.Drive.{Drive, Progress, entries, is_taken, moved}
use Rattle.lucid_drive.specs.Driven.{DoSteps, Gone, IsDriven}

module _ {A B : Type 0} where
  take_map : (f : A → B) (n : ℕ) (xs : List A) → take n (map f xs) ≡ map f (take n xs)
  take_map f zero xs = refl
  take_map f (suc n) [] = refl
  take_map f (suc n) (x ∷ xs) = ap (λ (l : List B). f x ∷ l) (take_map f n xs)

module _ {A : Type 0} where
  pub take_more : (n : ℕ) (xs : List A) (x : A) → n < length xs → x ≡ get_or xs n x → take (suc n) xs ≡ take n xs ++ x ∷ []
  take_more n [] x lt is = absurd (omega (arith, lt))
  take_more zero (y ∷ ys) x lt is = ap (λ (z : A). z ∷ []) (sym is)
  take_more (suc n) (y ∷ ys) x lt is = ap (λ (l : List A). y ∷ l) (take_more n ys x (omega (arith, lt)) is)

  pub take_take : (n m : ℕ) (xs : List A) → n ≤ m → take n (take m xs) ≡ take n xs
  take_take zero m xs le = refl
  take_take (suc n) zero xs le = absurd (omega (arith, le))
  take_take (suc n) (suc m) [] le = refl
  take_take (suc n) (suc m) (x ∷ xs) le = ap (λ (l : List A). x ∷ l) (take_take n m xs (omega (arith, le)))

  pub length_take : (n : ℕ) (xs : List A) → n ≤ length xs → length (take n xs) ≡ n
  length_take zero xs le = refl
  length_take (suc n) [] le = absurd (omega (arith, le))
  length_take (suc n) (x ∷ xs) le = ap suc (length_take n xs (omega (arith, le)))

  pub all_take : (P : A → Type 0) (n : ℕ) (xs : List A) → AllByRecursion P xs → AllByRecursion P (take n xs)
  all_take P zero xs all = tt
  all_take P (suc n) [] all = tt
  all_take P (suc n) (x ∷ xs) all = (all.0, all_take P n xs all.1)

  pub all_at : (P : A → Type 0) (xs : List A) (k : ℕ) (x : A) → AllByRecursion P xs → k < length xs → x ≡ get_or xs k x → P x
  all_at P [] k x all lt is = absurd (omega (arith, lt))
  all_at P (y ∷ ys) zero x all lt is = subst P (sym is) all.0
  all_at P (y ∷ ys) (suc k) x all lt is = all_at P ys k x all.1 (omega (arith, lt)) is

module _ {A B : Type 0} where
  map_at : (f : A → B) (xs : List A) (k : ℕ) (x : A) (d : B) → k < length xs → x ≡ get_or xs k x → get_or (map f xs) k d ≡ f x
  map_at f [] k x d lt is = absurd (omega (arith, lt))
  map_at f (y ∷ ys) zero x d lt is = ap f (sym is)
  map_at f (y ∷ ys) (suc k) x d lt is = map_at f ys k x d (omega (arith, lt)) is

  map_more : (f : A → B) (xs : List A) (x : A) → map f (xs ++ x ∷ []) ≡ map f xs ++ f x ∷ []
  map_more f [] x = refl
  map_more f (y ∷ ys) x = ap (λ (l : List B). f y ∷ l) (map_more f ys x)

pub take_at : (xs : List Entry) (n k : ℕ) (d : Entry) → k < n → get_or (take n xs) k d ≡ get_or xs k d
take_at xs zero k d lt = absurd (omega (arith, lt))
take_at [] (suc n) k d lt = refl
take_at (x ∷ xs) (suc n) zero d lt = refl
take_at (x ∷ xs) (suc n) (suc k) d lt = take_at xs n k d (omega (arith, lt))

pub found : (xs : List Entry) (k : ℕ) (x : Entry) → k < length xs → x ≡ get_or xs k x → slice_get xs k ≡ Some x
found [] k x lt is = absurd (omega (arith, lt))
found (y ∷ ys) zero x lt is = ap (λ (z : Entry). Some z) (sym is)
found (y ∷ ys) (suc k) x lt is = found ys k x (omega (arith, lt)) is

pub both_true : (a b : Bool) → a ≡ true → (a && b) ≡ b
both_true a b is = ap (λ (c : Bool). c && b) is

pub below : (a b : ℕ) → a < b → nat_lt a b ≡ true
below a b lt = grind (arith, nat_tests)

module _ {C P : Type 0} where
  -- the cells after passes of the first entries are those after the program's steps
  folded : (parts : CoreParts) (step : Steps C P) (cells : List C) (view : List C → List (List ℕ)) (packet : Entry → P) (sent : P → Gone) (Good : List C → Type 0) (Fits : Entry → Type 0) → DoSteps parts step cells view packet sent Good Fits →
      (es : List Entry) (s : core.Steps) (cs : List C) → s.cells ≡ view cs → Good cs → AllByRecursion Fits es →
      ((fold (core.one_more parts) s es).cells ≡ view (after step cs (map packet es))) × Good (after step cs (map packet es))
  folded parts step cells view packet sent Good Fits law [] s cs is good all = (is, good)
  folded parts step cells view packet sent Good Fits law (e ∷ es) s cs is good all =
      let one = law.pass cs e good all.0 in
      folded parts step cells view packet sent Good Fits law es (core.one_more parts s e) (whole step cs (packet e)).0
      (ap (λ (c : List (List ℕ)). (core.step parts c e.now e.me e.event).cells) is ∙ sym one.0) one.2 all.1

  pub after_is : (parts : CoreParts) (step : Steps C P) (cells : List C) (view : List C → List (List ℕ)) (packet : Entry → P) (sent : P → Gone) (Good : List C → Type 0) (Fits : Entry → Type 0) → DoSteps parts step cells view packet sent Good Fits →
      (es : List Entry) (n : ℕ) → AllByRecursion Fits (take n es) → (core.after parts es n ≡ view (after step cells (map packet (take n es)))) × Good (after step cells (map packet (take n es)))
  after_is parts step cells view packet sent Good Fits law es n all = folded parts step cells view packet sent Good Fits law (take n es) _ cells (sym law.start) law.good all

  -- a packet is in front of a stage exactly if the progress says so
  pub taken_is : (d : Drive) (step : Steps C P) (cells : List C) (packet : Entry → P) (p : Progress) (rows : List (Row C P)) (k : ℕ) (e : Row C P) → IsDriven d step cells packet p rows → k < length rows →
      is_some (get_or rows k e).slot ≡ is_taken p k
  taken_is d step cells packet p rows k e is lt =
      let count : length (map packet (take p.entered (entries d.scene))) ≡ p.entered = length-map (take p.entered (entries d.scene)) packet ∙ length_take p.entered (entries d.scene) is.within in
      laws.places step cells (map packet (take p.entered (entries d.scene))) p.passed rows k e is.picture lt
      ∙ ap (λ (n : ℕ). nat_lt (get_or p.passed k 0) (places.came n p.passed k)) count
      ∙ sym (both_true (nat_lt k (length p.passed)) (nat_lt (slice_index p.passed k) (places.came p.entered p.passed k)) (below k (length p.passed) (subst (λ (n : ℕ). k < n) is.long lt)))

  -- one goes on, one leaves, one enters
  pub goes_driven : (d : Drive) (step : Steps C P) (cells : List C) (packet : Entry → P) (p : Progress) (rows : List (Row C P)) (k : ℕ) (a b : C) (x : P) → IsDriven d step cells packet p rows →
      slice_get rows k ≡ Some (row a (Some x)) → slice_get rows (suc k) ≡ Some (row b None) →
      IsDriven d step cells packet (moved p k) (slice_set (slice_set rows k (row (step k a x).0 None)) (suc k) (row b (Some (step k a x).1)))
  goes_driven d step cells packet p rows k a b x is here next = record {
    within = is.within;
    long = length-set (slice_set rows k (row (step k a x).0 None)) (suc k) _ ∙ length-set rows k _ ∙ is.long ∙ sym (length-set p.passed k _);
    picture = keeps_picture step cells (map packet (take p.entered (entries d.scene))) p.passed rows k a b x is.picture here next;
  }

  pub leaves_driven : (d : Drive) (step : Steps C P) (cells : List C) (packet : Entry → P) (p : Progress) (rows : List (Row C P)) (k : ℕ) (a : C) (x : P) → IsDriven d step cells packet p rows →
      slice_get rows k ≡ Some (row a (Some x)) → suc k ≡ length rows → IsDriven d step cells packet (moved p k) (slice_set rows k (row (step k a x).0 None))
  leaves_driven d step cells packet p rows k a x is here last = record {
    within = is.within;
    long = length-set rows k _ ∙ is.long ∙ sym (length-set p.passed k _);
    picture = leaves_picture step cells (map packet (take p.entered (entries d.scene))) p.passed rows k a x is.picture here last;
  }

  pub enters_driven : (d : Drive) (step : Steps C P) (cells : List C) (packet : Entry → P) (p : Progress) (rows : List (Row C P)) (a : C) (e : Entry) → IsDriven d step cells packet p rows →
      p.entered < length (entries d.scene) → e ≡ get_or (entries d.scene) p.entered e → slice_get rows 0 ≡ Some (row a None) →
      IsDriven d step cells packet (record { entered = p.entered + 1; passed = p.passed }) (slice_set rows 0 (row a (Some (packet e))))
  enters_driven d step cells packet p rows a e is lt this free = record {
    within = omega (arith, lt);
    long = length-set rows 0 _ ∙ is.long;
    picture = subst (λ (l : List P). IsPicture step cells l p.passed (slice_set rows 0 (row a (Some (packet e)))))
        (sym (ap (λ (n : ℕ). map packet (take n (entries d.scene))) (add-one p.entered) ∙ ap (map packet) (take_more p.entered (entries d.scene) e lt this) ∙ map_more packet (take p.entered (entries d.scene)) e))
        (enters_picture step cells (map packet (take p.entered (entries d.scene))) p.passed rows a (packet e) is.picture free);
  }

  -- the packet that leaves sends the outs of the event that entered as the number that left before
  pub left_sends : (d : Drive) (step : Steps C P) (cells : List C) (view : List C → List (List ℕ)) (packet : Entry → P) (sent : P → Gone) (Good : List C → Type 0) (Fits : Entry → Type 0) → DoSteps d.parts step cells view packet sent Good Fits →
      (p : Progress) (rows : List (Row C P)) (k : ℕ) (a : C) (x : P) (e : Entry) → AllByRecursion Fits (take p.entered (entries d.scene)) → IsDriven d step cells packet p rows → get_or rows k (row a None) ≡ row a (Some x) → suc k ≡ length rows →
      slice_index p.passed k < p.entered → e ≡ get_or (entries d.scene) (slice_index p.passed k) e → sent (step k a x).1 ≡ record { entry = e; outs = core.outs d.parts (entries d.scene) (slice_index p.passed k) }
  left_sends d step cells view packet sent Good Fits law p rows k a x e all is here last lt this =
      let es = entries d.scene in
      let j : ℕ = slice_index p.passed k in
      let ins : List P = map packet (take p.entered es) in
      let within : j < length es = omega (arith, lt, is.within) in
      let short : j < length (take p.entered es) = subst (λ (n : ℕ). j < n) (sym (length_take p.entered es is.within)) lt in
      let own : e ≡ get_or (take p.entered es) j e = this ∙ sym (take_at es p.entered j e lt) in
      let cut : take j ins ≡ map packet (take j es) = take_map packet j (take p.entered es) ∙ ap (map packet) (take_take j p.entered es (omega (arith, lt))) in
      let so_far = after_is d.parts step cells view packet sent Good Fits law es j (subst (AllByRecursion Fits) (take_take j p.entered es (omega (arith, lt))) (all_take Fits j (take p.entered es) all)) in
      let pass = law.pass (after step cells (map packet (take j es))) e so_far.1 (all_at Fits (take p.entered es) j e all short own) in
      ap sent (laws.leaves_whole step cells ins p.passed rows k a x x is.picture here last)
      ∙ ap (λ (l : List P). sent (whole step (after step cells l) (get_or ins j x)).1) cut
      ∙ ap (λ (q : P). sent (whole step (after step cells (map packet (take j es))) q).1) (map_at packet (take p.entered es) j e x short own)
      ∙ pass.1
      ∙ ap (λ (c : List (List ℕ)). record { entry = e; outs = (core.step d.parts c e.now e.me e.event).outs }) (sym so_far.0)
      ∙ sym (ap (λ (o : Option Entry). record { entry = e; outs = option_map_or (λ (f : Entry). (core.step d.parts (core.after d.parts es j) f.now f.me f.event).outs) o [] }) (found es j e within this))

  -- the cells of stage k are those after as many whole passes as packets passed it
  pub look_is : (d : Drive) (step : Steps C P) (cells : List C) (packet : Entry → P) (p : Progress) (rows : List (Row C P)) (k : ℕ) (r : Row C P) → IsDriven d step cells packet p rows → k < length rows → slice_index p.passed k ≤ p.entered →
      (get_or rows k r).cells ≡ get_or (after step cells (map packet (take (slice_index p.passed k) (entries d.scene)))) k r.cells
  look_is d step cells packet p rows k r is lt le =
      looks step cells (map packet (take p.entered (entries d.scene))) p.passed rows k r is.picture lt
      ∙ ap (λ (l : List P). get_or (after step cells l) k r.cells) (take_map packet (slice_index p.passed k) (take p.entered (entries d.scene)) ∙ ap (map packet) (take_take (slice_index p.passed k) p.entered (entries d.scene) le))
