-- An expansion has the bytes of the text outside its templates, and of each used instance.
use Rattle.std.proofs.Common.{◌≡◌, ℕ, zero, suc, ◌+◌, ◌<◌, ◌≤◌, List, [], ◌∷◌, ◌++◌, length, None, Ok, refl, sym, ◌∙◌, ap, subst, arith, length-append}
use Rattle.std.specs.Prelude.{All, codes, map, slice_get}
use Rattle.std.specs.List.{Contains, sum_by}
use Rattle.std.proofs.lemmas.List.Elements.{All-contains, Contains-append_left, Contains-append_right}
use Rattle.std.proofs.lemmas.List.Sums.{sum_by-append, sum_by-cons}
use Rattle.lucid_lex.specs.declared.token.Token.{Token}
use Rattle.lucid_lex.specs.Reading.{Reads, joined}
use Rattle.lucid_size.specs.declared.error.SizeError.{SizeError}
use Rattle.lucid_size.specs.declared.error.SizeError.TheVariants as errors
use Rattle.lucid_size.specs.declared.step.Instance.{Instance}
use Rattle.lucid_size.specs.declared.step.Step.{Step}
use Rattle.lucid_size.specs.declared.template.Template.{Template}
use Rattle.lucid_size.specs.Suffix.{underscores}
use Rattle.lucid_size.specs.Pieces.{gap, pieces_of}
use Rattle.lucid_size.specs.Used.{Used}
use Rattle.lucid_size.specs.Parts.{body_steps, gap_before, names_of, outside_from, steps_between, steps_in}
use Rattle.lucid_size.specs.Expansion.{ExpandsTo, IsExpansion, IsTooBig, first_repeat, instance, instances, most, written, written_from}
use Rattle.lucid_size.specs.Places.{InText}
use Rattle.lucid_size.specs.Search.{AreUsed, AreWithin, IsUsed, body_in}
use Rattle.lucid_size.specs.Bytes.{instance_len, step_len, steps_len}
use Rattle.lucid_size.specs.Cutting.{Tells}
use Rattle.lucid_size.specs.Error.{NeedsMore, Refuses}
use Rattle.lucid_size.specs.Names.{Repeats}
use Rattle.lucid_size.specs.Widths.{widths_in}
use Rattle.lucid_size.specs.Templates.{templates}
use Rattle.lucid_size.proofs.Closed.{sum_within}
use Rattle.lucid_size.proofs.Exists.{same_body, strictly, widths_all, widths_rise, widths_used}
use Rattle.lucid_size.proofs.InText.{between_in_text, body_in_text, read_led, read_placed}
use Rattle.lucid_size.proofs.Gaps.{AllLed}
use Rattle.lucid_size.proofs.Lengths.{in_row, row, steps_length, used_are_listed, used_low}
use Rattle.lucid_size.proofs.Whole.{Placed}
use Rattle.lucid_size.proofs.Written.{first_bytes, joined_both, last_bytes}

-- ---- the instances of one template

fun_bytes : (text : List ℕ) (m : ℕ) (body : List Step) (n : ℕ) → joined (instance text m body n) [] ≡ codes "fun " ++ joined (pieces_of text m n body) []
fun_bytes text m body n = refl

instance_length : (text : List ℕ) (m : ℕ) (body : List Step) (n : ℕ) → All (InText text) body → length (joined (instance text m body n) []) ≡ 4 + steps_len m n body
instance_length text m body n inside =
    ap length (fun_bytes text m body n) ∙ length-append (codes "fun ") (joined (pieces_of text m n body) []) ∙ ap (λ k. 4 + k) (steps_length text m n body inside)

abbrev one_len : ℕ → List Step → ℕ → ℕ
one_len m body n = 4 + steps_len m n body

instances_least : (text : List ℕ) (m : ℕ) (body : List Step) (ns : List ℕ) → All (InText text) body → sum_by (one_len m body) ns ≤ length (joined (instances text m body ns) [])
instances_least text m body [] inside = omega arith
instances_least text m body (n ∷ []) inside = let e = instance_length text m body n inside in let none : sum_by (one_len m body) [] ≡ 0 = refl in omega (arith, e, none, sum_by-cons (one_len m body) n [])
instances_least text m body (n ∷ k ∷ ns) inside =
    let e = instance_length text m body n inside in
    let later = instances_least text m body (k ∷ ns) inside in
    let rest = joined (gap (codes "\n") ∷ instances text m body (k ∷ ns)) [] in
    let long : length rest ≡ 1 + length (joined (instances text m body (k ∷ ns)) []) = length-append (codes "\n") (joined (instances text m body (k ∷ ns)) []) in
    let whole : length (joined (instances text m body (n ∷ k ∷ ns)) []) ≡ length (joined (instance text m body n) []) + length rest =
    ap length (joined_both (instance text m body n) (gap (codes "\n") ∷ instances text m body (k ∷ ns))) ∙ length-append (joined (instance text m body n) []) rest in
    omega (arith, e, later, long, whole, sum_by-cons (one_len m body) n (k ∷ ns))

-- ---- all templates

abbrev total : ℕ → List (List Step) → (ℕ → List ℕ) → ℕ → List Template → ℕ
total m bodies widths k [] = 0
total m bodies widths k (x ∷ xs) = sum_by (one_len m (body_in bodies k)) (widths k) + total m bodies widths (k + 1) xs

abbrev rows_of : (ℕ → List ℕ) → ℕ → List Template → List Instance
rows_of widths k [] = []
rows_of widths k (x ∷ xs) = row (widths k) k ++ rows_of widths (k + 1) xs

row_sum : (m : ℕ) (bodies : List (List Step)) (ns : List ℕ) (k : ℕ) → sum_by (instance_len m bodies) (row ns k) ≡ sum_by (one_len m (body_in bodies k)) ns
row_sum m bodies [] k = refl
row_sum m bodies (n ∷ ns) k =
    sum_by-cons (instance_len m bodies) (record { template = k; width = n }) (row ns k)
    ∙ ap (λ s. one_len m (body_in bodies k) n + s) (row_sum m bodies ns k)
    ∙ sym (sum_by-cons (one_len m (body_in bodies k)) n ns)

rows_sum : (m : ℕ) (bodies : List (List Step)) (widths : ℕ → List ℕ) (k : ℕ) (xs : List Template) → sum_by (instance_len m bodies) (rows_of widths k xs) ≡ total m bodies widths k xs
rows_sum m bodies widths k [] = refl
rows_sum m bodies widths k (x ∷ xs) =
    sum_by-append (instance_len m bodies) (row (widths k) k) (rows_of widths (k + 1) xs)
    ∙ ap (λ s. s + sum_by (instance_len m bodies) (rows_of widths (k + 1) xs)) (row_sum m bodies (widths k) k)
    ∙ ap (λ s. sum_by (one_len m (body_in bodies k)) (widths k) + s) (rows_sum m bodies widths (k + 1) xs)

in_rows : (widths : ℕ → List ℕ) (k : ℕ) (xs : List Template) (j n : ℕ) → j < length xs → Contains (widths (k + j)) n → Contains (rows_of widths k xs) (record { template = k + j; width = n })
in_rows widths k [] j n within has = absurd (omega arith)
in_rows widths k (x ∷ xs) zero n within has =
    let same : k + zero ≡ k = omega arith in
    Contains-append_left (row (widths k) k) (rows_of widths (k + 1) xs) (record { template = k + zero; width = n })
    (subst (λ i. Contains (row (widths k) k) (record { template = i; width = n })) (sym same) (in_row (widths k) k n (subst (λ i. Contains (widths i) n) same has)))
in_rows widths k (x ∷ xs) (suc j) n within has =
    let same : k + suc j ≡ k + 1 + j = omega arith in
    Contains-append_right (row (widths k) k) (rows_of widths (k + 1) xs) (record { template = k + suc j; width = n })
    (subst (λ i. Contains (rows_of widths (k + 1) xs) (record { template = i; width = n })) (sym same) (in_rows widths (k + 1) xs j n (omega arith) (subst (λ i. Contains (widths i) n) same has)))

module _ (text : List ℕ) (ts : List Token) (m : ℕ) (names : List (List ℕ)) (bodies : List (List Step)) (widths : ℕ → List ℕ) (led : AllLed text 0 ts) where
  written_least : (i k : ℕ) (xs : List Template) → Placed ts i xs → ((j : ℕ) → body_in bodies (k + j) ≡ steps_in text names ts (slice_get xs j)) →
      steps_len m 0 (outside_from text names ts i xs) + total m bodies widths k xs ≤ length (joined (written_from text ts m names widths i k xs) [])
  written_least i k [] placed same =
      let S = steps_between text names None ts i (length ts) in
      let s = steps_length text m 0 S (between_in_text text names None ts i (length ts) led placed (omega arith)) in
      let whole = ap length (last_bytes text ts m names widths i k) ∙ length-append (joined (pieces_of text m 0 S) []) (gap_before text ts (length ts)).bytes in
      omega (arith, s, whole)
  written_least i k (x ∷ xs) placed same =
      let p = placed.1 in
      let S = steps_between text names None ts i x.first in
      let O = outside_from text names ts x.end xs in
      let B = body_steps text names ts x in
      let P = joined (pieces_of text m 0 S) [] in
      let g = (gap_before text ts x.first).bytes in
      let I = joined (instances text m B (widths k)) [] in
      let W = joined (written_from text ts m names widths x.end (k + 1) xs) [] in
      let s : length P ≡ steps_len m 0 S = steps_length text m 0 S (between_in_text text names None ts i x.first led placed.0 (let b = p.before in let o = p.order in let w = p.within in omega arith)) in
      let here : body_in bodies k ≡ B = ap (body_in bodies) (let e : k ≡ k + zero = omega arith in e) ∙ same zero in
      let inst : sum_by (one_len m B) (widths k) ≤ length I = instances_least text m B (widths k) (body_in_text text names ts x led p) in
      let part : sum_by (one_len m (body_in bodies k)) (widths k) ≡ sum_by (one_len m B) (widths k) = ap (λ b. sum_by (one_len m b) (widths k)) here in
      let later : steps_len m 0 O + total m bodies widths (k + 1) xs ≤ length W = written_least x.end (k + 1) xs placed.2 (λ j. ap (body_in bodies) (let e : k + 1 + j ≡ k + suc j = omega arith in e) ∙ same (suc j)) in
      let outer : steps_len m 0 (S ++ O) ≡ steps_len m 0 S + steps_len m 0 O = sum_by-append (step_len m 0) S O in
      let whole : length (joined (written_from text ts m names widths i k (x ∷ xs)) []) ≡ length P + (length g + (length I + length W)) =
      ap length (first_bytes text ts m names widths i k x xs) ∙ length-append P (g ++ (I ++ W)) ∙ ap (λ n. length P + n) (length-append g (I ++ W) ∙ ap (λ n. length g + n) (length-append I W)) in
      omega (arith, s, inst, part, later, outer, whole)

-- ---- the found instances are the used ones

pub found_widths : (text : List ℕ) (ts : List Token) (xs : List Template) (found : List Instance) → templates ts ≡ Ok xs → first_repeat [] (names_of text ts xs) ≡ None →
    AreUsed (outside_from text (names_of text ts xs) ts 0 xs) (map (body_steps text (names_of text ts xs) ts) xs) found → IsExpansion text ts (written text ts xs (widths_in found))
found_widths text ts xs found whole distinct are =
    let names = names_of text ts xs in
    let bodies = map (body_steps text names ts) xs in
    let outside = outside_from text names ts 0 xs in
    let bodies_are : body_in bodies ≡ (λ k. steps_in text names ts (slice_get xs k)) = λ i k. same_body text names ts xs k i in
    record {
      found = xs;
      whole = whole;
      distinct = distinct;
      widths = widths_in found;
      are_widths = record {
        rising = λ k. strictly (widths_in found k) (widths_rise found k);
        used = λ k n has. subst (λ body. Used outside body k n) bodies_are (All-contains (IsUsed outside bodies) found (record { template = k; width = n }) are.used (widths_used found k n has));
        all = λ k n is. widths_all found k n (are.all k n (subst (λ body. Used outside body k n) (sym bodies_are) is));
      };
      pieces_are = refl;
    }

-- the parts of a text
pub record AreParts (text : List ℕ) (ts : List Token) (xs : List Template) (names : List (List ℕ)) (outside : List Step) (bodies : List (List Step)) (m : ℕ) : Type 0 where
  pub whole : templates ts ≡ Ok xs
  pub distinct : first_repeat [] (names_of text ts xs) ≡ None
  pub names_are : names ≡ names_of text ts xs
  pub outside_are : outside ≡ outside_from text names ts 0 xs
  pub bodies_are : bodies ≡ map (body_steps text names ts) xs
  pub scores_are : m ≡ underscores text ts

pub expands : (text : List ℕ) (ts : List Token) (xs : List Template) (names : List (List ℕ)) (outside : List Step) (bodies : List (List Step)) (m : ℕ) (found : List Instance) (out : List ℕ) →
    AreParts text ts xs names outside bodies m → AreUsed outside bodies found → out ≡ joined (written_from text ts m names (widths_in found) 0 0 xs) [] → ExpandsTo text ts out
expands text ts xs names outside bodies m found out parts are out_is =
    let n = parts.names_are in
    let outside' : outside ≡ outside_from text (names_of text ts xs) ts 0 xs = parts.outside_are ∙ ap (λ l. outside_from text l ts 0 xs) n in
    let bodies' : bodies ≡ map (body_steps text (names_of text ts xs) ts) xs = parts.bodies_are ∙ ap (λ l. map (body_steps text l ts) xs) n in
    let are' = subst (λ o. AreUsed o (map (body_steps text (names_of text ts xs) ts) xs) found) outside' (subst (λ b. AreUsed outside b found) bodies' are) in (
      written text ts xs (widths_in found),
      found_widths text ts xs found parts.whole parts.distinct are',
      out_is ∙ ap (λ l. joined (written_from text ts m l (widths_in found) 0 0 xs) []) n ∙ ap (λ k. joined (written_from text ts k (names_of text ts xs) (widths_in found) 0 0 xs) []) parts.scores_are,
    )

pub too_big : (text : List ℕ) (ts : List Token) (xs : List Template) (names : List (List ℕ)) (outside : List Step) (bodies : List (List Step)) (m : ℕ) →
    Reads text ts → AreParts text ts xs names outside bodies m → AreWithin (length bodies) outside → All (AreWithin (length bodies)) bodies → length bodies ≡ length xs →
    ((found : List Instance) → AreUsed outside bodies found → most < steps_len m 0 outside + sum_by (instance_len m bodies) found) → IsTooBig text ts
too_big text ts xs names outside bodies m reads parts out_within within many big =
    let listed = used_are_listed outside bodies out_within within in
    let all = listed.0 in
    let widths = widths_in all in
    let out = joined (written_from text ts m names widths 0 0 xs) [] in
    let led = read_led text ts reads in
    let placed = read_placed ts xs parts.whole in
    let each : (x : Instance) → Contains all x → Contains (rows_of widths 0 xs) x = λ x has.
    let low : x.template < length xs = subst (λ n. x.template < n) many (used_low outside bodies out_within within x.template x.width (All-contains (IsUsed outside bodies) all x listed.1.used has)) in
    let none : 0 + x.template ≡ x.template = omega arith in
    subst (λ k. Contains (rows_of widths 0 xs) (record { template = k; width = x.width })) none
    (in_rows widths 0 xs x.template x.width low (subst (λ k. Contains (widths k) x.width) (sym none) (widths_all all x.template x.width has))) in
    let sum = sum_within (instance_len m bodies) all (rows_of widths 0 xs) listed.2 each in
    let same : (j : ℕ) → body_in bodies (0 + j) ≡ steps_in text names ts (slice_get xs j) = λ j. ap (body_in bodies) (let e : 0 + j ≡ j = omega arith in e) ∙ ap (λ b. body_in b j) parts.bodies_are ∙ same_body text names ts xs j in
    let least = written_least text ts m names bodies widths led 0 0 xs placed same in
    let outer : steps_len m 0 outside ≡ steps_len m 0 (outside_from text names ts 0 xs) = ap (steps_len m 0) parts.outside_are in
    let above = big all listed.1 in
    (out, expands text ts xs names outside bodies m all out parts listed.1 refl, omega (arith, sum, rows_sum m bodies widths 0 xs, least, outer, above))

-- ---- the meaning of errors of the parts for the whole

pub cut_refuses : (text : List ℕ) (ts : List Token) (e : SizeError) → Tells (templates ts) e → Refuses text ts e
cut_refuses text ts (errors.Broken n) h = h
cut_refuses text ts (errors.Twice name) h = absurd h
cut_refuses text ts errors.TooBig h = absurd h
cut_refuses text ts errors.Memory h = tt

pub names_refuse : (text : List ℕ) (ts : List Token) (xs : List Template) → templates ts ≡ Ok xs → (e : SizeError) →
    Repeats (first_repeat [] (names_of text ts xs)) e → Refuses text ts e
names_refuse text ts xs whole (errors.Broken n) h = absurd h
names_refuse text ts xs whole (errors.Twice name) h = record { found = xs; whole = whole; repeats = h }
names_refuse text ts xs whole errors.TooBig h = absurd h
names_refuse text ts xs whole errors.Memory h = tt

pub memory_refuses : (text : List ℕ) (ts : List Token) (e : SizeError) → e ≡ errors.Memory → Refuses text ts e
memory_refuses text ts errors.Memory is = tt
memory_refuses text ts (errors.Broken n) is = absurd (cc)
memory_refuses text ts (errors.Twice name) is = absurd (cc)
memory_refuses text ts errors.TooBig is = absurd (cc)

pub room_refuses : (text : List ℕ) (ts : List Token) (xs : List Template) (names : List (List ℕ)) (outside : List Step) (bodies : List (List Step)) (m : ℕ) →
    Reads text ts → AreParts text ts xs names outside bodies m → AreWithin (length bodies) outside → All (AreWithin (length bodies)) bodies → length bodies ≡ length xs →
    (e : SizeError) → NeedsMore most (steps_len m 0 outside) m outside bodies e → Refuses text ts e
room_refuses text ts xs names outside bodies m reads parts out_within within many (errors.Broken n) h = absurd h
room_refuses text ts xs names outside bodies m reads parts out_within within many (errors.Twice name) h = absurd h
room_refuses text ts xs names outside bodies m reads parts out_within within many errors.TooBig h = too_big text ts xs names outside bodies m reads parts out_within within many h
room_refuses text ts xs names outside bodies m reads parts out_within within many errors.Memory h = tt

-- the room behind the text outside the templates is what they leave of the whole
pub room_behind_needs : (room whole outer m : ℕ) (outside : List Step) (bodies : List (List Step)) (e : SizeError) → room + outer ≡ whole →
    NeedsMore room 0 m outside bodies e → NeedsMore whole outer m outside bodies e
room_behind_needs room whole outer m outside bodies (errors.Broken n) is h = h
room_behind_needs room whole outer m outside bodies (errors.Twice name) is h = h
room_behind_needs room whole outer m outside bodies errors.TooBig is h = λ found are. let above = h found are in omega (arith, above, is)
room_behind_needs room whole outer m outside bodies errors.Memory is h = tt

pub length_refuses : (text : List ℕ) (ts : List Token) (out : List ℕ) (e : SizeError) → e ≡ errors.TooBig → ExpandsTo text ts out → most < length out → Refuses text ts e
length_refuses text ts out errors.TooBig is are above = (out, are, above)
length_refuses text ts out errors.Memory is are above = tt
length_refuses text ts out (errors.Broken n) is are above = absurd (cc)
length_refuses text ts out (errors.Twice name) is are above = absurd (cc)
