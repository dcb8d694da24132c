-- The piece that is found at the front of a text is the longest that begins there, class by class of its first byte.
use Rattle.std.proofs.Common.{◌≡◌, ℕ, suc, ◌+◌, ◌-◌, ◌<◌, ◌≤◌, ◌⊎◌, Bool, true, false, cond, ◌&&◌, eqb, ltb, List, [], ◌∷◌, ◌++◌, length, get_or, take, drop, Option, Some, None, refl, sym, ◌∙◌, ap, subst, inl, inr, ⊎_elim, arith, append_assoc, add-zero, length-append, length-drop, get_or-drop}
use Rattle.std.specs.Prelude.{codes, option_map, option_and_then, unwrap_or}
use Rattle.std.specs.List.{AllPass, prefix_len}
use Rattle.std.specs.Char.{is_digit}
use Rattle.std.proofs.str.Laws.{order}
use Rattle.std.proofs.lemmas.Bool.{lt-ltb, ltb-true, false≢true, and_parts, eqb-true, eqb-false}
use Rattle.std.proofs.lemmas.List.{take_more, take_at, drop_at}
use Rattle.std.proofs.lemmas.List.Folds.{length-prefix_len}
use Rattle.std.proofs.lemmas.List.Sums.{prefix_len-le-length}
use Rattle.lucid_lex.specs.declared.byte.Class.{Class}
use Rattle.lucid_lex.specs.declared.byte.Class.TheVariants.{Blank, Quote, Slash, Digit, Letter, Mark}
use Rattle.lucid_lex.specs.declared.token.Kind.TheVariants as kinds
use Rattle.lucid_lex.specs.declared.word.Word.{Word}
use Rattle.lucid_lex.specs.declared.sign.Sign.{Sign}
use Rattle.lucid_lex.specs.Byte.{is_name_start, is_name_byte, is_quotable, is_within_line, class_of}
use Rattle.lucid_lex.specs.Front.{gap, token, kind_of_name, name_front, digits_len, after_prefix, number_by, number_front, closes, quoted_front, end_of_block, comment_front, sign_front, front_in, front_of}
use Rattle.lucid_lex.specs.Word.{word_in}
use Rattle.lucid_lex.specs.Sign.{sign_text, sign_at}
use Rattle.lucid_lex.specs.Piece.{IsLineComment, IsBlockComment, IsNumeral, IsNumber, IsToken, Fits, Piece, number_of}
use Rattle.lucid_lex.proofs.Classes.{blank_of, quote_of, slash_of, digit_of, letter_of, name_byte-from_start}
use Rattle.lucid_lex.proofs.Comments.{end_of_block-unbroken, ends_at}
use Rattle.lucid_lex.proofs.Fronts.{IsFrontOf, begins, no_piece, number_begins}
use Rattle.lucid_lex.proofs.Runs.{run_passes, run_longest, run_stopped}
use Rattle.lucid_lex.proofs.Shapes.{shape_at, has_shape, no_x}
use Rattle.lucid_lex.proofs.Spellings.{word_in-some, word_in-text, sign_at-some, sign_at-longest}

-- Blanks

blank_begins : (b : ℕ) (bs : List ℕ) → class_of b ≡ Blank → IsFrontOf (b ∷ bs) (gap 1)
blank_begins b bs class = begins (b ∷ bs) 1 None (omega arith) (inl (b, refl, blank_of b class)) (λ q after is front. omega (arith, (shape_at q.bytes after q.kind b bs Blank class is front).0)) tt

-- Names and reserved words

fits_name : (o : Option Word) → Fits (Some (unwrap_or (option_map (λ w. kinds.Word w) o) kinds.Name))
fits_name None = tt
fits_name (Some w) = tt

name_token : (b : ℕ) (bs : List ℕ) (o : Option Word) → word_in (b ∷ bs) ≡ o → is_name_start b ≡ true → AllPass is_name_byte bs → IsToken (b ∷ bs) (unwrap_or (option_map (λ w. kinds.Word w) o) kinds.Name)
name_token b bs None found start passes = (b, bs, refl, start, passes, λ w is. let twice : ◌≡◌ {A = Option Word} None (Some w) = sym found ∙ ap word_in is ∙ word_in-text w in absurd (cc))
name_token b bs (Some w) found start passes = sym (word_in-some (b ∷ bs) w found)

name_begins : (b : ℕ) (bs : List ℕ) → class_of b ≡ Letter → IsFrontOf (b ∷ bs) (name_front (b ∷ bs))
unfolding name_front
name_begins b bs class =
    let start = letter_of b class in
    let passes : is_name_byte b ≡ true = name_byte-from_start b start in
    let len : prefix_len is_name_byte (b ∷ bs) ≡ suc (prefix_len is_name_byte bs) = rw passes (omega arith) in
    let front : take (prefix_len is_name_byte (b ∷ bs)) (b ∷ bs) ≡ b ∷ take (prefix_len is_name_byte bs) bs = ap (λ n. take n (b ∷ bs)) len in
    let name = name_token b (take (prefix_len is_name_byte bs) bs) (word_in (b ∷ take (prefix_len is_name_byte bs) bs)) refl start (run_passes is_name_byte bs) in
    begins (b ∷ bs) (prefix_len is_name_byte (b ∷ bs)) (Some (kind_of_name (take (prefix_len is_name_byte (b ∷ bs)) (b ∷ bs))))
    (prefix_len-le-length is_name_byte (b ∷ bs))
    (subst (λ l. IsToken l (kind_of_name l)) (sym front) name)
    (λ q after is at_front. subst (λ l. length q.bytes ≤ prefix_len is_name_byte l) at_front (run_longest is_name_byte q.bytes after (shape_at q.bytes after q.kind b bs Letter class is at_front).0))
    (fits_name (word_in (take (prefix_len is_name_byte (b ∷ bs)) (b ∷ bs))))

-- Texts

-- a text at the front: the bytes between its quotes, and the rest after the first
quoted_rest : (bytes after body : List ℕ) (b : ℕ) (bs : List ℕ) → bytes ≡ 34 ∷ (body ++ 34 ∷ []) → bytes ++ after ≡ b ∷ bs → bs ≡ body ++ (34 ∷ after)
quoted_rest bytes after body b bs is front =
    let whole : 34 ∷ ((body ++ 34 ∷ []) ++ after) ≡ b ∷ bs = ap (λ l. l ++ after) (sym is) ∙ front in
    let rest : (body ++ 34 ∷ []) ++ after ≡ bs = cc in
    sym rest ∙ append_assoc body (34 ∷ []) after

-- it ends at the first byte that can't be in it
quoted_len : (body after bs : List ℕ) → bs ≡ body ++ (34 ∷ after) → AllPass is_quotable body → prefix_len is_quotable bs ≡ length body
quoted_len body after bs is passes = ap (prefix_len is_quotable) is ∙ run_stopped is_quotable body after 34 passes refl

quoted_drop : (body after bs : List ℕ) → bs ≡ body ++ (34 ∷ after) → AllPass is_quotable body → drop (prefix_len is_quotable bs) bs ≡ 34 ∷ after
quoted_drop body after bs is passes = ap (λ n. drop n bs) (quoted_len body after bs is passes) ∙ ap (drop (length body)) is ∙ drop_at body (34 ∷ after) (length body) refl

-- two quotes and the bytes between
quoted_take : (b : ℕ) (bs rest : List ℕ) (n : ℕ) → b ≡ 34 → n < length bs → drop n bs ≡ 34 ∷ rest → take (n + 2) (b ∷ bs) ≡ 34 ∷ (take n bs ++ 34 ∷ [])
quoted_take b bs rest n quote within closed =
    let two : n + 2 ≡ suc (n + 1) = omega arith in
    let last : get_or bs n 0 ≡ 34 = ap (λ i. get_or bs i 0) (sym (add-zero n)) ∙ sym (get_or-drop n bs 0 0) ∙ ap (λ l. get_or l 0 0) closed in
    rw (two, quote, take_more bs n 0 within, last) refl

closes_here : (rest : List ℕ) → closes rest ≡ true → rest ≡ 34 ∷ drop 1 rest
closes_here [] h = absurd (cc)
closes_here (b ∷ rest) h = ap (λ c. c ∷ rest) (eqb-true b 34 h)

text_by : (b : ℕ) (bs : List ℕ) (closed : Bool) → class_of b ≡ Quote → closes (drop (prefix_len is_quotable bs) bs) ≡ closed → IsFrontOf (b ∷ bs) (cond closed (token (prefix_len is_quotable bs + 2) kinds.Text) None)
text_by b bs true class h =
    let rest = closes_here (drop (prefix_len is_quotable bs) bs) h in
    let within : prefix_len is_quotable bs < length bs = omega (arith, ap length rest, length-drop (prefix_len is_quotable bs) bs) in
    begins (b ∷ bs) (prefix_len is_quotable bs + 2) (Some kinds.Text)
    (omega arith)
    (take (prefix_len is_quotable bs) bs, (quoted_take b bs (drop 1 (drop (prefix_len is_quotable bs) bs)) (prefix_len is_quotable bs) (quote_of b class) within rest, run_passes is_quotable bs))
    (λ q after is front.
    let shape = shape_at q.bytes after q.kind b bs Quote class is front in
    let body = shape.0.0 in
    let len = quoted_len body after bs (quoted_rest q.bytes after body b bs shape.0.1.0 front) shape.0.1.1 in
    omega (arith, ap length shape.0.1.0, length-append body (34 ∷ []), len))
    tt
text_by b bs false class h = no_piece (b ∷ bs) (λ q after is front.
    let shape = shape_at q.bytes after q.kind b bs Quote class is front in
    let rest = quoted_drop shape.0.0 after bs (quoted_rest q.bytes after shape.0.0 b bs shape.0.1.0 front) shape.0.1.1 in
    false≢true (sym h ∙ ap closes rest))

text_begins : (b : ℕ) (bs : List ℕ) → class_of b ≡ Quote → IsFrontOf (b ∷ bs) (quoted_front (b ∷ bs))
unfolding quoted_front
text_begins b bs class = text_by b bs (closes (drop (prefix_len is_quotable bs) bs)) class refl

-- Comments

-- the rest of a text after a comment's first two bytes
line_rest : (bytes after body : List ℕ) (b c : ℕ) (bs : List ℕ) → bytes ≡ codes "//" ++ body → bytes ++ after ≡ b ∷ c ∷ bs → (47 ≡ c) × (body ++ after ≡ bs)
line_rest bytes after body b c bs is front =
    let whole : 47 ∷ 47 ∷ (body ++ after) ≡ b ∷ c ∷ bs = ap (λ l. l ++ after) (sym is) ∙ front in
    (cc, cc)

block_rest : (bytes after body : List ℕ) (b c : ℕ) (bs : List ℕ) → bytes ≡ codes "/*" ++ (body ++ codes "*/") → bytes ++ after ≡ b ∷ c ∷ bs → (42 ≡ c) × (bs ≡ body ++ (42 ∷ 47 ∷ after))
block_rest bytes after body b c bs is front =
    let whole : 47 ∷ 42 ∷ ((body ++ codes "*/") ++ after) ≡ b ∷ c ∷ bs = ap (λ l. l ++ after) (sym is) ∙ front in
    let rest : (body ++ codes "*/") ++ after ≡ bs = cc in
    (cc, sym rest ∙ append_assoc body (codes "*/") after)

-- two bytes, and the first ones after them
take_two : (b c : ℕ) (bs : List ℕ) (n : ℕ) → take (n + 2) (b ∷ c ∷ bs) ≡ b ∷ c ∷ take n bs
take_two b c bs n = let two : n + 2 ≡ suc (suc n) = omega arith in rw two refl

line_begins : (b c : ℕ) (bs : List ℕ) → class_of b ≡ Slash → c ≡ 47 → IsFrontOf (b ∷ c ∷ bs) (gap (prefix_len is_within_line bs + 2))
line_begins b c bs class second =
    begins (b ∷ c ∷ bs) (prefix_len is_within_line bs + 2) None
    (omega (arith, prefix_len-le-length is_within_line bs))
    (inr (inl (take (prefix_len is_within_line bs) bs, take_two b c bs (prefix_len is_within_line bs) ∙ (rw (slash_of b class, second) refl), run_passes is_within_line bs)))
    (λ q after is front. at_most q after (shape_at q.bytes after q.kind b (c ∷ bs) Slash class is front).0 front)
    tt
  where
    at_most : (q : Piece) (after : List ℕ) → IsLineComment q.bytes ⊎ IsBlockComment q.bytes → q.bytes ++ after ≡ b ∷ c ∷ bs → length q.bytes ≤ prefix_len is_within_line bs + 2
    at_most q after (inl line) front =
        let rest = line_rest q.bytes after line.0 b c bs line.1 front in
        let run = subst (λ l. length line.0 ≤ prefix_len is_within_line l) rest.1 (run_longest is_within_line line.0 after line.2) in
        omega (arith, ap length line.1, run)
    at_most q after (inr block) front =
        let rest = block_rest q.bytes after block.0 b c bs block.1 front in
        absurd (omega (arith, rest.0))

block_at_most : (b c : ℕ) (bs : List ℕ) (q : Piece) (after : List ℕ) → c ≡ 42 → IsLineComment q.bytes ⊎ IsBlockComment q.bytes → q.bytes ++ after ≡ b ∷ c ∷ bs → end_of_block 0 bs ≡ Some (length q.bytes - 2) × (2 ≤ length q.bytes)
block_at_most b c bs q after second (inl line) front = absurd (omega (arith, (line_rest q.bytes after line.0 b c bs line.1 front).0))
block_at_most b c bs q after second (inr block) front =
    let rest = block_rest q.bytes after block.0 b c bs block.1 front in
    let len : length q.bytes ≡ length block.0 + 4 = omega (arith, ap length block.1, length-append block.0 (codes "*/")) in
    let same : 0 + length block.0 + 2 ≡ length q.bytes - 2 = omega (arith, len) in
    (ap (end_of_block 0) rest.1 ∙ end_of_block-unbroken 0 block.0 after block.2 ∙ ap Some same, omega (arith, len))

block_by : (b c : ℕ) (bs : List ℕ) (found : Option ℕ) → class_of b ≡ Slash → c ≡ 42 → end_of_block 0 bs ≡ found → IsFrontOf (b ∷ c ∷ bs) (option_and_then (λ n. gap (n + 2)) found)
block_by b c bs None class second h = no_piece (b ∷ c ∷ bs) (λ q after is front.
    let end = block_at_most b c bs q after second (shape_at q.bytes after q.kind b (c ∷ bs) Slash class is front).0 front in
    let twice : ◌≡◌ {A = Option ℕ} None (Some (length q.bytes - 2)) = sym h ∙ end.0 in
    absurd (cc))
block_by b c bs (Some n) class second h =
    let end = ends_at 0 bs n h in
    let regrouped : bs ≡ (end.body ++ codes "*/") ++ end.rest = end.whole ∙ sym (append_assoc end.body (codes "*/") end.rest) in
    let len : length (end.body ++ codes "*/") ≡ n = omega (arith, length-append end.body (codes "*/"), end.place) in
    let body : take n bs ≡ end.body ++ codes "*/" = ap (take n) regrouped ∙ take_at (end.body ++ codes "*/") end.rest n len in
    begins (b ∷ c ∷ bs) (n + 2) None
    (omega (arith, ap length regrouped, length-append (end.body ++ codes "*/") end.rest, len))
    (inr (inr (end.body, take_two b c bs n ∙ (rw (slash_of b class, second, body) refl), end.unbroken)))
    (λ q after is front.
    let other = block_at_most b c bs q after second (shape_at q.bytes after q.kind b (c ∷ bs) Slash class is front).0 front in
    let twice : ◌≡◌ {A = Option ℕ} (Some n) (Some (length q.bytes - 2)) = sym h ∙ other.0 in
    let same : n ≡ length q.bytes - 2 = cc in
    omega (arith, other.1))
    tt

no_comment : (b c : ℕ) (bs : List ℕ) (q : Piece) (after : List ℕ) → eqb c 47 ≡ false → eqb c 42 ≡ false → IsLineComment q.bytes ⊎ IsBlockComment q.bytes → q.bytes ++ after ≡ b ∷ c ∷ bs → ⊥
no_comment b c bs q after no_slash no_star (inl line) front = eqb-false c 47 no_slash (sym (line_rest q.bytes after line.0 b c bs line.1 front).0)
no_comment b c bs q after no_slash no_star (inr block) front = eqb-false c 42 no_star (sym (block_rest q.bytes after block.0 b c bs block.1 front).0)

comment_by : (b c : ℕ) (bs : List ℕ) (slash star : Bool) → class_of b ≡ Slash → eqb c 47 ≡ slash → eqb c 42 ≡ star → IsFrontOf (b ∷ c ∷ bs) (cond slash (gap (prefix_len is_within_line bs + 2)) (cond star (option_and_then (λ n. gap (n + 2)) (end_of_block 0 bs)) None))
comment_by b c bs true star class h g = line_begins b c bs class (eqb-true c 47 h)
comment_by b c bs false true class h g = block_by b c bs (end_of_block 0 bs) class (eqb-true c 42 g) refl
comment_by b c bs false false class h g = no_piece (b ∷ c ∷ bs) (λ q after is front. no_comment b c bs q after h g (shape_at q.bytes after q.kind b (c ∷ bs) Slash class is front).0 front)

no_lone_slash : (b : ℕ) (q : Piece) (after : List ℕ) → IsLineComment q.bytes ⊎ IsBlockComment q.bytes → q.bytes ++ after ≡ b ∷ [] → ⊥
no_lone_slash b q after (inl line) front =
    let len : length (q.bytes ++ after) ≡ 1 = ap length front in
    omega (arith, len, length-append q.bytes after, ap length line.1)
no_lone_slash b q after (inr block) front =
    let len : length (q.bytes ++ after) ≡ 1 = ap length front in
    omega (arith, len, length-append q.bytes after, ap length block.1)

comment_begins : (b : ℕ) (bs : List ℕ) → class_of b ≡ Slash → IsFrontOf (b ∷ bs) (comment_front (b ∷ bs))
unfolding comment_front
comment_begins b [] class = no_piece (b ∷ []) (λ q after is front. no_lone_slash b q after (shape_at q.bytes after q.kind b [] Slash class is front).0 front)
comment_begins b (c ∷ bs) class = comment_by b c bs (eqb c 47) (eqb c 42) class refl refl

-- Numbers

-- the digits behind `0x`
after_prefix-x : (digits : List ℕ) → 0 < digits_len 16 digits → after_prefix (48 ∷ 120 ∷ digits) ≡ Some digits
unfolding after_prefix
after_prefix-x digits some = let test : ltb 0 (digits_len 16 digits) ≡ true = lt-ltb 0 (digits_len 16 digits) some in rw test refl

prefix_by : (a b : ℕ) (ds digits : List ℕ) (test : Bool) → ((eqb a 48 && eqb b 120) && ltb 0 (digits_len 16 ds)) ≡ test → cond test (Some ds) None ≡ Some digits → (a ∷ b ∷ ds ≡ 48 ∷ 120 ∷ digits) × (0 < digits_len 16 digits)
prefix_by a b ds digits true test h =
    let parts = and_parts (eqb a 48 && eqb b 120) (ltb 0 (digits_len 16 ds)) test in
    let bytes = and_parts (eqb a 48) (eqb b 120) parts.0 in
    let first : a ≡ 48 = eqb-true a 48 bytes.0 in
    let second : b ≡ 120 = eqb-true b 120 bytes.1 in
    let same : ds ≡ digits = cc in
    (cc, subst (λ l. 0 < digits_len 16 l) same (ltb-true 0 (digits_len 16 ds) parts.1))
prefix_by a b ds digits false test h = absurd (cc)

after_prefix-some : (text digits : List ℕ) → after_prefix text ≡ Some digits → (text ≡ 48 ∷ 120 ∷ digits) × (0 < digits_len 16 digits)
unfolding after_prefix
after_prefix-some [] digits h = absurd (cc)
after_prefix-some (a ∷ []) digits h = absurd (cc)
after_prefix-some (a ∷ b ∷ ds) digits h = prefix_by a b ds digits ((eqb a 48 && eqb b 120) && ltb 0 (digits_len 16 ds)) refl h

-- some digits are a run of at least one
digits_run : (base : ℕ) (digits after text : List ℕ) → digits ++ after ≡ text → AllPass (λ c. is_digit c base) digits → length digits ≤ digits_len base text
digits_run base digits after text is passes = subst (λ l. length digits ≤ digits_len base l) is (run_longest (λ c. is_digit c base) digits after passes)

-- the longest run of digits is a numeral
run_is_numeral : (base : ℕ) (text : List ℕ) → 0 < digits_len base text → IsNumeral base (take (digits_len base text) text) (number_of base (take (digits_len base text) text))
run_is_numeral base text some = (omega (arith, length-prefix_len (λ c. is_digit c base) text), run_passes (λ c. is_digit c base) text, refl)

-- the rest after `0x`
x_rest : (bytes digits after text : List ℕ) → bytes ≡ codes "0x" ++ digits → bytes ++ after ≡ text → text ≡ 48 ∷ 120 ∷ (digits ++ after)
x_rest bytes digits after text is front = sym (ap (λ l. l ++ after) (sym is) ∙ front)

begins_x : (bytes after digits : List ℕ) → 1 < length bytes → bytes ++ after ≡ 48 ∷ 120 ∷ digits → bytes ≡ 48 ∷ 120 ∷ drop 2 bytes
begins_x [] after digits long front = absurd (omega arith)
begins_x (a ∷ []) after digits long front = absurd (omega arith)
begins_x (a ∷ b ∷ bytes) after digits long front =
    let first : a ≡ 48 = cc in
    let second : b ≡ 120 = cc in
    cc

hexadecimal_at_most : (text digits : List ℕ) (q : Piece) (after : List ℕ) (n : ℕ) → text ≡ 48 ∷ 120 ∷ digits → IsNumber q.bytes n → q.bytes ++ after ≡ text → length q.bytes ≤ 2 + digits_len 16 digits
hexadecimal_at_most text digits q after n is (inl h) front =
    ⊎_elim
    (λ long. absurd (no_x (48 ∷ 120 ∷ drop 2 q.bytes) (drop 2 q.bytes) (subst (AllPass (λ c. is_digit c 10)) (begins_x q.bytes after digits long (front ∙ is)) h.1) refl))
    (λ short. omega arith)
    (order 1 (length q.bytes))
hexadecimal_at_most text digits q after n is (inr h) front =
    let rest : 48 ∷ 120 ∷ (h.0 ++ after) ≡ 48 ∷ 120 ∷ digits = sym (x_rest q.bytes h.0 after text h.1 front) ∙ is in
    let tail : h.0 ++ after ≡ digits = cc in
    omega (arith, ap length h.1, digits_run 16 h.0 after digits tail h.2.1)

decimal_at_most : (text : List ℕ) (q : Piece) (after : List ℕ) (n : ℕ) → after_prefix text ≡ None → IsNumber q.bytes n → q.bytes ++ after ≡ text → length q.bytes ≤ digits_len 10 text
decimal_at_most text q after n none (inl h) front = digits_run 10 q.bytes after text front h.1
decimal_at_most text q after n none (inr h) front =
    let rest = x_rest q.bytes h.0 after text h.1 front in
    let some : 0 < digits_len 16 (h.0 ++ after) = omega (arith, h.2.0, digits_run 16 h.0 after (h.0 ++ after) refl h.2.1) in
    let twice : ◌≡◌ {A = Option (List ℕ)} None (Some (h.0 ++ after)) = sym none ∙ ap after_prefix rest ∙ after_prefix-x (h.0 ++ after) some in
    absurd (cc)

number_by_prefix : (b : ℕ) (bs : List ℕ) (found : Option (List ℕ)) → class_of b ≡ Digit → after_prefix (b ∷ bs) ≡ found → IsFrontOf (b ∷ bs) (number_by (b ∷ bs) found)
number_by_prefix b bs None class h =
    let digit : is_digit b 10 ≡ true = digit_of b class in
    let some : 0 < digits_len 10 (b ∷ bs) = rw digit (omega arith) in
    let len : 0 + digits_len 10 (b ∷ bs) ≡ digits_len 10 (b ∷ bs) = omega arith in
    rw len (number_begins (b ∷ bs) (digits_len 10 (b ∷ bs)) (number_of 10 (take (digits_len 10 (b ∷ bs)) (b ∷ bs)))
    (prefix_len-le-length (λ c. is_digit c 10) (b ∷ bs))
    (inl (run_is_numeral 10 (b ∷ bs) some))
    (λ q after is front. let shape = shape_at q.bytes after q.kind b bs Digit class is front in decimal_at_most (b ∷ bs) q after shape.0 h shape.1 front))
number_by_prefix b bs (Some digits) class h =
    let parts = after_prefix-some (b ∷ bs) digits h in
    let two : 2 + digits_len 16 digits ≡ suc (suc (digits_len 16 digits)) = omega arith in
    let front : take (2 + digits_len 16 digits) (b ∷ bs) ≡ codes "0x" ++ take (digits_len 16 digits) digits = ap (take (2 + digits_len 16 digits)) parts.0 ∙ (rw two refl) in
    number_begins (b ∷ bs) (2 + digits_len 16 digits) (number_of 16 (take (digits_len 16 digits) digits))
    (omega (arith, ap length parts.0, prefix_len-le-length (λ c. is_digit c 16) digits))
    (inr (take (digits_len 16 digits) digits, front, run_is_numeral 16 digits parts.1))
    (λ q after is at_front. let shape = shape_at q.bytes after q.kind b bs Digit class is at_front in hexadecimal_at_most (b ∷ bs) digits q after shape.0 parts.0 shape.1 at_front)

numeral_begins : (b : ℕ) (bs : List ℕ) → class_of b ≡ Digit → IsFrontOf (b ∷ bs) (number_front (b ∷ bs))
unfolding number_front
numeral_begins b bs class = number_by_prefix b bs (after_prefix (b ∷ bs)) class refl

-- Signs

mark_by : (b : ℕ) (bs : List ℕ) (found : Option Sign) → class_of b ≡ Mark → sign_at (b ∷ bs) ≡ found → IsFrontOf (b ∷ bs) (option_and_then (λ s. token (length (sign_text s)) (kinds.Sign s)) found)
mark_by b bs None class h = no_piece (b ∷ bs) (λ q after is front.
    let shape = shape_at q.bytes after q.kind b bs Mark class is front in
    let longest = sign_at-longest (b ∷ bs) after shape.0 (ap (λ l. l ++ after) (sym shape.1) ∙ front) in
    let twice : ◌≡◌ {A = Option Sign} None (Some longest.0) = sym h ∙ longest.1 in
    absurd (cc))
mark_by b bs (Some s) class h =
    let whole = sign_at-some (b ∷ bs) s h in
    let rest = drop (length (sign_text s)) (b ∷ bs) in
    begins (b ∷ bs) (length (sign_text s)) (Some (kinds.Sign s))
    (omega (arith, ap length whole, length-append (sign_text s) rest))
    (ap (take (length (sign_text s))) whole ∙ take_at (sign_text s) rest (length (sign_text s)) refl)
    (λ q after is front.
    let shape = shape_at q.bytes after q.kind b bs Mark class is front in
    let longest = sign_at-longest (b ∷ bs) after shape.0 (ap (λ l. l ++ after) (sym shape.1) ∙ front) in
    let twice : Some s ≡ Some longest.0 = sym h ∙ longest.1 in
    let same : s ≡ longest.0 = cc in
    omega (arith, ap length shape.1, ap (λ t. length (sign_text t)) same, longest.2))
    tt

sign_begins : (b : ℕ) (bs : List ℕ) → class_of b ≡ Mark → IsFrontOf (b ∷ bs) (sign_front (b ∷ bs))
unfolding sign_front
sign_begins b bs class = mark_by b bs (sign_at (b ∷ bs)) class refl

-- Any

in_class_begins : (x : Class) (b : ℕ) (bs : List ℕ) → class_of b ≡ x → IsFrontOf (b ∷ bs) (front_in x (b ∷ bs))
in_class_begins Blank b bs class = blank_begins b bs class
in_class_begins Quote b bs class = text_begins b bs class
in_class_begins Slash b bs class = comment_begins b bs class
in_class_begins Digit b bs class = numeral_begins b bs class
in_class_begins Letter b bs class = name_begins b bs class
in_class_begins Mark b bs class = sign_begins b bs class

-- `front_of` finds the longest piece at the front, and if it finds none there is none
pub front_of-is : (text : List ℕ) → IsFrontOf text (front_of text)
unfolding front_of
front_of-is [] = no_piece [] (λ q after is front. let some = (has_shape q.bytes q.kind is).0 in omega (arith, length-append q.bytes after, ap length front))
front_of-is (b ∷ bs) = in_class_begins (class_of b) b bs refl
