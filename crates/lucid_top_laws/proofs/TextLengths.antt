-- The generated texts are no longer than the files of a call may be.
use Rattle.std.proofs.Common.{◌≡◌, ◌∙◌, ◌<◌, ◌≤◌, ◌+◌, ◌*◌, ◌/◌, ◌%◌, ◌^◌, ◌++◌, ◌∷◌, ℕ, zero, suc, Bool, true, false, List, [], ap, append-nil, arith, codes, decimal, if◌then◌else◌, length, length-append, map, nat_eq, refl}
use Rattle.std.proofs.lemmas.Fmt.{length-decimal-le}
use Rattle.std.proofs.lemmas.List.Folds.{concat-append}
use Rattle.std.proofs.lemmas.Nat.{mod_below}
use Rattle.std.specs.Fmt.{digits}
use Rattle.std.specs.List.{concat, join_with_byte, range_with_len}
use Rattle.lucid_gen.specs.Choices.{call_by}
use Rattle.lucid_gen.specs.Draws.{Draw, next, times}
use Rattle.lucid_gen.specs.Program.{array, array_line, call_line, eight, event_line, handler, handler_line, memop_line, program_text, step}
use Rattle.lucid_gen.specs.Scene.{item, items, scene_text}

-- From any state on, the draw gives at most this many bytes.
abbrev IsShort : ℕ → Draw (List ℕ) → Type 0
IsShort most draw = (state : ℕ) → length (draw state).gives ≤ most

-- ---- numbers

one_digit : (n : ℕ) → n < 8 → length (decimal n) ≤ 1
one_digit n small = length-decimal-le 1 n (omega arith) (omega (arith, small)) (omega (arith, small))

two_digits : (n : ℕ) → n < 100 → length (decimal n) ≤ 2
two_digits n small = length-decimal-le 2 n (omega arith) (omega (arith, small)) (omega (arith, small))

three_digits : (n : ℕ) → n < 1000 → length (decimal n) ≤ 3
three_digits n small = length-decimal-le 3 n (omega arith) (omega (arith, small)) (omega (arith, small))

-- ---- texts in a row

-- this many times the number
abbrev row : ℕ → ℕ → ℕ
row most zero = 0
row most (suc n) = row most n + most

one_longer : (xs : List (List ℕ)) (x : List ℕ) → length (concat (xs ++ x ∷ [])) ≡ length (concat xs) + length x
one_longer xs x = ap length (concat-append xs (x ∷ [])) ∙ length-append (concat xs) (concat (x ∷ [])) ∙ ap (λ k. length (concat xs) + k) (ap length (append-nil x))

-- with one byte more for each text
row_short : (most n : ℕ) (draw : ℕ → Draw (List ℕ)) → ((j : ℕ) → j < n → IsShort most (draw j)) → (state : ℕ) →
    length (concat (times n draw state).gives) + length (times n draw state).gives ≤ row (most + 1) n
unfolding times
row_short most zero draw short state = omega arith
row_short most (suc n) draw short state =
    let xs = (times n draw state).gives in
    let x = (draw n (times n draw state).after).gives in
    let before = row_short most n draw (λ j less. short j (omega (arith, less))) state in
    let last = short n (omega arith) (times n draw state).after in
    omega (arith, before, last, one_longer xs x, length-append xs (x ∷ []))

eight_short : (most : ℕ) (draw : ℕ → Draw (List ℕ)) → ((j : ℕ) → j < 8 → IsShort most (draw j)) → IsShort (row (most + 1) 8) (eight draw)
eight_short most draw short state = let all = row_short most 8 draw short state in omega (arith, all)

-- ---- the program

array_line_short : (j size : ℕ) → j < 8 → size < 100 → length (array_line j size) ≤ 60
array_line_short j size few small =
    let a = codes "global Array.t<<32>> a" ++ decimal j in
    let b = a ++ codes " = Array.create(" in
    let c = b ++ decimal size in
    omega (
      arith,
      length-append c (codes ");\n"),
      length-append b (decimal size),
      length-append a (codes " = Array.create("),
      length-append (codes "global Array.t<<32>> a") (decimal j),
      one_digit j few,
      two_digits size small,
    )

array_short : (j : ℕ) → j < 8 → IsShort 60 (array j)
array_short j few state = let less = mod_below (next state / 2 ^ 33) 64 (omega arith) in array_line_short j (1 + next state / 2 ^ 33 % 64) few (omega (arith, less))

line_short : (begun : List ℕ) (q : ℕ) → length begun ≤ 20 → q < 8 → length (begun ++ decimal q ++ codes ", i, plus, v);\n") ≤ 90
line_short begun q short few = omega (arith, length-append (begun ++ decimal q) (codes ", i, plus, v);\n"), length-append begun (decimal q), short, one_digit q few)

update_short : (q above : ℕ) → q < 8 → above < 1000 →
    length (codes "  if (v > " ++ decimal above ++ codes ") { v = Array.update(a" ++ decimal q ++ codes ", i, plus, 1, plus, v); }\n") ≤ 90
update_short q above few small =
    let a = codes "  if (v > " ++ decimal above in
    let b = a ++ codes ") { v = Array.update(a" in
    let c = b ++ decimal q in
    omega (
      arith,
      length-append c (codes ", i, plus, 1, plus, v); }\n"),
      length-append b (decimal q),
      length-append a (codes ") { v = Array.update(a"),
      length-append (codes "  if (v > ") (decimal above),
      one_digit q few,
      three_digits above small,
    )

-- by the choice
call_short : (choice q : ℕ) → q < 8 → (state : ℕ) → length (call_line q (call_by choice state).gives) ≤ 90
call_short choice q few state = first (nat_eq choice 0) refl
  where
    third : (b : Bool) → nat_eq choice 0 ≡ false → nat_eq choice 1 ≡ false → nat_eq choice 2 ≡ b → length (call_line q (call_by choice state).gives) ≤ 90
    third true none get is = rw (none, get, is) (line_short (codes "  Array.setm(a") q (omega arith) few)
    third false none get is = rw (none, get, is) (update_short q (next state / 2 ^ 33 % 1000) few (mod_below (next state / 2 ^ 33) 1000 (omega arith)))

    second : (b : Bool) → nat_eq choice 0 ≡ false → nat_eq choice 1 ≡ b → length (call_line q (call_by choice state).gives) ≤ 90
    second true none is = rw (none, is) (line_short (codes "  v = Array.getm(a") q (omega arith) few)
    second false none is = third (nat_eq choice 2) none is refl

    first : (b : Bool) → nat_eq choice 0 ≡ b → length (call_line q (call_by choice state).gives) ≤ 90
    first true is = rw is (omega arith)
    first false is = second (nat_eq choice 1) is refl

step_short : (q : ℕ) → q < 8 → IsShort 90 (step q)
step_short q few state = call_short (next state / 2 ^ 33 % 4) q few (next state)

abbrev late : ℕ → ℕ → List ℕ
late event delay = codes "Event.delay(e" ++ decimal event ++ codes "(i + 1, v), " ++ decimal delay ++ codes ")"

late_short : (event delay : ℕ) → event < 8 → delay < 100 → length (late event delay) ≤ 40
late_short event delay few small =
    let a = codes "Event.delay(e" ++ decimal event in
    let b = a ++ codes "(i + 1, v), " in
    let c = b ++ decimal delay in
    omega (
      arith,
      length-append c (codes ")"),
      length-append b (decimal delay),
      length-append a (codes "(i + 1, v), "),
      length-append (codes "Event.delay(e") (decimal event),
      one_digit event few,
      two_digits delay small,
    )

generate_short : (crosses : Bool) (text : List ℕ) → length text ≤ 40 →
    length (if crosses then codes "  generate Event.locate(" ++ text ++ codes ", SELF ^ 1);\n" else codes "  generate " ++ text ++ codes ";\n") ≤ 90
generate_short true text short =
    omega (arith, length-append (codes "  generate Event.locate(" ++ text) (codes ", SELF ^ 1);\n"), length-append (codes "  generate Event.locate(") text, short)
generate_short false text short = omega (arith, length-append (codes "  generate " ++ text) (codes ";\n"), length-append (codes "  generate ") text, short)

handler_line_short : (j : ℕ) → j < 8 → length (handler_line j) ≤ 30
handler_line_short j few =
    omega (arith, length-append (codes "handle e" ++ decimal j) (codes "(int i, int v) {\n"), length-append (codes "handle e") (decimal j), one_digit j few)

-- the parts of a handler's text
handler_parts : (a b c : List ℕ) → length a ≤ 30 → length b ≤ row 91 8 → length c ≤ 90 → length (a ++ b ++ c ++ codes "}\n") ≤ 900
handler_parts a b c first second third =
    omega (arith, length-append (a ++ b ++ c) (codes "}\n"), length-append (a ++ b) c, length-append a b, first, second, third)

handler_short : (j : ℕ) → j < 8 → IsShort 900 (handler j)
handler_short j few state =
    let after = (eight step state).after in
    let event = next (next after) in
    let less = mod_below (next event / 2 ^ 33) 100 (omega arith) in
    let text = late (event / 2 ^ 33 % 8) (next event / 2 ^ 33 % 100) in
    let crosses = nat_eq (next after / 2 ^ 33 % 2) 1 in
    handler_parts (handler_line j) (eight step state).gives
    (if crosses then codes "  generate Event.locate(" ++ text ++ codes ", SELF ^ 1);\n" else codes "  generate " ++ text ++ codes ";\n")
    (handler_line_short j few) (eight_short 90 step step_short state)
    (generate_short crosses text (late_short (event / 2 ^ 33 % 8) (next event / 2 ^ 33 % 100) (mod_below (event / 2 ^ 33) 8 (omega arith)) less))

events_short : length (concat (map event_line (range_with_len 0 8))) ≡ 192
unfolding digits
events_short = refl

program_parts : (a b c : List ℕ) → length a ≤ row 61 8 → length b ≡ 192 → length c ≤ row 901 8 → length (a ++ memop_line ++ b ++ c) ≤ 1048576
program_parts a b c first second third =
    omega (arith, length-append (a ++ memop_line ++ b) c, length-append (a ++ memop_line) b, length-append a memop_line, first, second, third)

pub program_short : (seed : ℕ) → length (program_text seed) ≤ 1048576
program_short seed =
    program_parts (eight array seed).gives (concat (map event_line (range_with_len 0 8))) (eight handler (eight array seed).after).gives
    (eight_short 60 array array_short seed) events_short (eight_short 900 handler handler_short (eight array seed).after)

-- ---- the scenario

entry_short : (at switch event index value : ℕ) → at < 100 → switch < 4 → event < 8 → index < 1000 → value < 1000 →
    length (codes "{\"at\":" ++ decimal at ++ codes ",\"switch\":" ++ decimal switch ++ codes ",\"name\":\"e" ++ decimal event
    ++ codes "\",\"args\":[" ++ decimal index ++ codes "," ++ decimal value ++ codes "]}") ≤ 60
entry_short at switch event index value a b c d e =
    let t0 = codes "{\"at\":" ++ decimal at in
    let s1 = t0 ++ codes ",\"switch\":" in
    let t1 = s1 ++ decimal switch in
    let s2 = t1 ++ codes ",\"name\":\"e" in
    let t2 = s2 ++ decimal event in
    let s3 = t2 ++ codes "\",\"args\":[" in
    let t3 = s3 ++ decimal index in
    let s4 = t3 ++ codes "," in
    let t4 = s4 ++ decimal value in
    omega (
      arith,
      length-append t4 (codes "]}"),
      length-append s4 (decimal value),
      length-append t3 (codes ","),
      length-append s3 (decimal index),
      length-append t2 (codes "\",\"args\":["),
      length-append s2 (decimal event),
      length-append t1 (codes ",\"name\":\"e"),
      length-append s1 (decimal switch),
      length-append t0 (codes ",\"switch\":"),
      length-append (codes "{\"at\":") (decimal at),
      two_digits at a,
      one_digit switch (omega (arith, b)),
      one_digit event c,
      three_digits index d,
      three_digits value e,
    )

item_short : (j : ℕ) → IsShort 60 (item j)
item_short j state =
    let switch = next (next state) in
    let event = next switch in
    let index = next event in
    let value = next index in
    entry_short (next state / 2 ^ 33 % 100) (switch / 2 ^ 33 % 4) (event / 2 ^ 33 % 8) (index / 2 ^ 33 % 1000) (value / 2 ^ 33 % 1000)
    (mod_below (next state / 2 ^ 33) 100 (omega arith)) (mod_below (switch / 2 ^ 33) 4 (omega arith)) (mod_below (event / 2 ^ 33) 8 (omega arith))
    (mod_below (index / 2 ^ 33) 1000 (omega arith)) (mod_below (value / 2 ^ 33) 1000 (omega arith))

joined_short : (xs : List (List ℕ)) → length (join_with_byte 44 xs) ≤ length (concat xs) + length xs
joined_short [] = omega arith
joined_short (x ∷ []) = omega (arith, length-append x [])
joined_short (x ∷ y ∷ ys) =
    let rest = joined_short (y ∷ ys) in
    omega (arith, rest, length-append x (44 ∷ join_with_byte 44 (y ∷ ys)), length-append x (concat (y ∷ ys)))

row_of : (n : ℕ) → row 61 n ≤ 61 * n
row_of zero = omega arith
row_of (suc n) = let h = row_of n in omega (arith, h)

items_short : (n : ℕ) → n ≤ 10000 → IsShort 610000 (items n)
items_short n few state =
    let all = row_short 60 n item (λ j less. item_short j) state in
    omega (arith, all, joined_short (times n item state).gives, row_of n, few)

pub scene_short : (seed n : ℕ) → n ≤ 10000 → length (scene_text seed n) ≤ 8388608
scene_short seed n few =
    let text = (items n seed).gives in
    let begun = codes "{\"switches\":4,\"stop\":1000,\"links\":[[0,1,1],[2,3,2]],\"events\":[" in
    omega (arith, length-append (begun ++ text) (codes "]}\n"), length-append begun text, items_short n few seed)
