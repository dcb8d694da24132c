-- Literals of one shape, read as those of another. Only the search uses them.
use Rattle.std.specs.Prelude.{List, [], ◌∷◌, ◌++◌, Bool, true, false, not, ◌&&◌, ◌||◌, if◌then◌else◌, length, nat_eq}
use Rattle.std.specs.List.{filter, list_all}
use Rattle.lucid_code.specs.declared.op.Literal.{Literal}
use Rattle.lucid_merge.specs.Product.{is_same, has}
use Rattle.lucid_refusals.specs.declared.readings.Reading.{Reading}

-- A test for equality is read as one for equality.
abbrev pub keeps_sign : Reading → Bool
keeps_sign x = if x.own.equal then x.other.equal else not x.other.equal

-- Both literals name one field exactly if those that they are read as do, and then one value exactly if those do.
abbrev pub agree : Reading → Reading → Bool
agree x y =
    (if nat_eq x.own.field y.own.field then nat_eq x.other.field y.other.field else not (nat_eq x.other.field y.other.field))
    && (not (nat_eq x.own.field y.own.field) || (if nat_eq x.own.value y.own.value then nat_eq x.other.value y.other.value else not (nat_eq x.other.value y.other.value)))

-- A literal that is read as itself.
abbrev pub itself : Literal → Reading
itself l = record { own = l; other = l }

-- It agrees with each of these literals, read as itself.
abbrev pub agrees_with : Reading → List Literal → Bool
agrees_with x literals = list_all (λ l. agree x (itself l)) literals

-- It agrees with each of these readings, and with each of these literals, read as itself.
abbrev pub agrees_with_all : List Literal → List Reading → Reading → Bool
agrees_with_all literals readings x = list_all (agree x) readings && agrees_with x literals

-- It reads a literal as itself, or it agrees with all.
abbrev pub is_apart : List Literal → List Reading → Reading → Bool
is_apart literals readings x = is_same x.own x.other || agrees_with_all literals readings x

-- The readings, beside these literals, keep which literals are the same and which are opposed.
abbrev pub are_apart : List Literal → List Reading → Bool
are_apart literals readings = list_all keeps_sign readings && list_all (is_apart literals readings) readings

-- A literal of these is read as itself.
abbrev pub is_known : List Literal → Reading → Bool
is_known literals x = is_same x.own x.other && has literals x.own

-- The other readings.
abbrev pub others_of : List Literal → List Reading → List Reading
others_of literals readings = filter (λ x. not (is_known literals x)) readings

-- Each literal of the one pattern is read as the one at its place in the other.
abbrev pub reading_of : List Literal → List Literal → List Reading
reading_of [] q = []
reading_of (l ∷ p) [] = []
reading_of (l ∷ p) (k ∷ q) = record { own = l; other = k } ∷ reading_of p q

-- The same, pattern by pattern.
abbrev pub readings_of : List (List Literal) → List (List Literal) → List Reading
readings_of [] qs = []
readings_of (p ∷ ps) [] = []
readings_of (p ∷ ps) (q ∷ qs) = reading_of p q ++ readings_of ps qs

-- There are as many patterns, each with as many literals as the one at its place.
abbrev pub same_lengths : List (List Literal) → List (List Literal) → Bool
same_lengths [] [] = true
same_lengths [] (q ∷ qs) = false
same_lengths (p ∷ ps) [] = false
same_lengths (p ∷ ps) (q ∷ qs) = nat_eq (length p) (length q) && same_lengths ps qs
