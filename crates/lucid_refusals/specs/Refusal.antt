-- The refusals of a table that are remembered, so that no rows are merged in vain again. Only the search uses them.
use Rattle.std.specs.Prelude.{◌≡◌, ℕ, ◌<◌, List, [], Bool, ◌||◌, length, map}
use Rattle.std.specs.List.{filter, flat_map, fold, list_all}
use Rattle.lucid_code.specs.declared.op.Literal.{Literal}
use Rattle.lucid_tables.specs.declared.table.Row.{Row}
use Rattle.lucid_tables.specs.Numbers.{is_in, rising}
use Rattle.lucid_merge.specs.Product.{has, with_literal, product}
use Rattle.lucid_merge.specs.RowCounts.{patterns_of}

-- Any table of these patterns has more than `rows` rows with any rows of the shape's patterns.
abbrev pub Refuses : ℕ → List (List Literal) → List (List Literal) → Type 0
Refuses rows patterns shape =
    (a b : List Row) → patterns_of a ≡ patterns → patterns_of b ≡ shape → rows < length (product a b)

-- The fields that patterns name, in rising order.
abbrev pub fields_of : List (List Literal) → List ℕ
fields_of patterns = rising (flat_map (λ p. map (λ (l : Literal). l.field) p) patterns)

-- The literals of patterns, each once.
abbrev pub literals_of : List (List Literal) → List Literal
literals_of patterns = fold (fold with_literal) [] patterns

-- The literals of these fields.
abbrev pub shared : List ℕ → List Literal → List Literal
shared fields pattern = filter (λ (l : Literal). is_in l.field fields) pattern

-- With any table that names these fields, any rows of the shape's patterns make as many rows as these.
abbrev pub StandsFor : List ℕ → List Row → List (List Literal) → Type 0
StandsFor fields more shape =
    (a b : List Row) → fields ≡ fields_of (patterns_of a) → patterns_of b ≡ shape → length (product a more) ≡ length (product a b)

-- Any table of these literals that refuses the known shape refuses the other.
abbrev pub Implies : List Literal → List (List Literal) → List (List Literal) → Type 0
Implies literals known shape =
    (rows : ℕ) (patterns : List (List Literal)) → literals ≡ literals_of patterns → Refuses rows patterns known → Refuses rows patterns shape

-- The literal is one of these or of those.
abbrev pub is_one : List Literal → List Literal → Literal → Bool
is_one literals more l = has literals l || has more l

-- The patterns whose literals all are among these or those.
abbrev pub kept_among : List Literal → List Literal → List (List Literal) → List (List Literal)
kept_among literals more shape = filter (list_all (is_one literals more)) shape
