-- How the reserved words are written.
use Rattle.std.specs.Prelude.{ℕ, ◌==◌, if◌then◌else◌, List, [], ◌∷◌, length, Option, codes, find, bytes_eq}
use Rattle.lucid_lex.specs.declared.word.Word.{Word}
use Rattle.lucid_lex.specs.declared.word.Word.TheVariants as words

-- the bytes of a reserved word
abbrev pub word_text : Word → List ℕ
word_text words.Const = codes "const"
word_text words.Global = codes "global"
word_text words.Memop = codes "memop"
word_text words.Event = codes "event"
word_text words.Handle = codes "handle"
word_text words.Fun = codes "fun"
word_text words.If = codes "if"
word_text words.Else = codes "else"
word_text words.Return = codes "return"
word_text words.Generate = codes "generate"
word_text words.Printf = codes "printf"
word_text words.Int = codes "int"
word_text words.Bool = codes "bool"
word_text words.Void = codes "void"
word_text words.True = codes "true"
word_text words.False = codes "false"
word_text words.Hash = codes "hash"
word_text words.Me = codes "SELF"
word_text words.ArrayCalls = codes "Array"
word_text words.EventCalls = codes "Event"
word_text words.SysCalls = codes "Sys"
word_text words.Match = codes "match"
word_text words.With = codes "with"
word_text words.Group = codes "group"

-- the reserved words of this many bytes
abbrev pub words_of : ℕ → List Word
words_of n =
    if n == 2 then words.If ∷ []
    else (if n == 3 then words.Int ∷ words.Fun ∷ words.SysCalls ∷ []
    else (if n == 4 then words.Bool ∷ words.Else ∷ words.Void ∷ words.True ∷ words.Hash ∷ words.Me ∷ words.With ∷ []
    else (if n == 5 then words.Event ∷ words.ArrayCalls ∷ words.EventCalls ∷ words.Const ∷ words.Memop ∷ words.False ∷ words.Match ∷ words.Group ∷ []
    else (if n == 6 then words.Handle ∷ words.Return ∷ words.Global ∷ words.Printf ∷ []
    else (if n == 8 then words.Generate ∷ []
    else [])))))

-- the reserved word with these bytes, if there is one
unfoldable pub word_in : List ℕ → Option Word
word_in bytes = find (λ w. bytes_eq (word_text w) bytes) (words_of (length bytes))
