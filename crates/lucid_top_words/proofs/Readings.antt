-- What follows from how the named files were read.
use Rattle.std.proofs.Common.{◌≡◌, ℕ, suc, ◌+◌, ◌<◌, ◌≤◌, ◌⊎◌, inl, inr, List, [], ◌∷◌, Option, Some, None, IfSome, IsSome, Ok, Err, Bool, if◌then◌else◌, length, refl, sym, ◌∙◌, ap, subst, arith}
use Rattle.std.specs.Prelude.{option_map}
use Rattle.std.proofs.lemmas.Bool.{lt-ltb, le-ltb}
use Rattle.lucid_io.specs.Contents.{SameHeld}
use Rattle.lucid_io.specs.Counts.{Rose, SameCounts}
use Rattle.lucid_io.specs.declared.reading.Take.{Take}
use Rattle.lucid_io.specs.declared.reading.Take.TheVariants as take
use Rattle.lucid_top_words.specs.declared.command.NamedFile.{NamedFile}
use Rattle.lucid_top_words.specs.declared.refusal.Refusal.{Refusal}
use Rattle.lucid_top_words.specs.declared.refusal.Refusal.TheVariants as refusal
use Rattle.lucid_top_words.specs.Views.{FilesView, Held}
use Rattle.lucid_top_words.specs.Files.{Texts, FilesRead, ReadsNot, IsOneOf, before, contents, held_with, of_take}
use Rattle.lucid_top_words.specs.Words.{word_at}

-- ---- what was read agrees with what the files are told to hold

abbrev pub Agrees : Texts → Option Texts → Type 0
Agrees texts None = Unit {0}
Agrees (Ok texts) (Some told) = told ≡ Ok texts
Agrees (Err (refusal.TooLong word)) (Some told) = told ≡ Err (refusal.TooLong word)
Agrees (Err r) (Some told) = Unit {0}

same_contents : (held now : Held) (words : List (List ℕ)) (named : List NamedFile) → SameHeld held now → contents now words named ≡ contents held words named
same_contents held now words [] same = refl
same_contents held now words (file ∷ rest) same =
    ap (λ (o : Option (List ℕ)). held_with file o (contents now words rest)) (same (word_at words file.word))
    ∙ ap (held_with file (held (word_at words file.word))) (same_contents held now words rest same)

-- the file is too long, or isn't
long : (file : NamedFile) (text : List ℕ) (rest : Option Texts) → file.limit < length text → held_with file (Some text) rest ≡ Some (Err (refusal.TooLong file.word))
long file text rest longer = ap (λ (b : Bool). if b then Some (Err (refusal.TooLong file.word)) else option_map (before text) rest) (lt-ltb file.limit (length text) longer)

pub short : (file : NamedFile) (text : List ℕ) (rest : Option Texts) → length text ≤ file.limit → held_with file (Some text) rest ≡ option_map (before text) rest
short file text rest within = ap (λ (b : Bool). if b then Some (Err (refusal.TooLong file.word)) else option_map (before text) rest) (le-ltb file.limit (length text) within)

agrees_not : (file : NamedFile) (why : Take) (held : Option (List ℕ)) (rest : Option Texts) →
    (why ≡ take.TooLong → IfSome held (λ text. file.limit < length text)) → Agrees (Err (of_take file.word why)) (held_with file held rest)
agrees_not file why None rest longer = free why
  where
    free : (w : Take) → Agrees (Err (of_take file.word w)) None
    free w = tt
agrees_not file take.ReadFault (Some text) rest longer = free (held_with file (Some text) rest)
  where
    free : (told : Option Texts) → Agrees (Err (refusal.ReadFault file.word)) told
    free None = tt
    free (Some t) = tt
agrees_not file take.Memory (Some text) rest longer = free (held_with file (Some text) rest)
  where
    free : (told : Option Texts) → Agrees (Err refusal.Memory) told
    free None = tt
    free (Some t) = tt
agrees_not file take.TooLong (Some text) rest longer =
    subst (Agrees (Err (refusal.TooLong file.word))) (sym (long file text rest (longer refl))) refl

agrees_before : (text : List ℕ) (texts : Texts) (told : Option Texts) → Agrees texts told → Agrees (before text texts) (option_map (before text) told)
agrees_before text texts None agrees = none (before text texts)
  where
    none : (t : Texts) → Agrees t None
    none t = tt
agrees_before text (Ok texts) (Some told) agrees = ap (before text) agrees
agrees_before text (Err (refusal.TooLong word)) (Some told) agrees = ap (before text) agrees
agrees_before text (Err r) (Some told) agrees = tt

agrees_whole : (file : NamedFile) (text : List ℕ) (texts : Texts) (held : Option (List ℕ)) (rest : Option Texts) →
    IfSome held (λ bytes. text ≡ bytes) → length text ≤ file.limit → Agrees texts rest → Agrees (before text texts) (held_with file held rest)
agrees_whole file text texts None rest is within agrees = none (before text texts)
  where
    none : (t : Texts) → Agrees t None
    none t = tt
agrees_whole file text texts (Some bytes) rest is within agrees =
    subst (λ (l : List ℕ). Agrees (before text texts) (held_with file (Some l) rest)) is
    (subst (Agrees (before text texts)) (sym (short file text rest within)) (agrees_before text texts rest agrees))

pub read-agrees : (words : List (List ℕ)) (old new : FilesView) (named : List NamedFile) (texts : Texts) →
    FilesRead words old new named texts → Agrees texts (contents (old.held) words named)
read-agrees words old new [] texts reads = subst (λ (t : Texts). Agrees t (Some (Ok []))) (sym reads.1) refl
read-agrees words old new (file ∷ rest) texts reads =
    elim reads [
      | inl stop ↦ subst (λ (t : Texts). Agrees t (contents (old.held) words (file ∷ rest))) (sym (stop.2 ∙ ap (λ (r : Refusal). Err r) stop.1.2))
          (agrees_not file stop.1.0 (old.held (word_at words file.word)) (contents (old.held) words rest) stop.1.1.longer)
      | inr go ↦ subst (λ (t : Texts). Agrees t (contents (old.held) words (file ∷ rest))) (sym go.5)
          (agrees_whole file go.1 go.2 (old.held (word_at words file.word)) (contents (old.held) words rest) go.3.bytes go.3.within
          (subst (Agrees go.2) (same_contents (old.held) (go.0.held) words rest go.3.same) (read-agrees words go.0 new rest go.2 go.4)))
    ]

-- ---- why a reading ended

-- the refusal of this reading is that of the rest, after a file that was read whole
later_err : (text : List ℕ) (later texts : Texts) (r : Refusal) → texts ≡ before text later → texts ≡ Err r → later ≡ Err r
later_err text (Ok more) texts r is err = let no : ◌≡◌ {A = Texts} (Ok (text ∷ more)) (Err r) = sym is ∙ err in absurd (cc)
later_err text (Err s) texts r is err = sym is ∙ err

pub read-why : (words : List (List ℕ)) (old new : FilesView) (named : List NamedFile) (texts : Texts) (r : Refusal) →
    FilesRead words old new named texts → texts ≡ Err r → (word : ℕ) × (why : Take) × (r ≡ of_take word why)
read-why words old new [] texts r reads is = let no : ◌≡◌ {A = Texts} (Ok []) (Err r) = sym reads.1 ∙ is in absurd (cc)
read-why words old new (file ∷ rest) texts r reads is =
    elim reads [
      | inl stop ↦ let same : ◌≡◌ {A = Texts} (Err stop.0) (Err r) = sym stop.2 ∙ is in let s : stop.0 ≡ r = cc in (file.word, stop.1.0, sym s ∙ stop.1.2)
      | inr go ↦ read-why words go.0 new rest go.2 r go.4 (later_err go.1 go.2 texts r go.5 is)
    ]

pub read-rose : (words : List (List ℕ)) (old new : FilesView) (named : List NamedFile) (texts : Texts) (word : ℕ) →
    FilesRead words old new named texts → texts ≡ Err (refusal.ReadFault word) →
    (file : NamedFile) × IsOneOf named file × (file.word ≡ word) × Rose (old.faults (word_at words file.word)) (new.faults (word_at words file.word))
read-rose words old new [] texts word reads is = let no : ◌≡◌ {A = Texts} (Ok []) (Err (refusal.ReadFault word)) = sym reads.1 ∙ is in absurd (cc)
read-rose words old new (file ∷ rest) texts word reads is =
    elim reads [
      | inl stop ↦ at stop.1.0 stop.1.1 (sym (stop.2 ∙ ap (λ (r : Refusal). Err r) stop.1.2) ∙ is)
      | inr go ↦
          let later = read-rose words go.0 new rest go.2 word go.4 (later_err go.1 go.2 texts (refusal.ReadFault word) go.5 is) in
          (later.0, inr later.1, later.2, subst (λ (n : ℕ). Rose n (new.faults (word_at words later.0.word))) (go.3.quiet (word_at words later.0.word)) later.3)
    ]
  where
    at : (why : Take) → ReadsNot old new (word_at words file.word) file.limit why → ◌≡◌ {A = Texts} (Err (of_take file.word why)) (Err (refusal.ReadFault word)) →
        (f : NamedFile) × IsOneOf (file ∷ rest) f × (f.word ≡ word) × Rose (old.faults (word_at words f.word)) (new.faults (word_at words f.word))
    at take.ReadFault not same = (file, inl refl, cc, not.read_fault refl)
    at take.TooLong not same = absurd (cc)
    at take.Memory not same = absurd (cc)

pub read-long : (words : List (List ℕ)) (old new : FilesView) (named : List NamedFile) (texts : Texts) (word : ℕ) →
    FilesRead words old new named texts → texts ≡ Err (refusal.TooLong word) →
    (file : NamedFile) × IsOneOf named file × (file.word ≡ word) × (new.given ≡ file.limit + 1)
read-long words old new [] texts word reads is = let no : ◌≡◌ {A = Texts} (Ok []) (Err (refusal.TooLong word)) = sym reads.1 ∙ is in absurd (cc)
read-long words old new (file ∷ rest) texts word reads is =
    elim reads [
      | inl stop ↦ at stop.1.0 stop.1.1 (sym (stop.2 ∙ ap (λ (r : Refusal). Err r) stop.1.2) ∙ is)
      | inr go ↦
          let later = read-long words go.0 new rest go.2 word go.4 (later_err go.1 go.2 texts (refusal.TooLong word) go.5 is) in
          (later.0, inr later.1, later.2, later.3)
    ]
  where
    at : (why : Take) → ReadsNot old new (word_at words file.word) file.limit why → ◌≡◌ {A = Texts} (Err (of_take file.word why)) (Err (refusal.TooLong word)) →
        (f : NamedFile) × IsOneOf (file ∷ rest) f × (f.word ≡ word) × (new.given ≡ f.limit + 1)
    at take.ReadFault not same = absurd (cc)
    at take.TooLong not same = (file, inl refl, cc, not.too_long refl)
    at take.Memory not same = absurd (cc)

-- one file alone that gave more than its limit was not taken
pub read-gave_more : (words : List (List ℕ)) (old new : FilesView) (file : NamedFile) (texts : Texts) →
    FilesRead words old new (file ∷ []) texts → new.given ≡ file.limit + 1 → (texts ≡ Err (refusal.TooLong file.word)) ⊎ (texts ≡ Err refusal.Memory)
read-gave_more words old new file texts reads more =
    elim reads [
      | inl stop ↦ at stop.1.0 (stop.2 ∙ ap (λ (r : Refusal). Err r) stop.1.2) (stop.1.1.gave_more more)
      | inr go ↦
          let mid : go.0.given ≡ file.limit + 1 = ap (λ (t : FilesView). t.given) (sym go.4.0) ∙ more in
          let le : length go.1 ≤ file.limit = go.3.within in
          let is : go.0.given ≡ length go.1 = go.3.gave in
          absurd (omega arith)
    ]
  where
    at : (why : Take) → texts ≡ Err (of_take file.word why) → (why ≡ take.TooLong) ⊎ (why ≡ take.Memory) → (texts ≡ Err (refusal.TooLong file.word)) ⊎ (texts ≡ Err refusal.Memory)
    at take.ReadFault is causes = absurd (elim causes [ inl h ↦ cc | inr h ↦ cc ])
    at take.TooLong is causes = inl is
    at take.Memory is causes = inr is

-- ---- what a reading leaves as it was

pub read-held : (words : List (List ℕ)) (old new : FilesView) (named : List NamedFile) (texts : Texts) →
    FilesRead words old new named texts → SameHeld (old.held) (new.held)
read-held words old new [] texts reads name = ap (λ (t : FilesView). t.held name) reads.0
read-held words old new (file ∷ rest) texts reads name =
    elim reads [ inl stop ↦ stop.1.1.same name | inr go ↦ read-held words go.0 new rest go.2 go.4 name ∙ go.3.same name ]

-- there are as many texts as files
pub read-length : (words : List (List ℕ)) (old new : FilesView) (named : List NamedFile) (texts : List (List ℕ)) →
    FilesRead words old new named (Ok texts) → length texts ≡ length named
read-length words old new [] texts reads = let is : ◌≡◌ {A = Texts} (Ok texts) (Ok []) = reads.1 in let none : texts ≡ [] = cc in ap length none
read-length words old new (file ∷ rest) texts reads =
    elim reads [
      | inl stop ↦ let no : ◌≡◌ {A = Texts} (Ok texts) (Err stop.0) = stop.2 in absurd (cc)
      | inr go ↦
          at go.1 go.2 go.5
          (λ more is. read-length words go.0 new rest more (subst (FilesRead words go.0 new rest) is go.4))
    ]
  where
    at : (text : List ℕ) (later : Texts) → ◌≡◌ {A = Texts} (Ok texts) (before text later) → ((more : List (List ℕ)) → later ≡ Ok more → length more ≡ length rest) →
        length texts ≡ length (file ∷ rest)
    at text (Ok more) is shorter =
        let whole : texts ≡ text ∷ more = cc in
        ap length whole ∙ ap suc (shorter more refl)
    at text (Err r) is shorter = absurd (cc)

-- no count of faults changed, unless a call on a file failed
pub read-quiet : (words : List (List ℕ)) (old new : FilesView) (named : List NamedFile) (texts : Texts) →
    FilesRead words old new named texts → ((word : ℕ) → texts ≡ Err (refusal.ReadFault word) → ⊥) → SameCounts (old.faults) (new.faults)
read-quiet words old new [] texts reads read = λ name. ap (λ (t : FilesView). t.faults name) reads.0
read-quiet words old new (file ∷ rest) texts reads read =
    elim reads [
      | inl stop ↦
          stop.1.1.quiet
          (λ same. read file.word (stop.2 ∙ ap (λ (r : Refusal). Err r) (stop.1.2 ∙ ap (of_take file.word) same)))
      | inr go ↦ λ name.
          read-quiet words go.0 new rest go.2 go.4 (λ word is. read word (go.5 ∙ ap (before go.1) is)) name ∙ go.3.quiet name
    ]
