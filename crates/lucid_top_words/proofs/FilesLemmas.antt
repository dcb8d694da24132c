-- A reading, by the entries that it added to the history: the names, the texts, and the contents that agree with it.
use Rattle.std.proofs.Common.{◌≡◌, ℕ, ◌+◌, ◌<◌, ◌≤◌, inl, inr, List, [], ◌∷◌, Bool, true, IsTrue, Option, Some, None, IfSome, length, refl, sym, ◌∙◌, ap, subst, arith, suc, ◌++◌, Ok, Err, append_assoc, length-append}
use Rattle.lucid_io.specs.declared.reading.Take.{Take}
use Rattle.lucid_io.specs.declared.reading.Take.TheVariants as take
use Rattle.lucid_io.specs.Contents.{SameHeld}
use Rattle.lucid_io.specs.History.{Heard, HeardPart, HeardWhole, AgreesWith, AgreesWithAll}
use Rattle.lucid_top_words.specs.declared.command.NamedFile.{NamedFile}
use Rattle.lucid_top_words.specs.Files.{FilesRead, ReadsNot, ReadsWhole, Texts, BegunInOrder, before, of_take, read_whole}
use Rattle.lucid_top_words.specs.Views.{FilesView, Held, holding}
use Rattle.lucid_top_words.specs.Words.{word_at}
use Rattle.std.specs.Prelude.{◌⊎◌}
use Rattle.lucid_top_words.specs.declared.refusal.Refusal.{Refusal}
use Rattle.lucid_top_words.specs.declared.refusal.Refusal.TheVariants as refusal

-- ---- the names

begun-none : (words : List (List ℕ)) (files : List NamedFile) (old new : List Heard) → new ≡ old → BegunInOrder words files old new
begun-none words [] old new is = is
begun-none words (file ∷ files) old new is = inl is

pub read-begun : (words : List (List ℕ)) (old new : FilesView) (named : List NamedFile) (texts : Texts) → FilesRead words old new named texts → BegunInOrder words named old.heard new.heard
read-begun words old new [] texts reads = ap (λ (v : FilesView). v.heard) reads.0
read-begun words old new (file ∷ rest) texts reads =
    elim reads [
      | inl stop ↦ inr (_, refl, begun-none words rest _ new.heard stop.1.1.heard.entry)
      | inr go ↦ inr (_, refl, subst (λ (all : List Heard). BegunInOrder words rest all new.heard) go.3.heard (read-begun words go.0 new rest go.2 go.4))
    ]

-- ---- the texts

-- the entry of a file that was read whole
abbrev entry : List ℕ → List ℕ → Heard
entry name text = record { name = name; bytes = text; ended = true }

-- the history only grows
read-grows : (words : List (List ℕ)) (old new : FilesView) (named : List NamedFile) (texts : Texts) → FilesRead words old new named texts → (xs : List Heard) × (new.heard ≡ xs ++ old.heard)
read-grows words old new [] texts reads = ([], ap (λ (v : FilesView). v.heard) reads.0)
read-grows words old new (file ∷ rest) texts reads =
    elim reads [
      | inl stop ↦ (_ ∷ [], stop.1.1.heard.entry)
      | inr go ↦
          let later = read-grows words go.0 new rest go.2 go.4 in
          let h = entry (word_at words file.word) go.1 in
          (later.0 ++ h ∷ [], later.1 ∙ ap (λ (all : List Heard). later.0 ++ all) go.3.heard ∙ sym (append_assoc later.0 (h ∷ []) old.heard))
    ]

whole-grows : (words : List (List ℕ)) (named : List NamedFile) (texts : List (List ℕ)) (all : List Heard) → (xs : List Heard) × (read_whole words named texts all ≡ xs ++ all)
whole-grows words [] texts all = ([], refl)
whole-grows words (file ∷ rest) [] all = ([], refl)
whole-grows words (file ∷ rest) (text ∷ texts) all =
    let h = entry (word_at words file.word) text in
    let later = whole-grows words rest texts (h ∷ all) in
    (later.0 ++ h ∷ [], later.1 ∙ sym (append_assoc later.0 (h ∷ []) all))

-- two entries after which the histories are the same are the same
same-end : (xs ys : List Heard) (a b : Heard) (all : List Heard) → xs ++ a ∷ all ≡ ys ++ b ∷ all → a ≡ b
same-end [] [] a b all is = cc
same-end [] (y ∷ ys) a b all is = let rest : all ≡ ys ++ b ∷ all = cc in absurd (omega (arith, ap length rest, length-append ys (b ∷ all)))
same-end (x ∷ xs) [] a b all is = let rest : xs ++ a ∷ all ≡ all = cc in absurd (omega (arith, ap length rest, length-append xs (a ∷ all)))
same-end (x ∷ xs) (y ∷ ys) a b all is = let rest : xs ++ a ∷ all ≡ ys ++ b ∷ all = cc in same-end xs ys a b all rest

-- If the history has the files read whole with these texts, they are the texts that were read, unless memory ran out.
pub read-texts : (words : List (List ℕ)) (old new : FilesView) (named : List NamedFile) (texts : Texts) (ts : List (List ℕ)) → FilesRead words old new named texts → length ts ≡ length named →
    new.heard ≡ read_whole words named ts old.heard → (texts ≡ Ok ts) ⊎ (texts ≡ Err refusal.Memory)
read-texts words old new [] texts [] reads long is = inl reads.1
read-texts words old new [] texts (t ∷ ts) reads long is = absurd (cc)
read-texts words old new (file ∷ rest) texts [] reads long is = absurd (cc)
read-texts words old new (file ∷ rest) texts (t ∷ ts) reads long is =
    let h = entry (word_at words file.word) t in
    let end = whole-grows words rest ts (h ∷ old.heard) in
    elim reads [
      | inl stop ↦
          let same = same-end [] end.0 _ h old.heard (sym stop.1.1.heard.entry ∙ is ∙ end.1) in
          let ended : stop.1.1.heard.ended ≡ true = ap (λ (e : Heard). e.ended) same in
          inr (stop.2 ∙ ap (λ (r : Refusal). Err r) (stop.1.2 ∙ ap (of_take file.word) (stop.1.1.heard.memory ended)))
      | inr go ↦
          let grown = read-grows words go.0 new rest go.2 go.4 in
          let same = same-end grown.0 end.0 _ h old.heard (sym (grown.1 ∙ ap (λ (all : List Heard). grown.0 ++ all) go.3.heard) ∙ is ∙ end.1) in
          let text : go.1 ≡ t = ap (λ (e : Heard). e.bytes) same in
          let first : go.0.heard ≡ h ∷ old.heard = go.3.heard ∙ ap (λ (x : List ℕ). entry (word_at words file.word) x ∷ old.heard) text in
          let shorter : length ts ≡ length rest = omega (arith, long) in
          elim (read-texts words go.0 new rest go.2 ts go.4 shorter (is ∙ ap (read_whole words rest ts) (sym first))) [
            | inl ok ↦ inl (go.5 ∙ ap (before go.1) ok ∙ ap (λ (x : List ℕ). Ok (x ∷ ts)) text)
            | inr out ↦ inr (go.5 ∙ ap (before go.1) out)
          ]
    ]

-- ---- contents that agree with the history

-- contents that agree with the history after a reading agree with the one before it
agrees_before : (contents : Held) (words : List (List ℕ)) (old new : FilesView) (named : List NamedFile) (texts : Texts) → FilesRead words old new named texts → AgreesWithAll contents new.heard → AgreesWithAll contents old.heard
agrees_before contents words old new [] texts reads agrees = subst (λ (v : FilesView). AgreesWithAll contents v.heard) reads.0 agrees
agrees_before contents words old new (file ∷ rest) texts reads agrees =
    elim reads [
      | inl stop ↦ (subst (AgreesWithAll contents) stop.1.1.heard.entry agrees).1
      | inr go ↦ (subst (AgreesWithAll contents) go.3.heard (agrees_before contents words go.0 new rest go.2 go.4 agrees)).1
    ]

module _ (contents : Held) {old new : FilesView} {name : List ℕ} {limit : ℕ} where
  whole_holding : (text : List ℕ) → ReadsWhole old new name limit text → AgreesWithAll contents new.heard → ReadsWhole (holding contents old) (holding contents new) name limit text
  whole_holding text reads agrees = record {
    bytes = at (contents name) (subst (AgreesWithAll contents) reads.heard agrees).0;
    within = reads.within;
    gave = reads.gave;
    heard = reads.heard;
    same = λ name. refl;
    quiet = reads.quiet;
  }
    where
      at : (held : Option (List ℕ)) → IfSome held (λ bytes. (length text ≤ length bytes) × (IsTrue true → text ≡ bytes)) → IfSome held (λ bytes. text ≡ bytes)
      at None agrees = tt
      at (Some bytes) agrees = agrees.1 refl

  not_holding : (why : Take) → ReadsNot old new name limit why → AgreesWithAll contents new.heard → ReadsNot (holding contents old) (holding contents new) name limit why
  not_holding why reads agrees = record {
    read_fault = reads.read_fault;
    too_long = reads.too_long;
    gave_more = reads.gave_more;
    longer = λ long. longer (contents name) fits (reads.heard.past long);
    heard = record { text = reads.heard.text; ended = reads.heard.ended; entry = reads.heard.entry; fits = fits; memory = reads.heard.memory; past = reads.heard.past };
    same = λ name. refl;
    later = reads.later;
    quiet = reads.quiet;
  }
    where
      fits : AgreesWith contents (record { name = name; bytes = reads.heard.text; ended = reads.heard.ended })
      fits = (subst (AgreesWithAll contents) reads.heard.entry agrees).0

      longer : (held : Option (List ℕ)) → IfSome held (λ bytes. (length reads.heard.text ≤ length bytes) × (IsTrue reads.heard.ended → reads.heard.text ≡ bytes)) → length reads.heard.text ≡ limit + 1 →
          IfSome held (λ bytes. limit < length bytes)
      longer None agrees past = tt
      longer (Some bytes) agrees past = omega (arith, agrees.0, past)

-- the reading is one of files with these contents
pub read-holding : (contents : Held) (words : List (List ℕ)) (old new : FilesView) (named : List NamedFile) (texts : Texts) → FilesRead words old new named texts → AgreesWithAll contents new.heard →
    FilesRead words (holding contents old) (holding contents new) named texts
read-holding contents words old new [] texts reads agrees = (ap (holding contents) reads.0, reads.1)
read-holding contents words old new (file ∷ rest) texts reads agrees =
    elim reads [
      | inl stop ↦ inl (stop.0, (stop.1.0, not_holding contents stop.1.0 stop.1.1 agrees, stop.1.2), stop.2)
      | inr go ↦
          inr (
            holding contents go.0,
            go.1,
            go.2,
            whole_holding contents go.1 go.3 (agrees_before contents words go.0 new rest go.2 go.4 agrees),
            read-holding contents words go.0 new rest go.2 go.4 agrees,
            go.5,
          )
    ]

-- ---- the specified contents agree with the history, if they did before

agrees_same : (contents now : Held) (heard : List Heard) → SameHeld contents now → AgreesWithAll contents heard → AgreesWithAll now heard
agrees_same contents now [] same agrees = tt
agrees_same contents now (h ∷ rest) same agrees =
    (subst (λ (o : Option (List ℕ)). IfSome o (λ bytes. (length h.bytes ≤ length bytes) × (IsTrue h.ended → h.bytes ≡ bytes))) (sym (same h.name)) agrees.0, agrees_same contents now rest same agrees.1)

agrees_whole : (held : Option (List ℕ)) (text : List ℕ) → IfSome held (λ bytes. text ≡ bytes) → IfSome held (λ bytes. (length text ≤ length bytes) × (IsTrue true → text ≡ bytes))
agrees_whole None text is = tt
agrees_whole (Some bytes) text is = (omega (arith, ap length is), λ ended. is)

pub read-agreed : (words : List (List ℕ)) (old new : FilesView) (named : List NamedFile) (texts : Texts) → FilesRead words old new named texts → AgreesWithAll old.held old.heard → AgreesWithAll old.held new.heard
read-agreed words old new [] texts reads agrees = subst (λ (v : FilesView). AgreesWithAll old.held v.heard) (sym reads.0) agrees
read-agreed words old new (file ∷ rest) texts reads agrees =
    elim reads [
      | inl stop ↦ subst (AgreesWithAll old.held) (sym stop.1.1.heard.entry) (stop.1.1.heard.fits, agrees)
      | inr go ↦
          let first : AgreesWithAll old.held go.0.heard = subst (AgreesWithAll old.held) (sym go.3.heard) (agrees_whole _ _ go.3.bytes, agrees) in
          agrees_same go.0.held old.held new.heard (λ name. sym (go.3.same name)) (read-agreed words go.0 new rest go.2 go.4 (agrees_same old.held go.0.held go.0.heard go.3.same first))
    ]

-- ---- a file that was read whole, with no memory for its text

pub whole_part : (held : Held) (old new : List Heard) (name word : List ℕ) (text : List ℕ) (limit : ℕ) → name ≡ word → HeardWhole old new name text → IfSome (held name) (λ bytes. text ≡ bytes) →
    HeardPart old new word (held word) limit take.Memory
whole_part held old new name word text limit same heard bytes =
    subst (λ (n : List ℕ). HeardPart old new n (held n) limit take.Memory) same
    (record { text = text; ended = true; entry = heard; fits = agrees_whole (held name) text bytes; memory = λ ended. refl; past = λ long. absurd (cc) })
