-- How the named files are read, one after another.
use Rattle.std.proofs.Common.{◌≡◌, ℕ, zero, suc, inl, inr, arith, List, [], ◌∷◌, ◌++◌, Ok, Err, refl, sym, ◌∙◌, ap, subst, append_assoc, append-nil, ◌+◌, ◌<◌, ◌≤◌, drop, drop-cons, get_or, add-one, length}
use Rattle.std.proofs.lemmas.List.{drop_all}
use Rattle.lucid_top_words.specs.declared.command.NamedFile.{NamedFile}
use Rattle.lucid_top_words.specs.declared.refusal.Refusal.{Refusal}
use Rattle.lucid_top_words.specs.Views.{Faults, FilesView}
use Rattle.lucid_io.specs.Counts.{OthersKept}
use Rattle.std.specs.Prelude.{◌⊎◌}
use Rattle.lucid_top_words.specs.Files.{Texts, FilesRead, IsOneOf, IsNameIn, ReadsOne, ReadsNone, TriesOnly, before, most_reads}
use Rattle.lucid_top_words.specs.Words.{word_at}

-- these texts before those of the rest
abbrev pub after : List (List ℕ) → Texts → Texts
after texts (Ok more) = Ok (texts ++ more)
after texts (Err r) = Err r

after-more : (texts : List (List ℕ)) (text : List ℕ) (end : Texts) → after (texts ++ text ∷ []) end ≡ after texts (before text end)
after-more texts text (Ok more) = ap (λ (l : List (List ℕ)). Ok l) (append_assoc texts (text ∷ []) more)
after-more texts text (Err r) = refl

-- Of all the files those up to `rest` were read, with these texts: however the rest is read, all are.
pub record SoFar (words : List (List ℕ)) (old now : FilesView) (all rest : List NamedFile) (texts : List (List ℕ)) : Type 0 where
  pub goes : (new : FilesView) (end : Texts) → FilesRead words now new rest end → FilesRead words old new all (after texts end)

-- one more file, read whole
pub SoFar-more : {words : List (List ℕ)} {old now new : FilesView} {all left : List NamedFile} {texts texts' : List (List ℕ)} (file : NamedFile) (rest : List NamedFile) →
    SoFar words old now all left texts → left ≡ file ∷ rest → ReadsOne words now new file texts texts' → SoFar words old new all rest texts'
SoFar-more {words} {old} {now} {new} {all} {left} {texts} {texts'} file rest so_far first one = record {
  goes = λ last end reads.
      subst (FilesRead words old last all)
      (sym (ap (λ (l : List (List ℕ)). after l end) one.2 ∙ after-more texts one.0 end))
      (so_far.goes last (before one.0 end) (subst (λ (l : List NamedFile). FilesRead words now last l (before one.0 end)) (sym first) (inr (new, one.0, end, one.1, reads, refl))));
}

-- a file that was refused ends the reading
pub SoFar-not : {words : List (List ℕ)} {old now new : FilesView} {all left : List NamedFile} {texts : List (List ℕ)} (file : NamedFile) (rest : List NamedFile) (r : Refusal) (end : Texts) →
    SoFar words old now all left texts → left ≡ file ∷ rest → ReadsNone words now new file r → end ≡ Err r → FilesRead words old new all end
SoFar-not {words} {old} {now} {new} {all} {left} {texts} file rest r end so_far first none is =
    subst (FilesRead words old new all) (sym is)
    (so_far.goes new (Err r) (subst (λ (l : List NamedFile). FilesRead words now new l (Err r)) (sym first) (inl (r, none, refl))))

-- no file is left
pub SoFar-end : {words : List (List ℕ)} {old now : FilesView} {all left : List NamedFile} {texts : List (List ℕ)} →
    SoFar words old now all left texts → left ≡ [] → FilesRead words old now all (Ok texts)
SoFar-end {words} {old} {now} {all} {left} {texts} so_far none =
    subst (λ (l : List (List ℕ)). FilesRead words old now all (Ok l)) (append-nil texts)
    (so_far.goes now (Ok []) (subst (λ (l : List NamedFile). FilesRead words now now l (Ok [])) (sym none) (refl, refl)))

-- the files that are left
pub files-next : (named : List NamedFile) (i : ℕ) (file : NamedFile) → i < length named → file ≡ get_or named i file → drop i named ≡ file ∷ drop (i + 1) named
files-next named i file lt is =
    let step : drop i named ≡ get_or named i file ∷ drop (i + 1) named = rw add-one (drop-cons named i file lt) in
    step ∙ ap (λ (f : NamedFile). f ∷ drop (i + 1) named) (sym is)

pub files-none : (named : List NamedFile) (i : ℕ) → length named ≤ i → drop i named ≡ []
files-none named i le = drop_all i named le

-- the file at an index is one of the files
pub is_one_of : (named : List NamedFile) (i : ℕ) (file : NamedFile) → i < length named → file ≡ get_or named i file → IsOneOf named file
is_one_of [] i file lt is = absurd (omega (arith, lt))
is_one_of (f ∷ rest) zero file lt is = inl is
is_one_of (f ∷ rest) (suc i) file lt is = inr (is_one_of rest i file (omega (arith, lt)) is)

-- one more of the files was tried
pub TriesOnly-more : (before mid now : List ℕ → Type 0) (words : List (List ℕ)) (named : List NamedFile) (file : NamedFile) → IsOneOf named file → TriesOnly words named before mid →
    ((name : List ℕ) → now name → mid name ⊎ (name ≡ word_at words file.word)) → TriesOnly words named before now
TriesOnly-more before mid now words named file one so_far step = λ name is. joined name (step name is)
  where
    joined : (name : List ℕ) → mid name ⊎ (name ≡ word_at words file.word) → before name ⊎ IsNameIn words named name
    joined name (inl was) = so_far name was
    joined name (inr same) = inr (file, one, same)

-- the same, where the file is that of a reading: whole, or refused
pub TriesOnly-one : {old new : FilesView} (texts texts' : List (List ℕ)) (was mid now : List ℕ → Type 0) (words : List (List ℕ)) (named : List NamedFile) (file : NamedFile) →
    ReadsOne words old new file texts texts' → IsOneOf named file → TriesOnly words named was mid →
    ((name : List ℕ) → now name → mid name ⊎ (name ≡ word_at words file.word)) → TriesOnly words named was now
TriesOnly-one texts texts' was mid now words named file read one so_far step = TriesOnly-more was mid now words named file one so_far step

pub TriesOnly-not : {old new : FilesView} {r : Refusal} (was mid now : List ℕ → Type 0) (words : List (List ℕ)) (named : List NamedFile) (file : NamedFile) →
    ReadsNone words old new file r → IsOneOf named file → TriesOnly words named was mid →
    ((name : List ℕ) → now name → mid name ⊎ (name ≡ word_at words file.word)) → TriesOnly words named was now
TriesOnly-not was mid now words named file read one so_far step = TriesOnly-more was mid now words named file one so_far step

-- one more of the files was read, and the counts of all others stayed
OthersKept-more : (was then last : Faults) (words : List (List ℕ)) (named : List NamedFile) (file : NamedFile) → IsOneOf named file →
    OthersKept (IsNameIn words named) was then → OthersKept (λ other. other ≡ word_at words file.word) then last → OthersKept (IsNameIn words named) was last
OthersKept-more was then last words named file one so_far step name other = step name (λ is. other (file, one, is)) ∙ so_far name other

-- the same, where the file is that of a reading: whole, or refused
pub OthersKept-one : {old new : FilesView} (texts texts' : List (List ℕ)) (was then last : Faults) (words : List (List ℕ)) (named : List NamedFile) (file : NamedFile) →
    ReadsOne words old new file texts texts' → IsOneOf named file → OthersKept (IsNameIn words named) was then →
    OthersKept (λ other. other ≡ word_at words file.word) then last → OthersKept (IsNameIn words named) was last
OthersKept-one texts texts' was then last words named file read one so_far step = OthersKept-more was then last words named file one so_far step

pub OthersKept-not : {old new : FilesView} {r : Refusal} (was then last : Faults) (words : List (List ℕ)) (named : List NamedFile) (file : NamedFile) →
    ReadsNone words old new file r → IsOneOf named file → OthersKept (IsNameIn words named) was then →
    OthersKept (λ other. other ≡ word_at words file.word) then last → OthersKept (IsNameIn words named) was last
OthersKept-not was then last words named file read one so_far step = OthersKept-more was then last words named file one so_far step

-- ---- the number of reads

-- one more of the files was read, whole
pub reads-one : (words : List (List ℕ)) {old new : FilesView} (texts texts' : List (List ℕ)) (was then last : ℕ) (named : List NamedFile) (i : ℕ) (file : NamedFile) (rest : List NamedFile) →
    drop i named ≡ file ∷ rest → ReadsOne words old new file texts texts' → then + most_reads (drop i named) ≤ was + most_reads named → last ≤ then + file.limit + 2 → last + most_reads rest ≤ was + most_reads named
reads-one words texts texts' was then last named i file rest first read so_far step =
    let split : most_reads (drop i named) ≡ file.limit + 2 + most_reads rest = ap most_reads first in omega (arith, split, so_far, step)

-- one more was refused, and no other is read
pub reads-not : {old new : FilesView} {r : Refusal} (was then last : ℕ) (words : List (List ℕ)) (named : List NamedFile) (i : ℕ) (file : NamedFile) → ReadsNone words old new file r →
    i < length named → file ≡ get_or named i file → then + most_reads (drop i named) ≤ was + most_reads named → last ≤ then + file.limit + 2 → last ≤ was + most_reads named
reads-not was then last words named i file read lt is so_far step =
    let split : most_reads (drop i named) ≡ file.limit + 2 + most_reads (drop (i + 1) named) = ap most_reads (files-next named i file lt is) in omega (arith, split, so_far, step)
