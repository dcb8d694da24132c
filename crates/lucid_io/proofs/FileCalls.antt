-- The effects of `begin` and `read` on files in memory, as the trait has them.
use Rattle.std.proofs.Common.{◌≡◌, ℕ, ◌+◌, ◌<◌, ◌≤◌, ◌++◌, List, [], ◌∷◌, MatchResult, length, take, drop, min, Option, None, Some, refl, sym, ◌∙◌, ap, subst, arith, Result, Ok, Err, OnOk, OnErr, IfOk, drop-drop, take-append-drop, take_at, length-take-le, length-drop, drop_of_length-le}
use Rattle.std.specs.Io.KnownBytes.{ReadConsumes}
use Rattle.lucid_io.specs.Counts.{Rose, NoneFell, SameCounts, AllRose, OthersKept}
use Rattle.lucid_io.specs.Contents.{SameHeld}
use Rattle.lucid_io.specs.History.{Heard, IsAmong, IsNewest, begun_now, heard_more}
use Rattle.lucid_io.specs.MemFiles.{MemFilesView, bytes_at, bytes_of, faults_of, left_at, unread, IsBegun, after_begin, after_failed_begin, after_read, after_failed_read}
use Rattle.lucid_io.proofs.Faults.{none_later, none_others, none_same, now_later, now_others, now_rose, one_later, one_others, one_rose}
use Rattle.lucid_io.proofs.HistoryLemmas.{among_gave, newest_gave, newest_of_gave}

-- ---- begin

module _ {T E : Type 0} (s t : MemFilesView) (name : List ℕ) where
  pub begin_held : (r : Result T E) → OnOk r (t ≡ after_begin s name) → OnErr r (t ≡ after_failed_begin s name) → SameHeld (bytes_of s) (bytes_of t)
  begin_held (Ok x) ok err n = ap (λ (v : MemFilesView). bytes_of v n) ok
  begin_held (Err x) ok err n = ap (λ (v : MemFilesView). bytes_of v n) err

  pub begin_heard : (r : Result T E) → OnOk r (t ≡ after_begin s name) → OnErr r (t ≡ after_failed_begin s name) → t.heard ≡ begun_now name ∷ s.heard
  begin_heard (Ok x) ok err = ap (λ (v : MemFilesView). v.heard) ok
  begin_heard (Err x) ok err = ap (λ (v : MemFilesView). v.heard) err

  pub begin_begun : (r : Result T E) → OnOk r (t ≡ after_begin s name) → OnOk r (IsBegun t name)
  begin_begun (Ok x) ok = subst (λ (v : MemFilesView). IsBegun v name) (sym ok) refl
  begin_begun (Err x) ok = tt

  pub begin_one : (r : Result T E) → OnOk r (t ≡ after_begin s name) → OnOk r ((other : List ℕ) → IsBegun t other → other ≡ name)
  begin_one (Ok x) ok = λ other begun. subst (λ (v : MemFilesView). IsBegun v other) ok begun
  begin_one (Err x) ok = tt

  pub begin_later : (r : Result T E) → OnOk r (t ≡ after_begin s name) → OnErr r (t ≡ after_failed_begin s name) → NoneFell (faults_of s) (faults_of t)
  begin_later (Ok x) ok err = none_later s.faulted t.faulted (ap (λ (v : MemFilesView). v.faulted) ok)
  begin_later (Err x) ok err = one_later name s.faulted t.faulted (ap (λ (v : MemFilesView). v.faulted) err)

  pub begin_quiet : (r : Result T E) → OnOk r (t ≡ after_begin s name) → OnOk r (SameCounts (faults_of s) (faults_of t))
  begin_quiet (Ok x) ok = none_same s.faulted t.faulted (ap (λ (v : MemFilesView). v.faulted) ok)
  begin_quiet (Err x) ok = tt

  pub begin_cause : (r : Result T E) → OnErr r (t ≡ after_failed_begin s name) → OnErr r (Rose (faults_of s name) (faults_of t name))
  begin_cause (Ok x) err = tt
  begin_cause (Err x) err = one_rose name s.faulted t.faulted (ap (λ (v : MemFilesView). v.faulted) err)

  pub begin_others : (r : Result T E) → OnOk r (t ≡ after_begin s name) → OnErr r (t ≡ after_failed_begin s name) → OthersKept (λ other. other ≡ name) (faults_of s) (faults_of t)
  begin_others (Ok x) ok err = none_others s.faulted t.faulted (ap (λ (v : MemFilesView). v.faulted) ok) (λ other. other ≡ name)
  begin_others (Err x) ok err = one_others name s.faulted t.faulted (ap (λ (v : MemFilesView). v.faulted) err)

-- ---- read

-- the first n unread bytes are in the front of the buffer, and the others remain unread
moved : (bytes room : List ℕ) (given n : ℕ) → n ≤ length (drop given bytes) → drop given bytes ≡ take n (take n (drop given bytes) ++ room) ++ drop (given + n) bytes
moved bytes room given n le =
    let left = drop given bytes in
    sym (take-append-drop n left)
    ∙ ap (λ (l : List ℕ). l ++ drop n left) (sym (take_at (take n left) room n (length-take-le n left le)))
    ∙ ap (λ (l : List ℕ). take n (take n left ++ room) ++ l) (drop-drop n given bytes)

-- nothing was given to a room that isn't empty: nothing was left
ended : (bytes : List ℕ) (given n k : ℕ) → n ≡ min k (length (drop given bytes)) → n ≡ 0 → 0 < k → drop (given + n) bytes ≡ []
ended bytes given n k count none some = drop_of_length-le bytes (omega (arith, count, none, some, length-drop given bytes))

module _ {E : Type 0} (s t : MemFilesView) (room : List ℕ) where
  pub read_held : (r : Result ℕ E) → IfOk r (λ n. t ≡ after_read s room n) → OnErr r (t ≡ after_failed_read s) → SameHeld (bytes_of s) (bytes_of t)
  read_held (Ok n) ok err name = ap (λ (v : MemFilesView). bytes_of v name) ok
  read_held (Err x) ok err name = ap (λ (v : MemFilesView). bytes_of v name) err

  pub read_heard : (r : Result ℕ E) → IfOk r (λ n. t ≡ after_read s room n) → OnErr r (t ≡ after_failed_read s) →
      MatchResult r (λ n. t.heard ≡ heard_more n room s.heard) (λ _. t.heard ≡ s.heard)
  read_heard (Ok n) ok err = ap (λ (v : MemFilesView). v.heard) ok
  read_heard (Err x) ok err = ap (λ (v : MemFilesView). v.heard) err

  pub read_untried : (r : Result ℕ E) → IfOk r (λ n. t ≡ after_read s room n) → OnErr r (t ≡ after_failed_read s) → (name : List ℕ) → IsAmong name t.heard → IsAmong name s.heard
  read_untried (Ok n) ok err name among = among_gave name _ _ s.heard (subst (λ (v : MemFilesView). IsAmong name v.heard) ok among)
  read_untried (Err x) ok err name among = subst (λ (v : MemFilesView). IsAmong name v.heard) err among

  pub read_begun : (r : Result ℕ E) → IfOk r (λ n. t ≡ after_read s room n) → OnErr r (t ≡ after_failed_read s) → (name : List ℕ) → IsBegun s name → IsBegun t name
  read_begun (Ok n) ok err name begun = subst (λ (v : MemFilesView). IsBegun v name) (sym ok) (newest_gave name _ _ s.heard begun)
  read_begun (Err x) ok err name begun = subst (λ (v : MemFilesView). IsBegun v name) (sym err) begun

  pub read_no_other : (r : Result ℕ E) → IfOk r (λ n. t ≡ after_read s room n) → OnErr r (t ≡ after_failed_read s) → (name : List ℕ) → IsBegun t name → IsBegun s name
  read_no_other (Ok n) ok err name begun = newest_of_gave name _ _ s.heard (subst (λ (v : MemFilesView). IsBegun v name) ok begun)
  read_no_other (Err x) ok err name begun = subst (λ (v : MemFilesView). IsBegun v name) err begun

  pub read_later : (r : Result ℕ E) → IfOk r (λ n. t ≡ after_read s room n) → OnErr r (t ≡ after_failed_read s) → NoneFell (faults_of s) (faults_of t)
  read_later (Ok n) ok err = none_later s.faulted t.faulted (ap (λ (v : MemFilesView). v.faulted) ok)
  read_later (Err x) ok err = now_later s.heard s.faulted t.faulted (ap (λ (v : MemFilesView). v.faulted) err)

  pub read_quiet : (r : Result ℕ E) → IfOk r (λ n. t ≡ after_read s room n) → OnOk r (SameCounts (faults_of s) (faults_of t))
  read_quiet (Ok n) ok = none_same s.faulted t.faulted (ap (λ (v : MemFilesView). v.faulted) ok)
  read_quiet (Err x) ok = tt

  pub read_cause : (r : Result ℕ E) → OnErr r (t ≡ after_failed_read s) → OnErr r (AllRose (IsBegun s) (faults_of s) (faults_of t))
  read_cause (Ok n) err = tt
  read_cause (Err x) err = now_rose s.heard s.faulted t.faulted (ap (λ (v : MemFilesView). v.faulted) err)

  pub read_others : (r : Result ℕ E) → IfOk r (λ n. t ≡ after_read s room n) → OnErr r (t ≡ after_failed_read s) → OthersKept (IsBegun s) (faults_of s) (faults_of t)
  read_others (Ok n) ok err = none_others s.faulted t.faulted (ap (λ (v : MemFilesView). v.faulted) ok) (IsBegun s)
  read_others (Err x) ok err = now_others s.heard s.faulted t.faulted (ap (λ (v : MemFilesView). v.faulted) err)

  pub read_bytes : (r : Result ℕ E) (before : List ℕ) → IfOk r (λ n. n ≡ min (length before) (length (unread s))) → IfOk r (λ n. room ≡ take n (unread s) ++ drop n before) →
      length room ≡ length before → IfOk r (λ n. t ≡ after_read s room n) → OnErr r (t ≡ after_failed_read s) → ReadConsumes (Some (unread s)) (Some (unread t)) r room
  read_bytes (Ok n) before count filled long ok err =
      subst (λ (v : MemFilesView). ReadConsumes {E = E} (Some (unread s)) (Some (unread v)) (Ok n) room) (sym ok) (at s.begun count filled)
    where
      at : (begun : Option ℕ) → n ≡ min (length before) (length (left_at s.files begun s.given)) → room ≡ take n (left_at s.files begun s.given) ++ drop n before →
          ReadConsumes {E = E} (Some (left_at s.files begun s.given)) (Some (left_at s.files begun (s.given + n))) (Ok n) room
      at None count filled =
          let nothing : n ≡ 0 = omega (arith, count) in
          let gave : List ℕ → ℕ → Type 0 = λ taken k. [] ≡ take k taken ++ [] in (subst (gave room) (sym nothing) refl, λ none some. refl)
      at (Some i) count filled =
          let bytes = bytes_at s.files i in (
            subst (λ (l : List ℕ). drop s.given bytes ≡ take n l ++ drop (s.given + n) bytes) (sym filled) (moved bytes (drop n before) s.given n (omega (arith, count))),
            λ none some. ended bytes s.given n (length before) count none (omega (arith, some, long)),
          )
  read_bytes (Err x) before count filled long ok err =
      subst (λ (v : MemFilesView). ReadConsumes {E = E} (Some (unread s)) (Some (unread v)) (Err x) room) (sym err) refl
