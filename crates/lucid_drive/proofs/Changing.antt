-- The answers of moves of a pipe determine how it changed.
use Rattle.std.proofs.Common.{◌≡◌, ℕ, ◌+◌, ◌<◌, ◌↔◌, Option, None, Some, Result, Ok, Err, true, false, inl, inr, length, is_some, IfOk, IfSome, IsSome, OnOk, OnErr, refl, sym, ap, subst}
use Rattle.std.specs.Result.{is_err}
use Rattle.lucid_base.specs.declared.event.Event.{Event}
use Rattle.lucid_pipe.specs.Packets.{Packet}
use Rattle.lucid_pipe.specs.Pipe.{PipeParts, comes_out, entered, gone, packet_at}
use Rattle.lucid_pipe.specs.declared.passed.Busy.{Busy as BusyParts}
use Rattle.lucid_pipe.specs.declared.passed.Passed.{Passed}
use Rattle.lucid_pipe.specs.declared.passed.Stuck.{Stuck}
use Rattle.lucid_pipe.specs.declared.passed.Stuck.TheVariants as stuck
use Rattle.lucid_drive.specs.Changes.{Changes, Moved}
use Rattle.lucid_drive.specs.Happened.{entered_after, entry_of, happened_at, happened_of, happened_within, nothing_left}

out_of : (o : Option Packet) → ((o ≡ None) → ⊥) → (x : Packet) × (o ≡ Some x)
out_of None nay = absurd (nay refl)
out_of (Some x) nay = (x, refl)

not_some : (o : Option Packet) → (IsSome o → ⊥) → o ≡ None
not_some None nay = refl
not_some (Some x) nay = absurd (nay refl)

is_some_of : (o : Option Packet) (x : Packet) → o ≡ Some x → IsSome o
is_some_of o x e = ap (λ (q : Option Packet). is_some q) e

-- ---- facts of a move from a slot that isn't the last, as of a move out of which nothing came

pub as_go : {X : Type 0} (r : Result (Unit {0}) Stuck) (e : Stuck) → (r ≡ Err e) ↔ X → (nothing_left r ≡ Err e) ↔ X
as_go (Ok u) e is = (λ same. absurd (out same), λ x. absurd (none (is.1 x)))
  where
    out : ◌≡◌ {A = Result (Option Passed) Stuck} (Ok None) (Err e) → ⊥
    out same = cc

    none : ◌≡◌ {A = Result (Unit {0}) Stuck} (Ok u) (Err e) → ⊥
    none same = cc
as_go (Err f) e is = (λ same. is.0 (to same), λ x. from (is.1 x))
  where
    to : ◌≡◌ {A = Result (Option Passed) Stuck} (Err f) (Err e) → ◌≡◌ {A = Result (Unit {0}) Stuck} (Err f) (Err e)
    to same = let is : f ≡ e = cc in ap (λ (s : Stuck). Err s) is

    from : ◌≡◌ {A = Result (Unit {0}) Stuck} (Err f) (Err e) → ◌≡◌ {A = Result (Option Passed) Stuck} (Err f) (Err e)
    from same = let is : f ≡ e = cc in ap (λ (s : Stuck). Err s) is

-- no event enters by it
pub entered_same : (n k : ℕ) (r : Result (Unit {0}) Stuck) → n ≡ entered_after n (happened_within k r)
entered_same n k (Ok u) = refl
entered_same n k (Err stuck.Empty) = refl
entered_same n k (Err stuck.Ahead) = refl

module _ (pipe new : PipeParts) (k : ℕ) where
  abbrev pub HasGone : Result (Unit {0}) Stuck → Type 0
  HasGone r = OnOk r (IfSome (packet_at pipe k) (λ x. (new ≡ gone pipe k x) × (comes_out pipe k x ≡ None)))

  pub kept_as_go : (r : Result (Unit {0}) Stuck) → OnErr r (new ≡ pipe) → OnErr (nothing_left r) (new ≡ pipe)
  kept_as_go (Ok u) kept = tt
  kept_as_go (Err e) kept = kept

  pub went_as_go : (r : Result (Unit {0}) Stuck) → HasGone r → OnOk (nothing_left r) (IfSome (packet_at pipe k) (λ x. new ≡ gone pipe k x))
  went_as_go (Err e) went = tt
  went_as_go (Ok u) went = by (packet_at pipe k) went
    where
      by : (o : Option Packet) → IfSome o (λ x. (new ≡ gone pipe k x) × (comes_out pipe k x ≡ None)) → IfSome o (λ x. new ≡ gone pipe k x)
      by None h = tt
      by (Some x) h = h.0

  pub out_as_go : (r : Result (Unit {0}) Stuck) → HasGone r → IfOk (nothing_left r) (λ out. IfSome (packet_at pipe k) (λ x. out ≡ comes_out pipe k x))
  out_as_go (Err e) went = tt
  out_as_go (Ok u) went = by (packet_at pipe k) went
    where
      by : (o : Option Packet) → IfSome o (λ x. (new ≡ gone pipe k x) × (comes_out pipe k x ≡ None)) → IfSome o (λ x. None ≡ comes_out pipe k x)
      by None h = tt
      by (Some x) h = sym h.1

  moved_by : (out : Option Passed) → (Ok out ≡ Err stuck.Empty) ↔ (packet_at pipe k ≡ None) → (Ok out ≡ Err stuck.Ahead) ↔ (IsSome (packet_at pipe k) × IsSome (packet_at pipe (k + 1))) →
      IfSome (packet_at pipe k) (λ x. new ≡ gone pipe k x) → (p : Packet) × Moved pipe k p new
  moved_by out empty ahead went =
      let one = out_of (packet_at pipe k) (λ e. absurd (ok_empty (empty.1 e))) in (
        one.0,
        record {
          here = one.1;
          next = not_some (packet_at pipe (k + 1)) (λ s. absurd (ok_ahead (ahead.1 (is_some_of (packet_at pipe k) one.0 one.1, s))));
          is = subst (λ (o : Option Packet). IfSome o (λ x. new ≡ gone pipe k x)) one.1 went;
        },
      )
    where
      ok_empty : ◌≡◌ {A = Result (Option Passed) Stuck} (Ok out) (Err stuck.Empty) → ⊥
      ok_empty e = cc

      ok_ahead : ◌≡◌ {A = Result (Option Passed) Stuck} (Ok out) (Err stuck.Ahead) → ⊥
      ok_ahead e = cc

  pub go_changes : (r : Result (Option Passed) Stuck) → (r ≡ Err stuck.Empty) ↔ (packet_at pipe k ≡ None) → (r ≡ Err stuck.Ahead) ↔ (IsSome (packet_at pipe k) × IsSome (packet_at pipe (k + 1))) → OnErr r (new ≡ pipe) →
      OnOk r (IfSome (packet_at pipe k) (λ x. new ≡ gone pipe k x)) → Changes pipe (happened_at (happened_of k r)) new
  go_changes (Err stuck.Empty) empty ahead kept went = inl kept
  go_changes (Err stuck.Ahead) empty ahead kept went = inl kept
  go_changes (Ok None) empty ahead kept went = moved_by None empty ahead went
  go_changes (Ok (Some passed)) empty ahead kept went = moved_by (Some passed) empty ahead went

  pub within_changes : (r : Result (Unit {0}) Stuck) → (r ≡ Err stuck.Empty) ↔ (packet_at pipe k ≡ None) → (r ≡ Err stuck.Ahead) ↔ (IsSome (packet_at pipe k) × IsSome (packet_at pipe (k + 1))) → OnErr r (new ≡ pipe) →
      OnOk r (IfSome (packet_at pipe k) (λ x. (new ≡ gone pipe k x) × (comes_out pipe k x ≡ None))) → Changes pipe (happened_at (happened_within k r)) new
  within_changes r empty ahead kept went = go_changes (nothing_left r) (as_go r stuck.Empty empty) (as_go r stuck.Ahead ahead) (kept_as_go r kept) (went_as_go r went)

pub enter_changes : (pipe new : PipeParts) (n : ℕ) (event : Event) (tick me : ℕ) (r : Result (Unit {0}) BusyParts) → (is_err r ≡ true) ↔ (is_some (packet_at pipe 0) ≡ true) → OnErr r (new ≡ pipe) → OnOk r (new ≡ entered pipe event tick me) → 0 < length pipe.slots →
    Changes pipe (happened_at (entry_of n r)) new
enter_changes pipe new n event tick me (Err b) busy kept came some = inl kept
enter_changes pipe new n event tick me (Ok u) busy kept came some = inr (record { event = event; tick = tick; me = me; some = some; free = not_some (packet_at pipe 0) (λ s. absurd (ok_err (busy.1 s))); is = came })
  where
    ok_err : false ≡ true → ⊥
    ok_err e = cc

-- The outcome determines the answer of a move.
pub changed : (pipe new : PipeParts) (a b : Option ℕ) → a ≡ b → Changes pipe a new → Changes pipe b new
changed pipe new a b same c = subst (λ (o : Option ℕ). Changes pipe o new) same c
