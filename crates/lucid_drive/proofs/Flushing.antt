-- The packets in flight move to their ends, the oldest first: the remaining text, and the remaining moves.
use Rattle.std.proofs.Common.{◌≡◌, ℕ, zero, suc, ◌+◌, ◌-◌, ◌<◌, ◌≤◌, List, [], ◌∷◌, ◌++◌, Option, None, Some, Bool, true, if◌then◌else◌, is_some, length, nat_lt, slice_get, slice_index, slice_set, sym, ◌∙◌, ap, subst, length-set, ⊎_elim, arith}
use Rattle.std.proofs.lemmas.Bool.{and_parts, cases_lt, eq-eqb, ne_eqb}
use Rattle.std.proofs.lemmas.Bool.Decides.{nat_tests}
use Rattle.std.proofs.lemmas.List.{get_or-set_other, get_or-set_same}
use Rattle.std.specs.Option.{option_and_then}
use Rattle.lucid_conf.specs.declared.scene.Scene.{Scene}
use Rattle.lucid_core.specs.Parts.{CoreParts}
use Rattle.lucid_pipe.specs.Packets.{Packet, left_by}
use Rattle.lucid_pipe.specs.Pipe.{PipeParts, executed}
use Rattle.lucid_pipe.proofs.Settles.{there_full}
use Rattle.lucid_drive.specs.Changes.{Moved}
use Rattle.lucid_drive.specs.Drive.{Drive, Progress, block_of, flight_text, is_taken, left, left_text, moved}
use Rattle.lucid_log.proofs.PiecesLemmas.{pieces-next, pieces-none}
use Rattle.lucid_log.specs.Pieces.{pieces}
use Rattle.lucid_pipe_laws.specs.Places.{came}
use Rattle.lucid_drive.specs.Standing.{IsAt, drive_of}
use Rattle.lucid_drive.proofs.Standing.{one_more_came}

-- ---- the remaining text

pub no_flight : (d : Drive) (p : Progress) → p.entered ≤ left p → flight_text d p ≡ []
no_flight d p le = pieces-none (block_of d) (left p) p.entered le

below : (a b : ℕ) → nat_lt a b ≡ true → a < b
below a b is = grind (arith, nat_tests)

-- A packet that moves writes its block where it leaves, and the blocks of the others are left.
pub flight_next : (parts : CoreParts) (scene : Scene) (p : Progress) (pipe : PipeParts) → IsAt parts scene p pipe → (k : ℕ) → is_taken p k ≡ true →
    flight_text (drive_of parts pipe scene) p ≡ left_text (drive_of parts pipe scene) p k ++ flight_text (drive_of parts pipe scene) (moved p k)
flight_next parts scene p pipe is k taken = ⊎_elim on last (cases_lt (k + 1) (length p.passed))
  where
    d : Drive
    d = drive_of parts pipe scene

    within : k < length p.passed
    within = below k (length p.passed) (and_parts (nat_lt k (length p.passed)) (nat_lt (slice_index p.passed k) (came p.entered p.passed k)) taken).0

    long : length (moved p k).passed ≡ length p.passed
    long = length-set p.passed k (slice_index p.passed k + 1)

    left_moved : left (moved p k) ≡ slice_index (slice_set p.passed k (slice_index p.passed k + 1)) (length p.passed - 1)
    left_moved = ap (λ (n : ℕ). slice_index (slice_set p.passed k (slice_index p.passed k + 1)) (n - 1)) long

    on : k + 1 < length p.passed → flight_text (drive_of parts pipe scene) p ≡ left_text (drive_of parts pipe scene) p k ++ flight_text (drive_of parts pipe scene) (moved p k)
    on lt =
        let other : (length p.passed - 1 ≡ k) → ⊥ = λ e. omega (arith, lt, e) in
        let same : left (moved p k) ≡ left p = left_moved ∙ get_or-set_other p.passed k (length p.passed - 1) (slice_index p.passed k + 1) 0 other in
        let none : left_text (drive_of parts pipe scene) p k ≡ [] = ap (λ (b : Bool). if b then block_of (drive_of parts pipe scene) (slice_index p.passed k) else []) (ne_eqb (k + 1) (length p.passed) (λ e. omega (arith, lt, e))) in
        sym (ap (λ (n : ℕ). pieces (block_of (drive_of parts pipe scene)) n (p.entered - n)) same) ∙ ap (λ (l : List ℕ). l ++ flight_text (drive_of parts pipe scene) (moved p k)) (sym none)

    last : length p.passed ≤ k + 1 → flight_text (drive_of parts pipe scene) p ≡ left_text (drive_of parts pipe scene) p k ++ flight_text (drive_of parts pipe scene) (moved p k)
    last le =
        let j : ℕ = slice_index p.passed k in
        let end : length p.passed - 1 ≡ k = omega (arith, le, within) in
        let here : left p ≡ slice_index p.passed k = ap (slice_index p.passed) end in
        let next : left (moved p k) ≡ slice_index p.passed k + 1 = left_moved ∙ ap (slice_index (slice_set p.passed k (slice_index p.passed k + 1))) end ∙ get_or-set_same p.passed k (slice_index p.passed k + 1) 0 within in
        let is_left : left_text (drive_of parts pipe scene) p k ≡ block_of (drive_of parts pipe scene) (slice_index p.passed k)
        = ap (λ (b : Bool). if b then block_of (drive_of parts pipe scene) (slice_index p.passed k) else []) (eq-eqb (k + 1) (length p.passed) (omega (arith, le, within))) in
        ap (λ (n : ℕ). pieces (block_of (drive_of parts pipe scene)) n (p.entered - n)) here
        ∙ pieces-next (block_of (drive_of parts pipe scene)) (slice_index p.passed k) p.entered (one_more_came parts scene p pipe is k taken)
        ∙ ap (λ (n : ℕ). block_of (drive_of parts pipe scene) (slice_index p.passed k) ++ pieces (block_of (drive_of parts pipe scene)) n (p.entered - n)) (sym next)
        ∙ ap (λ (l : List ℕ). l ++ flight_text (drive_of parts pipe scene) (moved p k)) (sym is_left)

-- ---- how far they have still to go

abbrev pub Slots : Type 0
Slots = List (Option Packet)

-- How many stages the packets have still to execute, all together.
abbrev pub work : Slots → ℕ
work [] = 0
work (slot ∷ slots) = (if is_some slot then suc (length slots) else 0) + work slots

some_is : (a b : Option Packet) → ◌≡◌ {A = Option (Option Packet)} (Some a) (Some b) → a ≡ b
some_is a b e = cc

work_less : (slots : Slots) (k : ℕ) (p q : Packet) → slice_get slots k ≡ Some (Some p) → option_and_then (λ slot. slot) (slice_get slots (suc k)) ≡ None → work (slice_set (slice_set slots k None) (suc k) (Some q)) < work slots
work_less [] k p q here next = cc
work_less (x ∷ []) zero p q here next = subst (λ (a : Option Packet). work (None ∷ []) < work (a ∷ [])) (sym (some_is x (Some p) here)) (omega arith)
work_less (x ∷ y ∷ slots) zero p q here next =
    subst (λ (a : Option Packet). work (None ∷ Some q ∷ slots) < work (a ∷ y ∷ slots)) (sym (some_is x (Some p) here))
    (subst (λ (a : Option Packet). work (None ∷ Some q ∷ slots) < work (Some p ∷ a ∷ slots)) (sym next) (omega arith))
work_less (x ∷ slots) (suc k) p q here next =
    let later : Slots = slice_set (slice_set slots k None) (suc k) (Some q) in
    let long : length (slice_set (slice_set slots k None) (suc k) (Some q)) ≡ length slots = length-set (slice_set slots k None) (suc k) (Some q) ∙ length-set slots k None in
    subst (λ (n : ℕ). (if is_some x then suc n else 0) + work (slice_set (slice_set slots k None) (suc k) (Some q)) < (if is_some x then suc (length slots) else 0) + work slots) (sym long)
    (omega (arith, work_less slots k p q here next))

pub moves_less : (before after : PipeParts) (k : ℕ) (p : Packet) → Moved before k p after → work after.slots < work before.slots
moves_less before after k p did =
    let more : k + 1 ≡ suc k = omega arith in
    let q : Packet = left_by (executed before k p) p in
    subst (λ (pipe : PipeParts). work pipe.slots < work before.slots) (sym did.is)
    (subst (λ (i : ℕ). work (slice_set (slice_set before.slots k None) i (Some (left_by (executed before k p) p))) < work before.slots) (sym more)
    (work_less before.slots k p (left_by (executed before k p) p) (there_full before.slots k p did.here) (subst (λ (i : ℕ). option_and_then (λ slot. slot) (slice_get before.slots i) ≡ None) more did.next)))
