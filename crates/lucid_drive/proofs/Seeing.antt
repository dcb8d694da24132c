-- The sights of a pipe at the state of a drive.
use Rattle.std.proofs.Common.{◌≡◌, ℕ, suc, ◌+◌, List, [], ◌∷◌, ◌++◌, Option, None, Some, Bool, if◌then◌else◌, is_some, length, replicate, slice_get, slice_index, take, refl, sym, ◌∙◌, ap, ap₂, subst, append_assoc, append-nil, arith}
use Rattle.std.proofs.Math.Seq.{take-append_seam}
use Rattle.std.specs.Option.{option_and_then, option_map_or}
use Rattle.lucid_base.specs.Cells.{row_of, zero_cells}
use Rattle.lucid_base.specs.declared.array.ArrayDef.{ArrayDef}
use Rattle.lucid_conf.specs.declared.scene.Scene.{Scene}
use Rattle.lucid_core.specs.Laws.{CellsStayFit}
use Rattle.lucid_core.specs.Parts.{CoreParts}
use Rattle.lucid_core.specs.Step as core
use Rattle.lucid_pipe.specs.Packets.{Packet}
use Rattle.lucid_pipe.specs.Pipe.{PipeParts}
use Rattle.lucid_pipe.specs.Sights as seen
use Rattle.lucid_pipe.specs.Sights.{Shows, ShowsAll, sight_of}
use Rattle.lucid_pipe.specs.declared.sight.Sight.{Sight}
use Rattle.lucid_pipe.proofs.Moves.{many_arrays}
use Rattle.lucid_tables.specs.Placed.{stage_of}
use Rattle.lucid_drive.specs.Drive.{Drive, Progress, entries, is_taken}
use Rattle.lucid_drive.specs.Sights.{ShowsSome, places_from, row_at, rows_from, sight_at}
use Rattle.lucid_drive.specs.Standing.{IsAt, drive_of}
use Rattle.lucid_drive.proofs.Standing.{Laws, passed_many, stands_in, taken}

-- ---- sights that are appended

shows_none : (old : Option (List Sight)) → ShowsAll old old []
shows_none None = tt
shows_none (Some was) = sym (append-nil was)

shows_more : (old now new : Option (List Sight)) (xs ys : List Sight) → ShowsAll old now xs → ShowsAll now new ys → ShowsAll old new (xs ++ ys)
shows_more old now None xs ys first next = tt
shows_more old None (Some c) xs ys first next = absurd next
shows_more None (Some b) (Some c) xs ys first next = absurd first
shows_more (Some a) (Some b) (Some c) xs ys first next = next ∙ ap (λ (l : List Sight). l ++ ys) first ∙ append_assoc a xs ys

pub shows_one : (old new : Option (List Sight)) (s : Sight) → Shows old new s → ShowsAll old new (s ∷ [])
shows_one old None s is = tt
shows_one None (Some now) s is = absurd is
shows_one (Some was) (Some now) s is = is

-- Of all sights these were shown, and the rest is left.
pub record Showing (old now : Option (List Sight)) (whole rest : List Sight) : Type 0 where
  pub shown : List Sight
  pub shows : ShowsAll old now shown
  pub parts : whole ≡ shown ++ rest

pub showing_first : (old : Option (List Sight)) (whole : List Sight) → Showing old old whole whole
showing_first old whole = record { shown = []; shows = shows_none old; parts = refl }

pub showing_next : (old now new : Option (List Sight)) (whole rest later : List Sight) (s : Sight) → Showing old now whole rest → ShowsAll now new (s ∷ []) → rest ≡ s ∷ later → Showing old new whole later
showing_next old now new whole rest later s so one first = record {
  shown = so.shown ++ s ∷ [];
  shows = shows_more old now new so.shown (s ∷ []) so.shows one;
  parts = so.parts ∙ ap (λ (l : List Sight). so.shown ++ l) first ∙ sym (append_assoc so.shown (s ∷ []) later);
}

pub showing_all : (old now : Option (List Sight)) (whole rest : List Sight) → Showing old now whole rest → rest ≡ [] → ShowsAll old now whole
showing_all old now whole rest so none = subst (ShowsAll old now) (sym (so.parts ∙ ap (λ (l : List Sight). so.shown ++ l) none ∙ append-nil so.shown)) so.shows

pub showing_some : (old now : Option (List Sight)) (whole rest : List Sight) → Showing old now whole rest → ShowsSome old now whole
showing_some old now whole rest so =
    (length so.shown, subst (ShowsAll old now) (sym (ap (λ (l : List Sight). take (length so.shown) l) so.parts ∙ take-append_seam so.shown rest)) so.shows)

-- ---- one sight

places_are : (p : Progress) (slots : List (Option Packet)) (k : ℕ) → ((i : ℕ) → is_some (option_and_then (λ slot. slot) (slice_get slots i)) ≡ is_taken p (k + i)) → seen.places_from k slots ≡ places_from p k (length slots)
places_are p [] k at = refl
places_are p (s ∷ slots) k at =
    ap₂ (λ (l : List ℕ) (b : Bool). l ++ (if b then k ∷ [] else [])) (places_are p slots (suc k) later) (at 0 ∙ ap (is_taken p) none)
  where
    none : k + 0 ≡ k
    none = omega arith

    later : (i : ℕ) → is_some (option_and_then (λ slot. slot) (slice_get slots i)) ≡ is_taken p (suc k + i)
    later i = let more : k + suc i ≡ suc k + i = omega arith in at (suc i) ∙ ap (is_taken p) more

rows_are : (d : Drive) (p : Progress) (arrays : List ArrayDef) (cells : List (List ℕ)) (g : ℕ) → length cells ≡ length arrays →
    ((i k : ℕ) → stage_of d.stages (g + i) ≡ Some k → row_of cells i ≡ row_of (core.after d.parts (entries d.scene) (slice_index p.passed k)) (g + i)) →
    ((i : ℕ) → stage_of d.stages (g + i) ≡ None → row_of cells i ≡ row_of (zero_cells arrays) i) → cells ≡ rows_from d p g arrays
rows_are d p [] [] g long stands idle = refl
rows_are d p [] (r ∷ cells) g long stands idle = absurd (omega (arith, long))
rows_are d p (a ∷ arrays) [] g long stands idle = absurd (omega (arith, long))
rows_are d p (a ∷ arrays) (r ∷ cells) g long stands idle =
    ap₂ (λ (x : List ℕ) (l : List (List ℕ)). x ∷ l) (here (stage_of d.stages g) refl)
    (rows_are d p arrays cells (suc g) (omega (arith, long))
    (λ i k e. subst (λ (n : ℕ). row_of cells i ≡ row_of (core.after d.parts (entries d.scene) (slice_index p.passed k)) n) (more i) (stands (suc i) k (ap (stage_of d.stages) (more i) ∙ e)))
    (λ i e. idle (suc i) (ap (stage_of d.stages) (more i) ∙ e)))
  where
    none : g + 0 ≡ g
    none = omega arith

    more : (i : ℕ) → g + suc i ≡ suc g + i
    more i = omega arith

    here : (found : Option ℕ) → stage_of d.stages g ≡ found → r ≡ row_at d p g a
    here None e =
        idle 0 (ap (stage_of d.stages) none ∙ e)
        ∙ sym (ap (λ (o : Option ℕ). option_map_or (λ k. row_of (core.after d.parts (entries d.scene) (slice_index p.passed k)) g) o (replicate a.size 0)) e)
    here (Some k) e =
        stands 0 k (ap (stage_of d.stages) none ∙ e)
        ∙ ap (row_of (core.after d.parts (entries d.scene) (slice_index p.passed k))) none
        ∙ sym (ap (λ (o : Option ℕ). option_map_or (λ k. row_of (core.after d.parts (entries d.scene) (slice_index p.passed k)) g) o (replicate a.size 0)) e)

-- The sight of the pipe.
pub sight_is : (parts : CoreParts) (scene : Scene) (p : Progress) (pipe : PipeParts) → IsAt parts scene p pipe → CellsStayFit parts → Laws pipe → sight_of 0 pipe ≡ sight_at (drive_of parts pipe scene) p
sight_is parts scene p pipe is stay laws = ap₂ (λ (l : List ℕ) (c : List (List ℕ)). record { switch = 0; places = l; cells = c }) places cells
  where
    d : Drive
    d = drive_of parts pipe scene

    zero_first : (i : ℕ) → i ≡ 0 + i
    zero_first i = omega arith

    places : seen.places pipe ≡ places_from p 0 (length p.passed)
    places = places_are p pipe.slots 0 (λ i. taken parts scene p pipe is i ∙ ap (is_taken p) (zero_first i))
        ∙ ap (places_from p 0) (is.long ∙ sym (passed_many parts scene p pipe is))

    cells : pipe.cells ≡ rows_from (drive_of parts pipe scene) p 0 parts.arrays
    cells = rows_are d p parts.arrays pipe.cells 0 (many_arrays pipe.placed.code.arrays pipe.cells laws.sized ∙ ap (λ (a : List ArrayDef). length a) is.arrays)
        (λ i k. subst (λ (n : ℕ). stage_of pipe.placed.stages n ≡ Some k → row_of pipe.cells i ≡ row_of (core.after parts (entries scene) (slice_index p.passed k)) n) (zero_first i) (stands_in parts scene p pipe is stay laws i k))
        (λ i. subst (λ (n : ℕ). stage_of pipe.placed.stages n ≡ None → row_of pipe.cells i ≡ row_of (zero_cells parts.arrays) i) (zero_first i)
        (λ e. laws.idle i e ∙ ap (λ (a : List ArrayDef). row_of (zero_cells a) i) is.arrays))
