-- The answers of the moves of a pipe are the outcomes of the steps of the drive.
use Rattle.std.proofs.Common.{◌≡◌, ℕ, zero, suc, ◌+◌, ◌<◌, ◌≤◌, ◌↔◌, List, [], ◌∷◌, ◌++◌, Option, None, Some, Result, Ok, Err, Bool, true, false, not, if◌then◌else◌, IfOk, IfSome, IsSome, IsTrue, OnOk, OnErr, All, codes, get_or, length, map, slice_get, slice_index, is_some, refl, sym, ◌∙◌, ap, subst, ⊎_elim, arith}
use Rattle.std.proofs.lemmas.Bool.{cases_lt, le-leb, lt-leb, eq-eqb, ne_eqb}
use Rattle.std.proofs.lemmas.List.{length-map}
use Rattle.std.proofs.lemmas.List.Elements.{recursion_from_All}
use Rattle.std.specs.Result.{is_err}
use Rattle.std.specs.Option.{option_map_or}
use Rattle.lucid_base.specs.Cells.{cell_at, place_of}
use Rattle.lucid_base.specs.declared.array.ArrayDef.{ArrayDef}
use Rattle.lucid_base.specs.declared.event.Out.{Out}
use Rattle.lucid_conf.specs.Kept.{IsFileEvent, IsScene}
use Rattle.lucid_conf.specs.declared.scene.FileEvent.{FileEvent}
use Rattle.lucid_tables.specs.Placed.{stage_of}
use Rattle.lucid_conf.specs.declared.scene.Scene.{Scene}
use Rattle.lucid_core.specs.Fits.{event_fits, out_fits}
use Rattle.lucid_core.specs.Laws.{CellsStayFit, OutsFit}
use Rattle.lucid_core.specs.Parts.{CoreParts}
use Rattle.lucid_core.specs.Step as core
use Rattle.lucid_core.specs.Step.{Entry}
use Rattle.lucid_log.specs.Block.{block_text}
use Rattle.lucid_pipe.specs.Packets.{Packet}
use Rattle.lucid_pipe.specs.Pipe.{PipeParts, comes_out, entered, gone, packet_at}
use Rattle.lucid_pipe.specs.declared.passed.Busy.{Busy as BusyParts}
use Rattle.lucid_pipe.specs.declared.passed.Passed.{Passed}
use Rattle.lucid_pipe.specs.declared.passed.Stuck.{Stuck}
use Rattle.lucid_pipe.specs.declared.passed.Stuck.TheVariants as stuck
use Rattle.lucid_drive.specs.Drive.{Done, Progress, block_of, entries, goes, is_taken, left_text, line, moved, does, enters, look_text, progress_from, stays, value_of}
use Rattle.lucid_conf.specs.declared.scene.Step.{Step}
use Rattle.lucid_drive.specs.Happened.{Did, entered_after, entry_of, happened_at, happened_block, looked_text, FitsTo, PassedFits, happened_of, happened_text, happened_within, nothing_left, passed_text}
use Rattle.lucid_drive.specs.Standing.{Fits, IsAt, drive_of}
use Rattle.lucid_drive.specs.declared.happened.Happened.{Happened}
use Rattle.lucid_drive.specs.declared.happened.Happened.TheVariants.{Nothing, Busy, Entered, Empty, Ahead, Went, Left, Looked}
use Rattle.lucid_drive.proofs.Changing.{as_go, kept_as_go, out_as_go, went_as_go}
use Rattle.lucid_drive.proofs.Driving.{all_at}
use Rattle.lucid_drive.proofs.Moving.{enters_at, leaves_at, moves_at, passed_of, stays_in}
use Rattle.lucid_drive.proofs.Standing.{Laws, passed_many, stands_in, taken}

module _ (parts : CoreParts) (scene : Scene) (p : Progress) (pipe : PipeParts) (k : ℕ) where
  -- the outcome of a step that moves or doesn't
  empty_is : is_taken p k ≡ false → goes (drive_of parts pipe scene) p k ≡ stays (line (codes "empty ") k) p
  empty_is e = ap (λ (b : Bool). if not b then stays (line (codes "empty ") k) p else if is_taken p (k + 1) then stays (line (codes "ahead ") k) p
      else record { text = line (codes "go ") k ++ left_text (drive_of parts pipe scene) p k; block = left_text (drive_of parts pipe scene) p k; progress = moved p k; stage = Some k }) e

  ahead_is : is_taken p k ≡ true → is_taken p (k + 1) ≡ true → goes (drive_of parts pipe scene) p k ≡ stays (line (codes "ahead ") k) p
  ahead_is e f = ap (λ (b : Bool). if not b then stays (line (codes "empty ") k) p else if is_taken p (k + 1) then stays (line (codes "ahead ") k) p
      else record { text = line (codes "go ") k ++ left_text (drive_of parts pipe scene) p k; block = left_text (drive_of parts pipe scene) p k; progress = moved p k; stage = Some k }) e
      ∙ ap (λ (b : Bool). if b then stays (line (codes "ahead ") k) p else record { text = line (codes "go ") k ++ left_text (drive_of parts pipe scene) p k; block = left_text (drive_of parts pipe scene) p k; progress = moved p k; stage = Some k }) f

  pub went_is : is_taken p k ≡ true → is_taken p (k + 1) ≡ false → goes (drive_of parts pipe scene) p k ≡ record { text = line (codes "go ") k ++ left_text (drive_of parts pipe scene) p k; block = left_text (drive_of parts pipe scene) p k; progress = moved p k; stage = Some k }
  went_is e f = ap (λ (b : Bool). if not b then stays (line (codes "empty ") k) p else if is_taken p (k + 1) then stays (line (codes "ahead ") k) p
      else record { text = line (codes "go ") k ++ left_text (drive_of parts pipe scene) p k; block = left_text (drive_of parts pipe scene) p k; progress = moved p k; stage = Some k }) e
      ∙ ap (λ (b : Bool). if b then stays (line (codes "ahead ") k) p else record { text = line (codes "go ") k ++ left_text (drive_of parts pipe scene) p k; block = left_text (drive_of parts pipe scene) p k; progress = moved p k; stage = Some k }) f

append_none : (xs : List ℕ) → xs ++ [] ≡ xs
append_none [] = refl
append_none (x ∷ xs) = ap (λ (l : List ℕ). x ∷ l) (append_none xs)

module _ (parts : CoreParts) (scene : Scene) (p : Progress) (pipe new : PipeParts) (k : ℕ) (is : IsAt parts scene p pipe) (laws : Laws pipe) (stay : CellsStayFit parts) (sends : OutsFit parts) where
  d : Rattle.lucid_drive.specs.Drive.Drive
  d = drive_of parts pipe scene

  here_none : packet_at pipe k ≡ None → is_taken p k ≡ false
  here_none e = sym (taken parts scene p pipe is k) ∙ ap (λ (o : Option Packet). is_some o) e

  some_is : (o : Option Packet) → IsSome o → is_some o ≡ true
  some_is o s = s

  out_of : (o : Option Packet) → ((o ≡ None) → ⊥) → (x : Packet) × (o ≡ Some x)
  out_of None nay = absurd (nay refl)
  out_of (Some x) nay = (x, refl)

  not_some : (o : Option Packet) → (IsSome o → ⊥) → o ≡ None
  not_some None nay = refl
  not_some (Some x) nay = absurd (nay refl)

  is_some_of : (o : Option Packet) (x : Packet) → o ≡ Some x → IsSome o
  is_some_of o x e = ap (λ (q : Option Packet). is_some q) e

  -- a packet that moved
  module _ (x : Packet) (here : packet_at pipe k ≡ Some x) (next : packet_at pipe (k + 1) ≡ None) (moved_is : new ≡ gone pipe k x) where
    taken_here : is_taken p k ≡ true
    taken_here = sym (taken parts scene p pipe is k) ∙ ap (λ (o : Option Packet). is_some o) here

    free_next : is_taken p (k + 1) ≡ false
    free_next = sym (taken parts scene p pipe is (k + 1)) ∙ ap (λ (o : Option Packet). is_some o) next

    stands : IsAt parts scene (moved p k) new
    stands = subst (IsAt parts scene (moved p k)) (sym moved_is) (moves_at parts scene p pipe is laws k x here next)

    done : goes (drive_of parts pipe scene) p k ≡ record { text = line (codes "go ") k ++ left_text (drive_of parts pipe scene) p k; block = left_text (drive_of parts pipe scene) p k; progress = moved p k; stage = Some k }
    done = went_is parts scene p pipe k taken_here free_next

    many : length p.passed ≡ length pipe.slots
    many = passed_many parts scene p pipe is ∙ sym is.long

    went : (h : Happened) → FitsTo parts h → happened_text parts h ≡ line (codes "go ") k ++ happened_block parts h → happened_block parts h ≡ left_text (drive_of parts pipe scene) p k → happened_at h ≡ Some k →
        entered_after p.entered h ≡ p.entered → Did parts scene p.entered (goes (drive_of parts pipe scene) p k) h new
    went h fits text block stage entered =
        subst (λ (q : Done). Did parts scene p.entered q h new) (sym done)
        (record { text = text ∙ ap (λ (t : List ℕ). line (codes "go ") k ++ t) block; block = block; stage = stage; entered = entered; fits = fits; is = stands })

    by_out : (out : Option Passed) → out ≡ comes_out pipe k x → Did parts scene p.entered (goes (drive_of parts pipe scene) p k) (happened_of k (Ok out)) new
    by_out out e = ⊎_elim on last (cases_lt (k + 1) (length pipe.slots))
      where
        on : k + 1 < length pipe.slots → Did parts scene p.entered (goes (drive_of parts pipe scene) p k) (happened_of k (Ok out)) new
        on lt =
            let none : out ≡ None = e ∙ stays_in parts scene p pipe is laws k x lt in
            let none_left : left_text (drive_of parts pipe scene) p k ≡ []
            = ap (λ (b : Bool). if b then block_of (drive_of parts pipe scene) (slice_index p.passed k) else []) (ne_eqb (k + 1) (length p.passed) (λ e. omega (arith, lt, many, e))) in
            subst (λ (o : Option Passed). Did parts scene p.entered (goes (drive_of parts pipe scene) p k) (happened_of k (Ok o)) new) (sym none)
            (went (Went k) tt (sym (append_none (line (codes "go ") k))) (sym none_left) refl refl)

        last : length pipe.slots ≤ k + 1 → Did parts scene p.entered (goes (drive_of parts pipe scene) p k) (happened_of k (Ok out)) new
        last le =
            let l = leaves_at parts scene p pipe is laws stay k x here next le in
            let j : ℕ = slice_index p.passed k in
            let outs : List Out = core.outs parts (entries scene) j in
            let left_is : left_text (drive_of parts pipe scene) p k ≡ passed_text parts (passed_of l.entry outs)
            = ap (λ (b : Bool). if b then block_of (drive_of parts pipe scene) j else []) (eq-eqb (k + 1) (length p.passed) (omega (arith, le, many, within)))
            ∙ ap (λ (o : Option Entry). option_map_or (λ (e : Entry). block_text parts e.now e.me e.event outs 0) o []) l.is_entry in
            let fit : PassedFits parts (passed_of l.entry outs) = record {
              event = l.fits.event;
              outs = subst (λ (o : Option Entry). All (λ out. IsTrue (out_fits parts out)) (option_map_or (λ (e : Entry). (core.step parts (core.after parts (entries scene) j) e.now e.me e.event).outs) o []))
                  (sym l.is_entry) (sends.each (core.after parts (entries scene) j) l.entry.now l.entry.me l.entry.event);
            } in
            subst (λ (o : Option Passed). Did parts scene p.entered (goes (drive_of parts pipe scene) p k) (happened_of k (Ok o)) new) (sym (e ∙ l.told_is))
            (went (Left k (passed_of l.entry outs)) fit refl (sym left_is) refl refl)
          where
            within : k < length pipe.slots
            within = Rattle.std.proofs.lemmas.Option.slice_get_within pipe.slots k (Some x) (Rattle.lucid_pipe.proofs.Settles.there_full pipe.slots k x here)

  -- the answer of `go`
  pub did_go : (r : Result (Option Passed) Stuck) → (r ≡ Err stuck.Empty) ↔ (packet_at pipe k ≡ None) → (r ≡ Err stuck.Ahead) ↔ (IsSome (packet_at pipe k) × IsSome (packet_at pipe (k + 1))) → OnErr r (new ≡ pipe) →
      OnOk r (IfSome (packet_at pipe k) (λ x. new ≡ gone pipe k x)) → IfOk r (λ out. IfSome (packet_at pipe k) (λ x. out ≡ comes_out pipe k x)) →
      Did parts scene p.entered (goes (drive_of parts pipe scene) p k) (happened_of k r) new
  did_go (Err stuck.Empty) empty ahead kept went_on out =
      subst (λ (q : Done). Did parts scene p.entered q (Empty k) new) (sym (empty_is parts scene p pipe k (here_none (empty.0 refl)))) (record { text = refl; block = refl; stage = refl; entered = refl; fits = tt; is = subst (IsAt parts scene p) (sym kept) is })
  did_go (Err stuck.Ahead) empty ahead kept went_on out =
      let both = ahead.0 refl in
      let here : is_taken p k ≡ true = sym (taken parts scene p pipe is k) ∙ some_is (packet_at pipe k) both.0 in
      let next : is_taken p (k + 1) ≡ true = sym (taken parts scene p pipe is (k + 1)) ∙ some_is (packet_at pipe (k + 1)) both.1 in
      subst (λ (q : Done). Did parts scene p.entered q (Ahead k) new) (sym (ahead_is parts scene p pipe k here next)) (record { text = refl; block = refl; stage = refl; entered = refl; fits = tt; is = subst (IsAt parts scene p) (sym kept) is })
  did_go (Ok out_of_it) empty ahead kept went_on out =
      let one = out_of (packet_at pipe k) (λ e. absurd (ok_empty (empty.1 e))) in
      let next : packet_at pipe (k + 1) ≡ None = not_some (packet_at pipe (k + 1)) (λ s. absurd (ok_ahead (ahead.1 (is_some_of (packet_at pipe k) one.0 one.1, s)))) in
      by_out one.0 one.1 next (subst (λ (o : Option Packet). IfSome o (λ x. new ≡ gone pipe k x)) one.1 went_on) out_of_it (subst (λ (o : Option Packet). IfSome o (λ x. out_of_it ≡ comes_out pipe k x)) one.1 out)
    where
      ok_empty : ◌≡◌ {A = Result (Option Passed) Stuck} (Ok out_of_it) (Err stuck.Empty) → ⊥
      ok_empty e = cc

      ok_ahead : ◌≡◌ {A = Result (Option Passed) Stuck} (Ok out_of_it) (Err stuck.Ahead) → ⊥
      ok_ahead e = cc

  -- its answer if nothing can leave
  pub did_within : (r : Result (Unit {0}) Stuck) → (r ≡ Err stuck.Empty) ↔ (packet_at pipe k ≡ None) → (r ≡ Err stuck.Ahead) ↔ (IsSome (packet_at pipe k) × IsSome (packet_at pipe (k + 1))) → OnErr r (new ≡ pipe) →
      OnOk r (IfSome (packet_at pipe k) (λ x. (new ≡ gone pipe k x) × (comes_out pipe k x ≡ None))) →
      Did parts scene p.entered (goes (drive_of parts pipe scene) p k) (happened_within k r) new
  did_within r empty ahead kept went_on =
      did_go (nothing_left r) (as_go r stuck.Empty empty) (as_go r stuck.Ahead ahead) (kept_as_go pipe new k r kept) (went_as_go pipe new k r went_on) (out_as_go pipe new k r went_on)

-- ---- an event enters

map_at : {A B : Type 0} (f : A → B) (xs : List A) (k : ℕ) (x : A) (d : B) → k < length xs → x ≡ get_or xs k x → get_or (map f xs) k d ≡ f x
map_at f [] k x d lt is = absurd (omega (arith, lt))
map_at f (y ∷ ys) zero x d lt is = ap f (sym is)
map_at f (y ∷ ys) (suc k) x d lt is = map_at f ys k x d (omega (arith, lt)) is

abbrev pub entry_at : FileEvent → Entry
entry_at e = record { now = e.at; me = e.switch; event = e.event }

pub file_fits : (parts : CoreParts) (scene : Scene) (k : ℕ) (e : FileEvent) → IsScene parts scene → k < length scene.events → e ≡ get_or scene.events k e → IsTrue (event_fits parts e.event)
file_fits parts scene k e is lt this = (all_at (IsFileEvent parts scene.switches) scene.events k e (recursion_from_All (IsFileEvent parts scene.switches) scene.events is.events) lt this).fits

module _ (parts : CoreParts) (scene : Scene) (p : Progress) (pipe : PipeParts) where
  none_is : length scene.events ≤ p.entered → enters (drive_of parts pipe scene) p ≡ stays (codes "none\n") p
  none_is le = ap (λ (b : Bool). if b then stays (codes "none\n") p else if is_taken p 0 then stays (codes "busy\n") p
      else record { text = line (codes "enter ") p.entered; block = []; progress = record { entered = p.entered + 1; passed = p.passed }; stage = None }) (le-leb (length scene.events) p.entered le)

  some_left : p.entered < length scene.events → enters (drive_of parts pipe scene) p ≡ (if is_taken p 0 then stays (codes "busy\n") p
      else record { text = line (codes "enter ") p.entered; block = []; progress = record { entered = p.entered + 1; passed = p.passed }; stage = None })
  some_left lt = ap (λ (b : Bool). if b then stays (codes "none\n") p else if is_taken p 0 then stays (codes "busy\n") p
      else record { text = line (codes "enter ") p.entered; block = []; progress = record { entered = p.entered + 1; passed = p.passed }; stage = None }) (lt-leb (length scene.events) p.entered lt)

  pub did_nothing : (n : ℕ) → length scene.events ≤ n → p.entered ≡ n → IsAt parts scene p pipe → Did parts scene p.entered (enters (drive_of parts pipe scene) p) Nothing pipe
  did_nothing n le same is = subst (λ (q : Done). Did parts scene p.entered q Nothing pipe) (sym (none_is (subst (λ (m : ℕ). length scene.events ≤ m) (sym same) le))) (record { text = refl; block = refl; stage = refl; entered = refl; fits = tt; is = is })

  pub did_enter : (new : PipeParts) (n : ℕ) (e : FileEvent) (r : Result (Unit {0}) BusyParts) → p.entered ≡ n → IsAt parts scene p pipe → Laws pipe → n < length scene.events → e ≡ get_or scene.events n e → Fits parts (entry_at e) →
      (is_err r ≡ true) ↔ (is_some (packet_at pipe 0) ≡ true) → OnErr r (new ≡ pipe) → OnOk r (new ≡ entered pipe e.event e.at e.switch) → 0 < length pipe.slots →
      Did parts scene p.entered (enters (drive_of parts pipe scene) p) (entry_of n r) new
  did_enter new n e (Err b) same is laws lt this fits busy kept came some =
      let full : is_taken p 0 ≡ true = sym (taken parts scene p pipe is 0) ∙ busy.0 refl in
      let left : p.entered < length scene.events = subst (λ (m : ℕ). m < length scene.events) (sym same) lt in
      subst (λ (q : Done). Did parts scene p.entered q Busy new) (sym (some_left left ∙ ap (λ (b : Bool). if b then stays (codes "busy\n") p else record { text = line (codes "enter ") p.entered; block = []; progress = record { entered = p.entered + 1; passed = p.passed }; stage = None }) full))
      (record { text = refl; block = refl; stage = refl; entered = refl; fits = tt; is = subst (IsAt parts scene p) (sym kept) is })
  did_enter new n e (Ok u) same is laws lt this fits busy kept came some =
      let left : p.entered < length scene.events = subst (λ (m : ℕ). m < length scene.events) (sym same) lt in
      let free : packet_at pipe 0 ≡ None = not_some (packet_at pipe 0) (λ s. absurd (ok_err (busy.1 s))) in
      let open_is : is_taken p 0 ≡ false = sym (taken parts scene p pipe is 0) ∙ ap (λ (o : Option Packet). is_some o) free in
      let many : length (entries scene) ≡ length scene.events = length-map scene.events entry_at in
      let here : entry_at e ≡ get_or (entries scene) p.entered (entry_at e) = sym (map_at entry_at scene.events n e (entry_at e) lt this) ∙ ap (λ (m : ℕ). get_or (entries scene) m (entry_at e)) (sym same) in
      subst (λ (q : Done). Did parts scene p.entered q (Entered n) new) (sym (some_left left ∙ ap (λ (b : Bool). if b then stays (codes "busy\n") p else record { text = line (codes "enter ") p.entered; block = []; progress = record { entered = p.entered + 1; passed = p.passed }; stage = None }) open_is))
      (record {
        text = ap (λ (m : ℕ). line (codes "enter ") m) (sym same);
        block = refl;
        stage = refl;
        entered = refl;
        fits = tt;
        is = subst (IsAt parts scene (record { entered = p.entered + 1; passed = p.passed })) (sym came) (enters_at parts scene p pipe is laws (entry_at e) free some (subst (λ (m : ℕ). p.entered < m) (sym many) left) here fits);
      })
    where
      not_some : (o : Option Packet) → ((is_some o ≡ true) → ⊥) → o ≡ None
      not_some None nay = refl
      not_some (Some x) nay = absurd (nay refl)

      ok_err : false ≡ true → ⊥
      ok_err e = cc

  -- ---- a look

  pub did_look : (array cell value : ℕ) → array < length parts.arrays → IsAt parts scene p pipe → Laws pipe → CellsStayFit parts → value ≡ cell_at pipe.cells array cell → (stage_of pipe.placed.stages array ≡ None → value ≡ 0) →
      Did parts scene p.entered (stays (look_text (drive_of parts pipe scene) p array cell) p) (Looked array cell value) pipe
  did_look array cell value below is laws stay value_is idle = record {
    text = ap (λ (v : ℕ). option_map_or (λ (a : ArrayDef). looked_text a cell v) (slice_get parts.arrays array) []) (by (stage_of pipe.placed.stages array) refl);
    block = refl;
    stage = refl;
    entered = refl;
    fits = below;
    is = is;
  }
    where
      by : (found : Option ℕ) → stage_of pipe.placed.stages array ≡ found → value ≡ value_of (drive_of parts pipe scene) p array cell
      by None e = idle e ∙ ap (λ (o : Option ℕ). option_map_or (λ k. cell_at (core.after parts (entries scene) (slice_index p.passed k)) array cell) o 0) (sym e)
      by (Some k) e =
          value_is
          ∙ ap (λ (row : List ℕ). slice_index row (place_of row cell)) (stands_in parts scene p pipe is stay laws array k e)
          ∙ ap (λ (o : Option ℕ). option_map_or (λ k. cell_at (core.after parts (entries scene) (slice_index p.passed k)) array cell) o 0) (sym e)

-- one step more
pub progress_next : (d : Rattle.lucid_drive.specs.Drive.Drive) (p : Progress) (xs : List Step) (s : Step) → progress_from d p (xs ++ s ∷ []) ≡ (does d (progress_from d p xs) s).progress
progress_next d p [] s = refl
progress_next d p (x ∷ xs) s = progress_next d (does d p x).progress xs s
