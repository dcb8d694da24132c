use Rattle.std.proofs.Common.{◌≡◌, ℕ, List, Option, None, Some, refl, sym, ◌∙◌, ap, subst}
use Rattle.lucid_io.proofs.Leaves.{Leaves-nothing, Leaves-whole}
use Rattle.lucid_io.specs.Puts.{PutsAll, PutsPart}
use Rattle.lucid_drive.specs.Flush.{flushes_at}
use Rattle.lucid_drive.specs.Standing.{drive_of}
use Rattle.lucid_drive.specs.State.{progress_at}
use Rattle.lucid_drive.specs.Drive.{Done}
use Rattle.lucid_drive.proofs.Changing.{changed}
use Rattle.lucid_drive.proofs.States.{empty_is, flushed_slot, flushed_stands, flushed_text, goes_is, oldest_is}
use Rattle.lucid_drive.proofs.calls.drive_flush.Goals as goal

pub returns-in-None-clause-all : goal.returns-in-None-clause-all
returns-in-None-clause-all g c = λ moves at.
    let d = drive_of c.args.core.now c.args.pipe.now c.args.scene.now in
    let p = progress_at d c.args.state.now.done moves in
    let none = sym (oldest_is c.args.core.now c.args.scene.now p c.args.pipe.now at.is) ∙ sym c.in-None.ensures in
    subst (λ (t : List ℕ). PutsAll g.S.Sink.written g.S.Sink.faults c.args.sink.now c.args.sink.now t) (sym (ap (λ (o : Option ℕ). (flushes_at d p o).text) none)) (Leaves-nothing Leaves-whole refl)

pub returns-in-None-clause-moved : goal.returns-in-None-clause-moved
returns-in-None-clause-moved g c = λ moves at.
    let d = drive_of c.args.core.now c.args.pipe.now c.args.scene.now in
    let p = progress_at d c.args.state.now.done moves in
    sym (ap (λ (o : Option ℕ). (flushes_at d p o).stage) (sym (oldest_is c.args.core.now c.args.scene.now p c.args.pipe.now at.is) ∙ sym c.in-None.ensures))

pub returns-in-None-clause-empty : goal.returns-in-None-clause-empty
returns-in-None-clause-empty g c = empty_is c.args.pipe.now None c.in-None.ensures

pub returns-in-Ok-clause-all : goal.returns-in-Ok-clause-all
returns-in-Ok-clause-all g c = λ moves at.
    let p = progress_at (drive_of c.args.core.now c.args.pipe.now c.args.scene.now) c.args.state.now.done moves in
    let found = sym (oldest_is c.args.core.now c.args.scene.now p c.args.pipe.now at.is) ∙ sym c.in-Some.ensures in
    subst (λ (t : List ℕ). PutsAll g.S.Sink.written g.S.Sink.faults c.args.sink.now c.put_out.new.sink t)
    (flushed_text c.args.core.now c.args.scene.now c.args.state.now moves c.args.pipe.now c.go-happened.new.pipe c.in-Some.k c.go-happened.result at found (c.go-happened.ensures.did p at.is)) c.in-Ok.ensures.all

pub returns-in-Ok-clause-moved : goal.returns-in-Ok-clause-moved
returns-in-Ok-clause-moved g c = λ moves at.
    let p = progress_at (drive_of c.args.core.now c.args.pipe.now c.args.scene.now) c.args.state.now.done moves in
    let found = sym (oldest_is c.args.core.now c.args.scene.now p c.args.pipe.now at.is) ∙ sym c.in-Some.ensures in
    flushed_slot c.args.core.now c.args.scene.now c.args.state.now moves c.args.pipe.now c.go-happened.new.pipe c.in-Some.k c.go-happened.result at found (c.go-happened.ensures.did p at.is)

pub returns-in-Ok-clause-empty : goal.returns-in-Ok-clause-empty
returns-in-Ok-clause-empty g c = empty_is c.args.pipe.now (Some c.in-Some.k) c.in-Some.ensures

pub returns-in-Ok-clause-at : goal.returns-in-Ok-clause-at
returns-in-Ok-clause-at g c = λ moves at.
    let p = progress_at (drive_of c.args.core.now c.args.pipe.now c.args.scene.now) c.args.state.now.done moves in
    let found = sym (oldest_is c.args.core.now c.args.scene.now p c.args.pipe.now at.is) ∙ sym c.in-Some.ensures in
    flushed_stands c.args.core.now c.args.scene.now c.args.state.now moves c.args.pipe.now c.go-happened.new.pipe c.in-Some.k c.go-happened.result at found (c.go-happened.ensures.did p at.is)
    c.one_more-state.result c.requires.all_done c.go-happened.ensures.placed c.one_more-state.ensures

pub returns-in-Err-clause-part : goal.returns-in-Err-clause-part
returns-in-Err-clause-part g c = λ moves at.
    let p = progress_at (drive_of c.args.core.now c.args.pipe.now c.args.scene.now) c.args.state.now.done moves in
    let found = sym (oldest_is c.args.core.now c.args.scene.now p c.args.pipe.now at.is) ∙ sym c.in-Some.ensures in
    subst (λ (t : List ℕ). PutsPart g.S.Sink.written g.S.Sink.faults c.args.sink.now c.put_out.new.sink t)
    (flushed_text c.args.core.now c.args.scene.now c.args.state.now moves c.args.pipe.now c.go-happened.new.pipe c.in-Some.k c.go-happened.result at found (c.go-happened.ensures.did p at.is)) c.in-Err.ensures.part

pub returns-in-Ok-clause-changes : goal.returns-in-Ok-clause-changes
returns-in-Ok-clause-changes g c =
    let moves = c.requires.at.moves in
    let at = c.requires.at.after in
    let d = drive_of c.args.core.now c.args.pipe.now c.args.scene.now in
    let p = progress_at d c.args.state.now.done moves in
    let found = sym (oldest_is c.args.core.now c.args.scene.now p c.args.pipe.now at.is) ∙ sym c.in-Some.ensures in
    let did = c.go-happened.ensures.did p at.is in
    changed c.args.pipe.now c.go-happened.new.pipe _ (Some c.in-Some.k) (did.stage ∙ ap (λ (q : Done). q.stage) (goes_is c.args.core.now c.args.scene.now p c.args.pipe.now at.is c.in-Some.k found)) c.go-happened.ensures.changes

pub returns-in-Ok-clause-still : goal.returns-in-Ok-clause-still
returns-in-Ok-clause-still g c = λ none. absurd (some_none none)
  where
    some_none : ◌≡◌ {A = Option ℕ} (Some c.in-Some.k) None → ⊥
    some_none e = cc
