use Rattle.std.proofs.Common.{◌≡◌, ◌<◌, get_or, sym, subst}
use Rattle.lucid_drive.specs.Standing.{Fits}
use Rattle.lucid_drive.proofs.Changing.{enter_changes}
use Rattle.lucid_drive.proofs.Standing.{is_input_of}
use Rattle.lucid_drive.proofs.Steps.{did_enter, entry_at, file_fits}
use Rattle.lucid_drive.proofs.moves.enter_at.Goals as goal

pub enter-came-requires : goal.enter-came-requires
enter-came-requires c =
    is_input_of c.args.pipe.now.placed c.args.core.now (entry_at c.index-as_slice-entered.result) c.requires.stands_for
    (record {
      event = file_fits c.args.core.now c.args.scene.now c.args.entered c.index-as_slice-entered.result c.requires.scene c.requires.there (subst (λ l. c.index-as_slice-entered.result ≡ get_or l c.args.entered c.index-as_slice-entered.result) c.as_slice.ensures c.index-as_slice-entered.is);
      id = c.in_range.ensures.id;
      now = c.in_range.ensures.at;
      me = c.in_range.ensures.me;
    })

fit : (c : goal.After-told_entry) → Fits c.args.core.now (entry_at c.index-as_slice-entered.result)
fit c = record {
  event = file_fits c.args.core.now c.args.scene.now c.args.entered c.index-as_slice-entered.result c.requires.scene c.requires.there (subst (λ l. c.index-as_slice-entered.result ≡ get_or l c.args.entered c.index-as_slice-entered.result) c.as_slice.ensures c.index-as_slice-entered.is);
  id = c.in_range.ensures.id;
  now = c.in_range.ensures.at;
  me = c.in_range.ensures.me;
}

pub returns-clause-did : goal.returns-clause-did
returns-clause-did c = λ p same is.
    rw c.told_entry.ensures
    (did_enter c.args.core.now c.args.scene.now p c.args.pipe.now c.enter-came.new.self c.args.entered c.index-as_slice-entered.result c.enter-came.result same is
    (record { rows = c.keeps_laws.ensures.rows; pass = c.keeps_laws.ensures.pass; idle = c.keeps_laws.ensures.idle; sized = c.keeps_laws.ensures.sized })
    c.requires.there (subst (λ l. c.index-as_slice-entered.result ≡ get_or l c.args.entered c.index-as_slice-entered.result) c.as_slice.ensures c.index-as_slice-entered.is) (fit c) c.enter-came.ensures.busy c.enter-came.ensures.stuck c.enter-came.ensures.enters
    (subst (λ n. 0 < n) (sym c.keeps_laws.ensures.long) c.keeps_laws.ensures.placed.some))

pub returns-clause-changes : goal.returns-clause-changes
returns-clause-changes c =
    let e = c.index-as_slice-entered.result in
    rw c.told_entry.ensures
    (enter_changes c.args.pipe.now c.enter-came.new.self c.args.entered e.event e.at e.switch c.enter-came.result c.enter-came.ensures.busy c.enter-came.ensures.stuck c.enter-came.ensures.enters
    (subst (λ n. 0 < n) (sym c.keeps_laws.ensures.long) c.keeps_laws.ensures.placed.some))
