use Rattle.std.proofs.Common.{◌≡◌, ◌∙◌, true, ap, bytes_eq, position, sym}
use Rattle.std.specs.Option.{is_some}
use Rattle.lucid_size.proofs.Repeats.{none_is, some_is}
use Rattle.lucid_size.proofs.names.Names.add_new.Goals as goal

pub returns-then-is_some-clause-err : goal.returns-then-is_some-clause-err
returns-then-is_some-clause-err c =
    let at = position (bytes_eq c.args.bytes.now) c.args.self.now in
    let found : is_some at ≡ true =
    ap (λ n. is_some (position (bytes_eq n) c.args.self.now)) (sym c.in_ok-name.ensures)
    ∙ ap is_some (sym c.place_of.ensures) ∙ sym c.is_some.ensures ∙ c.if-is_some.true in
    some_is at c.args.bytes.now c.in_ok-name.name found c.in_ok-name.ensures

pub add-requires : goal.add-requires
add-requires c =
    none_is (position (bytes_eq c.in_ok-name.name) c.args.self.now)
    (ap is_some (sym c.place_of.ensures) ∙ sym c.is_some.ensures ∙ c.if-is_some.false)
