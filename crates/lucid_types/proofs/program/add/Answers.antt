-- The declaration has a rule: it is judged by its limit.
use Rattle.std.proofs.Common.{None, Some}
use Rattle.lucid_types_declarations.specs.Known.{made_of}
use Rattle.lucid_types.proofs.Reading.{judged}
use Rattle.lucid_types.proofs.program.add.Goals as goal

pub returns-in-Some : goal.returns-in-Some
returns-in-Some c front typed knows next =
    let made = c.in-Ok.ensures in
    let told = c.in_ok-what-in-Ok.ensures front c.args.number c.args.x.now.line (made_of c.args.known.now) typed knows made in
    judged c.args.number c.args.x.now (made_of c.args.known.now) (made_of c.declare.new.known) (Some c.in-Some.what) c.in_ok-what-in-Ok.field-0 made
    told.0 c.in-Some.is next

pub returns-in-None : goal.returns-in-None
returns-in-None c front typed knows =
    let made = c.in-Ok.ensures in
    let told = c.in_ok-what-in-Ok.ensures front c.args.number c.args.x.now.line (made_of c.args.known.now) typed knows made in (
      judged c.args.number c.args.x.now (made_of c.args.known.now) (made_of c.declare.new.known) None c.in_ok-what-in-Ok.field-0 made told.0
          c.in-None.is,
      told.1 c.in-None.is,
    )
