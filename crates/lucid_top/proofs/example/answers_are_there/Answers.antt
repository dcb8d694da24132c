use Rattle.std.proofs.Common.{◌≡◌, ◌<◌, ℕ, List, [], Ok, ap, arith, codes, refl, sym}
use Rattle.std.specs.Fmt.{digits}
use Rattle.lucid_lex.specs.Reading.{Reads}
use Rattle.lucid_effects_spec.specs.Order.{IsAccepted}
use Rattle.lucid_parse.specs.Program.{IsTreeOf}
use Rattle.lucid_types_spec.specs.Declaration.{parts_of, start}
use Rattle.lucid_types_spec.specs.Makes.{IsTyped}
use Rattle.lucid_types_spec.specs.Makes.Makes.{done}
use Rattle.lucid_parse_tree.specs.declared.tree.Tree.{Tree}
use Rattle.lucid_size.specs.Expansion.{ExpandsTo}
use Rattle.lucid_top.specs.Check.{counts_line}
use Rattle.lucid_top_program.specs.Program.{IsProgramOf, IsSource}
use Rattle.lucid_top.proofs.example.answers_are_there.Goals as goal

abbrev tree : Tree
tree = record { decls = [] }

reads : Reads [] []
reads = record { pieces = []; whole = refl; each_stands = tt; tokens = refl }

is_source : ExpandsTo [] [] [] → IsSource [] (Ok [])
is_source expands = (Ok [], reads, (expands, omega arith))

is_tree : IsTreeOf [] [] tree
is_tree = record { written = refl; spelled = refl; lines = tt }

typed : IsTyped tree (parts_of start)
typed = (start, done 1 start, refl)

accepted : IsAccepted (parts_of start)
accepted = λ k d below. let none : k < 0 = below in absurd (omega (arith, none))

is_program : IsProgramOf tree (Ok (parts_of start))
is_program = (Ok (parts_of start), typed, (accepted, refl))

line : counts_line (parts_of start) ≡ codes "ok arrays 0 memops 0 events 0 handlers 0 functions 0\n"
unfolding digits
line = refl

pub returns : goal.returns
returns c =
    (Ok (parts_of start), (Ok [], is_source c.plain_text_stays.ensures, (Ok [], reads, (Ok tree, (refl, is_tree), is_program))), ap (λ (t : List ℕ). Ok t) (sym line))
