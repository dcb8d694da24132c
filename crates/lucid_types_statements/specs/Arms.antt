-- The value that a `match` tests.
use Rattle.std.specs.Prelude.{◌≡◌, ℕ, List, Option, Result, Ok, Err, Bool, true, ◌&&◌, not, length}
use Rattle.lucid_core.specs.declared.body.Expr.{Expr}
use Rattle.lucid_base.specs.Numbers.{all_differ}
use Rattle.lucid_parse_tree.specs.declared.tree.E.{E}
use Rattle.lucid_types_spec.specs.Block.{Numbered, one_local}
use Rattle.lucid_types_spec.specs.Names.{Names}
use Rattle.lucid_types_laws.specs.Lead.{or_32}
use Rattle.lucid_types_laws.specs.Partial.{when}
use Rattle.lucid_types_laws.specs.Reading.{free, reading}
use Rattle.lucid_types_laws.specs.Statement.{is_empty}
use Rattle.lucid_types_expressions.specs.declared.fault.Fault.{Fault}
use Rattle.lucid_types_expressions.specs.Gives.{Fails}
use Rattle.lucid_types_statements.specs.declared.arms.Tested.{Tested}

-- There is a case, and no number twice.
abbrev pub are_cases : List ℕ → Bool
are_cases numbers = not (is_empty numbers) && all_differ numbers

-- The value that is tested, where these are cases.
abbrev pub value_tested : E → List ℕ → Names → Option Expr
value_tested x numbers s = when (are_cases numbers) (free (reading x) s)

-- A local of the value's width is added for it.
abbrev pub Begins : Result Tested Fault → E → List ℕ → Names → Numbered → Numbered → Type 0
Begins (Ok t) x numbers s old new =
    (are_cases numbers ≡ true) × (t.width ≡ or_32 ((reading x).lead s)) × (t.local ≡ length old.locals) × (new ≡ one_local t.width old)
Begins (Err f) x numbers s old new = Fails f (value_tested x numbers s)
