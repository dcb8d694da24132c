-- The rules for the event of a `generate`.
use Rattle.std.specs.Prelude.{◌≡◌, ℕ, List, [], None, Some, false, is_some}
use Rattle.lucid_core.specs.declared.body.Expr.{Expr}
use Rattle.lucid_core.specs.declared.body.Stmt.{Stmt}
use Rattle.lucid_core.specs.declared.body.Stmt.TheVariants as core
use Rattle.lucid_parse_tree.specs.declared.tree.E.{E}
use Rattle.lucid_parse_tree.specs.declared.tree.E.TheVariants as e
use Rattle.lucid_parse_tree.specs.declared.tree.V.{V}
use Rattle.lucid_parse_tree.specs.declared.tree.V.TheVariants as v
use Rattle.lucid_types_spec.specs.declared.body.Destination.{Destination}
use Rattle.lucid_types_spec.specs.declared.body.Destination.TheVariants.{Here, Switch, Group}
use Rattle.lucid_types_spec.specs.declared.body.Sending.{Sending}
use Rattle.lucid_types_spec.specs.declared.scope.Entry.TheVariants as entry
use Rattle.lucid_types_spec.specs.Names.{Names, seen}
use Rattle.lucid_types_spec.specs.Typed.{Free, Given}
use Rattle.lucid_types_spec.specs.Types.{ints}

-- A call of a visible event, with at most one delay and at most one locate round it, in either order.
pub data Sends (s : Names) : V → Sending → Type 0 where
  call : (n : List ℕ) (i : ℕ) (ws : List ℕ) (xs : List E) (cs : List Expr) →
      seen n s ≡ Some (entry.Event i ws) → Given s (ints ws) xs [] cs →
      Sends s (v.Call n xs) (record { event = i; args = cs; delay = None; to = Here; delay_first = false })
  paren : (x : V) (g : Sending) → Sends s x g → Sends s (v.Paren x) g
  delay : (x : V) (g : Sending) (y : E) (w : ℕ) (c : Expr) → Sends s x g → g.delay ≡ None → Free s y w c →
      Sends s (v.Delay x y) (record g { delay = Some c })
  locate : (x : V) (g : Sending) (y : E) (w : ℕ) (c : Expr) → Sends s x g → g.to ≡ Here → Free s y w c →
      Sends s (v.Locate x y) (record g { to = Switch c; delay_first = is_some g.delay })
  -- the target is the bare name of a visible group
  group : (x : V) (g : Sending) (n : List ℕ) (members : List ℕ) → Sends s x g → g.to ≡ Here → seen n s ≡ Some (entry.Group members) →
      Sends s (v.Locate x (e.Name n)) (record g { to = Group members })

-- Without a locate to the switch itself, and to a group once to each member.
abbrev pub sent_to : Destination → Sending → Stmt
sent_to Here g = core.Gen g.event g.args g.delay None g.delay_first
sent_to (Switch c) g = core.Gen g.event g.args g.delay (Some c) g.delay_first
sent_to (Group members) g = core.Multi g.event g.args g.delay members

abbrev pub sent : Sending → Stmt
sent g = sent_to g.to g
