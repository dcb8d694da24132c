-- Measures: four times the depth of the tree, and a rank among the functions. Invariants: what is left decides.
use Rattle.std.proofs.Common.{◌≡◌, ◌≤◌, ◌+◌, ◌*◌, max, length, drop, map}
use Rattle.lucid_parse_tree.specs.declared.tree.A.TheViews.{size-E}
use Rattle.lucid_types_laws.specs.Reading.{all_free, given_all, reading}
use Rattle.lucid_types_expressions.specs.Forms.{behind, with_front}
use Rattle.lucid_types_expressions.proofs.expressions.+expression.Given as goal

abbrev pub decreases-expression : goal.decreases-expression
decreases-expression l = 4 * goal.size-expression l

abbrev pub decreases-touch : goal.decreases-touch
decreases-touch l = 4 * goal.size-touch l

abbrev pub decreases-free : goal.decreases-free
decreases-free l = 4 * goal.size-free l + 1

abbrev pub decreases-given : goal.decreases-given
decreases-given l = 4 * goal.size-given l + 1

abbrev pub decreases-prefix : goal.decreases-prefix
decreases-prefix l = 4 * goal.size-prefix l + 1

abbrev pub decreases-shift : goal.decreases-shift
decreases-shift l = 4 * goal.size-shift l + 1

abbrev pub decreases-touched_value : goal.decreases-touched_value
decreases-touched_value l = 4 * goal.size-touched_value l + 1

abbrev pub decreases-binary : goal.decreases-binary
decreases-binary l = 4 * max (size-E l.x.now) (size-E l.y.now) + 1

abbrev pub decreases-compared : goal.decreases-compared
decreases-compared l = 4 * max (size-E l.x.now) (size-E l.y.now) + 1

abbrev pub decreases-infix : goal.decreases-infix
decreases-infix l = 4 * max (size-E l.x.now) (size-E l.y.now) + 2

abbrev pub decreases-cast : goal.decreases-cast
decreases-cast l = 4 * goal.size-cast l + 2

abbrev pub decreases-all_free : goal.decreases-all_free
decreases-all_free l = 4 * goal.size-all_free l + 2

abbrev pub decreases-call : goal.decreases-call
decreases-call l = 4 * goal.size-call l + 2

abbrev pub decreases-get : goal.decreases-get
decreases-get l = 4 * goal.size-get l + 2

abbrev pub decreases-set : goal.decreases-set
decreases-set l = 4 * max (size-E l.i.now) (size-E l.x.now) + 2

abbrev pub decreases-getm : goal.decreases-getm
decreases-getm l = 4 * max (size-E l.i.now) (size-E l.x.now) + 2

abbrev pub decreases-setm : goal.decreases-setm
decreases-setm l = 4 * max (size-E l.i.now) (size-E l.x.now) + 2

abbrev pub decreases-update : goal.decreases-update
decreases-update l = 4 * max (max (size-E l.i.now) (size-E l.x.now)) (size-E l.y.now) + 2

abbrev pub decreases-hash : goal.decreases-hash
decreases-hash l = 4 * goal.size-hash l + 3

abbrev pub decreases-called_value : goal.decreases-called_value
decreases-called_value l = 4 * goal.size-called_value l + 3

abbrev pub invariant-all_free-loop-x : goal.invariant-all_free-loop-x
invariant-all_free-loop-x l = with_front l.cs (all_free (map reading (drop l.x-index l.xs)) l.scope) ≡ all_free (map reading l.xs) l.scope

abbrev pub invariant-given-loop-x : goal.invariant-given-loop-x
invariant-given-loop-x l = record {
  at : l.i ≡ l.x-index;
  within : l.i ≤ length l.params;
  left : behind (record { names = l.arrays; values = l.values })
      (given_all (drop l.i l.params) (map reading (drop l.x-index l.xs)) l.scope)
      ≡ given_all l.params (map reading l.xs) l.scope;
}
