-- The result of a loop so far and the rest make the whole; and the notes lead back from the current flags to the earlier ones. Measures:
-- five times the depth of what is left, and a rank among the functions.
use Rattle.std.proofs.Common.{◌≡◌, ℕ, List, ◌+◌, ◌*◌, ◌≤◌, ◌||◌, None, drop, fold, map, max, vec_len}
use denote.Param.Weighed.{most}
use Rattle.lucid_core.specs.declared.body.Expr.TheViews.{size-Stmt}
use Rattle.lucid_inline_count.specs.Flags.{put_back}
use Rattle.lucid_inline_count.specs.Found.{any_returns, any_value, names_of, one_more, stmt_tally}
use Rattle.lucid_inline_count.specs.Counts.{counted}
use Rattle.lucid_inline_count.specs.Held.{Assigns}
use Rattle.lucid_inline_count.proofs.BlocksLemmas.{IsLeft, Waits, place}
use Rattle.lucid_inline_count.proofs.blocks.+blocks.Given as goal

abbrev pub decreases-stmt : goal.decreases-stmt
decreases-stmt l = 5 * goal.size-stmt l

abbrev pub decreases-each : goal.decreases-each
decreases-each l = 5 * goal.size-each l + 1

abbrev pub decreases-flat : goal.decreases-flat
decreases-flat l = 5 * goal.size-flat l + 2

abbrev pub decreases-first_branch : goal.decreases-first_branch
decreases-first_branch l = 5 * max (most (λ s. size-Stmt s) l.front.now) (most (λ s. size-Stmt s) l.yes.now + 1) + 2

abbrev pub decreases-block : goal.decreases-block
decreases-block l = 5 * goal.size-block l + 3

abbrev pub invariant-each-loop-s : goal.invariant-each-loop-s
invariant-each-loop-s l = record {
  run : fold (one_more l.funs) (record { counts = l.all.counts; held = l.body.held.items }) (map stmt_tally (drop l.s-index l.stmts))
      ≡ fold (one_more l.funs) (record { counts = counted 0 0; held = l.fn.body.held.items }) (map stmt_tally l.stmts);
  sets : l.all.sets ≡ None;
  returns : (l.all.returns || any_returns (map stmt_tally (drop l.s-index l.stmts))) ≡ any_returns (map stmt_tally l.stmts);
  value : (l.all.value || any_value (map stmt_tally (drop l.s-index l.stmts))) ≡ any_value (map stmt_tally l.stmts);
  assigned : (later : List ℕ) → Assigns l.body.held.items l.body.assigned.items later (names_of (map stmt_tally (drop l.s-index l.stmts)))
      → Assigns l.fn.body.held.items l.fn.body.assigned.items later (names_of (map stmt_tally l.stmts));
  back : put_back l.notes.items l.body.held.items ≡ put_back l.fn.notes.items l.fn.body.held.items;
}

abbrev pub invariant-block-loop-e : goal.invariant-block-loop-e
invariant-block-loop-e l = record {
  shallow : most (λ s. size-Stmt s) l.left ≤ most (λ s. size-Stmt s) l.stmts;
  waits : Waits l.funs (place l.stmts l.fn.body) l.waiting.items (place l.left l.body);
}

abbrev pub decreases-block-loop-e : goal.decreases-block-loop-e
decreases-block-loop-e l = most (λ s. size-Stmt s) l.left

abbrev pub invariant-block-loop-one : goal.invariant-block-loop-one
invariant-block-loop-one l = IsLeft l.funs (place l.stmts l.fn.body) l.waiting.items l.part l.body.held.items l.body.assigned.items

abbrev pub decreases-block-loop-one : goal.decreases-block-loop-one
decreases-block-loop-one l = vec_len l.waiting
