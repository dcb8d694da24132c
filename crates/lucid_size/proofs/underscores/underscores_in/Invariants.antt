use Rattle.std.proofs.Common.{◌≡◌, ◌≤◌, drop, length}
use Rattle.std.specs.Prelude.{max}
use Rattle.std.specs.List.{fold}
use Rattle.lucid_size.specs.Suffix.{run_of}
use Rattle.lucid_size.proofs.underscores.underscores_in.Given as goal

abbrev pub invariant-loop-token : goal.invariant-loop-token
invariant-loop-token l = record {
  most : l.most ≤ length l.text;
  left : fold (λ most t. max most (run_of l.text t)) l.most (drop l.token-index l.tokens) ≡ fold (λ most t. max most (run_of l.text t)) 0 l.tokens;
}
