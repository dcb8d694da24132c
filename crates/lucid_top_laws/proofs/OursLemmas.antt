-- The four passes of the program keep each node after its reads.
use Rattle.std.proofs.Common.{List, [], ◌∷◌, map, sym, subst}
use Rattle.std.specs.List.{AllByRecursion}
use Rattle.lucid_pass_spec.specs.Dead.{alive}
use Rattle.lucid_pass_spec.specs.Direct.{direct}
use Rattle.lucid_pass_spec.specs.Laws.{KeepsNodes}
use Rattle.lucid_pass_spec.specs.Looks.{copies, folded}
use Rattle.lucid_top_fit.specs.Passes.{KeepNodes, PassView}
use Rattle.lucid_top_laws.specs.Room.{OursKeepNodes}

each_keeps : (passes : List PassView) → AllByRecursion KeepsNodes (map (λ (p : PassView). p.gives.makes) passes) → KeepNodes (map PassView.gives passes)
each_keeps [] all = tt
each_keeps (p ∷ passes) all = (all.0, each_keeps passes all.1)

pub ours_keep : KeepsNodes folded → KeepsNodes copies → KeepsNodes alive → KeepsNodes direct → OursKeepNodes
ours_keep fold copy dead last passes are = each_keeps passes (subst (AllByRecursion KeepsNodes) (sym are) (fold, (copy, (dead, (last, tt)))))
