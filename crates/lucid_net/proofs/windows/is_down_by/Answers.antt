use Rattle.std.proofs.Common.{sym, ◌∙◌, subst}
use Rattle.lucid_net.specs.Windows.{AreOf}
use Rattle.lucid_net.proofs.windows.is_down_by.Goals as goal

pub is_down_to-requires : goal.is_down_to-requires
is_down_to-requires c =
    subst (AreOf c.args.down.now c.args.a) (sym (c.as_slice-cells.ensures ∙ c.index-rows-row.is)) (c.requires c.args.a c.index-rows-row.result c.if-row-rows.true)
