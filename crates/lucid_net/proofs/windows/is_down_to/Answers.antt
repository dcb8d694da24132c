use Rattle.std.proofs.Common.{sym, ◌∙◌, subst}
use Rattle.lucid_net.specs.Windows.{Tells}
use Rattle.lucid_net.proofs.windows.is_down_to.Goals as goal

pub is_within-requires : goal.is_within-requires
is_within-requires c =
    (subst (Tells c.args.down.now c.args.a c.args.b) (sym (c.as_slice-spans.ensures ∙ c.index-row-column.is)) (c.requires c.args.b c.index-row-column.result c.if-column-row.true)).rise

pub returns-then-column-row : goal.returns-then-column-row
returns-then-column-row c =
    c.is_within.ensures
    ∙ (subst (Tells c.args.down.now c.args.a c.args.b) (sym (c.as_slice-spans.ensures ∙ c.index-row-column.is)) (c.requires c.args.b c.index-row-column.result c.if-column-row.true)).tells c.args.tick
