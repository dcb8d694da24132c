use Rattle.std.proofs.Common.{List, sym, ◌∙◌, ap, subst}
use Rattle.std.specs.List.{list_any}
use Rattle.lucid_conf.specs.declared.scene.Down.{Down}
use Rattle.lucid_net_spec.specs.Ways.{is_open}
use Rattle.lucid_net.specs.Windows.{AreRows}
use Rattle.lucid_net.proofs.windows.Windows.are_open.Goals as goal

pub is_down_by-requires : goal.is_down_by-requires
is_down_by-requires c = subst (AreRows c.self.inside.down.now) (sym c.as_slice.ensures) c.self.invariant

pub returns : goal.returns
returns c = c.is_down_by.ensures ∙ ap (λ (l : List Down). list_any (is_open c.args.a c.args.b c.args.tick) l) c.self.view_is
