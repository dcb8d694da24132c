use Rattle.lucid_net_spec.proofs.Windows.{no_windows}
use Rattle.lucid_net_spec.proofs.laws.without_windows_all_links_are_up.Goals as goal

pub returns : goal.returns
returns c = no_windows
