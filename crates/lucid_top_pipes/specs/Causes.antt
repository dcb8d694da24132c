-- Why a network stops, as a refusal of a call.
use Rattle.lucid_net.specs.declared.error.NetError.{NetError}
use Rattle.lucid_net.specs.declared.error.NetError.TheVariants as net
use Rattle.lucid_top_words.specs.declared.refusal.Refusal.{Refusal}
use Rattle.lucid_top_words.specs.declared.refusal.Refusal.TheVariants as refusal

abbrev pub of_net : NetError → Refusal
of_net net.WriteFault = refusal.WriteFault
of_net net.Memory = refusal.Memory
