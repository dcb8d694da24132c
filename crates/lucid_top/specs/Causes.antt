-- Why a drive with a snapshot stops, as a refusal of a call.
use Rattle.lucid_snap.specs.declared.error.SnapError.{SnapError}
use Rattle.lucid_snap.specs.declared.error.SnapError.TheVariants as snap
use Rattle.lucid_top_words.specs.declared.refusal.Refusal.{Refusal}
use Rattle.lucid_top_words.specs.declared.refusal.Refusal.TheVariants as refusal

abbrev pub of_snap : SnapError → Refusal
of_snap snap.WriteFault = refusal.WriteFault
of_snap snap.Memory = refusal.Memory
