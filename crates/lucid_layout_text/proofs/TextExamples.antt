-- Each example is computed.
use Rattle.std.proofs.Common.{refl}
use Rattle.std.specs.Fmt.{digits}
use Rattle.lucid_layout_text.specs.Examples.{TextExamples}

pub text_examples : TextExamples
unfolding digits
text_examples = record { branches_text = refl; touch_text = refl }
