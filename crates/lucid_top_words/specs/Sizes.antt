-- Why a program with functions over a width has no expansion: the line of each cause.
use Rattle.std.specs.Prelude.{◌++◌, codes, decimal}
use Rattle.lucid_top_words.specs.declared.sizes.BadSizes.{BadSizes}
use Rattle.lucid_top_words.specs.declared.sizes.BadSizes.TheVariants as sizes
use Rattle.lucid_top_words.specs.Words.{Bytes}

abbrev pub sizes_line : BadSizes → Bytes
sizes_line (sizes.Broken token) = codes "sizes: broken at token " ++ decimal token ++ codes "\n"
sizes_line (sizes.Twice name) = codes "sizes: " ++ name ++ codes " twice\n"
sizes_line sizes.TooLong = codes "sizes: too long\n"
