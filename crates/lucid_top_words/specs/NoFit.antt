-- Why a program doesn't fit the pipeline: the line of each cause.
use Rattle.std.specs.Prelude.{◌++◌, codes, decimal}
use Rattle.lucid_top_words.specs.declared.no_fit.NoFit.{NoFit}
use Rattle.lucid_top_words.specs.declared.no_fit.NoFit.TheVariants as fit
use Rattle.lucid_top_words.specs.Words.{Bytes}

abbrev pub fit_line : NoFit → Bytes
fit_line (fit.Ops n) = codes "nofit: ops " ++ decimal n ++ codes "\n"
fit_line (fit.Size n) = codes "nofit: size " ++ decimal n ++ codes "\n"
fit_line (fit.Bits n) = codes "nofit: bits " ++ decimal n ++ codes "\n"
fit_line (fit.Arms name) = codes "nofit: arms " ++ name ++ codes "\n"
fit_line (fit.Node n) = codes "nofit: node " ++ decimal n ++ codes "\n"
