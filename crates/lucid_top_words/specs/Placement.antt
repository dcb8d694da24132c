-- Why a placement is refused: the line of each cause.
use Rattle.std.specs.Prelude.{◌++◌, codes, decimal}
use Rattle.lucid_top_words.specs.declared.placement.BadPlacement.{BadPlacement}
use Rattle.lucid_top_words.specs.declared.placement.BadPlacement.TheVariants as placement
use Rattle.lucid_top_words.specs.Words.{Bytes}

abbrev pub placement_line : BadPlacement → Bytes
placement_line placement.NotJson = codes "placement: not JSON\n"
placement_line placement.File = codes "placement: file\n"
placement_line placement.Other = codes "placement: other\n"
placement_line placement.Nodes = codes "placement: nodes\n"
placement_line (placement.Item i) = codes "placement: nodes " ++ decimal i ++ codes "\n"
placement_line (placement.Range node) = codes "placement: node " ++ decimal node ++ codes " range\n"
placement_line (placement.Early node) = codes "placement: node " ++ decimal node ++ codes " early\n"
placement_line (placement.Rows stage t) = codes "placement: stage " ++ decimal stage ++ codes " table " ++ decimal t ++ codes " rows\n"
placement_line (placement.Arrays stage) = codes "placement: stage " ++ decimal stage ++ codes " arrays\n"
