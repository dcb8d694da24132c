-- Events that fit are inputs of code that represents a program.
use Rattle.lucid_core.specs.Parts.{CoreParts}
use Rattle.lucid_normal_spec.proofs.Inputs.{input_of}
use Rattle.lucid_tables.specs.Placed.{PlacedParts}
use Rattle.lucid_net_laws.specs.Does.{TakesAll}

pub takes_all : (parts : CoreParts) (placed : PlacedParts) → TakesAll parts placed
takes_all parts placed stands_for few switch event lt fit = input_of parts placed.code stands_for few switch event lt fit
