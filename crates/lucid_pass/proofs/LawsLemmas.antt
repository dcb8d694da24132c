-- The result of passes one after another may replace the code, and keeps nodes after their reads if each pass does.
use Rattle.std.proofs.Common.{[], ◌∷◌}
use Rattle.lucid_pass_spec.proofs.Replaces.{same_replaces, replaces_twice}
use Rattle.lucid_pass.specs.Through.{ListsKeepNodes, ListsReplace, through}

pub through_replaces : ListsReplace
through_replaces [] code valid = same_replaces code valid
through_replaces (p ∷ passes) code valid =
    let kept = p.keeps code valid in
    replaces_twice code (p.makes code) (through passes (p.makes code)) kept (through_replaces passes (p.makes code) kept.valid)

pub through_nodes : ListsKeepNodes
through_nodes [] each code valid follow = follow
through_nodes (p ∷ passes) each code valid follow = through_nodes passes each.1 (p.makes code) (p.keeps code valid).valid (each.0 code valid follow)
