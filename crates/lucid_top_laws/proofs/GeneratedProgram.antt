-- The program of that seed, from its text to its core.
use Rattle.std.proofs.Common.{Ok, refl}
use Rattle.lucid_parse_spec.specs.Law.{ReadAsSpelled}
use Rattle.lucid_top_laws.proofs.GeneratedCore.{core_parts, is_accepted, is_typed}
use Rattle.lucid_top_laws.proofs.GeneratedTree.{decls, is_tree, reads, shallow, text, tokens}
use Rattle.lucid_top_program.specs.Program.{IsRead}

pub is_read : ReadAsSpelled → IsRead text (Ok core_parts)
is_read law = (Ok tokens, reads, (Ok (record { decls = decls }), (shallow, is_tree law), (Ok core_parts, is_typed, (is_accepted, refl))))
