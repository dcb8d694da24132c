-- A text that is its own expansion is read as it is.
use Rattle.std.proofs.Common.{◌≤◌, List, Result, Ok, Err, length, subst}
use Rattle.lucid_core.specs.Parts.{CoreParts}
use Rattle.lucid_lex.specs.declared.token.Token.{Token}
use Rattle.lucid_lex.specs.Reading.{Reads}
use Rattle.lucid_size.specs.Expansion.{ExpandsTo, most}
use Rattle.lucid_top_program.specs.Program.{IsRead, IsSource}
use Rattle.lucid_top_words.specs.declared.refusal.Refusal.{Refusal}
use Rattle.lucid_top_words.specs.Outcome.{After, Alike}
use Rattle.lucid_top_words.specs.Words.{Bytes}
use Rattle.lucid_top_laws.proofs.LawsLemmas.{source_agree}
use Rattle.lucid_top_laws.specs.Templates.{IsPlain}

after_source : (text : Bytes) (o : Result CoreParts Refusal) (e : Result Bytes Refusal) → Alike e (Ok text) → After e IsRead o → IsRead text o
after_source text o (Ok source) same after = subst (λ (s : Bytes). IsRead s o) same after
after_source text o (Err r) same after = absurd same

pub plain : (text : Bytes) (tokens : List Token) → Reads text tokens → length text ≤ most → ExpandsTo text tokens text → IsPlain text
plain text tokens reads short expands o =
    let source : IsSource text (Ok text) = (Ok tokens, reads, (expands, short)) in
    (λ program. after_source text o program.0 (source_agree text program.0 (Ok text) program.1 source) program.2, λ read. (Ok text, source, read))
