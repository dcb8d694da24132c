use Rattle.std.proofs.lemmas.Grind.{common_steps}
use Rattle.std.proofs.Common.{◌≡◌, ◌∙◌, ◌+◌, ◌≤◌, List, length, ap, refl, subst, Some, None, rules, sym, arith}
use Rattle.std.proofs.lemmas.List.{length-map}
use Rattle.lucid_io.specs.Counts.{OthersKept}
use Rattle.lucid_top.specs.Answer.{MayStop, command_files}
use Rattle.lucid_top.specs.Call.{bytes_of}
use Rattle.lucid_top_words.specs.Command.{command_of}
use Rattle.lucid_top_words.specs.Files.{IsNameIn, TriesOnly, most_reads, texts_in}
use Rattle.lucid_top_words.specs.declared.command.NamedFile.{NamedFile}
use Rattle.lucid_top_words.specs.Views.{files_view}
use Rattle.lucid_top_words.proofs.Readings.{read-length}
use Rattle.lucid_top_words.proofs.Seen.{performs-in, nothing-kept}
use Rattle.lucid_top.proofs.Works.{does-usage, does-refused, does-performed}
use Rattle.lucid_top.proofs.top.work.Goals as goal

pub returns-in_default-clause-done : goal.returns-in_default-clause-done
returns-in_default-clause-done g c =
    let is : command_of (bytes_of c.args.words.now) ≡ None = search rules in
    does-usage _ is refl nothing-kept refl refl

pub returns-in-Ok-clause-done : goal.returns-in-Ok-clause-done
returns-in-Ok-clause-done g c =
    let is : command_of (bytes_of c.args.words.now) ≡ Some c.in-Some.command = search rules in
    does-performed c.in-Some.command _ is c.files.ensures.files c.in-Ok.ensures.reads c.as_slice.ensures.value
    (performs-in g.W.Sink.written g.W.Sink.faults c.args.out.now c.perform.new.out (MayStop c.in-Some.command _) _ c.perform.result c.perform.ensures.performs)
    c.perform.ensures.ran c.perform.ensures.shown

pub returns-in-Err-clause-done : goal.returns-in-Err-clause-done
returns-in-Err-clause-done g c =
    let is : command_of (bytes_of c.args.words.now) ≡ Some c.in-Some.command = search rules in
    does-refused c.in-Some.command _ is c.files.ensures.files c.in-Err.ensures.reads refl nothing-kept refl refl

pub returns-in-Ok-clause-unread : goal.returns-in-Ok-clause-unread
returns-in-Ok-clause-unread g c = λ none.
    let is : command_of (bytes_of c.args.words.now) ≡ Some c.in-Some.command = search rules in
    c.read_files.ensures.none (c.files.ensures.files ∙ sym (ap command_files is) ∙ none)

pub returns-in-Err-clause-unread : goal.returns-in-Err-clause-unread
returns-in-Err-clause-unread g c = λ none.
    let is : command_of (bytes_of c.args.words.now) ≡ Some c.in-Some.command = search rules in
    c.read_files.ensures.none (c.files.ensures.files ∙ sym (ap command_files is) ∙ none)

pub returns-in-Ok-clause-tries : goal.returns-in-Ok-clause-tries
returns-in-Ok-clause-tries g c =
    let words = bytes_of c.args.words.now in
    let is : command_of words ≡ Some c.in-Some.command = search rules in
    subst (λ (files : List NamedFile). TriesOnly words files (g.F.Files.tried c.args.files.now) (g.F.Files.tried c.read_files.new.files))
    (c.files.ensures.files ∙ sym (ap command_files is)) c.read_files.ensures.tries

pub returns-in-Err-clause-tries : goal.returns-in-Err-clause-tries
returns-in-Err-clause-tries g c =
    let words = bytes_of c.args.words.now in
    let is : command_of words ≡ Some c.in-Some.command = search rules in
    subst (λ (files : List NamedFile). TriesOnly words files (g.F.Files.tried c.args.files.now) (g.F.Files.tried c.read_files.new.files))
    (c.files.ensures.files ∙ sym (ap command_files is)) c.read_files.ensures.tries

pub perform-requires : goal.perform-requires
perform-requires g c =
    let words = bytes_of c.args.words.now in
    let seen = files_view g.F.Files.held g.F.Files.given g.F.Files.heard g.F.Files.faults in
    let read = read-length words (seen c.args.files.now) (seen c.read_files.new.files) c.files.result.now (texts_in c.in-Ok.texts.items) c.in-Ok.ensures.reads in
    let many : length c.in-Ok.texts.items ≡ length (texts_in c.in-Ok.texts.items) = sym (length-map c.in-Ok.texts.items _) in
    record { texts = ap length c.as_slice.ensures.value ∙ many ∙ read ∙ ap length c.files.ensures.files; counted = search rules }

pub returns-in_default-clause-unread : goal.returns-in_default-clause-unread
returns-in_default-clause-unread g c = grind (arith, common_steps)

pub returns-in_default-clause-tries : goal.returns-in_default-clause-tries
returns-in_default-clause-tries g c = grind (arith, common_steps)

pub read_files-requires-clause-there : goal.read_files-requires-clause-there
read_files-requires-clause-there g c = grind (arith, common_steps)

pub read_files-requires-clause-small : goal.read_files-requires-clause-small
read_files-requires-clause-small g c = grind (arith, common_steps)

pub returns-in-Ok-clause-others : goal.returns-in-Ok-clause-others
returns-in-Ok-clause-others g c =
    let words = bytes_of c.args.words.now in
    let is : command_of words ≡ Some c.in-Some.command = search rules in
    subst (λ (files : List NamedFile). OthersKept (IsNameIn words files) (g.F.Files.faults c.args.files.now) (g.F.Files.faults c.read_files.new.files))
    (c.files.ensures.files ∙ sym (ap command_files is)) c.read_files.ensures.others

pub returns-in-Err-clause-others : goal.returns-in-Err-clause-others
returns-in-Err-clause-others g c =
    let words = bytes_of c.args.words.now in
    let is : command_of words ≡ Some c.in-Some.command = search rules in
    subst (λ (files : List NamedFile). OthersKept (IsNameIn words files) (g.F.Files.faults c.args.files.now) (g.F.Files.faults c.read_files.new.files))
    (c.files.ensures.files ∙ sym (ap command_files is)) c.read_files.ensures.others

pub returns-in_default-clause-others : goal.returns-in_default-clause-others
returns-in_default-clause-others g c = λ name other. refl

pub returns-in-Ok-clause-reads : goal.returns-in-Ok-clause-reads
returns-in-Ok-clause-reads g c =
    let is : command_of (bytes_of c.args.words.now) ≡ Some c.in-Some.command = search rules in
    subst (λ (files : List NamedFile). g.F.Files.reads c.read_files.new.files ≤ g.F.Files.reads c.args.files.now + most_reads files)
    (c.files.ensures.files ∙ sym (ap command_files is)) c.read_files.ensures.calls

pub returns-in-Err-clause-reads : goal.returns-in-Err-clause-reads
returns-in-Err-clause-reads g c =
    let is : command_of (bytes_of c.args.words.now) ≡ Some c.in-Some.command = search rules in
    subst (λ (files : List NamedFile). g.F.Files.reads c.read_files.new.files ≤ g.F.Files.reads c.args.files.now + most_reads files)
    (c.files.ensures.files ∙ sym (ap command_files is)) c.read_files.ensures.calls

pub returns-in_default-clause-reads : goal.returns-in_default-clause-reads
returns-in_default-clause-reads g c = omega arith
