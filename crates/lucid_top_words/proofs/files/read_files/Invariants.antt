use Rattle.std.proofs.Common.{◌≡◌, ◌+◌, ◌≤◌, [], drop, map, string_bytes}
use Rattle.lucid_io.specs.Counts.{OthersKept}
use Rattle.lucid_top_words.specs.Files.{IsNameIn, TriesOnly, most_reads, texts_in}
use Rattle.lucid_top_words.specs.Views.{files_view}
use Rattle.lucid_top_words.proofs.Reading.{SoFar}
use Rattle.lucid_top_words.proofs.files.read_files.Given as goal

-- the files that are left, and that no other was tried
abbrev pub invariant-loop-file : goal.invariant-loop-file
invariant-loop-file g l =
    let seen = files_view g.F.Files.held g.F.Files.given g.F.Files.heard g.F.Files.faults in
    record {
      so_far : SoFar (map string_bytes l.words) (seen l.fn.files) (seen l.files) l.named (drop l.file-index l.named) (texts_in l.texts.items);
      tries : TriesOnly (map string_bytes l.words) l.named (g.F.Files.tried l.fn.files) (g.F.Files.tried l.files);
      others : OthersKept (IsNameIn (map string_bytes l.words) l.named) (g.F.Files.faults l.fn.files) (g.F.Files.faults l.files);
      calls : g.F.Files.reads l.files + most_reads (drop l.file-index l.named) ≤ g.F.Files.reads l.fn.files + most_reads l.named;
      none : l.named ≡ [] → l.files ≡ l.fn.files;
    }
