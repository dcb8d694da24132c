use Rattle.std.proofs.Common.{◌≡◌, ℕ, List, Err, inl, inr, map, string_bytes, refl, ap, subst, arith, rules}
use Rattle.std.proofs.lemmas.Grind.{common_steps}
use Rattle.lucid_io.specs.declared.reading.Take.TheVariants as take
use Rattle.lucid_io.specs.declared.reading.Take.{Take}
use Rattle.lucid_top_words.specs.Files.{ReadsNot}
use Rattle.lucid_top_words.specs.Views.{files_view}
use Rattle.lucid_top_words.specs.Words.{word_at}
use Rattle.lucid_top_words.proofs.FilesLemmas.{whole_part}
use Rattle.lucid_top_words.proofs.files.read_next.Goals as goal

pub returns-then-is_err-clause-tries : goal.returns-then-is_err-clause-tries
returns-then-is_err-clause-tries g c = grind (arith, common_steps)

pub returns-else-is_err-clause-whole : goal.returns-else-is_err-clause-whole
returns-else-is_err-clause-whole g c = grind (arith, common_steps)

pub returns-else-is_err-clause-tries : goal.returns-else-is_err-clause-tries
returns-else-is_err-clause-tries g c = grind (arith, common_steps)

pub returns-in-Err-clause-not : goal.returns-in-Err-clause-not
returns-in-Err-clause-not g c =
    let name : c.as_str.result.now ≡ word_at (map string_bytes c.args.words.now) c.args.file.now.word = grind (arith, common_steps) in
    let seen = files_view g.F.Files.held g.F.Files.given g.F.Files.heard g.F.Files.faults in (
      c.in-Err.take,
      subst (λ (n : List ℕ). ReadsNot (seen c.args.files.now) (seen c.read_all.new.files) n c.args.file.now.limit c.in-Err.take) name
          (record {
            read_fault = λ is. c.in-Err.ensures.read_fault (ap (λ (why : Take). Err why) is);
            too_long = λ is. c.in-Err.ensures.too_long (ap (λ (why : Take). Err why) is);
            gave_more = λ more. elim (c.in-Err.ensures.gave_more more) [ inl is ↦ inl (cc) | inr is ↦ inr (cc) ];
            longer = λ is. c.in-Err.ensures.longer (ap (λ (why : Take). Err why) is);
            heard = c.in-Err.ensures.heard_part;
            same = c.read_all.ensures.held;
            later = c.read_all.ensures.later;
            quiet = λ not. c.in-Err.ensures.quiet (λ is. not (cc));
          }),
      search rules,
    )

pub returns-in-Err-clause-tries : goal.returns-in-Err-clause-tries
returns-in-Err-clause-tries g c = grind (arith, common_steps)

pub returns-then-is_err-clause-not : goal.returns-then-is_err-clause-not
returns-then-is_err-clause-not g c =
    let name : c.as_str.result.now ≡ word_at (map string_bytes c.args.words.now) c.args.file.now.word = grind (arith, common_steps) in (
      take.Memory,
      record {
        read_fault = λ is. absurd (cc);
        too_long = λ is. absurd (cc);
        gave_more = λ more. inr refl;
        longer = λ is. absurd (cc);
        heard = whole_part (g.F.Files.held c.args.files.now) _ _ _ _ c.in-Ok.text.items c.args.file.now.limit name c.in-Ok.ensures.heard c.in-Ok.ensures.bytes;
        same = c.read_all.ensures.held;
        later = c.read_all.ensures.later;
        quiet = λ not. c.in-Ok.ensures.quiet (λ is. absurd (cc));
      },
      refl,
    )
