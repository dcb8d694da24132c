-- The field that an answer is for, by the writer and the reader of the field of the answer.
use Rattle.std.proofs.Common.{◌≡◌, ℕ, ◌<◌, List, true, ◌&&◌, Option, None, Some, if◌then◌else◌, length, nat_lt, slice_index_or, refl, sym, ap, ◌∙◌}
use Rattle.std.specs.List.{list_all}
use Rattle.std.specs.Option.{option_and_then, option_map_or}
use Rattle.std.proofs.lemmas.Bool.{ltb-true}
use Rattle.lucid_code.specs.declared.op.Op.{Op}
use Rattle.lucid_code.proofs.Members.{all_in}
use Rattle.lucid_pass.specs.Marks.{writes_below}
use Rattle.lucid_pass_spec.specs.Looks.{only_writer}
use Rattle.lucid_pass_spec.proofs.Replacing.{only_one}
use Rattle.lucid_pass_more_spec.specs.Merge.{answers_for, is_call, moved_to, only_reader, same_guards}
use Rattle.lucid_pass_rewrites.specs.declared.writers.Writer.{Writer}
use Rattle.lucid_pass_rewrites.specs.declared.writers.Writer.TheVariants.{Nobody}
use Rattle.lucid_pass_rewrites.specs.Readers.{TellReads}
use Rattle.lucid_pass_rewrites.specs.Writers.{Tells, found_at}
use Rattle.lucid_pass_rewrites.proofs.ReadersLemmas.{reader_is}
use Rattle.lucid_pass_rewrites.proofs.WritersLemmas.{writer_is}

module _ (widths : List ℕ) (ops : List Op) (t : ℕ) where
  abbrev answer : Option Op → Op → Option ℕ
  answer reader w = option_and_then (λ v. if is_call w.act && same_guards w v then moved_to widths t v.act else None) reader

  pub answer_is : (writers readers : List Writer) (w r : Writer) → list_all (writes_below (length widths)) ops ≡ true → Tells ops writers → TellReads (length widths) ops readers → w ≡ slice_index_or writers t Nobody → r ≡ slice_index_or readers t Nobody
      → option_and_then (answer (found_at ops r)) (found_at ops w) ≡ answers_for widths ops t
  answer_is writers readers w r all tells read e f =
      ap (option_and_then (answer (found_at ops r))) (sym (writer_is ops writers t w tells e)) ∙ by (only_writer ops t) refl
    where
      by : (x : Option Op) → only_writer ops t ≡ x → option_and_then (answer (found_at ops r)) x ≡ option_and_then (answer (only_reader ops t)) x
      by None p = refl
      by (Some o) p =
          let one = only_one ops t o p in
          let below : t < length widths = ltb-true t (length widths) (sym (ap (λ x. option_map_or (λ k. nat_lt k (length widths)) x true) one.1) ∙ all_in (writes_below (length widths)) ops all o one.0) in
          ap (λ x. answer x o) (sym (reader_is (length widths) ops readers t r read below f))
