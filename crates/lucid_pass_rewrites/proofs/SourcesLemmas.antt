-- A literal of a field, by the writer of the field and its mark.
use Rattle.std.proofs.Common.{◌≡◌, ℕ, ◌<◌, List, Bool, true, false, not, ◌&&◌, Option, None, Some, if◌then◌else◌, length, take, slice_index_or, refl, sym, ap, ◌∙◌, ⊎_elim, arith}
use Rattle.std.specs.Option.{option_and_then, option_map_or}
use Rattle.std.proofs.lemmas.Bool.{cases_lt}
use Rattle.std.proofs.lemmas.List.{get_or_past}
use Rattle.lucid_code.specs.declared.op.Literal.{Literal}
use Rattle.lucid_code.specs.declared.op.Op.{Op}
use Rattle.lucid_pass_spec.specs.Direct.{covers}
use Rattle.lucid_pass_spec.specs.Looks.{only_writer}
use Rattle.lucid_pass_more_spec.specs.Sources.{has_source, of_source, source_literal, source_of}
use Rattle.lucid_pass_rewrites.specs.declared.writers.Writer.{Writer}
use Rattle.lucid_pass_rewrites.specs.declared.writers.Writer.TheVariants.{Nobody}
use Rattle.lucid_pass_rewrites.specs.Covering.{Uncovered}
use Rattle.lucid_pass_rewrites.specs.Writers.{Tells, found_at}
use Rattle.lucid_pass_rewrites.proofs.ComparisonsLemmas.{not_not}
use Rattle.lucid_pass_rewrites.proofs.CoveringLemmas.{all_taken}
use Rattle.lucid_pass_rewrites.proofs.WritersLemmas.{writer_is}

module _ (widths : List ℕ) (ops : List Op) (writers : List Writer) (marks : List Bool) (tells : Tells ops writers) (u : Uncovered ops (length writers) (length ops) marks) (l : Literal) where
  abbrev by_mark : Op → Literal
  by_mark w = if not (slice_index_or marks l.field false) && has_source widths w.act then of_source w.act l else l

  by_writer : (x : Option Op) → only_writer ops l.field ≡ x → ((w : Op) → x ≡ Some w → l.field < length writers) → option_map_or by_mark x l
      ≡ option_map_or (λ a. of_source a l) (option_and_then (λ w. if covers ops l.field w.guard && has_source widths w.act then Some w.act else None) x) l
  by_writer None x h = refl
  by_writer (Some w) x h = ap (λ (b : Bool). if b && has_source widths w.act then of_source w.act l else l)
      (ap not (u.told l.field w (h w refl) x) ∙ not_not (covers (take (length ops) ops) l.field w.guard) ∙ ap (λ (p : List Op). covers p l.field w.guard) (all_taken ops))
      ∙ one (covers ops l.field w.guard && has_source widths w.act)
    where
      one : (b : Bool) → (if b then of_source w.act l else l) ≡ option_map_or (λ a. of_source a l) (if b then Some w.act else None) l
      one true = refl
      one false = refl

  -- The literal by what was found of its field is the one of the source.
  pub literal_is : (w : Writer) → w ≡ slice_index_or writers l.field Nobody → option_map_or by_mark (found_at ops w) l ≡ source_literal (source_of widths ops) l
  literal_is w e =
      let found : only_writer ops l.field ≡ found_at ops w = writer_is ops writers l.field w tells e in
      ap (λ x. option_map_or by_mark x l) (sym found) ∙ by_writer (only_writer ops l.field) refl (λ v s. ⊎_elim (λ lt. lt) (λ ge.
      let none : w ≡ Nobody = e ∙ get_or_past writers l.field Nobody (omega (arith, ge)) in
      let gone : None ≡ Some v = sym (ap (found_at ops) none) ∙ sym found ∙ s in
      absurd (cc)) (cases_lt l.field (length writers)))
