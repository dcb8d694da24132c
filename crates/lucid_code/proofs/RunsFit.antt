-- Valid code keeps to its limits for every input.
use Rattle.std.proofs.Common.{ℕ, ◌≤◌, length, subst, sym, slice_index_or}
use Rattle.std.proofs.lemmas.List.{length-map}
use Rattle.std.proofs.lemmas.List.Elements.{All-map}
use Rattle.lucid_base.specs.declared.event.Out.{Out}
use Rattle.lucid_code.specs.Laws.{RunsFit, numbers_of}
use Rattle.lucid_code.specs.Parts.{CodeParts}
use Rattle.lucid_code.specs.Run.{begun, run}
use Rattle.lucid_code.specs.Valid.{IsValid}
use Rattle.lucid_code.proofs.Acting.{run_fits}
use Rattle.lucid_code.proofs.Begun.{begun_fits}
use Rattle.lucid_code.proofs.CellsStay.{code_cells_fit}
use Rattle.lucid_code.proofs.Members.{at_place}
use Rattle.lucid_code.proofs.Outs.{code_outs_fit}

pub runs_fit : (code : CodeParts) → IsValid code → RunsFit code
runs_fit code valid = record {
  few = λ cells now me event.
      let m = run code.fields code.ops (begun cells now me event) in
      subst (λ n. n ≤ 8) (sym (length-map m.outs (λ o. o.1))) (code_outs_fit code valid cells now me event).0;
  small = λ cells now me event.
      let m = run code.fields code.ops (begun cells now me event) in
      All-map (λ o. length (numbers_of o) ≤ 8) (λ (o : ℕ × Out). o.1) m.outs
      (λ k d h. (code_outs_fit code valid cells now me event).1 (slice_index_or m.outs k d) (at_place m.outs k d h));
  cells = λ cells now me event fit. code_cells_fit code valid (begun cells now me event) fit;
  begins = λ cells now me event input. begun_fits code cells now me event valid input;
  fields = λ m fit. run_fits code.fields code.ops m fit;
}
