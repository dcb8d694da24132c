-- Events one after another: the meaning of the fold for each of them.
use Rattle.std.proofs.Common.{◌≡◌, ℕ, zero, suc, ◌+◌, List, [], ◌∷◌, Some, length, take, arith, length-append}
use Rattle.std.specs.Prelude.{fold, slice_get, slice_index_or}
use Rattle.std.specs.Option.{option_map_or}
use Rattle.lucid_base.specs.declared.event.Out.{Out}
use Rattle.lucid_core.specs.Parts.{CoreParts}
use Rattle.lucid_base.specs.Cells.{zero_cells}
use Rattle.lucid_core.proofs.Grown.{get_before, get_last}
use Rattle.std.proofs.lemmas.List.{get_or_past}
use Rattle.std.proofs.lemmas.Option.{get_or_from_slice_get}
use Rattle.lucid_core.specs.Step.{Entry, one_more, Steps, outs, step, steps}

abbrev pub steps_from : CoreParts → Steps → List Entry → Steps
steps_from parts so_far entries = fold (one_more parts) so_far entries

module _ (parts : CoreParts) where
  -- Earlier outs stay in their positions.
  outs_stay : (so_far : Steps) (entries : List Entry) (j : ℕ) (sent : List Out) → slice_get so_far.outs j ≡ Some sent → slice_get (steps_from parts so_far entries).outs j ≡ Some sent
  outs_stay so_far [] j sent is = is
  outs_stay so_far (e ∷ es) j sent is = outs_stay (one_more parts so_far e) es j sent (get_before so_far.outs (step parts so_far.cells e.now e.me e.event).outs j sent is)

  outs_from : (so_far : Steps) (entries : List Entry) (j : ℕ) →
      slice_index_or (steps_from parts so_far entries).outs (length so_far.outs + j) [] ≡ option_map_or (λ e. (step parts (steps_from parts so_far (take j entries)).cells e.now e.me e.event).outs) (slice_get entries j) []
  outs_from so_far [] j = get_or_past so_far.outs (length so_far.outs + j) [] (omega arith)
  outs_from so_far (e ∷ es) zero =
      let sent = (step parts so_far.cells e.now e.me e.event).outs in
      let k : length so_far.outs + 0 ≡ length so_far.outs = omega arith in
      rw k (get_or_from_slice_get _ (length so_far.outs) sent [] (outs_stay (one_more parts so_far e) es (length so_far.outs) sent (get_last so_far.outs sent)))
  outs_from so_far (e ∷ es) (suc j) =
      let more = one_more parts so_far e in
      let k : length so_far.outs + suc j ≡ length more.outs + j = simp length-append (omega arith) in
      rw k (outs_from more es j)

  -- The outs of event j are those that the fold has at its place.
  pub outs_at : (entries : List Entry) (j : ℕ) → slice_index_or (steps parts entries).outs j [] ≡ outs parts entries j
  outs_at entries j = let k : 0 + j ≡ j = omega arith in rw k at (outs_from (record { cells = zero_cells parts.arrays; outs = [] }) entries j)
