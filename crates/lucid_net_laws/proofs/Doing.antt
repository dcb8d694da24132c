-- A pass through stages, each on its own cells, has the effect of the program's step.
use Rattle.std.proofs.Common.{◌≡◌, ℕ, zero, suc, ◌<◌, ◌≤◌, ◌^◌, List, [], ◌∷◌, length, map, Option, None, Some, false, IsTrue, refl, sym, ◌∙◌, ap, subst, arith}
use Rattle.lucid_base.specs.Cells.{row_of, zero_cells}
use Rattle.lucid_base.specs.declared.array.ArrayDef.{ArrayDef}
use Rattle.lucid_base.specs.declared.event.Event.{Event}
use Rattle.lucid_base.specs.declared.event.Out.{Out}
use Rattle.lucid_code.specs.Inputs.{IsInput}
use Rattle.lucid_code.specs.Parts as code
use Rattle.lucid_code.specs.Run.{Done, Machine, run_code}
use Rattle.lucid_conf.specs.declared.limits.Limits.{Limits}
use Rattle.lucid_conf.specs.declared.scene.Scene.{Scene}
use Rattle.lucid_core.specs.Fits.{cells_fit}
use Rattle.lucid_core.specs.Laws.{CellsStayFit}
use Rattle.lucid_core.specs.Parts.{CoreParts}
use Rattle.lucid_core.specs.Step.{step}
use Rattle.lucid_net_laws.specs.Fitting.{fits}
use Rattle.lucid_net_spec.specs.Ways.{Run}
use Rattle.lucid_normal_spec.specs.Stands.{Happens, StandsFor}
use Rattle.lucid_pipe.proofs.Beside.{pass_length}
use Rattle.lucid_pipe.proofs.Moves.{zeros_long}
use Rattle.lucid_pipe.specs.Laws.{MovesAsRows}
use Rattle.lucid_pipe.specs.Packets.{Packet, entering, left_by, meets, sent_by, told}
use Rattle.lucid_pipe.specs.Rows.{by_array, owns, steps_of}
use Rattle.lucid_pipe_laws.specs.Rows.{whole}
use Rattle.lucid_tables.specs.Placed.{PlacedParts, stage_of}
use Rattle.lucid_tables.specs.Stages.{pass, pass_from}
use Rattle.lucid_net_laws.specs.Does.{IsGood, PassDoesAs, PassStepsAs}
use Rattle.lucid_net_laws.specs.Rows.{Cells, cells_of, first_cells, step_of}
use Rattle.lucid_net_laws.specs.PipeStages.{run_of_packet, stages_of}
use Rattle.lucid_net_laws.proofs.Inputs.{takes_all}

abbrev PassIs : PlacedParts → Type 0
PassIs placed = (cells : List (List ℕ)) (now me : ℕ) (event : Event) → IsInput placed.code me event → pass placed.code placed.stages cells now me event ≡ run_code placed.code cells now me event

pub steps_as : (parts : CoreParts) (placed : PlacedParts) → CellsStayFit parts → PassIs placed → MovesAsRows placed → PassStepsAs parts placed
unfolding step_of first_cells cells_of
steps_as parts placed stay passes law stands_for arrays few = record {
  start = law.view zeros (zeros_long placed.code.arrays) (λ g is. refl) ∙ ap zero_cells arrays;
  good = record { all = zeros; fit = subst (λ (a : List ArrayDef). IsTrue (cells_fit parts (zero_cells a))) (sym arrays) stay.zero; parted = refl; long = zeros_long placed.code.arrays; rest = λ g is. refl };
  pass = passed;
}
  where
    zeros : Cells
    zeros = zero_cells placed.code.arrays

    passed : (tick switch : ℕ) (cs : List Cells) (event : Event) → tick < 2 ^ 64 → switch < 2 ^ 32 → IsGood placed parts cs → fits parts event →
        (let e = whole (steps_of placed.code placed.stages) cs (entering placed.code event tick switch) in let d = step parts (by_array placed.code.arrays placed.stages cs) tick switch event in
        (by_array placed.code.arrays placed.stages e.0 ≡ d.cells) × (run_of_packet e.1 ≡ record { tick = tick; switch = switch; event = event; outs = d.outs }) × IsGood placed parts e.0)
    passed tick switch cs event before within good fit =
        subst (Goal cs) (sym made) (
          subst (λ (c : Cells). by_array placed.code.arrays placed.stages (owns placed.stages m.cells) ≡ (step parts c tick switch event).cells) (sym now_is) (law.view m.cells long rest ∙ cells),
          subst (λ (c : Cells). run_of_packet (left_by m begins) ≡ record { tick = tick; switch = switch; event = event; outs = (step parts c tick switch event).outs }) (sym now_is)
              (ap (λ (o : List Out). record { tick = tick; switch = switch; event = event; outs = o }) outs),
          record { all = m.cells; fit = subst (λ (c : Cells). IsTrue (cells_fit parts c)) (sym cells) (stay.step good.all tick switch event good.fit); parted = refl; long = long; rest = rest },
        )
      where
        begins : Packet
        begins = entering placed.code event tick switch

        Goal : List Cells → List Cells × Packet → Type 0
        Goal l e = (let d = step parts (by_array placed.code.arrays placed.stages l) tick switch event in
            (by_array placed.code.arrays placed.stages e.0 ≡ d.cells) × (run_of_packet e.1 ≡ record { tick = tick; switch = switch; event = event; outs = d.outs }) × IsGood placed parts e.0)

        m : Machine
        m = pass_from placed.code placed.stages (meets good.all begins)

        made : whole (steps_of placed.code placed.stages) cs begins ≡ (owns placed.stages m.cells, left_by m begins)
        made = ap (λ (l : List Cells). whole (steps_of placed.code placed.stages) l begins) good.parted ∙ law.through good.all begins

        now_is : by_array placed.code.arrays placed.stages cs ≡ good.all
        now_is = ap (λ (l : List Cells). by_array placed.code.arrays placed.stages l) good.parted ∙ law.view good.all good.long good.rest

        input : IsInput placed.code switch event
        input = takes_all parts placed stands_for few switch event within fit

        happens : Happens parts switch event
        happens = record { switch = within; id = input.id; event_fits = fit }

        cells : m.cells ≡ (step parts good.all tick switch event).cells
        cells = (law.event good.all event tick switch).0 ∙ ap (λ (d : Done). d.cells) (passes good.all tick switch event input) ∙ stands_for.cells good.all tick switch event happens

        outs : sent_by m.outs ≡ (step parts good.all tick switch event).outs
        outs = (law.event good.all event tick switch).1 ∙ ap (λ (d : Done). d.outs) (passes good.all tick switch event input) ∙ stands_for.outs good.all tick switch event happens

        long : length m.cells ≡ length placed.code.arrays
        long = pass_length placed.code placed.stages (meets good.all begins) ∙ good.long

        rest : (g : ℕ) → stage_of placed.stages g ≡ None → row_of m.cells g ≡ row_of zeros g
        rest g is = law.idle good.all begins g is ∙ good.rest g is

pub does_as : (parts : CoreParts) (placed : PlacedParts) → PassStepsAs parts placed → PassDoesAs parts placed
does_as parts placed steps stands_for arrays few scene limits early small =
    let all = steps stands_for arrays few in
    record { start = all.start; good = all.good; pass = λ tick switch cs event before within good fit. all.pass tick switch cs event (omega (arith, before, early)) (omega (arith, within, small)) good fit }
