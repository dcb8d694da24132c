-- From the normal form to code that may replace it, and from the flat form to the program.
use Rattle.std.proofs.Common.{ℕ, ◌∙◌, ap}
use Rattle.lucid_base.specs.declared.event.Event.{Event}
use Rattle.lucid_code.specs.Parts as code
use Rattle.lucid_code.specs.Run.{Done}
use Rattle.lucid_core.specs.Parts.{CoreParts}
use Rattle.lucid_core.specs.Step.{Stepped}
use Rattle.lucid_core.specs.Valid.{IsValidFlat}
use Rattle.lucid_inline_spec.specs.Flat.{flat_of}
use Rattle.lucid_inline_spec.specs.Laws.{KeepsSteps}
use Rattle.lucid_normal_laws.proofs.Stands.{stands}
use Rattle.lucid_pass_spec.specs.Replace.{MayReplace}
use Rattle.lucid_pass_spec.proofs.Replaces.{stays_input}
use Rattle.lucid_normal_spec.specs.Program.{translate}
use Rattle.lucid_normal_spec.specs.Stands.{Happens, StandsFor}
use Rattle.lucid_pass_laws.specs.Core.{CodeStands}

-- An event that fits a program fits its flat form, which has the same events.
as_flat : (core : CoreParts) (me : ℕ) (event : Event) → Happens core me event → Happens (flat_of core) me event
as_flat core me event h = record { switch = h.switch; id = h.id; event_fits = h.event_fits }

for_core : (c : code.CodeParts) (core : CoreParts) → KeepsSteps core → StandsFor c (flat_of core) → StandsFor c core
for_core c core keeps s = record {
  takes = λ me event h. s.takes me event (as_flat core me event h);
  cells = λ cells now me event h. s.cells cells now me event (as_flat core me event h) ∙ ap (λ (d : Stepped). d.cells) (keeps.step cells now me event h.event_fits);
  outs = λ cells now me event h. s.outs cells now me event (as_flat core me event h) ∙ ap (λ (d : Stepped). d.outs) (keeps.step cells now me event h.event_fits);
}

replaced : (parts : CoreParts) (a b : code.CodeParts) → MayReplace a b → StandsFor a parts → StandsFor b parts
replaced parts a b m s = record {
  takes = λ me event h. stays_input a b me event m.inputs m.widths (s.takes me event h);
  cells = λ cells now me event h. ap (λ (d : Done). d.cells) (m.runs cells now me event (s.takes me event h)) ∙ s.cells cells now me event h;
  outs = λ cells now me event h. ap (λ (d : Done). d.outs) (m.runs cells now me event (s.takes me event h)) ∙ s.outs cells now me event h;
}

pub code_stands : (core : CoreParts) → KeepsSteps core → IsValidFlat (flat_of core) → CodeStands core
code_stands core keeps valid = record {
  normal = normal;
  stands = λ c m. replaced core (translate (flat_of core)) c m normal;
  arrays = λ c m. m.arrays;
}
  where
    normal : StandsFor (translate (flat_of core)) core
    normal = for_core (translate (flat_of core)) core keeps (stands (flat_of core) valid)
