-- First fit refuses the second node of the worked program within the narrow limits: it needs a second row.
use Rattle.std.proofs.Common.{◌≡◌, ◌∙◌, ◌≤◌, ℕ, List, [], ◌∷◌, Ok, Err, IsUtf8, Some, true, false, arith, codes, length, refl, subst, sym}
use Rattle.std.specs.Char.{encode_utf8}
use Rattle.std.specs.Prelude.{slice_index_or}
use Rattle.serde_json.proofs.OnLiterals.{serde_json_on_literals}
use Rattle.serde_json.specs.Data.{Data, member, no_members, number, object, unsigned}
use Rattle.serde_json.specs.Read.{read}
use Rattle.lucid_code.specs.Parts.{CodeParts}
use Rattle.lucid_conf.specs.declared.limits.Limits.{Limits}
use Rattle.lucid_layout.specs.Fit.{Admissible, IsStuck, Least}
use Rattle.lucid_merge.specs.Product.{product}
use Rattle.lucid_parse_spec.specs.Law.{ReadAsSpelled}
use Rattle.lucid_stages.specs.Counts.{CountsFit}
use Rattle.lucid_stages.specs.NodeTables.{merged, tables_of}
use Rattle.lucid_stages.specs.NodeWorks.{work_at, works}
use Rattle.lucid_stages.specs.Stage.{laid, no_tables, rows_at}
use Rattle.lucid_stages.specs.declared.node.Work.{Work}
use Rattle.lucid_stages.specs.declared.stage.Pair.{Pair}
use Rattle.lucid_stages.specs.declared.stage.Seat.{Seat}
use Rattle.lucid_top.proofs.Headlines.{is-program}
use Rattle.lucid_top.specs.Layout.{LayoutAnswers}
use Rattle.lucid_top.specs.Pipes.{IsPiped, target}
use Rattle.lucid_top_fit.specs.Fit.{IsFitted, composed}
use Rattle.lucid_top_fit.specs.Passes.{AreOurs, PassView}
use Rattle.lucid_top_program.specs.Settings.{IsLimits}
use Rattle.lucid_top_words.specs.declared.no_fit.NoFit.TheVariants as fit
use Rattle.lucid_top_words.specs.declared.refusal.Refusal.{Refusal}
use Rattle.lucid_top_words.specs.declared.refusal.Refusal.TheVariants as refusal
use Rattle.lucid_top_laws.proofs.FlightExamples.{first as at_first, first_of}
use Rattle.lucid_top_laws.proofs.TextsAnswers.{same}
use Rattle.lucid_top_laws.proofs.TextsExamples.{code, code_is, few_calls, has_normal}
use Rattle.lucid_top_laws.proofs.TextsProgram.{core, has_core}
use Rattle.lucid_top_laws.specs.TextsWorked.{narrow, texts}

abbrev limits : Limits
limits = record { stages = 1; tables = 1; rows = 1; arrays = 4; arms = 8; bits = 16384; recirc = 0 }

abbrev told : Data
told = object
    (member (codes "rows") (number (unsigned 1)) (member (codes "stages") (number (unsigned 1)) (member (codes "tables") (number (unsigned 1)) no_members)))

told_is : read narrow ≡ Some told
unfolding serde_json_on_literals
told_is = refl

narrow_utf8 : IsUtf8 narrow
unfolding encode_utf8
narrow_utf8 = (narrow, (refl, refl))

are_limits : IsLimits narrow (Ok limits)
are_limits = (told, (narrow_utf8, told_is), refl)

counts : CountsFit code limits
counts = record { ops = omega arith; bits = omega arith; arms = few_calls }

abbrev add_work : Work
add_work = work_at code.ops (0 ∷ []) true

abbrev send_work : Work
send_work = work_at code.ops (1 ∷ []) false

abbrev done : List Seat
done = record { node = add_work; at = at_first } ∷ []

add_first : Least (Admissible code.ops limits [] add_work (send_work ∷ [])) at_first
unfolding product
add_first = record {
  holds = record {
    written = refl;
    room = record { below = omega arith; behind = tt; fits = record { table = record { next = omega arith; below = omega arith; rows = omega arith }; arrays = λ is. omega arith } };
  };
  least = λ q a. first_of q;
}

-- The rows of the table at this place once it is merged with that of the second node.
abbrev rows_there : ℕ → ℕ → ℕ
rows_there k t = length (product (rows_at (slice_index_or (laid code.ops limits done) k no_tables) t) (merged (tables_of code.ops send_work)))

two_rows : rows_there 0 0 ≤ 1 → ⊥
unfolding product
two_rows few = omega (arith, few)

send_nowhere : (q : Pair) → Admissible code.ops limits done send_work [] q → ⊥
send_nowhere q a =
    let one_stage = a.room.below in
    let one_table = a.room.fits.table.below in
    let stage_is : q.stage ≡ 0 = omega (arith, one_stage) in
    let table_is : q.table ≡ 0 = omega (arith, one_table) in
    two_rows (subst (λ (t : ℕ). rows_there 0 t ≤ 1) table_is (subst (λ (k : ℕ). rows_there k q.table ≤ 1) stage_is a.room.fits.table.rows))

is_stuck : IsStuck code.ops limits [] (works code.ops) 1
is_stuck = (at_first, add_first, send_nowhere)

abbrev none : Refusal
none = refusal.NoFit (fit.Node 1)

abbrev Stuck : CodeParts → Type 0
Stuck c = CountsFit c limits × IsStuck c.ops limits [] (works c.ops) 1

module _ (views : List PassView) (four : AreOurs views) where
  not_fitted : IsFitted core limits views (Err none)
  not_fitted = (Ok (composed core views), (has_normal, refl), (Err none, subst Stuck (sym code_is ∙ same views four core) (counts, is_stuck), refl))

  is_piped : ReadAsSpelled → IsPiped texts.program narrow views (Err none)
  is_piped law = (Ok (target core limits), (Ok core, is-program (has_core law), (Ok limits, are_limits, refl)), (Err none, not_fitted, refl))

  pub is_refused : ReadAsSpelled → LayoutAnswers texts.program narrow views (Err none)
  is_refused law = (Err none, is_piped law, refl)
