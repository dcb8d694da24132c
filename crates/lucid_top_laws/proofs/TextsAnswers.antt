-- The answers of calls over the worked texts, and their sights.
use Rattle.std.proofs.Common.{◌≡◌, ◌∙◌, ◌∷◌, ◌++◌, ◌-◌, ℕ, List, Ok, Some, [], ap, codes, fold, length, map, refl, subst, sym}
use Rattle.std.specs.Fmt.{digits}
use Rattle.lucid_base.specs.Cells.{row_of}
use Rattle.lucid_base.specs.declared.event.Out.{Out}
use Rattle.lucid_code.specs.Nodes.{nodes}
use Rattle.lucid_code.specs.Parts.{CodeParts}
use Rattle.lucid_core.specs.Step.{Entry, Stepped, after, outs, step}
use Rattle.lucid_drive.specs.Drive.{Drive, drive_log, ending_text, entries, line}
use Rattle.lucid_drive.specs.Sights.{sights}
use Rattle.lucid_log.specs.Block.{block_text}
use Rattle.lucid_log.specs.Cells.{cells_text, lines_from}
use Rattle.lucid_log.specs.Pieces.{pieces}
use Rattle.lucid_merge.specs.Product.{product}
use Rattle.lucid_net.specs.Sights.{sights_to}
use Rattle.lucid_parse_spec.specs.Law.{ReadAsSpelled}
use Rattle.lucid_pass.specs.Through.{gone, through}
use Rattle.lucid_pipe.specs.declared.sight.Sight.{Sight}
use Rattle.lucid_snap.specs.Log.{snap_log}
use Rattle.lucid_stages.specs.Counts.{CountsFit}
use Rattle.lucid_tables.specs.Placed.{PlacedParts}
use Rattle.lucid_top.proofs.Headlines.{MakeSame, audited_of, is-fitted, is-placed, is-program, is-ready, ready_of}
use Rattle.lucid_top.specs.Drive.{DriveAnswers}
use Rattle.lucid_top.specs.Headline.{code_by}
use Rattle.lucid_top.specs.Layout.{LayoutAnswers, fit_text}
use Rattle.lucid_top.specs.Pipes.{IsPiped, piped, target}
use Rattle.lucid_top.specs.Placed.{AuditAnswers, IsAuditedIn, IsMeasured, Measured, RunPlacedAnswers, measured}
use Rattle.lucid_top.specs.RunPipe.{RunPipeAnswers}
use Rattle.lucid_top.specs.Snap.{SnapAnswers}
use Rattle.lucid_top_fit.specs.Fit.{Fit, composed, fit_of, normal_of}
use Rattle.lucid_top_fit.specs.Passes.{AreOurs, PassView, our_makes}
use Rattle.lucid_top_fit.specs.Placing.{IsAudited, IsPlan}
use Rattle.lucid_top_laws.proofs.TextsExamples.{accepted, audits, code, code_is, fits, has_normal, is_placed, limits, limits_are, normal_is, placed_there, plan, scene}
use Rattle.lucid_top_laws.proofs.TextsProgram.{core, has_core}
use Rattle.lucid_top_laws.proofs.TextsRun.{first_step, log_is, logged, net, second_step, sends, sights_are, sights_there_are}
use Rattle.lucid_top_laws.specs.TextsWorked.{AreSeen, event, placement, sight, texts}
use Rattle.lucid_top_words.specs.Words.{Bytes}
use Rattle.lucid_types_spec.proofs.Rolled as rolled

-- The code that the passes make.
abbrev pub made : CodeParts
made = code_by our_makes core

-- ---- the steps of the drive

-- The drive over the stages of this code.
abbrev pub drive_over : CodeParts → Drive
drive_over c = record { parts = core; stages = (is_placed c).stages; scene = scene }

abbrev es : List Entry
es = entries scene

one : after core es 1 ≡ (5 ∷ []) ∷ []
one = ap (λ (d : Stepped). d.cells) first_step

two : after core es 2 ≡ (10 ∷ []) ∷ []
two = ap (λ (c : List (List ℕ)). (step core c 1 0 (event 5)).cells) one ∙ ap (λ (d : Stepped). d.cells) second_step

first_outs : outs core es 0 ≡ sends
first_outs = ap (λ (d : Stepped). d.outs) first_step

second_outs : outs core es 1 ≡ sends
second_outs = ap (λ (c : List (List ℕ)). (step core c 1 0 (event 5)).outs) one ∙ ap (λ (d : Stepped). d.outs) second_step

-- The text of the drive, by the outs of the first two events and the cells after both.
abbrev drive_text : List Out → List Out → List (List ℕ) → List ℕ
drive_text xs ys cells =
    (codes "enter 0\n" ++ ((codes "go 0\n" ++ []) ++ (codes "enter 1\n" ++ ((codes "go 1\n" ++ block_text core 0 0 (event 5) xs 0) ++ ((codes "go 0\n" ++ []) ++ [])))))
    ++ (pieces (λ (j : ℕ). block_text core 1 0 (event 5) ys 0) 1 1 ++ (cells_text 0 core.arrays cells ++ ending_text 2 1))

told : drive_log (drive_over code) ≡ drive_text (outs core es 0) (outs core es 1) (after core es 2)
unfolding digits product
told = refl

abbrev pub drive_words : List ℕ
drive_words = codes "enter 0\ngo 0\nenter 1\ngo 1\n[0] s0 e(5)\n  generate f() delay 0 to 1\ngo 0\n[1] s0 e(5)\n  generate f() delay 0 to 1\ns0 x[0] = 10\nentered 2 left 1\n"

spelled : drive_text sends sends ((10 ∷ []) ∷ []) ≡ drive_words
unfolding digits lines_from
spelled = refl

drove_over : drive_log (drive_over code) ≡ drive_words
drove_over = told
    ∙ ap (λ (xs : List Out). drive_text xs (outs core es 1) (after core es 2)) first_outs
    ∙ ap (λ (ys : List Out). drive_text sends ys (after core es 2)) second_outs
    ∙ ap (λ (cells : List (List ℕ)). drive_text sends sends cells) two
    ∙ spelled

drove : drive_log (drive_over made) ≡ drive_words
drove = ap (λ (c : CodeParts). drive_log (drive_over c)) code_is ∙ drove_over

-- One event had entered by the first step.
abbrev snap_words : List (List ℕ) → List ℕ
snap_words cells = line (codes "snap after ") 1 ++ cells_text 0 core.arrays cells

snap_told : snap_log (drive_over code) 1 ≡ drive_log (drive_over code) ++ snap_words (after core es 1)
unfolding digits product
snap_told = refl

abbrev pub snapped_words : List ℕ
snapped_words = codes "enter 0\ngo 0\nenter 1\ngo 1\n[0] s0 e(5)\n  generate f() delay 0 to 1\ngo 0\n[1] s0 e(5)\n  generate f() delay 0 to 1\ns0 x[0] = 10\nentered 2 left 1\nsnap after 1\ns0 x[0] = 5\n"

snap_spelled : drive_words ++ snap_words ((5 ∷ []) ∷ []) ≡ snapped_words
unfolding digits lines_from
snap_spelled = refl

snapped_over : snap_log (drive_over code) 1 ≡ snapped_words
snapped_over = snap_told
    ∙ ap (λ (t : List ℕ). t ++ snap_words (after core es 1)) drove_over
    ∙ ap (λ (cells : List (List ℕ)). drive_words ++ snap_words cells) one
    ∙ snap_spelled

snapped : snap_log (drive_over made) 1 ≡ snapped_words
snapped = ap (λ (c : CodeParts). snap_log (drive_over c) 1) code_is ∙ snapped_over

abbrev shown : List ℕ → List (List ℕ) → Sight
shown places cells = record { switch = 0; places = places; cells = row_of cells 0 ∷ [] }

steps_seen : sights (drive_over code) ≡ sight 0 (0 ∷ []) 0 ∷ sight 0 (1 ∷ []) 5 ∷ sight 0 (1 ∷ 0 ∷ []) 5 ∷ sight 0 (0 ∷ []) 5 ∷ sight 0 (1 ∷ []) 10 ∷ []
unfolding product
steps_seen =
    rolled.parts refl
    (rolled.parts (ap (shown (1 ∷ [])) one)
    (rolled.parts (ap (shown (1 ∷ 0 ∷ [])) one)
    (rolled.parts (ap (shown (0 ∷ [])) one)
    (rolled.parts (ap (shown (1 ∷ [])) two) refl))))

pub are_seen : ReadAsSpelled → AreSeen
are_seen law = record {
  accepted = accepted law;
  fits = fits law;
  audits = audits law;
  ticks = ap (λ (c : CodeParts). sights_to net (Some (is_placed c)) 5) code_is ∙ sights_are;
  ticks_there = ap (λ (c : CodeParts). sights_to net (Some (placed_there c)) 5) code_is ∙ sights_there_are;
  steps = ap (λ (c : CodeParts). sights (drive_over c)) code_is ∙ steps_seen;
}

-- ---- the four passes, by their functions

through_makes : (passes : List PassView) (c : CodeParts) →
    fold (λ now (make : CodeParts → CodeParts). make now) c (map (λ (p : PassView). p.gives.makes) passes) ≡ through (map PassView.gives passes) c
through_makes [] c = refl
through_makes (p ∷ passes) c = through_makes passes (p.gives.makes c)

abbrev gone_by : List (CodeParts → CodeParts) → CodeParts → List ℕ
gone_by [] c = []
gone_by (make ∷ makes) c = (length c.ops - length (make c).ops) ∷ gone_by makes (make c)

gone_makes : (passes : List PassView) (c : CodeParts) → gone (map PassView.gives passes) c ≡ gone_by (map (λ (p : PassView). p.gives.makes) passes) c
gone_makes [] c = refl
gone_makes (p ∷ passes) c = ap (λ (ns : List ℕ). (length c.ops - length (p.gives.makes c).ops) ∷ ns) (gone_makes passes (p.gives.makes c))

abbrev removed : List ℕ
removed = 0 ∷ 0 ∷ 2 ∷ 1 ∷ []

abbrev names : List Bytes
names = codes "fold" ∷ codes "copies" ∷ codes "dead" ∷ codes "direct" ∷ []

first_fit_text : fit_text names (fit_of removed (is_placed code)) ≡ codes "pass fold removed 0\npass copies removed 0\npass dead removed 2\npass direct removed 1\nops 2 bits 128 nodes 2\nstage 0 table 0 rows 2 ops 2 arrays x\n"
unfolding digits product
first_fit_text = refl

there_text : fit_text names (fit_of removed (placed_there code)) ≡ codes "pass fold removed 0\npass copies removed 0\npass dead removed 2\npass direct removed 1\nops 2 bits 128 nodes 2\nstage 0 table 0 rows 1 ops 1\nstage 1 table 0 rows 1 ops 1 arrays x\n"
unfolding digits product
there_text = refl

module _ (views : List PassView) (four : AreOurs views) where
  pub same : MakeSame our_makes views
  same c =
      subst (λ (makes : List (CodeParts → CodeParts)). fold (λ now (make : CodeParts → CodeParts). make now) (normal_of c) makes ≡ through (map PassView.gives views) (normal_of c)) four.makes
      (through_makes views (normal_of c))

  gone_is : (composed core views).gone ≡ removed
  gone_is = gone_makes views (normal_of core)
      ∙ ap (λ (makes : List (CodeParts → CodeParts)). gone_by makes (normal_of core)) four.makes
      ∙ ap (gone_by our_makes) normal_is

  -- The text of a layout by the placed code of these passes.
  text_is : (placed : CodeParts → PlacedParts) →
      fit_text (map PassView.name views) (fit_of (composed core views).gone (placed made)) ≡ fit_text names (fit_of removed (placed code))
  text_is placed =
      ap (λ (ns : List Bytes). fit_text ns (fit_of (composed core views).gone (placed made))) four.names
      ∙ ap (λ (gone : List ℕ). fit_text names (fit_of gone (placed made))) gone_is
      ∙ ap (λ (c : CodeParts). fit_text names (fit_of removed (placed c))) code_is

  module _ (law : ReadAsSpelled) where
    abbrev fitted : Fit
    fitted = fit_of (composed core views).gone (is_placed made)

    is_piped : IsPiped texts.program texts.limits views (Ok (piped (target core limits) fitted))
    is_piped = (
      Ok (target core limits),
      (Ok core, is-program (has_core law), (Ok limits, limits_are, refl)),
      (Ok fitted, is-fitted (accepted law) views same (fits law), refl),
    )

    pub laid : LayoutAnswers texts.program texts.limits views (Ok (codes "pass fold removed 0\npass copies removed 0\npass dead removed 2\npass direct removed 1\nops 2 bits 128 nodes 2\nstage 0 table 0 rows 2 ops 2 arrays x\n"))
    laid = (Ok (piped (target core limits) fitted), is_piped, ap (λ (t : List ℕ). Ok t) (sym (text_is is_placed ∙ first_fit_text)))

    abbrev all : Measured
    all = measured (target core limits) (composed core views)

    is_measured : IsMeasured texts.program texts.limits views (Ok all)
    is_measured = (
      Ok (target core limits),
      (Ok core, is-program (has_core law), (Ok limits, limits_are, refl)),
      (Ok (composed core views), (has_normal, refl), (Ok (composed core views).code, (subst (λ (c : CodeParts). CountsFit c limits) (same core) (audits law).counts, refl), refl)),
    )

    abbrev audited : Fit
    audited = fit_of (composed core views).gone (placed_there made)

    is_audited_in : IsAuditedIn placement all (Ok (piped (target core limits) audited))
    is_audited_in = (
      Ok plan,
      subst (λ (c : CodeParts). IsPlan placement (length (nodes c.ops)) (Ok plan)) (same core) (audits law).plan_is,
      (Ok (placed_there made), subst (λ (c : CodeParts). IsAudited limits c plan (Ok (placed_there made))) (same core) (audits law).accepts, refl),
    )

    pub laid_there : AuditAnswers texts.program texts.limits placement views (Ok (codes "pass fold removed 0\npass copies removed 0\npass dead removed 2\npass direct removed 1\nops 2 bits 128 nodes 2\nstage 0 table 0 rows 1 ops 1\nstage 1 table 0 rows 1 ops 1 arrays x\n"))
    laid_there = (Ok (piped (target core limits) audited), (Ok all, is_measured, is_audited_in), ap (λ (t : List ℕ). Ok t) (sym (text_is placed_there ∙ there_text)))

    pub piped_answers : RunPipeAnswers texts.program texts.limits texts.scenario views (Ok logged)
    piped_answers = (Ok (ready_of views (fits law)), is-ready (accepted law) views same (fits law), ap (λ (t : List ℕ). Ok t) (sym log_is))

    pub placed_answers : RunPlacedAnswers texts.program texts.limits texts.scenario placement views (Ok logged)
    placed_answers = (Ok (audited_of views (audits law)), is-placed (accepted law) views same (audits law), ap (λ (t : List ℕ). Ok t) (sym log_is))

    pub drive_answers : DriveAnswers texts.program texts.limits texts.scenario views (Ok drive_words)
    drive_answers = (Ok (ready_of views (fits law)), is-ready (accepted law) views same (fits law), ap (λ (t : List ℕ). Ok t) (sym drove))

    pub snap_answers : SnapAnswers 1 texts.program texts.limits texts.scenario views (Ok snapped_words)
    snap_answers = (Ok (ready_of views (fits law)), is-ready (accepted law) views same (fits law), ap (λ (t : List ℕ). Ok t) (sym snapped))
