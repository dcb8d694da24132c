-- The words of the commands over networks ask for the log of the headline.
use Rattle.std.proofs.Common.{◌≡◌, ℕ, inl, inr, List, [], ◌∷◌, Option, Some, Ok, fold, length, map, option_map, refl, sym, ◌∙◌, ap, subst}
use Rattle.lucid_code.specs.Nodes.{nodes}
use Rattle.lucid_code.specs.Parts.{CodeParts}
use Rattle.lucid_core.specs.Parts.{CoreParts}
use Rattle.lucid_io.specs.Counts.{Rose}
use Rattle.lucid_stages.specs.Counts.{CountsFit}
use Rattle.lucid_layout.specs.Layout.{IsLayout}
use Rattle.lucid_pass.specs.Through.{through}
use Rattle.lucid_pass_spec.specs.Replace.{Rewrite}
use Rattle.lucid_top_words.specs.declared.command.Command.{Command}
use Rattle.lucid_top_words.specs.declared.command.Command.TheVariants as command
use Rattle.lucid_top_words.specs.declared.command.NamedFile.{NamedFile}
use Rattle.lucid_top_words.specs.Command.{command_of, program_file, limits_file, scenario_file, placement_file}
use Rattle.lucid_top_words.specs.Files.{IsOneOf, Texts, contents, held_with}
use Rattle.lucid_top_words.specs.Outcome.{Outcome}
use Rattle.lucid_top_words.specs.Views.{Faults, Held}
use Rattle.lucid_top_words.specs.Words.{number_of, word_at}
use Rattle.lucid_top_words.proofs.Readings.{short}
use Rattle.lucid_top.specs.Call.{files_named}
use Rattle.lucid_top.specs.Answer.{Answers, AnswersTo, CommandAnswers, OverTexts, Question, command_files, given}
use Rattle.lucid_top.specs.Premises.{HasCore}
use Rattle.lucid_top.specs.Headline.{Accepted, AuditAccepts, FirstFitPlaces, Hold, Holds, NoneFailed, Three, drive, code_by, network_log, network_sights, placed_by, run_pipe, run_placed, run_whole, snap, snapshot_log, steps_log, steps_sights}
use Rattle.lucid_top.specs.Drive.{DriveAnswers, DriveShows}
use Rattle.lucid_top.specs.Pipes.{IsReady, Ready, piped, ready, target}
use Rattle.lucid_top.specs.Placed.{IsAuditedIn, IsMeasured, IsReadyPlaced, RunPlacedAnswers, RunPlacedShows, measured}
use Rattle.lucid_top.specs.RunPipe.{RunPipeShows}
use Rattle.lucid_top.specs.RunWhole.{RunWholeAnswers}
use Rattle.lucid_top.specs.Snap.{SnapAnswers}
use Rattle.lucid_top_fit.specs.Fit.{IsFitted, composed, fit_of, normal_of}
use Rattle.lucid_top_fit.specs.Passes.{PassView, pass_view, passes_view}
use Rattle.lucid_top_fit.specs.Placing.{IsAudited, IsPlan}
use Rattle.lucid_top_program.specs.Program.{IsProgram}

-- one file more that holds what it is told to
holds-next : (held : Held) (words : List (List ℕ)) (file : NamedFile) (rest : List NamedFile) (text : List ℕ) (texts : List (List ℕ)) →
    Holds held (word_at words file.word) text file.limit → contents held words rest ≡ Some (Ok texts) → contents held words (file ∷ rest) ≡ Some (Ok (text ∷ texts))
holds-next held words file rest text texts holds later =
    ap (λ (o : Option (List ℕ)). held_with file o (contents held words rest)) holds.0
    ∙ ap (held_with file (Some text)) later
    ∙ short file text (Some (Ok texts)) holds.1

three : (held : Held) (words : List (List ℕ)) (f g h : NamedFile) (a b c : List ℕ) → Holds held (word_at words f.word) a f.limit → Holds held (word_at words g.word) b g.limit → Holds held (word_at words h.word) c h.limit →
    contents held words (f ∷ g ∷ h ∷ []) ≡ Some (Ok (a ∷ b ∷ c ∷ []))
three held words f g h a b c one two last =
    holds-next held words f (g ∷ h ∷ []) a (b ∷ c ∷ []) one (holds-next held words g (h ∷ []) b (c ∷ []) two (holds-next held words h [] c [] last refl))

four : (held : Held) (words : List (List ℕ)) (f g h k : NamedFile) (a b c d : List ℕ) → Holds held (word_at words f.word) a f.limit → Holds held (word_at words g.word) b g.limit → Holds held (word_at words h.word) c h.limit →
    Holds held (word_at words k.word) d k.limit → contents held words (f ∷ g ∷ h ∷ k ∷ []) ≡ Some (Ok (a ∷ b ∷ c ∷ d ∷ []))
four held words f g h k a b c d one two third last = holds-next held words f (g ∷ h ∷ k ∷ []) a (b ∷ c ∷ d ∷ []) one (three held words g h k b c d two third last)

over : {told : Option Texts} {texts : List (List ℕ)} (A : List (List ℕ) → Outcome → Type 0) (o : Outcome) → told ≡ Some (Ok texts) → A texts o → OverTexts told A o
over {told} {texts} A o is answer = subst (λ (t : Option Texts). OverTexts t A o) (sym is) answer

-- the answer of a command whose files hold these texts
over-command : (q : Question) (c : Command) (texts : List (List ℕ)) (o : Outcome) → command_of q.words ≡ Some c → contents q.held q.words (command_files (Some c)) ≡ Some (Ok texts) → CommandAnswers c (given q texts) o →
    Answers q o
over-command q c texts o is told answer =
    over (λ ts. AnswersTo (command_of q.words) (given q ts)) o (ap (λ (co : Option Command). contents q.held q.words (command_files co)) is ∙ told)
    (subst (λ (co : Option Command). AnswersTo co (given q texts) o) (sym is) answer)

-- ---- the files of the commands

-- no count rose of three files, and so of each of them
quiet-three : (old new : Faults) (words : List (List ℕ)) (f g h : NamedFile) →
    ¬ Rose (old (word_at words f.word)) (new (word_at words f.word)) → ¬ Rose (old (word_at words g.word)) (new (word_at words g.word)) → ¬ Rose (old (word_at words h.word)) (new (word_at words h.word)) →
    (file : NamedFile) → IsOneOf (f ∷ g ∷ h ∷ []) file → ¬ Rose (old (word_at words file.word)) (new (word_at words file.word))
quiet-three old new words f g h a b c file one =
    let Quiet : NamedFile → Type 0 = λ k. ¬ Rose (old (word_at words k.word)) (new (word_at words k.word)) in
    elim one [
      | inl is ↦ subst Quiet (sym is) a
      | inr rest ↦ elim rest [
        | inl is ↦ subst Quiet (sym is) b
        | inr last ↦ elim last [ inl is ↦ subst Quiet (sym is) c | inr none ↦ absurd none ]
      ]
    ]

quiet-four : (old new : Faults) (words : List (List ℕ)) (f g h k : NamedFile) →
    ¬ Rose (old (word_at words f.word)) (new (word_at words f.word)) → ¬ Rose (old (word_at words g.word)) (new (word_at words g.word)) → ¬ Rose (old (word_at words h.word)) (new (word_at words h.word)) →
    ¬ Rose (old (word_at words k.word)) (new (word_at words k.word)) →
    (file : NamedFile) → IsOneOf (f ∷ g ∷ h ∷ k ∷ []) file → ¬ Rose (old (word_at words file.word)) (new (word_at words file.word))
quiet-four old new words f g h k a b c d file one =
    let Quiet : NamedFile → Type 0 = λ n. ¬ Rose (old (word_at words n.word)) (new (word_at words n.word)) in
    elim one [ inl is ↦ subst Quiet (sym is) a | inr rest ↦ quiet-three old new words g h k b c d file rest ]

-- no count rose of a file that these words name
abbrev pub Quiet : Faults → Faults → List (List ℕ) → Type 0
Quiet old new words = (file : NamedFile) → IsOneOf (files_named words) file → ¬ Rose (old (word_at words file.word)) (new (word_at words file.word))

pub quiet-whole : {old new : Faults} {names : Three} → NoneFailed old new names → Quiet old new (run_whole names)
quiet-whole {old} {new} {names} q = quiet-three old new (run_whole names) (program_file 2) (limits_file 3) (scenario_file 4) q.program q.limits q.scenario

pub quiet-pipe : {old new : Faults} {names : Three} → NoneFailed old new names → Quiet old new (run_pipe names)
quiet-pipe {old} {new} {names} q = quiet-three old new (run_pipe names) (program_file 2) (limits_file 3) (scenario_file 4) q.program q.limits q.scenario

pub quiet-drive : {old new : Faults} {names : Three} → NoneFailed old new names → Quiet old new (drive names)
quiet-drive {old} {new} {names} q = quiet-three old new (drive names) (program_file 1) (limits_file 2) (scenario_file 3) q.program q.limits q.scenario

pub quiet-placed : {old new : Faults} {names : Three} {placement : List ℕ} → NoneFailed old new names → ¬ Rose (old placement) (new placement) → Quiet old new (run_placed names placement)
quiet-placed {old} {new} {names} {placement} q last =
    quiet-four old new (run_placed names placement) (program_file 2) (limits_file 3) (scenario_file 4) (placement_file 5) q.program q.limits q.scenario last

pub quiet-snap : {old new : Faults} {names : Three} (word : List ℕ) (steps : ℕ) → number_of word ≡ Some steps → NoneFailed old new names → Quiet old new (snap names word)
quiet-snap {old} {new} {names} word steps number q =
    let is : command_of (snap names word) ≡ Some (command.Snap steps) = ap (λ (o : Option ℕ). option_map (λ (k : ℕ). command.Snap k) o) number in
    subst (λ (co : Option Command). (file : NamedFile) → IsOneOf (command_files co) file → ¬ Rose (old (word_at (snap names word) file.word)) (new (word_at (snap names word) file.word))) (sym is)
    (quiet-three old new (snap names word) (program_file 1) (limits_file 2) (scenario_file 3) q.program q.limits q.scenario)

-- ---- passes, by their functions

abbrev pub Makes : Type 0
Makes = List (CodeParts → CodeParts)

-- these functions make what these passes make
abbrev pub MakeSame : Makes → List PassView → Type 0
MakeSame makes passes = (core : CoreParts) → code_by makes core ≡ (composed core passes).code

pub same-through : {B : Type 0} (view : B → PassView) (passes : List B) (code : CodeParts) →
    fold (λ now (make : CodeParts → CodeParts). make now) code (map (λ p. (view p).gives.makes) passes) ≡ through (map PassView.gives (map view passes)) code
same-through view [] code = refl
same-through view (p ∷ passes) code = same-through view passes ((view p).gives.makes code)

pub make-same : {B : Type 0} (name : B → List ℕ) (gives : B → Rewrite) (removed : B → ℕ) (passes : List B) → MakeSame (map (λ p. (gives p).makes) passes) (passes_view name gives removed passes)
make-same name gives removed passes core = same-through (pass_view name gives removed) passes (normal_of core)

-- ---- what is ready to run

pub is-program : {text : List ℕ} {core : CoreParts} → HasCore text core → IsProgram text (Ok core)
is-program {text} {core} h = (
  Ok h.source,
  (Ok h.written, h.reads, (h.expands, h.fits)),
  (Ok h.tokens, h.reads_source, (Ok h.tree, (h.nests, h.spelled), (Ok core, h.typed, (h.ordered, refl)))),
)

-- the placed code of first fit, with what went in each pass
abbrev pub ready_of : {makes : Makes} {texts : Three} {a : Accepted texts} → List PassView → FirstFitPlaces makes a → Ready
ready_of {makes} {texts} {a} passes f = ready (piped (target a.core a.limits) (fit_of (composed a.core passes).gone (placed_by f))) a.scene

abbrev pub audited_of : {makes : Makes} {texts : Three} {a : Accepted texts} {placement : List ℕ} → List PassView → AuditAccepts makes a placement → Ready
audited_of {makes} {texts} {a} {placement} passes p = ready (piped (target a.core a.limits) (fit_of (composed a.core passes).gone p.placed)) a.scene

pub is-fitted : {texts : Three} (a : Accepted texts) {makes : Makes} (passes : List PassView) → MakeSame makes passes → (f : FirstFitPlaces makes a) →
    IsFitted a.core a.limits passes (Ok (fit_of (composed a.core passes).gone (placed_by f)))
is-fitted a {makes} passes same f =
    let layout : IsLayout (composed a.core passes).code a.limits (placed_by f) =
    subst (λ (code : CodeParts). IsLayout code a.limits (placed_by f)) (same a.core) (record { counts = f.counts; code_is = refl; fit = (f.places, f.least, refl) }) in
    (Ok (composed a.core passes), (f.normal, refl), (Ok (placed_by f), layout, refl))

pub is-ready : {texts : Three} (a : Accepted texts) {makes : Makes} (passes : List PassView) → MakeSame makes passes → (f : FirstFitPlaces makes a) →
    IsReady texts.program texts.limits texts.scenario passes (Ok (ready_of passes f))
is-ready a passes same f = (
  Ok (piped (target a.core a.limits) (fit_of (composed a.core passes).gone (placed_by f))),
  (Ok (target a.core a.limits), (Ok a.core, is-program a.program_is, (Ok a.limits, a.limits_are, refl)), (Ok (fit_of (composed a.core passes).gone (placed_by f)), is-fitted a passes same f, refl)),
  (Ok a.scene, a.scenario_is, refl),
)

pub is-placed : {texts : Three} (a : Accepted texts) {makes : Makes} (passes : List PassView) → MakeSame makes passes → {text : List ℕ} (audit : AuditAccepts makes a text) →
    IsReadyPlaced texts.program texts.limits texts.scenario text passes (Ok (audited_of passes audit))
is-placed {texts} a {makes} passes same {text} audit =
    let under = target a.core a.limits in
    let all = composed a.core passes in
    let m = measured under all in
    let pipes = piped under (fit_of all.gone audit.placed) in
    let is = same a.core in
    let counts : CountsFit all.code a.limits = subst (λ (code : CodeParts). CountsFit code a.limits) is audit.counts in
    let plan : IsPlan text (length (nodes all.code.ops)) (Ok audit.plan) = subst (λ (code : CodeParts). IsPlan text (length (nodes code.ops)) (Ok audit.plan)) is audit.plan_is in
    let accepts : IsAudited a.limits all.code audit.plan (Ok audit.placed) = subst (λ (code : CodeParts). IsAudited a.limits code audit.plan (Ok audit.placed)) is audit.accepts in
    let is-measured : IsMeasured texts.program texts.limits passes (Ok m) =
    (Ok under, (Ok a.core, is-program a.program_is, (Ok a.limits, a.limits_are, refl)), (Ok all, (audit.normal, refl), (Ok all.code, (counts, refl), refl))) in
    let is-audited : IsAuditedIn text m (Ok pipes) = (Ok audit.plan, plan, (Ok audit.placed, accepts, refl)) in
    (Ok m, is-measured, (Ok a.scene, a.scenario_is, (Ok pipes, is-audited, refl)))

-- ---- answers, and sights

-- the answer of `run pipe` over these texts
pub answers-pipe : (names : Three) {texts : Three} (a : Accepted texts) {makes : Makes} (passes : List PassView) → MakeSame makes passes → (f : FirstFitPlaces makes a) →
    AnswersTo (command_of (run_pipe names)) (record { words = run_pipe names; texts = texts.program ∷ texts.limits ∷ texts.scenario ∷ []; passes = passes }) (Ok (network_log a))
answers-pipe names a passes same f = (Ok (ready_of passes f), is-ready a passes same f, refl)

module _ {names texts : Three} {held : Held} (hold : Hold held names texts) (a : Accepted texts) where
  pub asks-whole : (passes : List PassView) → Answers (record { words = run_whole names; held = held; passes = passes }) (Ok (network_log a))
  asks-whole passes =
      let answer : RunWholeAnswers texts.program texts.limits texts.scenario (Ok (network_log a)) =
      (Ok (target a.core a.limits), (Ok a.core, is-program a.program_is, (Ok a.limits, a.limits_are, refl)), (Ok a.scene, a.scenario_is, refl)) in
      over (λ ts. AnswersTo (command_of (run_whole names)) (record { words = run_whole names; texts = ts; passes = passes })) (Ok (network_log a))
      (three held (run_whole names) (program_file 2) (limits_file 3) (scenario_file 4) texts.program texts.limits texts.scenario hold.program hold.limits hold.scenario) answer

  pub asks-pipe : {makes : Makes} (passes : List PassView) → MakeSame makes passes → (f : FirstFitPlaces makes a) → Answers (record { words = run_pipe names; held = held; passes = passes }) (Ok (network_log a))
  asks-pipe passes same f =
      over (λ ts. AnswersTo (command_of (run_pipe names)) (record { words = run_pipe names; texts = ts; passes = passes })) (Ok (network_log a))
      (three held (run_pipe names) (program_file 2) (limits_file 3) (scenario_file 4) texts.program texts.limits texts.scenario hold.program hold.limits hold.scenario) (answers-pipe names a passes same f)

  pub shows-pipe : {makes : Makes} (passes : List PassView) → MakeSame makes passes → (f : FirstFitPlaces makes a) → RunPipeShows texts.program texts.limits texts.scenario passes (Ok (network_sights a (placed_by f)))
  shows-pipe passes same f = (Ok (ready_of passes f), is-ready a passes same f, refl)

  pub shows-drive : {makes : Makes} (passes : List PassView) → MakeSame makes passes → (f : FirstFitPlaces makes a) → DriveShows texts.program texts.limits texts.scenario passes (Ok (steps_sights f))
  shows-drive passes same f = (Ok (ready_of passes f), is-ready a passes same f, refl)

  pub shows-placed : {makes : Makes} (passes : List PassView) → MakeSame makes passes → {text : List ℕ} (audit : AuditAccepts makes a text) → RunPlacedShows texts.program texts.limits texts.scenario text passes (Ok (network_sights a audit.placed))
  shows-placed passes same audit = (Ok (audited_of passes audit), is-placed a passes same audit, refl)

  pub texts-pipe : contents held (run_pipe names) (command_files (Some command.RunPipe)) ≡ Some (Ok (texts.program ∷ texts.limits ∷ texts.scenario ∷ []))
  texts-pipe = three held (run_pipe names) (program_file 2) (limits_file 3) (scenario_file 4) texts.program texts.limits texts.scenario hold.program hold.limits hold.scenario

  pub texts-drive : contents held (drive names) (command_files (Some command.Drive)) ≡ Some (Ok (texts.program ∷ texts.limits ∷ texts.scenario ∷ []))
  texts-drive = three held (drive names) (program_file 1) (limits_file 2) (scenario_file 3) texts.program texts.limits texts.scenario hold.program hold.limits hold.scenario

  pub texts-placed : {placement text : List ℕ} → Holds held placement text 8388608 →
      contents held (run_placed names placement) (command_files (Some command.RunPlaced)) ≡ Some (Ok (texts.program ∷ texts.limits ∷ texts.scenario ∷ text ∷ []))
  texts-placed {placement} {text} last =
      four held (run_placed names placement) (program_file 2) (limits_file 3) (scenario_file 4) (placement_file 5) texts.program texts.limits texts.scenario text hold.program hold.limits hold.scenario last

  pub asks-snap : {makes : Makes} (passes : List PassView) → MakeSame makes passes → (f : FirstFitPlaces makes a) (word : List ℕ) (steps : ℕ) → number_of word ≡ Some steps →
      Answers (record { words = snap names word; held = held; passes = passes }) (Ok (snapshot_log f steps))
  asks-snap passes same f word steps number =
      let answer : SnapAnswers steps texts.program texts.limits texts.scenario passes (Ok (snapshot_log f steps)) = (Ok (ready_of passes f), is-ready a passes same f, refl) in
      over-command (record { words = snap names word; held = held; passes = passes }) (command.Snap steps) (texts.program ∷ texts.limits ∷ texts.scenario ∷ []) (Ok (snapshot_log f steps))
      (ap (λ (o : Option ℕ). option_map (λ (k : ℕ). command.Snap k) o) number)
      (three held (snap names word) (program_file 1) (limits_file 2) (scenario_file 3) texts.program texts.limits texts.scenario hold.program hold.limits hold.scenario) answer

  pub asks-drive : {makes : Makes} (passes : List PassView) → MakeSame makes passes → (f : FirstFitPlaces makes a) → Answers (record { words = drive names; held = held; passes = passes }) (Ok (steps_log f))
  asks-drive passes same f =
      let answer : DriveAnswers texts.program texts.limits texts.scenario passes (Ok (steps_log f)) = (Ok (ready_of passes f), is-ready a passes same f, refl) in
      over (λ ts. AnswersTo (command_of (drive names)) (record { words = drive names; texts = ts; passes = passes })) (Ok (steps_log f))
      (three held (drive names) (program_file 1) (limits_file 2) (scenario_file 3) texts.program texts.limits texts.scenario hold.program hold.limits hold.scenario) answer

  pub asks-placed : {makes : Makes} (passes : List PassView) → MakeSame makes passes → {placement text : List ℕ} → Holds held placement text 8388608 → AuditAccepts makes a text →
      Answers (record { words = run_placed names placement; held = held; passes = passes }) (Ok (network_log a))
  asks-placed passes same {placement} {text} last audit =
      let answer : RunPlacedAnswers texts.program texts.limits texts.scenario text passes (Ok (network_log a)) = (Ok (audited_of passes audit), is-placed a passes same audit, refl) in
      over (λ ts. AnswersTo (command_of (run_placed names placement)) (record { words = run_placed names placement; texts = ts; passes = passes })) (Ok (network_log a))
      (texts-placed last) answer
