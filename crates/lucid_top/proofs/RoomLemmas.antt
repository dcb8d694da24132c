-- A command answers that a node has no place only if no place has room for it.
use Rattle.std.proofs.Common.{◌≡◌, ◌∙◌, ℕ, List, [], ◌∷◌, Option, None, Some, Result, Ok, Err, ap, length, map, refl, subst, sym}
use Rattle.std.specs.Prelude.{IfSome}
use Rattle.lucid_base.specs.declared.event.Event.{Event}
use Rattle.lucid_code.specs.Nodes.{nodes}
use Rattle.lucid_conf.specs.declared.limits.Limits.{Limits}
use Rattle.lucid_core.specs.Parts.{CoreParts}
use Rattle.lucid_drive.specs.Drive.{drive_log}
use Rattle.lucid_gen.specs.Limits.{limits_text}
use Rattle.lucid_gen.specs.Program.{program_text}
use Rattle.lucid_gen.specs.Scene.{scene_text}
use Rattle.lucid_io.specs.declared.reading.Take.{Take}
use Rattle.lucid_io.specs.declared.reading.Take.TheVariants as take
use Rattle.lucid_log_tally.specs.Bench.{bench_line}
use Rattle.lucid_net_spec.specs.Log.{log, whole}
use Rattle.lucid_pass_spec.specs.Replace.{Rewrite}
use Rattle.lucid_snap.specs.Log.{snap_log}
use Rattle.lucid_top_fit.specs.Fit.{IsComposed, IsFitted, fit_of}
use Rattle.lucid_top_fit.specs.Passes.{KeepNodes, PassView, passes_view}
use Rattle.lucid_top_fit.specs.Placing.{IsAudited, IsCounted, IsPlan}
use Rattle.lucid_top_fit.specs.Room.{ProgramsLackRoom}
use Rattle.lucid_top_program.specs.Program.{AreTokens, IsElaborated, IsExpanded, IsOrdered, IsParsed, IsProgram, IsProgramFrom, IsProgramOf, IsRead, IsSource}
use Rattle.lucid_top_program.specs.Safe.{TextsAreSafe}
use Rattle.lucid_top_program.specs.Settings.{IsLimits, IsScenario}
use Rattle.lucid_top_words.proofs.Readings.{Agrees, read-why}
use Rattle.lucid_top_words.specs.Command.{command_of}
use Rattle.lucid_top_words.specs.declared.command.Command.{Command}
use Rattle.lucid_top_words.specs.declared.command.Command.TheVariants as command
use Rattle.lucid_top_words.specs.declared.no_fit.NoFit.TheVariants as fit
use Rattle.lucid_top_words.specs.declared.refusal.Refusal.{Refusal}
use Rattle.lucid_top_words.specs.declared.refusal.Refusal.TheVariants as refusal
use Rattle.lucid_top_words.specs.Files.{FilesRead, Texts, of_take}
use Rattle.lucid_top_words.specs.Outcome.{After, End, FollowedBy, Outcome}
use Rattle.lucid_top_words.specs.Views.{FilesView, SinkView}
use Rattle.lucid_top_words.specs.Words.{Bytes, word_at}
use Rattle.lucid_top_words.specs.Writing.{Performs}
use Rattle.lucid_top.specs.Answer.{CommandAnswers, MayStop, Question, command_files, given, text, told_texts}
use Rattle.lucid_top.specs.Call.{PerformsOver}
use Rattle.lucid_top.specs.Check.{counts_line}
use Rattle.lucid_top.specs.Drive.{driven}
use Rattle.lucid_top.specs.Generated.{gen_text}
use Rattle.lucid_top.specs.Layout.{fit_text}
use Rattle.lucid_top.specs.Once.{event_of, ran}
use Rattle.lucid_top.specs.Pipes.{IsPiped, IsPlacedIn, IsReady, IsSet, IsTarget, IsUnder, Target, network_of, piped, ready, target}
use Rattle.lucid_top.specs.Placed.{IsAudit, IsAuditedIn, IsMeasured, IsMeasuredAs, IsMeasuredIn, IsPlacedOn, IsReadyOn, IsReadyPlaced, Measured, measured}
use Rattle.lucid_top.specs.Room.{CallLacksRoom, CommandsLackRoom, LacksRoom}
use Rattle.lucid_top.specs.RunWhole.{RunsUnder}

abbrev pub no_place : ℕ → Refusal
no_place i = refusal.NoFit (fit.Node i)

same_err : {X : Type 0} (r s : Refusal) → ◌≡◌ {A = Result X Refusal} (Err r) (Err s) → r ≡ s
same_err r s same = cc

not_ok : {X : Type 0} {A : Type 0} (x : X) (r : Refusal) → ◌≡◌ {A = Result X Refusal} (Err r) (Ok x) → A
not_ok x r same = absurd (cc)

-- The first part refused, or the second did.
refused_by : {X Y : Type 0} (part : Result X Refusal → Type 0) (rest : X → Result Y Refusal → Type 0) (r : Refusal) {A : Type 0} →
    (part (Err r) → A) → ((x : X) → part (Ok x) → rest x (Err r) → A) → FollowedBy part rest (Err r) → A
refused_by {X} {Y} part rest r {A} first second both = at both.0 both.1 both.2
  where
    at : (e : Result X Refusal) → part e → After e rest (Err r) → A
    at (Ok x) is after = second x is after
    at (Err s) is after = first (subst (λ (t : Refusal). part (Err t)) (sym (same_err r s after)) is)

-- No program is refused so.
by_program : (program : Bytes) (i : ℕ) {A : Type 0} → IsProgram program (Err (no_place i)) → A
by_program program i =
    refused_by (IsSource program) IsRead (no_place i)
    (refused_by (AreTokens program) (IsExpanded program) (no_place i) (λ fails. absurd fails) (λ ts known fails. absurd fails))
    (λ source is. refused_by (AreTokens source) (IsProgramFrom source) (no_place i) (λ fails. absurd fails)
    (λ ts known. refused_by (IsParsed source ts) IsProgramOf (no_place i) (λ fails. absurd fails)
    (λ tree spelled. refused_by (IsElaborated tree) (IsOrdered tree) (no_place i) (λ fails. absurd fails) (λ core typed fails. absurd fails))))

module _ (safe : TextsAreSafe) (for_room : ProgramsLackRoom) (passes : List PassView) (keep : KeepNodes (map PassView.gives passes)) (i : ℕ) (program limits : Bytes) where
  abbrev Lacks : Type 0
  Lacks = (core : CoreParts) × IsProgram program (Ok core) × LacksRoom core passes i limits

  -- The layout of the program refused.
  by_fit : (under : Target) → IsTarget program limits (Ok under) → IsFitted under.core under.limits passes (Err (no_place i)) → Lacks
  by_fit under has refused = at has.0 has.1 has.2
    where
      of_limits : (c : CoreParts) → IsProgram program (Ok c) → (e : Result Limits Refusal) → IsLimits limits e → After e (λ l p. p ≡ Ok (target c l)) (Ok under) → Lacks
      of_limits c known (Err r) kept after = not_ok under r (sym after)
      of_limits c known (Ok l) kept after =
          let same : under ≡ target c l = cc in
          let fitted : IsFitted c l passes (Err (no_place i)) = subst (λ (t : Target). IsFitted t.core t.limits passes (Err (no_place i))) same refused in
          let sound = safe program c known in
          (c, known, (l, kept, for_room c sound.valid sound.accepted sound.events l passes keep i fitted))

      at : (e : Result CoreParts Refusal) → IsProgram program e → After e (λ c. IsUnder c limits) (Ok under) → Lacks
      at (Ok c) known after = of_limits c known after.0 after.1 after.2
      at (Err r) known after = not_ok under r (sym after)

  by_target : IsTarget program limits (Err (no_place i)) → Lacks
  by_target =
      refused_by (IsProgram program) (λ c. IsUnder c limits) (no_place i) (by_program program i)
      (λ c known. refused_by (IsLimits limits) (λ l p. p ≡ Ok (target c l)) (no_place i) (λ fails. absurd fails) (λ l kept after. not_ok (target c l) (no_place i) after))

  by_pipes : IsPiped program limits passes (Err (no_place i)) → Lacks
  by_pipes =
      refused_by (IsTarget program limits) (IsPlacedIn passes) (no_place i) by_target
      (λ under has. refused_by (IsFitted under.core under.limits passes) (λ fitted p. p ≡ Ok (piped under fitted)) (no_place i) (λ refused. by_fit under has refused)
      (λ fitted fits after. not_ok (piped under fitted) (no_place i) after))

  by_ready : (scenario : Bytes) → IsReady program limits scenario passes (Err (no_place i)) → Lacks
  by_ready scenario =
      refused_by (IsPiped program limits passes) (IsSet scenario) (no_place i) by_pipes
      (λ pipes has. refused_by (IsScenario pipes.under.core scenario) (λ scene p. p ≡ Ok (ready pipes scene)) (no_place i) (λ fails. absurd fails)
      (λ scene known after. not_ok (ready pipes scene) (no_place i) after))

  -- Text follows the layout, or the scenario.
  then_text : {X : Type 0} (part : Result X Refusal → Type 0) (words : X → Bytes) → (part (Err (no_place i)) → Lacks) →
      FollowedBy part (λ x (o : Outcome). o ≡ Ok (words x)) (Err (no_place i)) → Lacks
  then_text part words first = refused_by part (λ x (o : Outcome). o ≡ Ok (words x)) (no_place i) first (λ x has after. not_ok (words x) (no_place i) after)

  by_measure : IsMeasured program limits passes (Err (no_place i)) → Lacks
  by_measure =
      refused_by (IsTarget program limits) (IsMeasuredIn passes) (no_place i) by_target
      (λ under has. refused_by (IsComposed under.core passes) (IsMeasuredAs under) (no_place i) (λ fails. absurd fails)
      (λ made known. refused_by (IsCounted under.core under.limits made.code) (λ code p. p ≡ Ok (measured under made)) (no_place i) (λ fails. absurd fails)
      (λ code kept after. not_ok (measured under made) (no_place i) after)))

  by_places : (placement : Bytes) (m : Measured) → IsAuditedIn placement m (Err (no_place i)) → Lacks
  by_places placement m =
      refused_by (IsPlan placement (length (nodes m.made.code.ops)))
      (λ plan. FollowedBy (IsAudited m.under.limits m.made.code plan) (λ placed p. p ≡ Ok (piped m.under (fit_of m.made.gone placed)))) (no_place i)
      (λ fails. absurd fails)
      (λ plan has. refused_by (IsAudited m.under.limits m.made.code plan) (λ placed p. p ≡ Ok (piped m.under (fit_of m.made.gone placed))) (no_place i) (λ fails. absurd fails)
      (λ placed kept after. not_ok (piped m.under (fit_of m.made.gone placed)) (no_place i) after))

  by_audit : (placement : Bytes) → IsAudit program limits placement passes (Err (no_place i)) → Lacks
  by_audit placement = refused_by (IsMeasured program limits passes) (IsAuditedIn placement) (no_place i) by_measure (λ m has. by_places placement m)

  by_ready_placed : (scenario placement : Bytes) → IsReadyPlaced program limits scenario placement passes (Err (no_place i)) → Lacks
  by_ready_placed scenario placement =
      refused_by (IsMeasured program limits passes) (IsReadyOn scenario placement) (no_place i) by_measure
      (λ m has. refused_by (IsScenario m.under.core scenario) (λ scene. IsPlacedOn scene placement m) (no_place i) (λ fails. absurd fails)
      (λ scene known. refused_by (IsAuditedIn placement m) (λ pipes p. p ≡ Ok (ready pipes scene)) (no_place i) (by_places placement m)
      (λ pipes kept after. not_ok (ready pipes scene) (no_place i) after)))

ran_well : (core : CoreParts) (i : ℕ) (event : Option Event) {A : Type 0} → ◌≡◌ {A = Outcome} (Err (no_place i)) (ran core event) → A
ran_well core i None same = absurd (cc)
ran_well core i (Some event) same = absurd (cc)

module _ (safe : TextsAreSafe) (for_room : ProgramsLackRoom) where
  pub commands_lack_room : CommandsLackRoom
  commands_lack_room command.Check g keep i =
      then_text safe for_room g.passes keep i (text 0 g) (text 1 g) (IsProgram (text 0 g)) counts_line (by_program (text 0 g) i)
  commands_lack_room (command.Once arguments) g keep i =
      refused_by (IsProgram (text 0 g)) (λ c p. p ≡ ran c (event_of c (word_at g.words 2) arguments)) (no_place i) (by_program (text 0 g) i)
      (λ c known after. ran_well c i (event_of c (word_at g.words 2) arguments) after)
  commands_lack_room command.Expand g keep i = refused_by (AreTokens (text 0 g)) (IsExpanded (text 0 g)) (no_place i) (λ fails. absurd fails) (λ ts known fails. absurd fails)
  commands_lack_room command.Layout g keep i =
      then_text safe for_room g.passes keep i (text 0 g) (text 1 g) (IsPiped (text 0 g) (text 1 g) g.passes)
      (λ p. fit_text (map PassView.name g.passes) p.fitted) (by_pipes safe for_room g.passes keep i (text 0 g) (text 1 g))
  commands_lack_room command.RunWhole g keep i =
      refused_by (IsTarget (text 0 g) (text 1 g)) (RunsUnder (text 2 g)) (no_place i) (by_target safe for_room g.passes keep i (text 0 g) (text 1 g))
      (λ under has. refused_by (IsScenario under.core (text 2 g)) (λ scene p. p ≡ Ok (log (whole under.core scene under.limits))) (no_place i) (λ fails. absurd fails)
      (λ scene known after. not_ok (log (whole under.core scene under.limits)) (no_place i) after))
  commands_lack_room command.RunPipe g keep i =
      then_text safe for_room g.passes keep i (text 0 g) (text 1 g) (IsReady (text 0 g) (text 1 g) (text 2 g) g.passes) (λ r. log (network_of r))
      (by_ready safe for_room g.passes keep i (text 0 g) (text 1 g) (text 2 g))
  commands_lack_room command.RunPlaced g keep i =
      then_text safe for_room g.passes keep i (text 0 g) (text 1 g) (IsReadyPlaced (text 0 g) (text 1 g) (text 2 g) (text 3 g) g.passes) (λ r. log (network_of r))
      (by_ready_placed safe for_room g.passes keep i (text 0 g) (text 1 g) (text 2 g) (text 3 g))
  commands_lack_room command.Drive g keep i =
      then_text safe for_room g.passes keep i (text 0 g) (text 1 g) (IsReady (text 0 g) (text 1 g) (text 2 g) g.passes) (λ r. drive_log (driven r))
      (by_ready safe for_room g.passes keep i (text 0 g) (text 1 g) (text 2 g))
  commands_lack_room command.Audit g keep i =
      then_text safe for_room g.passes keep i (text 0 g) (text 1 g) (IsAudit (text 0 g) (text 1 g) (text 2 g) g.passes)
      (λ p. fit_text (map PassView.name g.passes) p.fitted) (by_audit safe for_room g.passes keep i (text 0 g) (text 1 g) (text 2 g))
  commands_lack_room (command.Snap after) g keep i =
      then_text safe for_room g.passes keep i (text 0 g) (text 1 g) (IsReady (text 0 g) (text 1 g) (text 2 g) g.passes) (λ r. snap_log (driven r) after)
      (by_ready safe for_room g.passes keep i (text 0 g) (text 1 g) (text 2 g))
  commands_lack_room (command.Gen kind seed n) g keep i = not_ok (gen_text kind seed n) (no_place i)
  commands_lack_room (command.Bench seed n) g keep i =
      then_text safe for_room g.passes keep i (program_text seed) limits_text (IsReady (program_text seed) limits_text (scene_text seed n) g.passes)
      (λ r. bench_line seed n (log (network_of r))) (by_ready safe for_room g.passes keep i (program_text seed) limits_text (scene_text seed n))

-- ---- a call that ended so

-- No file that was not taken is refused so.
taken : (word i : ℕ) (why : Take) → ◌≡◌ {A = End} (Err (of_take word why)) (Err (no_place i)) → ⊥
taken word i take.ReadFault same = cc
taken word i take.TooLong same = cc
taken word i take.Memory same = cc

told_is : (texts : List Bytes) (told : Option Texts) → Agrees (Ok texts) told → IfSome told (λ t. t ≡ Ok texts)
told_is texts None agrees = tt
told_is texts (Some t) agrees = agrees

module _ (lacks : CommandsLackRoom) (q : Question) (files files' : FilesView) (out out' : SinkView) (end : End) (i : ℕ) (keep : KeepNodes (map PassView.gives q.passes)) (is : end ≡ Err (no_place i)) where
  of_texts : (c : Command) → command_of q.words ≡ Some c → (texts : Texts) → FilesRead q.words files files' (command_files (Some c)) texts → Agrees texts (told_texts q) →
      PerformsOver (Some c) q out out' texts end → CallLacksRoom q i
  of_texts c same (Ok texts) reads agrees performs =
      let refuses : Performs (MayStop c (given q texts)) (CommandAnswers c (given q texts)) SinkView.written SinkView.faults out out' (Err (no_place i)) =
      subst (Performs (MayStop c (given q texts)) (CommandAnswers c (given q texts)) SinkView.written SinkView.faults out out') is performs in
      (c, same, texts, told_is texts (told_texts q) agrees, lacks c (given q texts) keep i refuses.0.is)
  of_texts c same (Err r) reads agrees performs =
      let why = read-why q.words files files' (command_files (Some c)) (Err r) r reads refl in
      absurd (taken why.0 i why.1 (sym (performs.0 ∙ ap (λ (s : Refusal). Err s) why.2) ∙ is))

  of_command : (co : Option Command) → command_of q.words ≡ co → (texts : Texts) → FilesRead q.words files files' (command_files co) texts → Agrees texts (told_texts q) →
      PerformsOver co q out out' texts end → CallLacksRoom q i
  of_command None same texts reads agrees performs = absurd (let no : ◌≡◌ {A = End} (Err refusal.Usage) (Err (no_place i)) = sym performs.0 ∙ is in cc)
  of_command (Some c) same texts reads agrees performs = of_texts c same texts reads agrees performs

  pub call_lacks : (texts : Texts) → FilesRead q.words files files' (command_files (command_of q.words)) texts → Agrees texts (told_texts q) →
      PerformsOver (command_of q.words) q out out' texts end → CallLacksRoom q i
  call_lacks = of_command (command_of q.words) refl

-- passes keep nodes if their views do
pub keep_views : {B : Type 0} (name : B → Bytes) (gives : B → Rewrite) (removed : B → ℕ) (passes : List B) → KeepNodes (map gives passes) →
    KeepNodes (map PassView.gives (passes_view name gives removed passes))
keep_views name gives removed [] keep = tt
keep_views name gives removed (p ∷ passes) keep = (keep.0, keep_views name gives removed passes keep.1)
