-- Each command has an answer, part by part, and so has each question.
use Rattle.std.proofs.Common.{◌≡◌, Result, Ok, Err, List, Option, None, Some, length, map, sym, subst}
use Rattle.std.specs.Prelude.{IsSome}
use Rattle.lucid_code.specs.Nodes.{nodes}
use Rattle.lucid_code.specs.Parts as code
use Rattle.lucid_drive.specs.Drive.{drive_log}
use Rattle.lucid_effects_laws.specs.Laws.{BodiesAreDecided}
use Rattle.lucid_effects_spec.specs.Laws.{CyclesRefuse}
use Rattle.lucid_gen.specs.Limits.{limits_text}
use Rattle.lucid_gen.specs.Program.{program_text}
use Rattle.lucid_gen.specs.Scene.{scene_text}
use Rattle.lucid_stages.specs.Counts.{CountsFit}
use Rattle.lucid_layout_laws.specs.Laws.{LayoutsAreThere}
use Rattle.lucid_lex.specs.declared.token.Token.{Token}
use Rattle.lucid_log_tally.specs.Bench.{bench_line}
use Rattle.lucid_net_spec.specs.Log.{log, whole}
use Rattle.lucid_parse_spec.specs.Law.{ReadAsSpelled}
use Rattle.lucid_parse_tree.specs.declared.tree.Tree.{Tree}
use Rattle.lucid_snap.specs.Log.{snap_log}
use Rattle.lucid_top.specs.Answer.{AnswersTo, CommandAnswers, Given, OverTexts, Question, given as given_texts, text, told_texts}
use Rattle.lucid_top.specs.Check.{counts_line}
use Rattle.lucid_top.specs.Drive.{driven}
use Rattle.lucid_top.specs.Generated.{gen_text}
use Rattle.lucid_top.specs.Layout.{fit_text}
use Rattle.lucid_top.specs.Once.{event_of, ran}
use Rattle.lucid_top.specs.Pipes.{IsPiped, IsPlacedIn, IsReady, IsSet, IsTarget, IsUnder, Target, network_of, piped, ready, target}
use Rattle.lucid_top.specs.Placed.{IsAudit, IsAuditedIn, IsMeasured, IsMeasuredAs, IsMeasuredIn, IsPlacedOn, IsReadyOn, IsReadyPlaced, Measured, measured}
use Rattle.lucid_top.specs.RunWhole.{RunsUnder}
use Rattle.lucid_top_fit.specs.Fit.{Composed, IsComposed, IsFitted, fit_of}
use Rattle.lucid_top_fit.specs.Passes.{PassView}
use Rattle.lucid_top_fit.specs.Placing.{IsAudited, IsCounted, IsPlan}
use Rattle.lucid_top_laws.proofs.ThereFitLemmas.{audited_there, composed_there, counted_there, fitted_there}
use Rattle.lucid_top_laws.proofs.ThereLemmas.{There, followed_there, given_there}
use Rattle.lucid_top_laws.proofs.ThereOrderLemmas.{CyclesFit, ordered_there}
use Rattle.lucid_top_laws.proofs.ThereTextsLemmas.{elaborated_there, limits_there, parsed_there, plan_there, scenario_there, source_there, tokens_there}
use Rattle.lucid_top_laws.specs.Laws.{AnswersAreThere}
use Rattle.lucid_top_program.specs.Program.{AreTokens, IsElaborated, IsOrdered, IsParsed, IsProgram, IsProgramFrom, IsProgramOf, IsRead, IsSource}
use Rattle.lucid_top_program.specs.Settings.{IsLimits, IsScenario}
use Rattle.lucid_top_words.specs.Command.{command_of}
use Rattle.lucid_top_words.specs.declared.command.Command.TheVariants as command
use Rattle.lucid_top_words.specs.declared.command.Command.{Command}
use Rattle.lucid_top_words.specs.declared.refusal.Refusal.{Refusal}
use Rattle.lucid_top_words.specs.declared.refusal.Refusal.TheVariants as refusal
use Rattle.lucid_top_words.specs.Files.{Texts}
use Rattle.lucid_top_words.specs.Outcome.{After, FollowedBy}
use Rattle.lucid_top_words.specs.Words.{Bytes, word_at}
use Rattle.lucid_types_laws.specs.Laws.{DecidesPrograms}

-- ---- the counts of measured code keep their limits

module _ (passes : List PassView) (m : Measured) where
  abbrev Kept : Measured → Type 0
  Kept n = CountsFit n.made.code n.under.limits

  no_measure : {A : Type 0} (r : Refusal) → ◌≡◌ {A = Result Measured Refusal} (Ok m) (Err r) → A
  no_measure r same = absurd (cc)

  same_measure : (n : Measured) → ◌≡◌ {A = Result Measured Refusal} (Ok m) (Ok n) → m ≡ n
  same_measure n same = cc

  kept_counts : (under : Target) (made : Composed) (end : Result code.CodeParts Refusal) → IsCounted under.core under.limits made.code end →
      After end (λ code p. p ≡ Ok (measured under made)) (Ok m) → Kept m
  kept_counts under made (Ok code) is after = subst Kept (sym (same_measure (measured under made) after)) is.0
  kept_counts under made (Err r) is after = no_measure r after

  kept_made : (under : Target) (end : Result Composed Refusal) → After end (IsMeasuredAs under) (Ok m) → Kept m
  kept_made under (Ok made) after = kept_counts under made after.0 after.1 after.2
  kept_made under (Err r) after = no_measure r after

  kept_under : (end : Result Target Refusal) → After end (IsMeasuredIn passes) (Ok m) → Kept m
  kept_under (Ok under) after = kept_made under after.0 after.2
  kept_under (Err r) after = no_measure r after

  pub counts_kept : (program limits : Bytes) → IsMeasured program limits passes (Ok m) → Kept m
  counts_kept program limits is = kept_under is.0 is.2

-- ---- the parts of commands

module _ (spelled : ReadAsSpelled) (decides : DecidesPrograms) (bodies : BodiesAreDecided) (refuse : CyclesRefuse) (fits : CyclesFit) (layouts : LayoutsAreThere) where
  program_of_there : (tree : Tree) → There (IsProgramOf tree)
  program_of_there tree =
      followed_there (IsElaborated tree) (IsOrdered tree) (elaborated_there decides tree) (λ core typed. ordered_there bodies refuse fits tree core typed)

  program_from_there : (text : Bytes) (ts : List Token) → There (IsProgramFrom text ts)
  program_from_there text ts = followed_there (IsParsed text ts) IsProgramOf (parsed_there spelled text ts) (λ tree is. program_of_there tree)

  read_there : (source : Bytes) → There (IsRead source)
  read_there source = followed_there (AreTokens source) (IsProgramFrom source) (tokens_there source) (λ ts is. program_from_there source ts)

  program_there : (text : Bytes) → There (IsProgram text)
  program_there text = followed_there (IsSource text) IsRead (source_there text) (λ source is. read_there source)

  target_there : (program limits : Bytes) → There (IsTarget program limits)
  target_there program limits =
      followed_there (IsProgram program) (λ core. IsUnder core limits) (program_there program)
      (λ core is. followed_there (IsLimits limits) (λ l p. p ≡ Ok (target core l)) (limits_there limits) (λ l has. given_there (Ok (target core l))))

  piped_there : (program limits : Bytes) (passes : List PassView) → There (IsPiped program limits passes)
  piped_there program limits passes =
      followed_there (IsTarget program limits) (IsPlacedIn passes) (target_there program limits)
      (λ under is. followed_there (IsFitted under.core under.limits passes) (λ fitted p. p ≡ Ok (piped under fitted))
      (fitted_there layouts under.core under.limits passes) (λ fitted has. given_there (Ok (piped under fitted))))

  ready_there : (program limits scenario : Bytes) (passes : List PassView) → There (IsReady program limits scenario passes)
  ready_there program limits scenario passes =
      followed_there (IsPiped program limits passes) (IsSet scenario) (piped_there program limits passes)
      (λ pipes is. followed_there (IsScenario pipes.under.core scenario) (λ scene p. p ≡ Ok (ready pipes scene))
      (scenario_there scenario pipes.under.core) (λ scene has. given_there (Ok (ready pipes scene))))

  measured_there : (program limits : Bytes) (passes : List PassView) → There (IsMeasured program limits passes)
  measured_there program limits passes =
      followed_there (IsTarget program limits) (IsMeasuredIn passes) (target_there program limits)
      (λ under is. followed_there (IsComposed under.core passes) (IsMeasuredAs under) (composed_there under.core passes)
      (λ made has. followed_there (IsCounted under.core under.limits made.code) (λ code p. p ≡ Ok (measured under made))
      (counted_there layouts under.core under.limits made.code) (λ code fits. given_there (Ok (measured under made)))))

  audited_in_there : (placement : Bytes) (m : Measured) → CountsFit m.made.code m.under.limits → There (IsAuditedIn placement m)
  audited_in_there placement m counts =
      followed_there (IsPlan placement (length (nodes m.made.code.ops)))
      (λ plan. FollowedBy (IsAudited m.under.limits m.made.code plan) (λ placed p. p ≡ Ok (piped m.under (fit_of m.made.gone placed))))
      (plan_there placement (length (nodes m.made.code.ops)))
      (λ plan is. followed_there (IsAudited m.under.limits m.made.code plan) (λ placed p. p ≡ Ok (piped m.under (fit_of m.made.gone placed)))
      (audited_there m.under.limits m.made.code plan counts) (λ placed has. given_there (Ok (piped m.under (fit_of m.made.gone placed)))))

  audit_there : (program limits placement : Bytes) (passes : List PassView) → There (IsAudit program limits placement passes)
  audit_there program limits placement passes =
      followed_there (IsMeasured program limits passes) (IsAuditedIn placement) (measured_there program limits passes)
      (λ m is. audited_in_there placement m (counts_kept passes m program limits is))

  ready_placed_there : (program limits scenario placement : Bytes) (passes : List PassView) → There (IsReadyPlaced program limits scenario placement passes)
  ready_placed_there program limits scenario placement passes =
      followed_there (IsMeasured program limits passes) (IsReadyOn scenario placement) (measured_there program limits passes)
      (λ m is. followed_there (IsScenario m.under.core scenario) (λ scene. IsPlacedOn scene placement m) (scenario_there scenario m.under.core)
      (λ scene has. followed_there (IsAuditedIn placement m) (λ pipes p. p ≡ Ok (ready pipes scene))
      (audited_in_there placement m (counts_kept passes m program limits is)) (λ pipes kept. given_there (Ok (ready pipes scene)))))

  -- ---- the commands

  command_there : (c : Command) (g : Given) → There (CommandAnswers c g)
  command_there command.Check g =
      followed_there (IsProgram (text 0 g)) (λ core p. p ≡ Ok (counts_line core)) (program_there (text 0 g)) (λ core is. given_there (Ok (counts_line core)))
  command_there (command.Once arguments) g =
      followed_there (IsProgram (text 0 g)) (λ core p. p ≡ ran core (event_of core (word_at g.words 2) arguments)) (program_there (text 0 g))
      (λ core is. given_there (ran core (event_of core (word_at g.words 2) arguments)))
  command_there command.Expand g = source_there (text 0 g)
  command_there command.Layout g =
      followed_there (IsPiped (text 0 g) (text 1 g) g.passes) (λ p t. t ≡ Ok (fit_text (map PassView.name g.passes) p.fitted))
      (piped_there (text 0 g) (text 1 g) g.passes) (λ p is. given_there (Ok (fit_text (map PassView.name g.passes) p.fitted)))
  command_there command.RunWhole g =
      followed_there (IsTarget (text 0 g) (text 1 g)) (RunsUnder (text 2 g)) (target_there (text 0 g) (text 1 g))
      (λ under is. followed_there (IsScenario under.core (text 2 g)) (λ scene p. p ≡ Ok (log (whole under.core scene under.limits)))
      (scenario_there (text 2 g) under.core) (λ scene has. given_there (Ok (log (whole under.core scene under.limits)))))
  command_there command.RunPipe g =
      followed_there (IsReady (text 0 g) (text 1 g) (text 2 g) g.passes) (λ r p. p ≡ Ok (log (network_of r)))
      (ready_there (text 0 g) (text 1 g) (text 2 g) g.passes) (λ r is. given_there (Ok (log (network_of r))))
  command_there command.RunPlaced g =
      followed_there (IsReadyPlaced (text 0 g) (text 1 g) (text 2 g) (text 3 g) g.passes) (λ r p. p ≡ Ok (log (network_of r)))
      (ready_placed_there (text 0 g) (text 1 g) (text 2 g) (text 3 g) g.passes) (λ r is. given_there (Ok (log (network_of r))))
  command_there command.Drive g =
      followed_there (IsReady (text 0 g) (text 1 g) (text 2 g) g.passes) (λ r p. p ≡ Ok (drive_log (driven r)))
      (ready_there (text 0 g) (text 1 g) (text 2 g) g.passes) (λ r is. given_there (Ok (drive_log (driven r))))
  command_there command.Audit g =
      followed_there (IsAudit (text 0 g) (text 1 g) (text 2 g) g.passes) (λ p t. t ≡ Ok (fit_text (map PassView.name g.passes) p.fitted))
      (audit_there (text 0 g) (text 1 g) (text 2 g) g.passes) (λ p is. given_there (Ok (fit_text (map PassView.name g.passes) p.fitted)))
  command_there (command.Snap after) g =
      followed_there (IsReady (text 0 g) (text 1 g) (text 2 g) g.passes) (λ r p. p ≡ Ok (snap_log (driven r) after))
      (ready_there (text 0 g) (text 1 g) (text 2 g) g.passes) (λ r is. given_there (Ok (snap_log (driven r) after)))
  command_there (command.Gen kind seed n) g = given_there (Ok (gen_text kind seed n))
  command_there (command.Bench seed n) g =
      followed_there (IsReady (program_text seed) limits_text (scene_text seed n) g.passes) (λ r p. p ≡ Ok (bench_line seed n (log (network_of r))))
      (ready_there (program_text seed) limits_text (scene_text seed n) g.passes) (λ r is. given_there (Ok (bench_line seed n (log (network_of r)))))

  over_texts : (q : Question) (t : Option Texts) (c : Option Command) → IsSome t → There (OverTexts t (λ texts. AnswersTo c (given_texts q texts)))
  over_texts q None c told = absurd (cc)
  over_texts q (Some (Err r)) c told = given_there (Err r)
  over_texts q (Some (Ok texts)) None told = given_there (Err refusal.Usage)
  over_texts q (Some (Ok texts)) (Some c) told = command_there c (given_texts q texts)

  pub answers_there : AnswersAreThere
  answers_there q told = over_texts q (told_texts q) (command_of q.words) told
