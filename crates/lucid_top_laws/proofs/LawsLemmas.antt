-- All answers of one question are alike, part by part.
use Rattle.lucid_audit.specs.Laws.{AuditsAreOne}
use Rattle.lucid_audit.specs.declared.error.AuditError.TheVariants as audit
use Rattle.lucid_audit.specs.declared.plan.Plan.{Plan}
use Rattle.lucid_audit.specs.declared.plan.PlanError.TheVariants as plan_error
use Rattle.lucid_audit.specs.declared.plan.PlanKey.TheVariants as key
use Rattle.lucid_code.specs.Nodes.{nodes}
use Rattle.lucid_code.specs.Parts as code
use Rattle.lucid_conf.specs.declared.error.ConfError.TheVariants as conf
use Rattle.lucid_conf.specs.declared.limits.Limits.{Limits}
use Rattle.lucid_core.specs.Parts.{CoreParts}
use Rattle.lucid_drive.specs.Drive.{drive_log}
use Rattle.lucid_gen.specs.Limits.{limits_text}
use Rattle.lucid_gen.specs.Program.{program_text}
use Rattle.lucid_gen.specs.Scene.{scene_text}
use Rattle.lucid_layout_laws.specs.Laws.{LayoutsAreOne}
use Rattle.lucid_stages.specs.declared.count_error.CountError.TheVariants as count
use Rattle.lucid_layout.specs.declared.error.FitError.TheVariants as cause
use Rattle.lucid_lex.proofs.Readings.{reads_one, reads_or_stops, stops_one}
use Rattle.lucid_lex.specs.declared.token.Token.{Token}
use Rattle.lucid_log_tally.specs.Bench.{bench_line}
use Rattle.lucid_net_spec.specs.Log.{log, whole}
use Rattle.lucid_parse.proofs.Programs.{no_fault, one_fault, one_tree}
use Rattle.lucid_parse_spec.specs.Law.{ReadAsSpelled}
use Rattle.lucid_parse_spec.specs.Lexemes.{lexemes_of}
use Rattle.lucid_parse_tree.specs.declared.tree.Tree.{Tree}
use Rattle.lucid_size.proofs.Unique.{one_expansion}
use Rattle.lucid_size.specs.Expansion.{IsBroken, IsTwice}
use Rattle.lucid_size.specs.declared.error.SizeError.TheVariants as size
use Rattle.lucid_snap.specs.Log.{snap_log}
use Rattle.lucid_top.specs.Answer.{AnswersTo, CommandAnswers, Given, OverTexts, Question, given as given_texts, text, told_texts}
use Rattle.lucid_top.specs.Check.{counts_line}
use Rattle.lucid_top.specs.Drive.{driven}
use Rattle.lucid_top.specs.Generated.{gen_text}
use Rattle.lucid_top.specs.Layout.{fit_text}
use Rattle.lucid_top.specs.Once.{event_of, ran}
use Rattle.lucid_top.specs.Pipes.{IsPiped, IsPlacedIn, IsReady, IsSet, IsTarget, IsUnder, network_of, piped, ready, target}
use Rattle.lucid_top.specs.Placed.{IsAudit, IsAuditedIn, IsMeasured, IsMeasuredAs, IsMeasuredIn, IsPlacedOn, IsReadyOn, IsReadyPlaced, Measured, measured}
use Rattle.lucid_top.specs.RunWhole.{RunsUnder}
use Rattle.lucid_top_fit.proofs.Composing.{made-is}
use Rattle.lucid_top_fit.proofs.FirstFit.{counted-is, not-counted, not-placed, placed-is}
use Rattle.lucid_top_fit.proofs.Places.{audited-is, not-audited, not-plan, plan-is}
use Rattle.lucid_top_fit.specs.Fit.{IsComposed, IsFitted, IsPlaced, fit_of}
use Rattle.lucid_top_fit.specs.Passes.{PassView}
use Rattle.lucid_top_fit.specs.Placing.{IsAudited, IsCounted, IsPlan}
use Rattle.lucid_top_laws.specs.Laws.{AnswersAreOne}
use Rattle.lucid_top_program.proofs.JsonFiles.{limits-read, not-limits, not-scenario, scenario-read}
use Rattle.lucid_top_program.proofs.Ordering.{refused}
use Rattle.lucid_top_program.proofs.Sizes.{expanded, not-expanded}
use Rattle.lucid_top_program.proofs.Trees.{elaborated, not-elaborated}
use Rattle.lucid_top_program.specs.Program.{AreTokens, IsElaborated, IsExpanded, IsOrdered, IsParsed, IsProgram, IsProgramFrom, IsProgramOf, IsRead, IsSource}
use Rattle.lucid_top_program.specs.Settings.{IsLimits, IsScenario}
use Rattle.lucid_top_words.specs.Command.{command_of}
use Rattle.lucid_top_words.specs.Files.{Texts}
use Rattle.lucid_top_words.specs.Outcome.{After, Alike, FollowedBy, SameRefusal}
use Rattle.lucid_top_words.specs.Words.{word_at}
use Rattle.lucid_top_words.specs.declared.command.Command.TheVariants as command
use Rattle.lucid_top_words.specs.declared.command.Command.{Command}
use Rattle.lucid_top_words.specs.declared.no_fit.NoFit.TheVariants as fit
use Rattle.lucid_top_words.specs.declared.placement.BadPlacement.TheVariants as placement
use Rattle.lucid_top_words.specs.declared.refusal.Refusal.TheVariants as refusal
use Rattle.lucid_top_words.specs.declared.refusal.Refusal.{Refusal}
use Rattle.lucid_top_words.specs.declared.sizes.BadSizes.TheVariants as sizes
use Rattle.lucid_types.specs.declared.error.TypeError.TheVariants as types
use Rattle.lucid_types_spec.specs.Found.{IsDetermined}
use Rattle.std.proofs.Common.{◌≡◌, Result, Ok, Err, refl, sym, subst, ◌∙◌, ◌∷◌, ℕ, List, Option, None, Some, ap, arith, length, map}

-- ---- One part after another: if all answers of each part are alike, so are those of the whole.

-- All answers are alike.
abbrev pub Agree : {X : Type 0} → (Result X Refusal → Type 0) → Type 0
Agree {X} answers = (o p : Result X Refusal) → answers o → answers p → Alike o p

same_as_itself : (r : Refusal) → SameRefusal r r
same_as_itself (refusal.NoOrder decl line cycle) = (refl, refl)
same_as_itself r = refl

alike_itself : {X : Type 0} (o : Result X Refusal) → Alike o o
alike_itself (Ok x) = refl
alike_itself (Err r) = same_as_itself r

-- Answers that are all this outcome.
pub given : {X : Type 0} (v : Result X Refusal) → Agree (λ (o : Result X Refusal). o ≡ v)
given {X} v o p a b =
    subst (λ (e : Result X Refusal). Alike e p) (sym a) (subst (λ (e : Result X Refusal). Alike v e) (sym b) (alike_itself v))

pub followed : {X Y : Type 0} (part : Result X Refusal → Type 0) (rest : X → Result Y Refusal → Type 0) →
    Agree part → ((x : X) → Agree (rest x)) → Agree (FollowedBy part rest)
followed {X} {Y} part rest first second o p a b = at a.0 b.0 (first a.0 b.0 a.1 b.1) a.2 b.2
  where
    at : (e f : Result X Refusal) → Alike e f → After e rest o → After f rest p → Alike o p
    at (Ok x) (Ok y) same c d = second x o p c (subst (λ (z : X). rest z p) (sym same) d)
    at (Err r) (Err s) same c d =
        subst (λ (e : Result Y Refusal). Alike e p) (sym c) (subst (λ (e : Result Y Refusal). Alike {X = Y} (Err r) e) (sym d) same)
    at (Ok x) (Err s) same c d = absurd same
    at (Err r) (Ok y) same c d = absurd same

-- ---- A text gives one program, one set of limits and one scenario, or is refused for one cause.

none_some : {A : Type 0} {x : A} → ◌≡◌ {A = Option A} None (Some x) → ⊥
none_some same = absurd (cc)

tokens_agree : (text : List ℕ) → Agree (AreTokens text)
tokens_agree text (Ok ts) (Ok us) a b = reads_one text ts us a b
tokens_agree text (Ok ts) (Err (refusal.NoToken at)) a b = absurd (reads_or_stops text ts at a b)
tokens_agree text (Ok ts) (Err r) a b = absurd b
tokens_agree text (Err (refusal.NoToken at)) (Ok us) a b = absurd (reads_or_stops text us at b a)
tokens_agree text (Err (refusal.NoToken m)) (Err (refusal.NoToken n)) a b = ap refusal.NoToken (stops_one text m n a b)
tokens_agree text (Err (refusal.NoToken at)) (Err r) a b = absurd b
tokens_agree text (Err r) p a b = absurd a

expanded_agree : (text : List ℕ) (ts : List Token) → Agree (IsExpanded text ts)
expanded_agree text ts o (Ok out) a b = (expanded text ts (one_expansion text ts) out b.0 b.1).only o a
expanded_agree text ts o (Err (refusal.Sizes (sizes.Broken n))) a b =
    (not-expanded text ts (one_expansion text ts) (size.Broken n)
    (λ m h. let same : n ≡ m = cc in subst (IsBroken ts) same b) (λ name h. absurd (cc)) (λ h. absurd (cc))).only o a
expanded_agree text ts o (Err (refusal.Sizes (sizes.Twice name))) a b =
    (not-expanded text ts (one_expansion text ts) (size.Twice name)
    (λ m h. absurd (cc)) (λ other h. let same : name ≡ other = cc in subst (IsTwice text ts) same b) (λ h. absurd (cc))).only o a
expanded_agree text ts o (Err (refusal.Sizes sizes.TooLong)) a b =
    (not-expanded text ts (one_expansion text ts) size.TooBig (λ m h. absurd (cc)) (λ name h. absurd (cc)) (λ h. b)).only o a
expanded_agree text ts o (Err r) a b = absurd b

pub source_agree : (text : List ℕ) → Agree (IsSource text)
source_agree text = followed (AreTokens text) (IsExpanded text) (tokens_agree text) (expanded_agree text)

ordered_agree : (tree : Tree) (core : CoreParts) → Agree (IsOrdered tree core)
ordered_agree tree core (Ok c) (Ok d) a b = a.1 ∙ sym b.1
ordered_agree tree core (Err (refusal.NoOrder decl line names)) (Ok d) a b =
    absurd ((refused tree core decl line (a.0 ∷ a.1) names a.2 a.3 a.4).only (Ok d) b)
ordered_agree tree core (Err r) (Ok d) a b = absurd a
ordered_agree tree core o (Err (refusal.NoOrder decl line names)) a b = (refused tree core decl line (b.0 ∷ b.1) names b.2 b.3 b.4).only o a
ordered_agree tree core o (Err r) a b = absurd b

module _ (spelled : ReadAsSpelled) (one : (tree : Tree) → IsDetermined tree) where
  parsed_agree : (text : List ℕ) (ts : List Token) → Agree (IsParsed text ts)
  parsed_agree text ts (Ok t) (Ok u) a b = one_tree spelled text ts t u a.1 b.1
  parsed_agree text ts (Ok t) (Err (refusal.TooDeep n)) a b = absurd (none_some (sym a.0 ∙ b))
  parsed_agree text ts (Ok t) (Err (refusal.NoTree n)) a b = absurd (no_fault text ts t n a.1 b.1)
  parsed_agree text ts (Ok t) (Err r) a b = absurd b
  parsed_agree text ts (Err (refusal.TooDeep m)) (Ok u) a b = absurd (none_some (sym b.0 ∙ a))
  parsed_agree text ts (Err (refusal.TooDeep m)) (Err (refusal.TooDeep n)) a b =
      let same : ◌≡◌ {A = Option ℕ} (Some m) (Some n) = sym a ∙ b in let number : m ≡ n = cc in ap refusal.TooDeep number
  parsed_agree text ts (Err (refusal.TooDeep m)) (Err (refusal.NoTree n)) a b = absurd (none_some (sym b.0 ∙ a))
  parsed_agree text ts (Err (refusal.TooDeep m)) (Err r) a b = absurd b
  parsed_agree text ts (Err (refusal.NoTree m)) (Ok u) a b = absurd (no_fault text ts u m b.1 a.1)
  parsed_agree text ts (Err (refusal.NoTree m)) (Err (refusal.TooDeep n)) a b = absurd (none_some (sym a.0 ∙ b))
  parsed_agree text ts (Err (refusal.NoTree m)) (Err (refusal.NoTree n)) a b = ap refusal.NoTree (one_fault (lexemes_of text ts) m n a.1 b.1)
  parsed_agree text ts (Err (refusal.NoTree m)) (Err r) a b = absurd b
  parsed_agree text ts (Err r) p a b = absurd a

  elaborated_agree : (tree : Tree) → Agree (IsElaborated tree)
  elaborated_agree tree o (Ok core) a b = (elaborated tree core b (one tree)).only o a
  elaborated_agree tree o (Err (refusal.NoRule decl line)) a b = (not-elaborated tree (types.NoRule decl line) b (one tree)).only o a
  elaborated_agree tree o (Err (refusal.PassesLimit what decl line)) a b = (not-elaborated tree (types.Limit what decl line) b (one tree)).only o a
  elaborated_agree tree o (Err r) a b = absurd b

  program_of_agree : (tree : Tree) → Agree (IsProgramOf tree)
  program_of_agree tree = followed (IsElaborated tree) (IsOrdered tree) (elaborated_agree tree) (ordered_agree tree)

  program_from_agree : (text : List ℕ) (ts : List Token) → Agree (IsProgramFrom text ts)
  program_from_agree text ts = followed (IsParsed text ts) IsProgramOf (parsed_agree text ts) program_of_agree

  read_agree : (source : List ℕ) → Agree (IsRead source)
  read_agree source = followed (AreTokens source) (IsProgramFrom source) (tokens_agree source) (program_from_agree source)

  pub program_agree : (text : List ℕ) → Agree (IsProgram text)
  program_agree text = followed (IsSource text) IsRead (source_agree text) read_agree

pub limits_agree : (text : List ℕ) → Agree (IsLimits text)
limits_agree text o (Ok limits) a b = (limits-read text limits b).only o a
limits_agree text o (Err refusal.LimitsNotJson) a b = (not-limits text conf.NotJson b).only o a
limits_agree text o (Err (refusal.LimitsKey key)) a b = (not-limits text (conf.BadField key b.0) b.1).only o a
limits_agree text o (Err r) a b = absurd b

pub scenario_agree : (core : CoreParts) (text : List ℕ) → Agree (IsScenario core text)
scenario_agree core text o (Ok scene) a b = (scenario-read core text scene b).only o a
scenario_agree core text o (Err refusal.SceneNotJson) a b = (not-scenario core text conf.NotJson b).only o a
scenario_agree core text o (Err (refusal.SceneKey key place)) a b = (not-scenario core text (conf.BadField key place) b).only o a
scenario_agree core text o (Err r) a b = absurd b

-- ---- A program has one placed code, by first fit and by a placement file, or is refused for one cause.

pub composed_agree : (core : CoreParts) (passes : List PassView) → Agree (IsComposed core passes)
composed_agree core passes o (Ok made) a b = (made-is core passes made b.0 b.1).only o a
composed_agree core passes (Ok made) (Err r) a b = absurd ((made-is core passes made a.0 a.1).only (Err r) b)
composed_agree core passes (Err (refusal.NoFit (fit.Ops m))) (Err (refusal.NoFit (fit.Ops n))) a b = ap (λ (i : ℕ). refusal.NoFit (fit.Ops i)) (a.1 ∙ sym b.1)
composed_agree core passes (Err (refusal.NoFit (fit.Ops m))) (Err (refusal.NoFit (fit.Size n))) a b = absurd (omega (arith, a.0, b.0))
composed_agree core passes (Err (refusal.NoFit (fit.Ops m))) (Err r) a b = absurd b
composed_agree core passes (Err (refusal.NoFit (fit.Size m))) (Err (refusal.NoFit (fit.Ops n))) a b = absurd (omega (arith, b.0, a.0))
composed_agree core passes (Err (refusal.NoFit (fit.Size m))) (Err (refusal.NoFit (fit.Size n))) a b = ap (λ (i : ℕ). refusal.NoFit (fit.Size i)) (a.2 ∙ sym b.2)
composed_agree core passes (Err (refusal.NoFit (fit.Size m))) (Err r) a b = absurd b
composed_agree core passes (Err r) (Err s) a b = absurd a

module _ (layouts : LayoutsAreOne) (core : CoreParts) (limits : Limits) where
  placed_agree : (from : code.CodeParts) → Agree (IsPlaced core limits from)
  placed_agree from o (Ok placed) a b = (placed-is core limits from placed layouts b).only o a
  placed_agree from o (Err (refusal.NoFit (fit.Ops n))) a b = (not-placed core limits from (cause.Ops n) layouts b).only o a
  placed_agree from o (Err (refusal.NoFit (fit.Bits n))) a b = (not-placed core limits from (cause.Fields n) layouts b).only o a
  placed_agree from o (Err (refusal.NoFit (fit.Arms name))) a b =
      subst (λ (x : List ℕ). Alike o (Err (refusal.NoFit (fit.Arms x)))) (sym b.2) ((not-placed core limits from (cause.Arms b.0) layouts b.1).only o a)
  placed_agree from o (Err (refusal.NoFit (fit.Node i))) a b = (not-placed core limits from (cause.Node i) layouts b).only o a
  placed_agree from o (Err r) a b = absurd b

  pub counted_agree : (from : code.CodeParts) → Agree (IsCounted core limits from)
  counted_agree from o (Ok c) a b = subst (λ (x : code.CodeParts). Alike o (Ok x)) (sym b.1) ((counted-is core limits from b.0).only o a)
  counted_agree from o (Err (refusal.NoFit (fit.Ops n))) a b = (not-counted core limits from (count.Ops n) layouts b).only o a
  counted_agree from o (Err (refusal.NoFit (fit.Bits n))) a b = (not-counted core limits from (count.Fields n) layouts b).only o a
  counted_agree from o (Err (refusal.NoFit (fit.Arms name))) a b =
      subst (λ (x : List ℕ). Alike o (Err (refusal.NoFit (fit.Arms x)))) (sym b.2) ((not-counted core limits from (count.Arms b.0) layouts b.1).only o a)
  counted_agree from o (Err r) a b = absurd b

  pub fitted_agree : (passes : List PassView) → Agree (IsFitted core limits passes)
  fitted_agree passes =
      followed (IsComposed core passes) (λ made. FollowedBy (IsPlaced core limits made.code) (λ placed p. p ≡ Ok (fit_of made.gone placed)))
      (composed_agree core passes)
      (λ made. followed (IsPlaced core limits made.code) (λ placed p. p ≡ Ok (fit_of made.gone placed)) (placed_agree made.code)
      (λ placed. given (Ok (fit_of made.gone placed))))

pub plan_agree : (text : List ℕ) (nodes : ℕ) → Agree (IsPlan text nodes)
plan_agree text nodes o (Ok plan) a b = (plan-is text nodes plan b).only o a
plan_agree text nodes o (Err (refusal.Placement placement.NotJson)) a b = (not-plan text nodes plan_error.NotJson b).only o a
plan_agree text nodes o (Err (refusal.Placement placement.File)) a b = (not-plan text nodes (plan_error.BadField key.File b.0) b.1).only o a
plan_agree text nodes o (Err (refusal.Placement placement.Other)) a b = (not-plan text nodes (plan_error.BadField key.Other b.0) b.1).only o a
plan_agree text nodes o (Err (refusal.Placement placement.Nodes)) a b = (not-plan text nodes (plan_error.BadField key.Nodes None) b).only o a
plan_agree text nodes o (Err (refusal.Placement (placement.Item i))) a b = (not-plan text nodes (plan_error.BadField key.Nodes (Some i)) b).only o a
plan_agree text nodes o (Err r) a b = absurd b

pub audited_agree : AuditsAreOne → (limits : Limits) (from : code.CodeParts) (plan : Plan) → Agree (IsAudited limits from plan)
audited_agree audits limits from plan o (Ok placed) a b = (audited-is limits from plan placed audits b).only o a
audited_agree audits limits from plan o (Err (refusal.Placement (placement.Range i))) a b = (not-audited limits from plan (audit.Range i) audits b).only o a
audited_agree audits limits from plan o (Err (refusal.Placement (placement.Early i))) a b = (not-audited limits from plan (audit.Early i) audits b).only o a
audited_agree audits limits from plan o (Err (refusal.Placement (placement.Rows stage table))) a b =
    (not-audited limits from plan (audit.Rows stage table) audits b).only o a
audited_agree audits limits from plan o (Err (refusal.Placement (placement.Arrays stage))) a b = (not-audited limits from plan (audit.Arrays stage) audits b).only o a
audited_agree audits limits from plan o (Err r) a b = absurd b

-- ---- The answers of each command are alike, and so are those of a question

module _ (spelled : ReadAsSpelled) (one : (tree : Tree) → IsDetermined tree) (layouts : LayoutsAreOne) (audits : AuditsAreOne) where
  target_agree : (program limits : List ℕ) → Agree (IsTarget program limits)
  target_agree program limits =
      followed (IsProgram program) (λ core. IsUnder core limits) (program_agree spelled one program)
      (λ core. followed (IsLimits limits) (λ l p. p ≡ Ok (target core l)) (limits_agree limits) (λ l. given (Ok (target core l))))

  piped_agree : (program limits : List ℕ) (passes : List PassView) → Agree (IsPiped program limits passes)
  piped_agree program limits passes =
      followed (IsTarget program limits) (IsPlacedIn passes) (target_agree program limits)
      (λ under. followed (IsFitted under.core under.limits passes) (λ fitted p. p ≡ Ok (piped under fitted))
      (fitted_agree layouts under.core under.limits passes) (λ fitted. given (Ok (piped under fitted))))

  ready_agree : (program limits scenario : List ℕ) (passes : List PassView) → Agree (IsReady program limits scenario passes)
  ready_agree program limits scenario passes =
      followed (IsPiped program limits passes) (IsSet scenario) (piped_agree program limits passes)
      (λ pipes. followed (IsScenario pipes.under.core scenario) (λ scene p. p ≡ Ok (ready pipes scene))
      (scenario_agree pipes.under.core scenario) (λ scene. given (Ok (ready pipes scene))))

  measured_agree : (program limits : List ℕ) (passes : List PassView) → Agree (IsMeasured program limits passes)
  measured_agree program limits passes =
      followed (IsTarget program limits) (IsMeasuredIn passes) (target_agree program limits)
      (λ under. followed (IsComposed under.core passes) (IsMeasuredAs under) (composed_agree under.core passes)
      (λ made. followed (IsCounted under.core under.limits made.code) (λ code p. p ≡ Ok (measured under made))
      (counted_agree layouts under.core under.limits made.code) (λ code. given (Ok (measured under made)))))

  audited_in_agree : (placement : List ℕ) (m : Measured) → Agree (IsAuditedIn placement m)
  audited_in_agree placement m =
      followed (IsPlan placement (length (nodes m.made.code.ops)))
      (λ plan. FollowedBy (IsAudited m.under.limits m.made.code plan) (λ placed p. p ≡ Ok (piped m.under (fit_of m.made.gone placed))))
      (plan_agree placement (length (nodes m.made.code.ops)))
      (λ plan. followed (IsAudited m.under.limits m.made.code plan) (λ placed p. p ≡ Ok (piped m.under (fit_of m.made.gone placed)))
      (audited_agree audits m.under.limits m.made.code plan) (λ placed. given (Ok (piped m.under (fit_of m.made.gone placed)))))

  audit_agree : (program limits placement : List ℕ) (passes : List PassView) → Agree (IsAudit program limits placement passes)
  audit_agree program limits placement passes =
      followed (IsMeasured program limits passes) (IsAuditedIn placement) (measured_agree program limits passes) (audited_in_agree placement)

  ready_placed_agree : (program limits scenario placement : List ℕ) (passes : List PassView) → Agree (IsReadyPlaced program limits scenario placement passes)
  ready_placed_agree program limits scenario placement passes =
      followed (IsMeasured program limits passes) (IsReadyOn scenario placement) (measured_agree program limits passes)
      (λ m. followed (IsScenario m.under.core scenario) (λ scene. IsPlacedOn scene placement m) (scenario_agree m.under.core scenario)
      (λ scene. followed (IsAuditedIn placement m) (λ pipes p. p ≡ Ok (ready pipes scene)) (audited_in_agree placement m)
      (λ pipes. given (Ok (ready pipes scene)))))

  command_agree : (c : Command) (g : Given) → Agree (CommandAnswers c g)
  command_agree command.Check g =
      followed (IsProgram (text 0 g)) (λ core p. p ≡ Ok (counts_line core)) (program_agree spelled one (text 0 g)) (λ core. given (Ok (counts_line core)))
  command_agree (command.Once arguments) g =
      followed (IsProgram (text 0 g)) (λ core p. p ≡ ran core (event_of core (word_at g.words 2) arguments)) (program_agree spelled one (text 0 g))
      (λ core. given (ran core (event_of core (word_at g.words 2) arguments)))
  command_agree command.Expand g = source_agree (text 0 g)
  command_agree command.Layout g =
      followed (IsPiped (text 0 g) (text 1 g) g.passes) (λ p t. t ≡ Ok (fit_text (map PassView.name g.passes) p.fitted))
      (piped_agree (text 0 g) (text 1 g) g.passes) (λ p. given (Ok (fit_text (map PassView.name g.passes) p.fitted)))
  command_agree command.RunWhole g =
      followed (IsTarget (text 0 g) (text 1 g)) (RunsUnder (text 2 g)) (target_agree (text 0 g) (text 1 g))
      (λ under. followed (IsScenario under.core (text 2 g)) (λ scene p. p ≡ Ok (log (whole under.core scene under.limits)))
      (scenario_agree under.core (text 2 g)) (λ scene. given (Ok (log (whole under.core scene under.limits)))))
  command_agree command.RunPipe g =
      followed (IsReady (text 0 g) (text 1 g) (text 2 g) g.passes) (λ r p. p ≡ Ok (log (network_of r)))
      (ready_agree (text 0 g) (text 1 g) (text 2 g) g.passes) (λ r. given (Ok (log (network_of r))))
  command_agree command.RunPlaced g =
      followed (IsReadyPlaced (text 0 g) (text 1 g) (text 2 g) (text 3 g) g.passes) (λ r p. p ≡ Ok (log (network_of r)))
      (ready_placed_agree (text 0 g) (text 1 g) (text 2 g) (text 3 g) g.passes) (λ r. given (Ok (log (network_of r))))
  command_agree command.Drive g =
      followed (IsReady (text 0 g) (text 1 g) (text 2 g) g.passes) (λ r p. p ≡ Ok (drive_log (driven r)))
      (ready_agree (text 0 g) (text 1 g) (text 2 g) g.passes) (λ r. given (Ok (drive_log (driven r))))
  command_agree command.Audit g =
      followed (IsAudit (text 0 g) (text 1 g) (text 2 g) g.passes) (λ p t. t ≡ Ok (fit_text (map PassView.name g.passes) p.fitted))
      (audit_agree (text 0 g) (text 1 g) (text 2 g) g.passes) (λ p. given (Ok (fit_text (map PassView.name g.passes) p.fitted)))
  command_agree (command.Snap after) g =
      followed (IsReady (text 0 g) (text 1 g) (text 2 g) g.passes) (λ r p. p ≡ Ok (snap_log (driven r) after))
      (ready_agree (text 0 g) (text 1 g) (text 2 g) g.passes) (λ r. given (Ok (snap_log (driven r) after)))
  command_agree (command.Gen kind seed n) g = given (Ok (gen_text kind seed n))
  command_agree (command.Bench seed n) g =
      followed (IsReady (program_text seed) limits_text (scene_text seed n) g.passes) (λ r p. p ≡ Ok (bench_line seed n (log (network_of r))))
      (ready_agree (program_text seed) limits_text (scene_text seed n) g.passes) (λ r. given (Ok (bench_line seed n (log (network_of r)))))

  over_texts : (q : Question) (t : Option Texts) (c : Option Command) → Agree (OverTexts t (λ texts. AnswersTo c (given_texts q texts)))
  over_texts q None c = λ o p a b. absurd a
  over_texts q (Some (Err r)) c = given (Err r)
  over_texts q (Some (Ok texts)) None = given (Err refusal.Usage)
  over_texts q (Some (Ok texts)) (Some c) = command_agree c (given_texts q texts)

  pub answers_agree : AnswersAreOne
  answers_agree q = over_texts q (told_texts q) (command_of q.words)
