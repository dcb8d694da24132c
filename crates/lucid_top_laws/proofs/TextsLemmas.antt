-- From the bytes of files to placed code whose packets have the effects of the handlers.
use Rattle.std.proofs.Common.{◌≡◌, ◌∙◌, ℕ, ◌+◌, List, [], ◌∷◌, ◌++◌, Option, None, Some, Ok, Err, Bool, true, false, if◌then◌else◌, codes, fold, length, length-append, nat_eq, ap, refl, sym, subst, arith}
use Rattle.std.proofs.lemmas.Bool.{eqb-true}
use Rattle.std.proofs.lemmas.List.{length-map}
use Rattle.std.specs.List.{AllByRecursion}
use Rattle.std.specs.Option.{option_and_then, option_map_or}
use Rattle.serde_json.specs.Data.{Data, Items, Members, item, no_items}
use Rattle.serde_json.specs.Find.{as_array, as_object, get}
use Rattle.lucid_audit.proofs.Places.{rules_place}
use Rattle.lucid_audit.specs.Audit.{pair_of, pairs_of}
use Rattle.lucid_audit.specs.PlanFile as file
use Rattle.lucid_audit.specs.declared.plan.PlanKey.{PlanKey}
use Rattle.lucid_audit.specs.declared.plan.PlanKey.TheVariants.{File, Nodes, Other}
use Rattle.lucid_audit.specs.declared.plan.Plan.{Plan}
use Rattle.lucid_conf.specs.declared.limits.Limits.{Limits}
use Rattle.lucid_conf.specs.Tables.{limits_read}
use Rattle.lucid_core.specs.Parts.{CoreParts}
use Rattle.lucid_layout.specs.Fit.{IsFirstFit}
use Rattle.lucid_layout.specs.Layout.{stages_of}
use Rattle.lucid_stages.specs.declared.stage.Pair.{Pair}
use Rattle.lucid_top_fit.specs.Placing.{IsAudited, IsPlan}
use Rattle.lucid_code.specs.Nodes.{nodes}
use Rattle.lucid_code.specs.Parts.{CodeParts}
use Rattle.lucid_code.specs.Valid.{IsValid}
use Rattle.lucid_conf.proofs.LimitsLemmas.{limits_kept}
use Rattle.lucid_conf.specs.Kept.{AreLimits}
use Rattle.lucid_core.specs.Valid.{IsValidFlat}
use Rattle.lucid_inline_spec.proofs.SameOrder as order
use Rattle.lucid_inline_spec.proofs.Steps as flat_steps
use Rattle.lucid_inline_spec.proofs.Valid as flat
use Rattle.lucid_inline_spec.specs.Flat.{flat_of}
use Rattle.lucid_layout.proofs.LayoutLemmas.{fit_keeps}
use Rattle.lucid_merge.specs.Laws.{GuardsContradict, ProductsAct, ProductsName}
use Rattle.lucid_normal_spec.specs.Stands.{StandsFor}
use Rattle.lucid_pass.specs.Through.{ListsReplace, through}
use Rattle.lucid_pass_laws.proofs.Composed.{code_stands}
use Rattle.lucid_pass_laws.specs.Core.{CodeStands}
use Rattle.lucid_pass_spec.specs.Replace.{MayReplace, Rewrite}
use Rattle.lucid_pipe.proofs.Passes.{passes as moves_pass}
use Rattle.lucid_pipe.proofs.Settles.{enter_keeps, go_keeps}
use Rattle.lucid_pipe.specs.Laws.{MovesKeep}
use Rattle.lucid_stages.specs.NodeWorks.{work_of, works}
use Rattle.lucid_tables.proofs.Arrays.{stages_keep}
use Rattle.lucid_tables.proofs.Passing.{pass_is_run}
use Rattle.lucid_tables.specs.Laws.{KeepsToItsArrays}
use Rattle.lucid_tables.specs.Placed.{IsPlaced, PlacedParts, placed_of}
use Rattle.lucid_top.proofs.Headlines.{is-program}
use Rattle.lucid_top.specs.Headline.{code_by}
use Rattle.lucid_top.specs.Premises.{HasCore, HasValue}
use Rattle.lucid_top_fit.proofs.RoomLemmas.{normal_is_valid}
use Rattle.lucid_top_fit.specs.Fit.{normal_of}
use Rattle.lucid_top_program.specs.Safe.{IsSafe, TextsAreSafe}
use Rattle.lucid_top_laws.proofs.Moving.{moves_run}
use Rattle.lucid_top_laws.proofs.Packets.{runs_whole}
use Rattle.lucid_top_laws.proofs.SnapshotsLemmas.{snapshots_run}
use Rattle.lucid_top_laws.specs.Moves.{MovesRunWhole}
use Rattle.lucid_top_laws.specs.Packet.{RunsWhole}
use Rattle.lucid_top_laws.specs.Snapshots.{SnapshotsRunWhole}
use Rattle.lucid_top_laws.specs.Texts.{CodesRunWhole, ActsAsHandlers, PlacedCodesRunWhole, PlacedTextsRunWhole, TextsRunWhole, makes_of}
use Rattle.lucid_top_words.specs.Words.{Bytes}

-- ---- a placement file gives a pair for each node

same_pairs : (x y : List (ℕ × ℕ)) → ◌≡◌ {A = file.OrKey (List (ℕ × ℕ))} (Ok x) (Ok y) → x ≡ y
same_pairs x y same = cc

no_pairs : {A : Type 0} (k : PlanKey × Option ℕ) (ps : List (ℕ × ℕ)) → ◌≡◌ {A = file.OrKey (List (ℕ × ℕ))} (Err k) (Ok ps) → A
no_pairs k ps same = absurd (cc)

pairs_long : (before : List (ℕ × ℕ)) (ds : Items) (ps : List (ℕ × ℕ)) → file.pairs_from before ds ≡ Ok ps → length ps ≡ length before + file.count_of ds
pairs_long before no_items ps is = let same : before ≡ ps = same_pairs before ps is in omega (arith, ap length same)
pairs_long before (item d ds) ps is = by (file.pair d) is (λ p e. pairs_long (before ++ p ∷ []) ds ps e)
  where
    by : (o : Option (ℕ × ℕ)) → option_map_or (λ p. file.pairs_from (before ++ p ∷ []) ds) o (Err (Nodes, Some (length before))) ≡ Ok ps →
        ((p : ℕ × ℕ) → file.pairs_from (before ++ p ∷ []) ds ≡ Ok ps → length ps ≡ length (before ++ p ∷ []) + file.count_of ds) →
        length ps ≡ length before + file.count_of (item d ds)
    by None e later = no_pairs (Nodes, Some (length before)) ps e
    by (Some p) e later = let long = later p e in omega (arith, long, length-append before (p ∷ []))

list_long : (n : ℕ) (o : Option Items) (ps : List (ℕ × ℕ)) → file.nodes_read n o ≡ Ok ps → length ps ≡ n
list_long n None ps is = no_pairs (Nodes, None) ps is
list_long n (Some ds) ps is = by (nat_eq (file.count_of ds) n) refl is
  where
    by : (b : Bool) → nat_eq (file.count_of ds) n ≡ b → (if b then file.pairs_from [] ds else Err (Nodes, None)) ≡ Ok ps → length ps ≡ n
    by true e given = let long = pairs_long [] ds ps given in let same = eqb-true (file.count_of ds) n e in omega (arith, long, same)
    by false e given = no_pairs (Nodes, None) ps given

members_long : (n : ℕ) (d : Data) (o : Option Members) (ps : List (ℕ × ℕ)) → file.members_read n d o ≡ Ok ps → length ps ≡ n
members_long n d None ps is = no_pairs (File, None) ps is
members_long n d (Some ms) ps is = by (file.all_known ms) is
  where
    by : (b : Bool) → (if b then file.nodes_read n (option_and_then as_array (get (codes "nodes") d)) else Err (Other, None)) ≡ Ok ps → length ps ≡ n
    by true given = list_long n (option_and_then as_array (get (codes "nodes") d)) ps given
    by false given = no_pairs (Other, None) ps given

plan_long : (n : ℕ) (d : Data) (ps : List (ℕ × ℕ)) → file.plan_read n d ≡ Ok ps → length ps ≡ n
plan_long n d ps is = members_long n d (as_object d) ps is

-- ---- passes by their functions

through_is : (passes : List Rewrite) (code : CodeParts) → fold (λ now (make : CodeParts → CodeParts). make now) code (makes_of passes) ≡ through passes code
through_is [] code = refl
through_is (p ∷ passes) code = through_is passes (p.makes code)

-- ---- the laws

module _ (safe : TextsAreSafe) (replace : ListsReplace) (acting : ProductsAct) (naming : ProductsName) (contradicting : GuardsContradict) where
  module _ (program limits_text : Bytes) (core : CoreParts) (limits : Limits) (program_is : HasCore program core) (limits_are : HasValue limits_read limits_text limits) (passes : List Rewrite) where
    abbrev code : CodeParts
    code = code_by (makes_of passes) core

    is_safe : IsSafe core
    is_safe = safe program core (is-program program_is)

    flat_is_valid : IsValidFlat (flat_of core)
    flat_is_valid = flat.flat_valid core is_safe.valid

    normal_valid : IsValid (normal_of core)
    normal_valid = normal_is_valid core (order.handlers_keep_order core is_safe.valid) flat_is_valid is_safe.events is_safe.accepted

    stand : CodeStands core
    stand = code_stands core (flat_steps.flat_steps core is_safe.valid) flat_is_valid

    may : MayReplace (normal_of core) code
    may = subst (MayReplace (normal_of core)) (sym (through_is passes (normal_of core))) (replace passes (normal_of core) normal_valid)

    ranges : AreLimits limits
    ranges = limits_kept limits_are.0 (Ok limits) limits_are.2

    module _ (placed : PlacedParts) (code_is : placed.code ≡ code) (keeps : IsPlaced placed.code placed.stages) where
      valid : IsValid placed.code
      valid = subst IsValid (sym code_is) may.valid

      stands : StandsFor placed.code core
      stands = subst (λ (c : CodeParts). StandsFor c core) (sym code_is) (stand.stands code may)

      same_arrays : placed.code.arrays ≡ core.arrays
      same_arrays = ap (λ (c : CodeParts). c.arrays) code_is ∙ stand.arrays code may

      packet : RunsWhole placed core
      packet = runs_whole placed core (pass_is_run placed.code placed.stages valid keeps) stands

      keep_to_theirs : AllByRecursion (KeepsToItsArrays placed.code) placed.stages
      keep_to_theirs = stages_keep placed.code placed.stages keeps.arrays

      moves_keep : MovesKeep placed
      moves_keep = record { go = go_keeps placed keep_to_theirs keeps.in_one_stage; enter = enter_keeps placed keeps.some }

      moves : MovesRunWhole placed core
      moves = moves_run placed core packet (moves_pass placed moves_keep) same_arrays

      snaps : SnapshotsRunWhole placed core
      snaps = snapshots_run placed (record { keep = moves_keep; is_placed = keeps; arrays = keep_to_theirs }) keeps.some core moves

      all : ActsAsHandlers placed core
      all = record { packet = packet; moves = moves; snapshots = snaps }

    -- ---- first fit

    pub fit_whole : (places : List Pair) → IsFirstFit code.ops limits [] (works code.ops) places → ActsAsHandlers (placed_of code (stages_of code limits places)) core
    fit_whole places least = all (placed_of code (stages_of code limits places)) refl (fit_keeps acting naming contradicting code limits places may.valid ranges least)

    -- ---- places of a file

    pub audit_whole : (placement : Bytes) (plan : Plan) → IsPlan placement (length (nodes code.ops)) (Ok plan) → (placed : PlacedParts) → IsAudited limits code plan (Ok placed) → ActsAsHandlers placed core
    audit_whole placement plan plan_is placed accepts = all placed accepts.code_is
        (subst (λ (c : CodeParts). IsPlaced c placed.stages) (sym accepts.code_is)
        (subst (IsPlaced code) (sym accepts.stages_are) (rules_place acting naming contradicting code limits (pairs_of plan.pairs) may.valid ranges many accepts.rules)))
      where
        many : length (pairs_of plan.pairs) ≡ length (works code.ops)
        many = length-map plan.pairs pair_of
            ∙ plan_long (length (nodes code.ops)) plan_is.0 plan.pairs plan_is.2
            ∙ sym (length-map (nodes code.ops) (work_of code.ops))

  pub codes_whole : CodesRunWhole
  codes_whole program limits a passes f = fit_whole program limits a.core a.within a.program_is a.limits_are passes f.places f.least

  pub placed_codes_whole : PlacedCodesRunWhole
  placed_codes_whole program limits a passes placement audit =
      audit_whole program limits a.core a.within a.program_is a.limits_are passes placement audit.plan audit.plan_is audit.placed audit.accepts

  pub texts_whole : TextsRunWhole
  texts_whole texts a passes f = fit_whole texts.program texts.limits a.core a.limits a.program_is a.limits_are passes f.places f.least

  pub placed_texts_whole : PlacedTextsRunWhole
  placed_texts_whole texts a passes placement audit =
      audit_whole texts.program texts.limits a.core a.limits a.program_is a.limits_are passes placement audit.plan audit.plan_is audit.placed audit.accepts
