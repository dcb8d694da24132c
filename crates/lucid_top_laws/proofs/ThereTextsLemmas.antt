-- A text has tokens and an expansion, tokens have a tree, and a tree has a core, or the first cause of a refusal. So have files in JSON.
use Rattle.std.proofs.Common.{◌≡◌, ◌∙◌, ℕ, zero, suc, ◌+◌, ◌-◌, ◌<◌, ◌≤◌, ◌⊎◌, inl, inr, Bool, true, false, List, [], ◌∷◌, ◌++◌, Option, None, Some, Result, Ok, Err, length, drop, slice_range, refl, sym, arith}
use Rattle.std.proofs.lemmas.Bool.{cases_lt, true≢false}
use Rattle.std.proofs.lemmas.Str.{IsUtf8-from_is_utf8, is_utf8-from_IsUtf8}
use Rattle.std.specs.Str.{is_utf8}
use Rattle.serde_json.specs.Data.{Data}
use Rattle.serde_json.specs.Read.{read}
use Rattle.lucid_audit.specs.declared.plan.PlanKey.TheVariants as key
use Rattle.lucid_audit.specs.PlanFile.{OrKey, plan_read}
use Rattle.lucid_conf.specs.Answers.{Reads}
use Rattle.lucid_conf.specs.declared.limits.Limits.{Limits}
use Rattle.lucid_conf.specs.declared.scene.Scene.{Scene}
use Rattle.lucid_conf.specs.Reading.{Reading}
use Rattle.lucid_conf.specs.Tables.{limits_read, scene_read}
use Rattle.lucid_core.specs.Parts.{CoreParts}
use Rattle.lucid_lex.proofs.Readings.{GoesOn, goes_on, reads_all, stops_here}
use Rattle.lucid_lex.specs.declared.token.Token.{Token}
use Rattle.lucid_lex.specs.Front.{front_of}
use Rattle.lucid_lex.specs.Piece.{Piece}
use Rattle.lucid_lex.specs.Reading.{ReadsUpTo, joined, with_token}
use Rattle.lucid_parse.proofs.Programs as programs
use Rattle.lucid_parse.specs.Nesting.{too_deep}
use Rattle.lucid_parse.specs.Program.{IsFault, IsTreeOf, Progress, kinds_of, last_of, line_of}
use Rattle.lucid_parse_spec.specs.Law.{ReadAsSpelled}
use Rattle.lucid_parse_spec.specs.Lexemes.{lexemes_of}
use Rattle.lucid_parse_spec.specs.ReadDeclaration as read_d
use Rattle.lucid_parse_spec.specs.Spelling.{Text}
use Rattle.lucid_parse_tree.specs.declared.tree.Decl.{Decl}
use Rattle.lucid_parse_tree.specs.declared.tree.DeclKind.{DeclKind}
use Rattle.lucid_parse_tree.specs.declared.tree.Tree.{Tree}
use Rattle.lucid_size.proofs.Exists.{expansion_exists}
use Rattle.lucid_size.specs.Expansion.{IsExpansion, first_repeat, most}
use Rattle.lucid_size.specs.Parts.{names_of}
use Rattle.lucid_size.specs.Templates.{templates}
use Rattle.lucid_top_fit.specs.Placing.{IsPlan}
use Rattle.lucid_top_program.specs.Program.{AreTokens, IsElaborated, IsExpanded, IsParsed, IsSource}
use Rattle.lucid_top_program.specs.Settings.{IsLimits, IsScenario}
use Rattle.lucid_top_words.specs.declared.placement.BadPlacement.TheVariants as placement
use Rattle.lucid_top_words.specs.declared.refusal.Refusal.TheVariants as refusal
use Rattle.lucid_top_words.specs.declared.sizes.BadSizes.TheVariants as sizes
use Rattle.lucid_types_laws.specs.Declaration.{declaration}
use Rattle.lucid_types_laws.specs.Laws.{DecidesPrograms}
use Rattle.lucid_types_spec.specs.declared.limit.What.{What}
use Rattle.lucid_types_spec.specs.Declaration.{Definitions, start}
use Rattle.lucid_types_spec.specs.Declaration as typed
use Rattle.lucid_types_spec.specs.Found.{Refusal, found}
use Rattle.lucid_types_spec.specs.Makes.{IsRefused}
use Rattle.lucid_top_laws.proofs.ThereLemmas.{There, followed_there}

-- ---- tokens

module _ (text : List ℕ) where
  tokens_from_place : (fuel : ℕ) (ts : List Token) (at : ℕ) → length text - at ≤ fuel → at ≤ length text → ReadsUpTo text ts (drop at text) → There (AreTokens text)
  tokens_from_place zero ts at few within so_far = (Ok ts, reads_all text ts at (omega (arith, few)) so_far)
  tokens_from_place (suc fuel) ts at few within so_far =
      of (cases_lt at (length text)) (λ us next less below reads. tokens_from_place fuel us next less below reads)
    where
      on : at < length text → (o : Option _) → o ≡ front_of (slice_range text at (length text)) →
          ((us : List Token) (next : ℕ) → length text - next ≤ fuel → next ≤ length text → ReadsUpTo text us (drop next text) → There (AreTokens text)) →
          There (AreTokens text)
      on below None is again = (Err (refusal.NoToken at), stops_here text ts at below so_far is)
      on below (Some f) is again =
          let next : GoesOn text ts at f = goes_on text ts at f within so_far is in
          let forward = next.forward in
          again (ts ++ with_token at f.len f.kind []) (at + f.len) (omega (arith, few, forward, below)) next.within next.read

      of : (at < length text) ⊎ (length text ≤ at) →
          ((us : List Token) (next : ℕ) → length text - next ≤ fuel → next ≤ length text → ReadsUpTo text us (drop next text) → There (AreTokens text)) →
          There (AreTokens text)
      of (inl below) again = on below (front_of (slice_range text at (length text))) refl again
      of (inr over) again = (Ok ts, reads_all text ts at over so_far)

  pub tokens_there : There (AreTokens text)
  tokens_there = tokens_from_place (length text) [] 0 (omega arith) (omega arith) (record { pieces = []; whole = refl; each_stands = tt; tokens = refl })

-- ---- the expansion

by_result : {X : Type 0} (r : Result X ℕ) (A : Type 0) → ((n : ℕ) → r ≡ Err n → A) → ((x : X) → r ≡ Ok x → A) → A
by_result (Ok x) A fails gives = gives x refl
by_result (Err n) A fails gives = fails n refl

by_option : {X : Type 0} (o : Option X) (A : Type 0) → (o ≡ None → A) → ((x : X) → o ≡ Some x → A) → A
by_option None A none some = none refl
by_option (Some x) A none some = some x refl

module _ (text : List ℕ) (ts : List Token) where
  sized_there : (pieces : List Piece) → IsExpansion text ts pieces →
      (most < length (joined pieces [])) ⊎ (length (joined pieces []) ≤ most) → There (IsExpanded text ts)
  sized_there pieces is (inl large) = (Err (refusal.Sizes sizes.TooLong), (joined pieces [], (pieces, is, refl), large))
  sized_there pieces is (inr small) = (Ok (joined pieces []), ((pieces, is, refl), small))

  expanded_there : There (IsExpanded text ts)
  expanded_there =
      by_result (templates ts) (There (IsExpanded text ts)) (λ n is. (Err (refusal.Sizes (sizes.Broken n)), is))
      (λ xs whole. by_option (first_repeat [] (names_of text ts xs)) (There (IsExpanded text ts))
      (λ none. let there = expansion_exists text ts xs whole none in sized_there there.0 there.1 (cases_lt most (length (joined there.0 []))))
      (λ name is. (Err (refusal.Sizes (sizes.Twice name)), record { found = xs; whole = whole; repeats = is })))

pub source_there : (text : List ℕ) → There (IsSource text)
source_there text = followed_there (AreTokens text) (IsExpanded text) (tokens_there text) (λ ts is. expanded_there text ts)

-- ---- the tree

module _ (spelled : ReadAsSpelled) (text : List ℕ) (ts : List Token) where
  abbrev lexemes : Text
  lexemes = lexemes_of text ts

  abbrev Read : Type 0
  Read = ((t : Tree) × IsTreeOf text ts t) ⊎ ((n : ℕ) × IsFault lexemes n)

  read_from : (fuel : ℕ) (all : List Decl) (rest : Text) → length rest ≤ fuel → Progress text ts lexemes all rest → Read
  read_from fuel all [] few so_far = inl (record { decls = all }, programs.whole_tree text ts lexemes (record { decls = all }) refl so_far)
  read_from zero all (l ∷ rest) few so_far = absurd (omega (arith, few))
  read_from (suc fuel) all (l ∷ rest) few so_far = of (read_d.declaration (l ∷ rest)) refl (λ more after less reads. read_from fuel more after less reads)
    where
      of : (o : Option (DeclKind × Text)) → read_d.declaration (l ∷ rest) ≡ o →
          ((more : List Decl) (after : Text) → length after ≤ fuel → Progress text ts lexemes more after → Read) → Read
      of None is again =
          inr (length lexemes - length (l ∷ rest) + 1, programs.stops_here spelled text ts lexemes all (l ∷ rest) so_far is (omega arith))
      of (Some p) is again =
          let d : Decl = record { line = line_of text (last_of (length (l ∷ rest)) ts); kind = p.0 } in
          let less = programs.shorter spelled (l ∷ rest) p.1 p.0 is in
          again (all ++ d ∷ []) p.1 (omega (arith, few, less)) (programs.goes_on spelled text ts lexemes all (l ∷ rest) p.1 d so_far is refl)

  parsed_by : (deep : Option ℕ) → too_deep (kinds_of ts) ≡ deep → Read → There (IsParsed text ts)
  parsed_by (Some n) is read = (Err (refusal.TooDeep n), is)
  parsed_by None is (inl tree) = (Ok tree.0, (is, tree.1))
  parsed_by None is (inr fault) = (Err (refusal.NoTree fault.0), (is, fault.1))

  pub parsed_there : There (IsParsed text ts)
  parsed_there =
      parsed_by (too_deep (kinds_of ts)) refl
      (read_from (length lexemes) [] lexemes (omega arith) (record { written = refl; spelled = refl; lines = tt }))

-- ---- the core

module _ (decides : DecidesPrograms) (tree : Tree) where
  refused_by : (decl line : ℕ) (limit : Option What) → IsRefused tree decl line limit → There (IsElaborated tree)
  refused_by decl line None is = (Err (refusal.NoRule decl line), is)
  refused_by decl line (Some what) is = (Err (refusal.PassesLimit what decl line), is)

  elaborated_by : (r : Result Definitions Refusal) → found declaration 1 start tree.decls ≡ r → There (IsElaborated tree)
  elaborated_by (Ok m) is = (Ok (typed.parts_of m), (decides tree).on_ok m is)
  elaborated_by (Err r) is = refused_by r.decl r.line r.limit ((decides tree).on_err r is)

  pub elaborated_there : There (IsElaborated tree)
  elaborated_there = elaborated_by (found declaration 1 start tree.decls) refl

-- ---- files in JSON

module _ (text : List ℕ) where
  abbrev pub HasData : Type 0
  HasData = ((d : Data) × Reads text d) ⊎ ((d : Data) → ¬ (Reads text d))

  no_data : {d : Data} → read text ≡ None → read text ≡ Some d → ⊥
  no_data none some = let both : ◌≡◌ {A = Option Data} None (Some _) = sym none ∙ some in absurd (cc)

  data_by : (b : Bool) → is_utf8 text ≡ b → (o : Option Data) → read text ≡ o → HasData
  data_by false bad o is = inr (λ d reads. absurd (true≢false (sym (is_utf8-from_IsUtf8 text reads.0) ∙ bad)))
  data_by true good None is = inr (λ d reads. no_data is reads.1)
  data_by true good (Some d) is = inl (d, (IsUtf8-from_is_utf8 text good, is))

  data_there : HasData
  data_there = data_by (is_utf8 text) refl (read text) refl

  limits_by : (d : Data) → Reads text d → (r : Reading Limits) → limits_read d ≡ r → There (IsLimits text)
  limits_by d reads (Ok limits) is = (Ok limits, (d, reads, is))
  limits_by d reads (Err fault) is = (Err (refusal.LimitsKey fault.0), (fault.1, (d, reads, is)))

  limits_of : HasData → There (IsLimits text)
  limits_of (inl d) = limits_by d.0 d.1 (limits_read d.0) refl
  limits_of (inr none) = (Err refusal.LimitsNotJson, none)

  pub limits_there : There (IsLimits text)
  limits_there = limits_of data_there

  scenario_by : (core : CoreParts) (d : Data) → Reads text d → (r : Reading Scene) → scene_read core d ≡ r → There (IsScenario core text)
  scenario_by core d reads (Ok scene) is = (Ok scene, (d, reads, is))
  scenario_by core d reads (Err fault) is = (Err (refusal.SceneKey fault.0 fault.1), (d, reads, is))

  scenario_of : (core : CoreParts) → HasData → There (IsScenario core text)
  scenario_of core (inl d) = scenario_by core d.0 d.1 (scene_read core d.0) refl
  scenario_of core (inr none) = (Err refusal.SceneNotJson, none)

  pub scenario_there : (core : CoreParts) → There (IsScenario core text)
  scenario_there core = scenario_of core data_there

  plan_by : (nodes : ℕ) (d : Data) → Reads text d → (r : OrKey (List (ℕ × ℕ))) → plan_read nodes d ≡ r → There (IsPlan text nodes)
  plan_by nodes d reads (Ok pairs) is = (Ok (record { pairs = pairs }), (d, reads, is))
  plan_by nodes d reads (Err (key.File, place)) is = (Err (refusal.Placement placement.File), (place, (d, reads, is)))
  plan_by nodes d reads (Err (key.Other, place)) is = (Err (refusal.Placement placement.Other), (place, (d, reads, is)))
  plan_by nodes d reads (Err (key.Nodes, None)) is = (Err (refusal.Placement placement.Nodes), (d, reads, is))
  plan_by nodes d reads (Err (key.Nodes, Some i)) is = (Err (refusal.Placement (placement.Item i)), (d, reads, is))

  plan_of : (nodes : ℕ) → HasData → There (IsPlan text nodes)
  plan_of nodes (inl d) = plan_by nodes d.0 d.1 (plan_read nodes d.0) refl
  plan_of nodes (inr none) = (Err (refusal.Placement placement.NotJson), none)

  pub plan_there : (nodes : ℕ) → There (IsPlan text nodes)
  plan_there nodes = plan_of nodes data_there
