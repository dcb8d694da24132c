-- The cases of a `match`: all arms first, then put together from the back.
use Rattle.std.proofs.Common.{◌≡◌, ℕ, ◌^◌, List, [], ◌∷◌, Option, None, Some, Bool, true, option_map, ◌&&◌, not, map, length, nat_lt, refl, ap, ◌∙◌}
use Rattle.lucid_core.specs.declared.body.Expr.{Expr}
use Rattle.lucid_core.specs.declared.body.Stmt.TheVariants.{Assign, If}
use Rattle.lucid_base.specs.Numbers.{all_differ}
use Rattle.lucid_core.specs.Typing.{◌>>=◌}
use Rattle.lucid_core.specs.Endings.{of_either}
use Rattle.lucid_parse_tree.specs.declared.tree.E.{E}
use Rattle.lucid_parse_tree.specs.declared.tree.S.{S}
use Rattle.lucid_parse_tree.specs.declared.tree.S.TheVariants as form
use Rattle.lucid_types_spec.specs.declared.body.Body.{Body}
use Rattle.lucid_types_spec.specs.declared.scope.ValueType.{ValueType}
use Rattle.lucid_types_spec.specs.Block.{Numbered, before, is_number, one, one_local}
use Rattle.lucid_types_spec.specs.Names.{Names}
use Rattle.lucid_types_laws.specs.Partial.{when}
use Rattle.lucid_types_laws.specs.Lead.{or_32}
use Rattle.lucid_types_laws.specs.Reading.{free, reading}
use Rattle.lucid_types_laws.specs.Statement.{Taking, block, cases, is_empty, last_arm, matched, stays, taking}
use Rattle.lucid_types_laws.proofs.StatementForms.{match_is, match_last_is}
use Rattle.lucid_types_statements.specs.declared.arms.Arm.{Arm}
use Rattle.lucid_types_statements.specs.Arms.{are_cases, value_tested}
use Rattle.lucid_types_statements.specs.Assembly.{chained}
use Rattle.lucid_types_statements.specs.MatchArms.{arms_of, cases_taken}

-- A choice before the rest, an arm before the rest, and all choices before the last arm: each with what is numbered behind it.
abbrev choose : ℕ → ℕ → ℕ → Body → Body × Numbered → Option (Body × Numbered)
choose i w n b d = Some (one (If (is_number i w n) b.steps d.0.steps) (of_either b.ending d.0.ending), d.1)

abbrev with_arm : ℕ → Body → List Arm × Numbered → Option (List Arm × Numbered)
with_arm n b rest = Some (record { number = n; body = b } ∷ rest.0, rest.1)

abbrev pub all_chosen : ℕ → ℕ → List Arm → Body × Numbered → Option (Body × Numbered)
all_chosen i w arms y = Some (chained i w arms y.0, y.1)

abbrev pub then_last : Option (List Taking) → ℕ → ℕ → Option ValueType → Names → List Arm × Numbered → Option (Body × Numbered)
then_last last i w a s x = last_arm last a s x.1 >>= all_chosen i w x.0

-- What the arms give, and then the last one, put together.
abbrev pub joined : Option (List Taking) → ℕ → ℕ → Option ValueType → Names → Option (List Arm × Numbered) → Option (Body × Numbered)
joined last i w a s arms = arms >>= then_last last i w a s

pub cases_joined : (cs : List (ℕ × List Taking)) (last : Option (List Taking)) (i w : ℕ) (a : Option ValueType) (s : Names) (m : Numbered) →
    cases cs last i w a s m ≡ joined last i w a s (arms_of cs w a s m)
cases_joined [] last i w a s m = only (last_arm last a s m)
  where
    only : (o : Option (Body × Numbered)) → o ≡ (o >>= all_chosen i w [])
    only None = refl
    only (Some y) = refl
cases_joined (c ∷ cs) last i w a s m = first (when (nat_lt c.0 (2 ^ w)) (block c.1 a s m)) (λ l. cases_joined cs last i w a s l)
  where
    ended : (b : Body) (arms : List Arm) (o : Option (Body × Numbered)) →
        ((o >>= all_chosen i w arms) >>= choose i w c.0 b) ≡ (o >>= all_chosen i w (record { number = c.0; body = b } ∷ arms))
    ended b arms None = refl
    ended b arms (Some y) = refl

    behind : (b : Body) (arms : Option (List Arm × Numbered)) →
        (joined last i w a s arms >>= choose i w c.0 b) ≡ joined last i w a s (arms >>= with_arm c.0 b)
    behind b None = refl
    behind b (Some x) = ended b x.0 (last_arm last a s x.1)

    first : (o : Option (Body × Numbered)) → ((l : Numbered) → cases cs last i w a s l ≡ joined last i w a s (arms_of cs w a s l)) →
        (o >>= (λ b. cases cs last i w a s b.1 >>= choose i w c.0 b.0))
        ≡ joined last i w a s (o >>= (λ b. arms_of cs w a s b.1 >>= with_arm c.0 b.0))
    first None rest = refl
    first (Some b) rest = ap (λ (r : Option (Body × Numbered)). r >>= choose i w c.0 b.0) (rest b.1) ∙ behind b.0 (arms_of cs w a s b.1)

numbers_stay : (cs : List (ℕ × List S)) → map (λ z. z.0) (cases_taken cs) ≡ map (λ z. z.0) cs
numbers_stay [] = refl
numbers_stay (c ∷ cs) = ap (λ (ns : List ℕ). c.0 ∷ ns) (numbers_stay cs)

there_stay : (cs : List (ℕ × List S)) → is_empty (cases_taken cs) ≡ is_empty (map (λ z. z.0) cs)
there_stay [] = refl
there_stay (c ∷ cs) = refl

tested_is : (x : E) (cs : List (ℕ × List S)) (s : Names) →
    when (not (is_empty (cases_taken cs)) && all_differ (map (λ z. z.0) (cases_taken cs))) (free (reading x) s) ≡ value_tested x (map (λ z. z.0) cs) s
tested_is x cs s =
    ap (λ (b : Bool). when (not b && all_differ (map (λ z. z.0) (cases_taken cs))) (free (reading x) s)) (there_stay cs)
    ∙ ap (λ (ns : List ℕ). when (not (is_empty (map (λ z. z.0) cs)) && all_differ ns) (free (reading x) s)) (numbers_stay cs)

-- The choices of a `match` behind its value.
abbrev pub valued : ℕ → Expr → Body × Numbered → Option (Body × Numbered)
valued i c b = Some (before (Assign i c ∷ []) b.0, b.1)

abbrev pub behind_value : E → List (ℕ × List Taking) → Option (List Taking) → Option ValueType → Names → Numbered → Expr → Option (Body × Numbered)
behind_value x cs last a s m c =
    cases cs last (length m.locals) (or_32 ((reading x).lead s)) a s (one_local (or_32 ((reading x).lead s)) m) >>= valued (length m.locals) c

pub no_value : (x : E) (cs : List (ℕ × List S)) (last : Option (List Taking)) (a : Option ValueType) (s : Names) (m : Numbered) →
    value_tested x (map (λ z. z.0) cs) s ≡ None → matched x (cases_taken cs) last a s m ≡ None
no_value x cs last a s m h = ap (λ (o : Option Expr). o >>= behind_value x (cases_taken cs) last a s m) (tested_is x cs s ∙ h)

-- These are cases, so the value decides.
pub matched_is : (x : E) (cs : List (ℕ × List S)) (last : Option (List Taking)) (a : Option ValueType) (s : Names) (m : Numbered) →
    are_cases (map (λ z. z.0) cs) ≡ true →
    matched x (cases_taken cs) last a s m ≡ (free (reading x) s >>= behind_value x (cases_taken cs) last a s m)
matched_is x cs last a s m h = ap (λ (o : Option Expr). o >>= behind_value x (cases_taken cs) last a s m)
    (tested_is x cs s ∙ ap (λ (b : Bool). when b (free (reading x) s)) h)

-- Whether a last arm is there or not.
pub match_any : (x : E) (cs : List (ℕ × List S)) (last : Option (List S)) (a : Option ValueType) (s : Names) (m : Numbered) →
    taking (form.Match x cs last) a s m ≡ stays s (matched x (cases_taken cs) (option_map (map taking) last) a s m)
match_any x cs None a s m = ap (λ (f : Taking). f a s m) (match_is x cs)
match_any x cs (Some last) a s m = ap (λ (f : Taking). f a s m) (match_last_is x cs last)
