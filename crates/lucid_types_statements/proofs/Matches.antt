-- What a `match` is taken as, by what its parts gave.
use Rattle.std.proofs.Common.{◌≡◌, ℕ, ◌+◌, ◌^◌, ◌<◌, ◌≤◌, List, [], ◌∷◌, ◌++◌, Bool, true, false, Option, None, Some, Result, Ok, drop, length, get_or, map, nat_lt, option_map, append_assoc, append-nil, refl, sym, ap, subst, ◌∙◌}
use Rattle.std.proofs.Math.ListN.{drop_of_length-le}
use Rattle.lucid_core.specs.declared.body.Expr.{Expr}
use Rattle.lucid_core.specs.declared.body.Stmt.TheVariants.{Assign}
use Rattle.lucid_core.specs.Typing.{◌>>=◌}
use Rattle.lucid_parse_tree.specs.declared.tree.E.{E}
use Rattle.lucid_parse_tree.specs.declared.tree.S.{S}
use Rattle.lucid_parse_tree.specs.declared.tree.S.TheVariants as form
use Rattle.lucid_types_spec.specs.declared.body.Body.{Body}
use Rattle.lucid_types_spec.specs.declared.scope.ValueType.{ValueType}
use Rattle.lucid_types_spec.specs.Block.{Numbered, before, one_local}
use Rattle.lucid_types_spec.specs.Names.{Names}
use Rattle.lucid_types_laws.specs.declared.part.Part.{Part}
use Rattle.lucid_types_laws.specs.declared.part.Part.TheVariants.{Does}
use Rattle.lucid_types_laws.specs.Lead.{or_32}
use Rattle.lucid_types_laws.specs.Partial.{when}
use Rattle.lucid_types_laws.specs.Reading.{free, reading}
use Rattle.lucid_types_laws.specs.Statement.{Taken, Taking, body_of, cases, last_arm, matched, stays, taking}
use Rattle.lucid_types_expressions.specs.declared.fault.Fault.{Fault}
use Rattle.lucid_types_expressions.specs.Gives.{Fails, Gives}
use Rattle.lucid_types_statements.specs.declared.arms.Arm.{Arm}
use Rattle.lucid_types_statements.specs.declared.arms.Tested.{Tested}
use Rattle.lucid_types_statements.specs.Arms.{Begins, value_tested}
use Rattle.lucid_types_statements.specs.Assembly.{chained}
use Rattle.lucid_types_statements.specs.Bodies.{Takes}
use Rattle.lucid_types_statements.specs.MatchArms.{arms_of, cases_taken, with_arms}
use Rattle.lucid_types_statements.proofs.Assembled.{fails_with, first_left, none_under, taken_by, under}
use Rattle.lucid_types_statements.proofs.MatchArms.{all_chosen, behind_value, cases_joined, joined, match_any, matched_is, no_value, valued}

-- ---- an arm more

before_more : (front : List Arm) (x : Arm) (o : Option (List Arm × Numbered)) →
    with_arms (front ++ x ∷ []) o ≡ with_arms front (o >>= (λ rest. Some (x ∷ rest.0, rest.1)))
before_more front x None = refl
before_more front x (Some q) = ap (λ (xs : List Arm). Some (xs, q.1)) (append_assoc front (x ∷ []) q.0)

abbrev arm_first : ℕ → List (ℕ × List Taking) → ℕ → Option ValueType → Names → List Arm → Option (Body × Numbered) → Option (List Arm × Numbered)
arm_first n cs w a s front o = with_arms front (o >>= (λ b. arms_of cs w a s b.1
    >>= (λ rest. Some (record { number = n; body = b.0 } ∷ rest.0, rest.1))))

-- The cases from one on are it and those after it.
from_case : (cs : List (ℕ × List S)) (i : ℕ) (c : ℕ × List S) (front : List Arm) (w : ℕ) (a : Option ValueType) (s : Names) (m : Numbered) →
    i < length cs → c ≡ get_or cs i c →
    with_arms front (arms_of (cases_taken (drop i cs)) w a s m)
    ≡ arm_first c.0 (cases_taken (drop (i + 1) cs)) w a s front (when (nat_lt c.0 (2 ^ w)) (body_of c.1 a s m))
from_case cs i c front w a s m h is = ap (λ (ds : List (ℕ × List S)). with_arms front (arms_of (cases_taken ds) w a s m)) (first_left cs i c h is)

pub next_arm : (cs : List (ℕ × List S)) (i : ℕ) (c : ℕ × List S) (front more : List Arm) (b : Body) (w : ℕ) (a : Option ValueType) (s : Names)
    (m k : Numbered) (all : Option (List Arm × Numbered)) (r : Names) (xs : List S) → i < length cs → c ≡ get_or cs i c →
    with_arms front (arms_of (cases_taken (drop i cs)) w a s m) ≡ all → nat_lt c.0 (2 ^ w) ≡ true → xs ≡ c.1 → body_of xs a s m ≡ Some (b, k) →
    more ≡ front ++ record { number = c.0; body = b } ∷ [] → r ≡ s → with_arms more (arms_of (cases_taken (drop (i + 1) cs)) w a r k) ≡ all
next_arm cs i c front more b w a s m k all r xs h is left fits xs_is of more_is rs =
    ap (λ (z : Names). with_arms more (arms_of (cases_taken (drop (i + 1) cs)) w a z k)) rs
    ∙ ap (λ (xs : List Arm). with_arms xs (arms_of (cases_taken (drop (i + 1) cs)) w a s k)) more_is
    ∙ before_more front (record { number = c.0; body = b }) (arms_of (cases_taken (drop (i + 1) cs)) w a s k)
    ∙ ap (arm_first c.0 (cases_taken (drop (i + 1) cs)) w a s front) (sym (ap (λ (ys : List S). body_of ys a s m) (sym xs_is) ∙ of))
    ∙ ap (λ (t : Bool). arm_first c.0 (cases_taken (drop (i + 1) cs)) w a s front (when t (body_of c.1 a s m))) (sym fits)
    ∙ sym (from_case cs i c front w a s m h is) ∙ left

pub no_arm : (f : Fault) (cs : List (ℕ × List S)) (i : ℕ) (c : ℕ × List S) (front : List Arm) (w : ℕ) (a : Option ValueType) (s : Names)
    (m : Numbered) (all : Option (List Arm × Numbered)) (xs : List S) → i < length cs → c ≡ get_or cs i c →
    with_arms front (arms_of (cases_taken (drop i cs)) w a s m) ≡ all → nat_lt c.0 (2 ^ w) ≡ true → xs ≡ c.1 → Fails f (body_of xs a s m) →
    Fails f all
no_arm f cs i c front w a s m all xs h is left fits xs_is =
    fails_with f (body_of xs a s m) all (λ none. sym left ∙ from_case cs i c front w a s m h is
    ∙ ap (λ (t : Bool). arm_first c.0 (cases_taken (drop (i + 1) cs)) w a s front (when t (body_of c.1 a s m))) fits
    ∙ ap (arm_first c.0 (cases_taken (drop (i + 1) cs)) w a s front) (ap (λ (ys : List S). body_of ys a s m) (sym xs_is) ∙ none))

-- A number that does not fit.
pub no_fit : (cs : List (ℕ × List S)) (i : ℕ) (c : ℕ × List S) (front : List Arm) (w : ℕ) (a : Option ValueType) (s : Names)
    (m : Numbered) (all : Option (List Arm × Numbered)) → i < length cs → c ≡ get_or cs i c →
    with_arms front (arms_of (cases_taken (drop i cs)) w a s m) ≡ all → nat_lt c.0 (2 ^ w) ≡ false → all ≡ None
no_fit cs i c front w a s m all h is left fits = sym left ∙ from_case cs i c front w a s m h is
    ∙ ap (λ (t : Bool). arm_first c.0 (cases_taken (drop (i + 1) cs)) w a s front (when t (body_of c.1 a s m))) fits

pub last_of_arms : (cs : List (ℕ × List S)) (i : ℕ) (front : List Arm) (w : ℕ) (a : Option ValueType) (s : Names) (m : Numbered)
    (all : Option (List Arm × Numbered)) → length cs ≤ i → with_arms front (arms_of (cases_taken (drop i cs)) w a s m) ≡ all →
    all ≡ Some (front, m)
last_of_arms cs i front w a s m all h left =
    sym left ∙ ap (λ (ds : List (ℕ × List S)). with_arms front (arms_of (cases_taken ds) w a s m)) (drop_of_length-le cs h)
    ∙ ap (λ (xs : List Arm). Some (xs, m)) (append-nil front)

-- ---- all arms

-- The choices on the local that was added, behind a value.
moved : (x : E) (cs : List (ℕ × List S)) (last : Option (List Taking)) (a : Option ValueType) (s : Names) (m n : Numbered) (t : Tested) →
    Begins (Ok t) x (map (λ z. z.0) cs) s m n → (c : Expr) →
    behind_value x (cases_taken cs) last a s m c
    ≡ (joined last t.local t.width a s (arms_of (cases_taken cs) t.width a s n) >>= valued t.local c)
moved x cs last a s m n t e c =
    ap (λ (i : ℕ). cases (cases_taken cs) last i (or_32 ((reading x).lead s)) a s (one_local (or_32 ((reading x).lead s)) m) >>= valued i c) (sym e.2)
    ∙ ap (λ (w : ℕ). cases (cases_taken cs) last t.local w a s (one_local w m) >>= valued t.local c) (sym e.1)
    ∙ ap (λ (z : Numbered). cases (cases_taken cs) last t.local t.width a s z >>= valued t.local c) (sym e.3)
    ∙ ap (λ (o : Option (Body × Numbered)). o >>= valued t.local c) (cases_joined (cases_taken cs) last t.local t.width a s n)

fails_at : (f : Fault) (y : S) (x : E) (cs : List (ℕ × List S)) (last : Option (List S)) (a : Option ValueType) (s : Names) (m : Numbered) →
    y ≡ form.Match x cs last → Fails f (stays s (matched x (cases_taken cs) (option_map (map taking) last) a s m)) → Fails f (taking y a s m)
fails_at f y x cs last a s m is =
    subst (λ (o : Option Taken). Fails f o) (sym (ap (λ (z : S). taking z a s m) is ∙ match_any x cs last a s m))

pub begin_fails : (f : Fault) (y : S) (x : E) (cs : List (ℕ × List S)) (last : Option (List S)) (a : Option ValueType) (s : Names) (m : Numbered) →
    y ≡ form.Match x cs last → Fails f (value_tested x (map (λ z. z.0) cs) s) → Fails f (taking y a s m)
begin_fails f y x cs last a s m is fails =
    fails_at f y x cs last a s m is (fails_with f (value_tested x (map (λ z. z.0) cs) s) _
    (λ e. ap (stays s) (no_value x cs (option_map (map taking) last) a s m e)) fails)

no_arms : (x : E) (cs : List (ℕ × List S)) (last : Option (List Taking)) (a : Option ValueType) (s : Names) (m n : Numbered)
    (t : Tested) → Begins (Ok t) x (map (λ z. z.0) cs) s m n → arms_of (cases_taken cs) t.width a s n ≡ None →
    matched x (cases_taken cs) last a s m ≡ None
no_arms x cs last a s m n t e none =
    none_under _ (behind_value x (cases_taken cs) last a s m) (λ c. moved x cs last a s m n t e c
    ∙ ap (λ (r : Option (List Arm × Numbered)). joined last t.local t.width a s r >>= valued t.local c) none)

pub arms_fail : (f : Fault) (y : S) (x : E) (cs : List (ℕ × List S)) (last : Option (List S)) (a : Option ValueType) (s : Names)
    (m n : Numbered) (t : Tested) → y ≡ form.Match x cs last → Begins (Ok t) x (map (λ z. z.0) cs) s m n →
    Fails f (arms_of (cases_taken cs) t.width a s n) → Fails f (taking y a s m)
arms_fail f y x cs last a s m n t is e fails =
    fails_at f y x cs last a s m is (fails_with f (arms_of (cases_taken cs) t.width a s n) _
    (λ none. ap (stays s) (no_arms x cs (option_map (map taking) last) a s m n t e none)) fails)

-- With all arms, the value is put before their choices.
no_last : (x : E) (cs : List (ℕ × List S)) (last : Option (List Taking)) (a : Option ValueType) (s : Names) (m n l : Numbered)
    (t : Tested) (arms : List Arm) → Begins (Ok t) x (map (λ z. z.0) cs) s m n → arms_of (cases_taken cs) t.width a s n ≡ Some (arms, l) →
    last_arm last a s l ≡ None → matched x (cases_taken cs) last a s m ≡ None
no_last x cs last a s m n l t arms e h none =
    none_under _ (behind_value x (cases_taken cs) last a s m) (λ c. moved x cs last a s m n t e c
    ∙ ap (λ (r : Option (List Arm × Numbered)). joined last t.local t.width a s r >>= valued t.local c) h
    ∙ ap (λ (r : Option (Body × Numbered)). (r >>= all_chosen t.local t.width arms) >>= valued t.local c) none)

pub last_fails : (f : Fault) (y : S) (x : E) (cs : List (ℕ × List S)) (last : Option (List S)) (a : Option ValueType) (s r : Names)
    (m n l : Numbered) (t : Tested) (arms : List Arm) → y ≡ form.Match x cs last → Begins (Ok t) x (map (λ z. z.0) cs) s m n →
    arms_of (cases_taken cs) t.width a s n ≡ Some (arms, l) → r ≡ s → Fails f (last_arm (option_map (map taking) last) a r l) →
    Fails f (taking y a s m)
last_fails f y x cs last a s r m n l t arms is e h rs fails =
    fails_at f y x cs last a s m is (fails_with f (last_arm (option_map (map taking) last) a r l) _
    (λ none. ap (stays s) (no_last x cs (option_map (map taking) last) a s m n l t arms e h
    (ap (λ (z : Names). last_arm (option_map (map taking) last) a z l) (sym rs) ∙ none))) fails)

put_behind : (o : Option Expr) (f : Expr → Body) (s : Names) (k : Numbered) →
    (o >>= (λ c. Some (record { part = Does (f c); names = s; numbered = k }))) ≡ stays s (o >>= (λ c. Some (f c, k)))
put_behind None f s k = refl
put_behind (Some c) f s k = refl

given_back : (p : Result Part Fault) (x : E) (cs : List (ℕ × List S)) (last : Option (List Taking)) (a : Option ValueType) (s : Names)
    (m n l k : Numbered) (t : Tested) (arms : List Arm) (b : Body) → Begins (Ok t) x (map (λ z. z.0) cs) s m n →
    arms_of (cases_taken cs) t.width a s n ≡ Some (arms, l) → last_arm last a s l ≡ Some (b, k) →
    Gives p (option_map (λ c. Does (before (Assign t.local c ∷ []) (chained t.local t.width arms b))) (free (reading x) s)) →
    Takes p s k (stays s (matched x (cases_taken cs) last a s m))
given_back p x cs last a s m n l k t arms b e h there g =
    subst (λ (o : Option Taken). Takes p s k o) (put_behind (free (reading x) s) put_before s k ∙ sym (ap (stays s) whole))
    (taken_by p (free (reading x) s) (λ c. Does (put_before c)) s k g)
  where
    put_before : Expr → Body
    put_before c = before (Assign t.local c ∷ []) (chained t.local t.width arms b)

    whole : matched x (cases_taken cs) last a s m
        ≡ (free (reading x) s >>= (λ c. Some (before (Assign t.local c ∷ []) (chained t.local t.width arms b), k)))
    whole = matched_is x cs last a s m e.0 ∙ under (free (reading x) s) _ _ (λ c. moved x cs last a s m n t e c
        ∙ ap (λ (r : Option (List Arm × Numbered)). joined last t.local t.width a s r >>= valued t.local c) h
        ∙ ap (λ (r : Option (Body × Numbered)). (r >>= all_chosen t.local t.width arms) >>= valued t.local c) there)

pub match_done : (p : Result Part Fault) (y : S) (x : E) (cs : List (ℕ × List S)) (last : Option (List S)) (a : Option ValueType)
    (s r q : Names) (m n l k : Numbered) (t : Tested) (arms : List Arm) (b : Body) → y ≡ form.Match x cs last →
    Begins (Ok t) x (map (λ z. z.0) cs) s m n → arms_of (cases_taken cs) t.width a s n ≡ Some (arms, l) → r ≡ s →
    last_arm (option_map (map taking) last) a r l ≡ Some (b, k) → q ≡ r →
    Gives p (option_map (λ c. Does (before (Assign t.local c ∷ []) (chained t.local t.width arms b))) (free (reading x) q)) →
    Takes p q k (taking y a s m)
match_done p y x cs last a s r q m n l k t arms b is e h rs there qr g =
    subst (λ (z : Names). Takes p z k (taking y a s m)) (sym (qr ∙ rs))
    (subst (λ (o : Option Taken). Takes p s k o) (sym (ap (λ (z : S). taking z a s m) is ∙ match_any x cs last a s m))
    (given_back p x cs (option_map (map taking) last) a s m n l k t arms b e h
    (ap (λ (z : Names). last_arm (option_map (map taking) last) a z l) (sym rs) ∙ there)
    (subst (λ (z : Names). Gives p (option_map (λ c. Does (before (Assign t.local c ∷ []) (chained t.local t.width arms b))) (free (reading x) z)))
    (qr ∙ rs) g)))
