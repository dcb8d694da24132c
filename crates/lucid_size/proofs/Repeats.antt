-- One name more.
use Rattle.std.proofs.Common.{◌≡◌, ℕ, ◌+◌, ◌<◌, true, false, List, [], ◌∷◌, ◌++◌, length, get_or, take, drop, Option, None, Some}
use Rattle.std.proofs.Common.{refl, sym, ◌∙◌, ap, arith, append_assoc, if◌then◌else◌}
use Rattle.std.specs.Prelude.{All, bytes_eq, map, option_map, position, slice_range, ◌-◌}
use Rattle.std.specs.Option.{is_some}
use Rattle.std.proofs.lemmas.List.{drop_more}
use Rattle.std.proofs.lemmas.List.Elements.{All-get_or}
use Rattle.std.proofs.lemmas.Option.{slice_get-get_or}
use Rattle.lucid_lex.specs.declared.token.Token.{Token}
use Rattle.lucid_lex.specs.Reading.{bytes_of}
use Rattle.lucid_size.specs.declared.error.SizeError.{SizeError}
use Rattle.lucid_size.specs.declared.error.SizeError.TheVariants as errors
use Rattle.lucid_size.specs.Names.{Repeats}
use Rattle.lucid_size.specs.declared.template.Template.{Template}
use Rattle.lucid_size.specs.Parts.{body_steps, bytes_at, bytes_in, end_before, name_of, named, names_of, outside_from, steps_between}
use Rattle.lucid_size.specs.Expansion.{first_repeat}
use Rattle.lucid_size.specs.declared.step.Form.TheVariants as forms
use Rattle.lucid_size.specs.declared.step.Step.{Step}
use Rattle.lucid_size.proofs.Whole.{slice_one}
use Rattle.lucid_size.specs.Places.{IsWhole}

pub none_is : (o : Option ℕ) → is_some o ≡ false → o ≡ None
none_is None h = refl
none_is (Some k) h = absurd (cc)

pub some_is : (o : Option ℕ) (bytes name : List ℕ) → is_some o ≡ true → name ≡ bytes → option_map (λ _. bytes) o ≡ Some name
some_is None bytes name h is = absurd (cc)
some_is (Some k) bytes name h is = ap (λ n. Some n) (sym is)

module _ (text : List ℕ) (ts : List Token) (xs : List Template) (i : ℕ) (d : Template) (t : Token) (names : List (List ℕ)) (name : List ℕ)
    (within : i < length xs) (whole : All (IsWhole ts) xs)
    (is : name ≡ bytes_of text (get_or ts (get_or xs i d).name t)) where
  next_name : names_of text ts (drop i xs) ≡ name ∷ names_of text ts (drop (i + 1) xs)
  next_name =
      let x = get_or xs i d in
      let w = All-get_or (IsWhole ts) xs i d within whole in
      let there : x.name < length ts = let e = w.end in let l = w.within in omega arith in
      let here : name_of text ts x ≡ name = ap (bytes_in text) (slice_get-get_or ts x.name t there) ∙ sym is in
      ap (names_of text ts) (drop_more xs i d within) ∙ ap (λ n. n ∷ names_of text ts (drop (i + 1) xs)) here

  pub repeated : is_some (position (bytes_eq name) names) ≡ true → first_repeat names (names_of text ts (drop i xs)) ≡ Some name
  repeated found = ap (first_repeat names) next_name
      ∙ ap (λ b. if b then Some name else first_repeat (names ++ name ∷ []) (names_of text ts (drop (i + 1) xs))) found

  pub told : (e : SizeError) (o : Option ℕ) → position (bytes_eq name) names ≡ o → Repeats (option_map (λ _. name) o) e →
      Repeats (first_repeat names (names_of text ts (drop i xs))) e
  told (errors.Twice other) None is h = absurd (cc)
  told (errors.Twice other) (Some k) is h = repeated (ap is_some is) ∙ h
  told (errors.Broken n) o is h = h
  told errors.TooBig o is h = h
  told errors.Memory o is h = tt

  pub fresh : is_some (position (bytes_eq name) names) ≡ false →
      first_repeat names (names_of text ts (drop i xs)) ≡ first_repeat (names ++ name ∷ []) (names_of text ts (drop (i + 1) xs))
  fresh none = ap (first_repeat names) next_name
      ∙ ap (λ b. if b then Some name else first_repeat (names ++ name ∷ []) (names_of text ts (drop (i + 1) xs))) none

  pub joins : (names ++ name ∷ []) ++ names_of text ts (drop (i + 1) xs) ≡ names ++ names_of text ts (drop i xs)
  joins = append_assoc names (name ∷ []) (names_of text ts (drop (i + 1) xs)) ∙ ap (λ l. names ++ l) (sym next_name)

  pub turn : (more : List (List ℕ)) → more ≡ names ++ name ∷ [] → is_some (position (bytes_eq name) names) ≡ false →
      (more ++ names_of text ts (drop (i + 1) xs) ≡ names ++ names_of text ts (drop i xs))
      × (first_repeat more (names_of text ts (drop (i + 1) xs)) ≡ first_repeat names (names_of text ts (drop i xs)))
  turn more added none = (
    ap (λ l. l ++ names_of text ts (drop (i + 1) xs)) added
        ∙ joins,
    ap (λ l. first_repeat l (names_of text ts (drop (i + 1) xs))) added ∙ sym (fresh none),
  )

-- ---- a template's body

pub body_is : (text : List ℕ) (names : List (List ℕ)) (ts : List Token) (x : Template) (d e : Token) (w : List ℕ) (from : ℕ)
    (start front middle whole : List Step) →
    IsWhole ts x → w ≡ bytes_of text (get_or ts (x.first + 2) d) →
    front ≡ start ++ steps_between text names (Some w) ts (x.first + 4) x.name →
    from ≡ end_before x.name ts → middle ≡ front ++ record { from = from; token = get_or ts x.name e; form = forms.Named } ∷ [] →
    whole ≡ middle ++ steps_between text names (Some w) ts (x.name + 1) x.end → whole ≡ start ++ body_steps text names ts x
body_is text names ts x d e w from start front middle whole is_whole w_is front_is from_is middle_is all_is =
    let a = is_whole.name in
    let b = is_whole.end in
    let c = is_whole.within in
    let width : w ≡ bytes_at text ts (x.first + 2) = w_is ∙ ap (bytes_in text) (sym (slice_get-get_or ts (x.first + 2) d (omega arith))) in
    let one : x.name + 1 - x.name ≡ 1 = omega arith in
    let slice : slice_range ts x.name (x.name + 1) ≡ get_or ts x.name e ∷ [] =
    ap (λ n. take n (drop x.name ts)) one ∙ slice_one ts x.name (get_or ts x.name e) (slice_get-get_or ts x.name e (omega arith)) in
    let step : Step = record { from = from; token = get_or ts x.name e; form = forms.Named } in
    let own : step ∷ [] ≡ named ts x.name =
    ap (λ f. record { from = f; token = get_or ts x.name e; form = forms.Named } ∷ []) from_is
    ∙ ap (map (λ t. record { from = end_before x.name ts; token = t; form = forms.Named })) (sym slice) in
    let before = steps_between text names (Some w) ts (x.first + 4) x.name in
    let behind = steps_between text names (Some w) ts (x.name + 1) x.end in
    all_is
    ∙ ap (λ l. l ++ behind) (middle_is ∙ ap (λ l. l ++ step ∷ []) front_is)
    ∙ append_assoc (start ++ before) (step ∷ []) behind
    ∙ append_assoc start before (step ∷ behind)
    ∙ ap (λ l. start ++ (before ++ (l ++ behind))) own
    ∙ ap (λ v. start ++ (steps_between text names (Some v) ts (x.first + 4) x.name
    ++ (named ts x.name ++ steps_between text names (Some v) ts (x.name + 1) x.end))) width

-- ---- one template more

pub outside_turn : (text : List ℕ) (names : List (List ℕ)) (ts : List Token) (from at : ℕ) (xs : List Template) (x : Template)
    (steps more : List Step) →
    at < length xs → x ≡ get_or xs at x → more ≡ steps ++ steps_between text names None ts from x.first →
    more ++ outside_from text names ts x.end (drop (at + 1) xs) ≡ steps ++ outside_from text names ts from (drop at xs)
outside_turn text names ts from at xs x steps more within is added =
    let rest = drop (at + 1) xs in
    let front : drop at xs ≡ x ∷ rest = drop_more xs at x within ∙ ap (λ y. y ∷ rest) (sym is) in
    ap (λ l. l ++ outside_from text names ts x.end rest) added
    ∙ append_assoc steps (steps_between text names None ts from x.first) (outside_from text names ts x.end rest)
    ∙ ap (λ l. steps ++ outside_from text names ts from l) (sym front)

pub bodies_turn : {X Y : Type 0} (f : X → Y) (at : ℕ) (xs : List X) (x : X) (ys more : List Y) (y : Y) →
    at < length xs → x ≡ get_or xs at x → y ≡ f x → more ≡ ys ++ y ∷ [] → more ++ map f (drop (at + 1) xs) ≡ ys ++ map f (drop at xs)
bodies_turn f at xs x ys more y within is y_is added =
    let rest = drop (at + 1) xs in
    let front : drop at xs ≡ x ∷ rest = drop_more xs at x within ∙ ap (λ z. z ∷ rest) (sym is) in
    ap (λ l. l ++ map f rest) added
    ∙ append_assoc ys (y ∷ []) (map f rest)
    ∙ ap (λ z. ys ++ z ∷ map f rest) y_is
    ∙ ap (λ l. ys ++ map f l) (sym front)
