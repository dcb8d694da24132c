-- Lists of parts, read one after another, both ways.
use Rattle.std.proofs.Common.{◌≡◌, ℕ, zero, suc, ◌+◌, ◌<◌, ◌≤◌, Bool, true, List, [], ◌∷◌, ◌++◌, length, map, Option, Some, None, option_map, refl, ap, ◌∙◌, append_assoc, arith}
use Rattle.std.specs.List.{list_all}
use Rattle.lucid_lex.specs.declared.sign.Sign.TheVariants as signs
use Rattle.lucid_parse_spec.specs.Reader as read
use Rattle.lucid_parse_spec.specs.Reader.{Text, Outcome, Parser}
use Rattle.lucid_parse_spec.specs.Spelling as spell
use Rattle.lucid_parse_spec.specs.Spelling.{Spelled}
use Rattle.lucid_parse_spec.proofs.Steps.{Yields, yields_some, bind, after_ok, of_both}

-- the result of the last turns: these items, after those so far
pub record Listed {A : Type 0} (part : A → Spelled) (good : A → Bool) (all : List A) (ts : Text) (y : List A × Text) : Type 0 where
  pub items : List A
  pub whole : y.0 ≡ all ++ items
  pub written : ts ≡ spell.all_of (map part items) y.1
  pub built : list_all good items ≡ true

append_none : {A : Type 0} (xs : List A) → xs ≡ xs ++ []
append_none [] = refl
append_none (x ∷ xs) = ap (λ ys. x ∷ ys) (append_none xs)

no_more : {A : Type 0} (part : A → Spelled) (good : A → Bool) (all : List A) (ts : Text) → Listed part good all ts (all, ts)
no_more part good all ts = record { items = []; whole = append_none all; written = refl; built = refl }

one_more : {A : Type 0} (part : A → Spelled) (good : A → Bool) (all : List A) (ts : Text) (x : A × Text) (y : List A × Text) → (ts ≡ part x.0 x.1) × (good x.0 ≡ true) → Listed part good (all ++ x.0 ∷ []) x.1 y → Listed part good all ts y
one_more part good all ts x y hx rest = record {
  items = x.0 ∷ rest.items;
  whole = rest.whole ∙ append_assoc all (x.0 ∷ []) rest.items;
  written = hx.0 ∙ ap (part x.0) rest.written;
  built = of_both _ _ hx.1 rest.built;
}

-- each turn reads one part
abbrev pub StepReads : {A : Type 0} → (Text → Option (Outcome A)) → (A → Spelled) → (A → Bool) → Type 0
StepReads {A} step part good = (ts : Text) (o : Outcome A) → step ts ≡ Some o → Yields o (λ x. (ts ≡ part x.0 x.1) × (good x.0 ≡ true))

repeat_on_ok : {A : Type 0} (step : Text → Option (Outcome A)) (part : A → Spelled) (good : A → Bool) → StepReads step part good → (next : List A → Parser (List A)) → ((all : List A) (ts : Text) → Yields (next all ts) (Listed part good all ts)) → (all : List A) (ts : Text) (o : Option (Outcome A)) → step ts ≡ o → Yields (read.repeat_on next all ts o) (Listed part good all ts)
repeat_on_ok step part good reads next rest all ts None is = yields_some _ (all, ts) (no_more part good all ts)
repeat_on_ok step part good reads next rest all ts (Some o) is = bind _ _ _ _ (reads ts o is) (λ x hx. record { each = λ y given. one_more part good all ts x y hx ((rest (all ++ x.0 ∷ []) x.1).each y given) })

pub repeat_ok : {A : Type 0} (step : Text → Option (Outcome A)) (part : A → Spelled) (good : A → Bool) → StepReads step part good → (n : ℕ) (all : List A) (ts : Text) → Yields (read.repeat step n all ts) (Listed part good all ts)
unfolding read.repeat
repeat_ok step part good reads zero all ts = yields_some _ (all, ts) (no_more part good all ts)
repeat_ok step part good reads (suc n) all ts = repeat_on_ok step part good reads (read.repeat step n) (repeat_ok step part good reads n) all ts (step ts) refl

-- each of these parts is read in its turn, and the turns stop behind them
abbrev pub StepsOf : {A : Type 0} → (Text → Option (Outcome A)) → (A → Spelled) → List A → Text → Type 0
StepsOf step part [] r = step r ≡ None
StepsOf step part (x ∷ xs) r = (step (part x (spell.all_of (map part xs) r)) ≡ Some (Some (x, spell.all_of (map part xs) r))) × StepsOf step part xs r

pub repeat_again : {A : Type 0} (step : Text → Option (Outcome A)) (part : A → Spelled) (n : ℕ) (all xs : List A) (r : Text) → length xs ≤ n → StepsOf step part xs r → read.repeat step n all (spell.all_of (map part xs) r) ≡ Some (all ++ xs, r)
unfolding read.repeat
repeat_again step part zero all [] r few steps = ap (λ ys. Some (ys, r)) (append_none all)
repeat_again step part zero all (x ∷ xs) r few steps = absurd (omega arith)
repeat_again step part (suc n) all [] r few steps = ap (read.repeat_on (read.repeat step n) all r) steps ∙ ap (λ ys. Some (ys, r)) (append_none all)
repeat_again step part (suc n) all (x ∷ xs) r few steps =
    ap (read.repeat_on (read.repeat step n) all (part x (spell.all_of (map part xs) r))) steps.0
    ∙ repeat_again step part n (all ++ x ∷ []) xs r (omega arith) steps.1
    ∙ ap (λ ys. Some (ys, r)) (append_assoc all (x ∷ []) xs)

-- parts that each have a token are no more than the tokens
pub all_grow : {A : Type 0} (part : A → Spelled) → ((x : A) (r : Text) → length r < length (part x r)) → (xs : List A) (r : Text) → length xs + length r ≤ length (spell.all_of (map part xs) r)
all_grow part grows [] r = omega arith
all_grow part grows (x ∷ xs) r = let rest = all_grow part grows xs r in let first = grows x (spell.all_of (map part xs) r) in omega arith

-- ---- commas

-- a part behind a comma
abbrev pub comma : {A : Type 0} → (A → Spelled) → A → Spelled
comma part x r = spell.sign signs.Comma (part x r)

pub commas : {A : Type 0} (part : A → Spelled) (xs : List A) (r : Text) → spell.all_of (map (comma part) xs) r ≡ spell.each_after_comma (map part xs) r
commas part [] r = refl
commas part (x ∷ xs) r = ap (λ q. spell.sign signs.Comma (part x q)) (commas part xs r)

-- the result of reading an item
abbrev pub ItemReads : {A : Type 0} → Parser A → (A → Spelled) → (A → Bool) → Type 0
ItemReads item part good = (ts : Text) → Yields (item ts) (λ x. (ts ≡ part x.0 x.1) × (good x.0 ≡ true))

comma_step : {A : Type 0} (item : Parser A) (part : A → Spelled) (good : A → Bool) → ItemReads item part good → (ts : Text) (q : Option Text) → Yields q (λ r. ts ≡ spell.sign signs.Comma r) → (o : Outcome A) → option_map item q ≡ Some o → Yields o (λ x. (ts ≡ comma part x.0 x.1) × (good x.0 ≡ true))
comma_step item part good reads ts None comes o is = absurd cc
comma_step item part good reads ts (Some r) comes o is = record {
  each = λ x given.
      let hr = comes.each r refl in
      let same : item r ≡ Some x = cc in
      let hx = (reads r).each x same in
      (hr ∙ ap (spell.sign signs.Comma) hx.0, hx.1);
}

-- one or more parts with commas between them
pub record Separated {A : Type 0} (part : A → Spelled) (good : A → Bool) (ts : Text) (y : List A × Text) : Type 0 where
  pub first : A
  pub more : List A
  pub whole : y.0 ≡ first ∷ more
  pub written : ts ≡ part first (spell.each_after_comma (map part more) y.1)
  pub built : list_all good (first ∷ more) ≡ true

pub separated_ok : {A : Type 0} (item : Parser A) (part : A → Spelled) (good : A → Bool) → ItemReads item part good → (ts : Text) → Yields (read.separated item ts) (Separated part good ts)
unfolding read.separated
separated_ok item part good reads ts = bind _ _ _ _ (reads ts) (λ x hx. record {
  each = λ y given.
      let rest = (repeat_ok (read.after_comma item) (comma part) good (λ us o is. comma_step item part good reads us (read.after signs.Comma us) (after_ok signs.Comma us) o is) (length x.1) (x.0 ∷ []) x.1).each y given in
      record {
        first = x.0;
        more = rest.items;
        whole = rest.whole;
        written = hx.0 ∙ ap (part x.0) (rest.written ∙ commas part rest.items y.1);
        built = of_both _ _ hx.1 rest.built;
      };
})

-- each of these parts is read, with the commas between them
abbrev pub ItemsOf : {A : Type 0} → Parser A → (A → Spelled) → List A → Text → Type 0
ItemsOf item part [] r = Unit {0}
ItemsOf item part (x ∷ xs) r = (item (part x (spell.each_after_comma (map part xs) r)) ≡ Some (x, spell.each_after_comma (map part xs) r)) × ItemsOf item part xs r

comma_steps : {A : Type 0} (item : Parser A) (part : A → Spelled) (xs : List A) (r : Text) → ItemsOf item part xs r → read.after signs.Comma r ≡ None → StepsOf (read.after_comma item) (comma part) xs r
comma_steps item part [] r items stop = ap (option_map item) stop
comma_steps item part (x ∷ xs) r items stop =
    let same = commas part xs r in
    (rw same (ap (λ o. Some o) items.0), comma_steps item part xs r items.1 stop)

commas_grow : {A : Type 0} (part : A → Spelled) → ((x : A) (r : Text) → length r ≤ length (part x r)) → (x : A) (r : Text) → length r < length (comma part x r)
commas_grow part grows x r = let more = grows x r in omega arith

pub separated_again : {A : Type 0} (item : Parser A) (part : A → Spelled) → ((x : A) (r : Text) → length r ≤ length (part x r)) → (x : A) (xs : List A) (r : Text) → ItemsOf item part (x ∷ xs) r → read.after signs.Comma r ≡ None → read.separated item (part x (spell.each_after_comma (map part xs) r)) ≡ Some (x ∷ xs, r)
unfolding read.separated
separated_again item part grows x xs r items stop =
    let few = all_grow (comma part) (commas_grow part grows) xs r in
    let same = commas part xs r in
    let enough : length xs ≤ length (spell.each_after_comma (map part xs) r) = omega (arith, ap length same) in
    rw (items.0, ← same) (repeat_again (read.after_comma item) (comma part) (length (spell.all_of (map (comma part) xs) r)) (x ∷ []) xs r (omega (arith, ap length same)) (comma_steps item part xs r items.1 stop))
