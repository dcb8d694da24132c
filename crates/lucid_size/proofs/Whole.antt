-- The whole expansion is read as the definition says.
use Rattle.std.proofs.Common.{◌≡◌, ℕ, zero, suc, ◌+◌, ◌-◌, ◌<◌, ◌≤◌, ◌^◌, List, [], ◌∷◌, ◌++◌, length, get_or, take, drop, Some, None, refl, sym, ◌∙◌, ap, subst, arith, append_assoc}
use Rattle.std.specs.Prelude.{slice_range, slice_get, codes, map}
use Rattle.std.specs.List.{flat_map}
use Rattle.std.proofs.lemmas.Grind.{flat_map-append}
use Rattle.std.proofs.lemmas.List.{take_rest}
use Rattle.std.proofs.lemmas.Option.{slice_get-get_or, slice_get_past, slice_get_within}
use Rattle.lucid_lex.specs.declared.token.Kind.TheVariants as kinds
use Rattle.lucid_lex.specs.declared.token.Token.{Token}
use Rattle.lucid_lex.specs.declared.word.Word.TheVariants as words
use Rattle.lucid_lex.specs.Piece.{IsToken, Piece}
use Rattle.lucid_lex.specs.Reading.{joined, bytes_of}
use Rattle.lucid_size.specs.declared.template.Template.{Template}
use Rattle.lucid_size.specs.declared.step.Form.TheVariants as forms
use Rattle.lucid_size.specs.Pieces.{gap, pieces_of, step_pieces}
use Rattle.lucid_size.specs.Parts.{body_steps, bytes_at, end_before, end_of, gap_before, named, start_of, steps_between}
use Rattle.lucid_size.specs.Expansion.{instance, instances, written_from}
use Rattle.lucid_size.specs.Steps.{Width}
use Rattle.lucid_size.specs.Templates.{behind}
use Rattle.lucid_size.proofs.Seams.{Close}
use Rattle.lucid_size.proofs.Standing.{blank_stands, feed_stands, fun_stands}
use Rattle.lucid_size.proofs.Gaps.{IsGap, AllRun, Led, AllLed}
use Rattle.lucid_size.proofs.Forms.{Behind, LedTo, gap_behind, one_step, steps_run}

-- ---- where tokens stand

abbrev pub end_at : ℕ → ℕ → List Token → ℕ
end_at at zero ts = at
end_at at (suc i) [] = at
end_at at (suc i) (t ∷ ts) = end_at t.span.end i ts

end_at-next : (at i : ℕ) (ts : List Token) → i < length ts → end_at at (suc i) ts ≡ end_of (slice_get ts i)
end_at-next at i [] within = absurd (omega arith)
end_at-next at zero (t ∷ ts) within = refl
end_at-next at (suc i) (t ∷ ts) within = end_at-next t.span.end i ts (omega arith)

pub end_before-is : (i : ℕ) (ts : List Token) → i ≤ length ts → end_at 0 i ts ≡ end_before i ts
end_before-is zero ts within = refl
end_before-is (suc i) ts within = end_at-next 0 i ts (omega arith)

pub end_behind : (ts : List Token) (i : ℕ) (d : Token) → 0 < i → i ≤ length ts → (get_or ts (i - 1) d).span.end ≡ end_before i ts
end_behind ts zero d some within = absurd (omega arith)
end_behind ts (suc i) d some within =
    let e : suc i - 1 ≡ i = omega arith in
    ap (λ k. (get_or ts k d).span.end) e ∙ sym (ap end_of (slice_get-get_or ts i d (omega arith)))

led_take : (text : List ℕ) (at : ℕ) (ts : List Token) (k : ℕ) → AllLed text at ts → k ≤ length ts → LedTo text at (take k ts) (end_at at k ts)
led_take text at ts zero led within = refl
led_take text at [] (suc k) led within = absurd (omega arith)
led_take text at (t ∷ ts) (suc k) led within = (led.0, led_take text t.span.end ts k led.1 (omega arith))

pub led_drop : (text : List ℕ) (at : ℕ) (ts : List Token) (i : ℕ) → AllLed text at ts → i ≤ length ts → AllLed text (end_at at i ts) (drop i ts)
led_drop text at ts zero led within = led
led_drop text at [] (suc i) led within = absurd (omega arith)
led_drop text at (t ∷ ts) (suc i) led within = led_drop text t.span.end ts i led.1 (omega arith)

end_at-drop : (at i k : ℕ) (ts : List Token) → i ≤ length ts → end_at (end_at at i ts) k (drop i ts) ≡ end_at at (i + k) ts
end_at-drop at zero k ts within = ap (λ n. end_at at n ts) (let e : k ≡ zero + k = omega arith in e)
end_at-drop at (suc i) k [] within = absurd (omega arith)
end_at-drop at (suc i) k (t ∷ ts) within = end_at-drop t.span.end i k ts (omega arith) ∙ ap (λ n. end_at at n (t ∷ ts)) (let e : suc (i + k) ≡ suc i + k = omega arith in e)

length_drop : (ts : List Token) (i : ℕ) → length (drop i ts) ≡ length ts - i
length_drop ts zero = omega arith
length_drop [] (suc i) = omega arith
length_drop (t ∷ ts) (suc i) = omega (arith, length_drop ts i)

pub led_slice : (text : List ℕ) (ts : List Token) (i j : ℕ) → AllLed text 0 ts → i ≤ j → j ≤ length ts → LedTo text (end_before i ts) (slice_range ts i j) (end_before j ts)
led_slice text ts i j led order within =
    let there = led_drop text 0 ts i led (omega arith) in
    let part = led_take text (end_at 0 i ts) (drop i ts) (j - i) there (omega (arith, length_drop ts i)) in
    let whole : i + (j - i) ≡ j = omega arith in
    let end : end_at (end_at 0 i ts) (j - i) (drop i ts) ≡ end_before j ts = end_at-drop 0 i (j - i) ts (omega arith) ∙ ap (λ n. end_at 0 n ts) whole ∙ end_before-is j ts within in
    subst (λ a. LedTo text a (slice_range ts i j) (end_before j ts)) (end_before-is i ts (omega arith)) (subst (LedTo text (end_at 0 i ts) (slice_range ts i j)) end part)

-- the token of a number
pub slice_one : (ts : List Token) (i : ℕ) (t : Token) → slice_get ts i ≡ Some t → take 1 (drop i ts) ≡ t ∷ []
slice_one [] i t h = absurd (cc)
slice_one (u ∷ ts) zero t h = let same : u ≡ t = cc in ap (λ z. z ∷ []) same
slice_one (u ∷ ts) (suc i) t h = slice_one ts i t h

pub led_one : (text : List ℕ) (ts : List Token) (i : ℕ) (t : Token) → AllLed text 0 ts → slice_get ts i ≡ Some t → Led text (end_before i ts) t
led_one text ts i t led is =
    let within : i < length ts = slice_get_within ts i t is in
    let one : i + 1 - i ≡ 1 = omega arith in
    let slice : slice_range ts i (i + 1) ≡ t ∷ [] = ap (λ n. take n (drop i ts)) one ∙ slice_one ts i t is in
    (subst (λ us. LedTo text (end_before i ts) us (end_before (i + 1) ts)) slice (led_slice text ts i (i + 1) led (omega arith) (omega arith))).0

-- ---- where templates stand

pub record IsPlaced (ts : List Token) (x : Template) : Type 0 where
  pub first : Token
  pub first_is : slice_get ts x.first ≡ Some first
  pub first_kind : first.kind ≡ kinds.Word words.Fun
  pub name : Token
  pub name_is : slice_get ts x.name ≡ Some name
  pub name_kind : name.kind ≡ kinds.Name
  pub before : x.first + 4 ≤ x.name
  pub order : x.name < x.end
  pub within : x.end ≤ length ts

abbrev pub Placed : List Token → ℕ → List Template → Type 0
Placed ts i [] = i ≤ length ts
Placed ts i (x ∷ xs) = (i ≤ x.first) × IsPlaced ts x × Placed ts x.end xs

-- each is below 2 ^ 64
abbrev pub AllSmall : List ℕ → Type 0
AllSmall [] = Unit {0}
AllSmall (n ∷ ns) = (n < 2 ^ 64) × AllSmall ns

-- ---- a template's instances

module _ (text : List ℕ) (ts : List Token) (m : ℕ) (names : List (List ℕ)) (led : AllLed text 0 ts) where
  between_run : (width : Width) (n i j : ℕ) (tail : List Piece) → n < 2 ^ 64 → i ≤ j → j ≤ length ts → Behind text (end_before j ts) tail →
      Behind text (end_before i ts) (pieces_of text (suc m) n (steps_between text names width ts i j) ++ tail)
  between_run width n i j tail small order within behind =
      let run = steps_run text names width m n (end_before i ts) 0 (slice_range ts i j) (end_before j ts) tail small (led_slice text ts i j led order within) behind in
      (run.0, run.1 refl)

  named_run : (n i : ℕ) (t : Token) (tail : List Piece) → n < 2 ^ 64 → slice_get ts i ≡ Some t → t.kind ≡ kinds.Name → Behind text (end_before (suc i) ts) tail →
      Behind text (end_before i ts) (pieces_of text (suc m) n (named ts i) ++ tail)
  named_run n i t tail small is kind behind =
      let one : i + 1 - i ≡ 1 = omega arith in
      let slice : slice_range ts i (i + 1) ≡ t ∷ [] = ap (λ n. take n (drop i ts)) one ∙ slice_one ts i t is in
      let end : end_before (suc i) ts ≡ t.span.end = ap end_of is in
      let close = subst (λ e. Close (drop e text) (joined tail [])) end behind.1 in
      let here = one_step text m n (end_before i ts) t tail forms.Named small (led_one text ts i t led is) behind.0 (kind, close) in
      subst (λ us. Behind text (end_before i ts) (pieces_of text (suc m) n (map (λ t. record { from = end_before i ts; token = t; form = forms.Named }) us) ++ tail)) (sym slice) here

  body_run : (x : Template) (n : ℕ) (tail : List Piece) → IsPlaced ts x → n < 2 ^ 64 → Behind text (end_before x.end ts) tail → AllRun (pieces_of text (suc m) n (body_steps text names ts x) ++ tail)
  body_run x n tail placed small behind =
      let width : Width = Some (bytes_at text ts (x.first + 2)) in
      let A = steps_between text names width ts (x.first + 4) x.name in
      let B = named ts x.name in
      let C = steps_between text names width ts (x.name + 1) x.end in
      let f = step_pieces text (suc m) n in
      let next : x.name + 1 ≡ suc x.name = omega arith in
      let c_run : Behind text (end_before (x.name + 1) ts) (pieces_of text (suc m) n C ++ tail) = between_run width n (x.name + 1) x.end tail small (let o = placed.order in omega arith) placed.within behind in
      let b_run : Behind text (end_before x.name ts) (pieces_of text (suc m) n B ++ (pieces_of text (suc m) n C ++ tail)) =
      named_run n x.name placed.name (pieces_of text (suc m) n C ++ tail) small placed.name_is placed.name_kind (subst (λ k. Behind text (end_before k ts) (pieces_of text (suc m) n C ++ tail)) next c_run) in
      let a_run : Behind text (end_before (x.first + 4) ts) (pieces_of text (suc m) n A ++ (pieces_of text (suc m) n B ++ (pieces_of text (suc m) n C ++ tail))) =
      between_run width n (x.first + 4) x.name (pieces_of text (suc m) n B ++ (pieces_of text (suc m) n C ++ tail)) small placed.before (let o = placed.order in let w = placed.within in omega arith) b_run in
      let same : pieces_of text (suc m) n (A ++ (B ++ C)) ++ tail ≡ pieces_of text (suc m) n A ++ (pieces_of text (suc m) n B ++ (pieces_of text (suc m) n C ++ tail)) =
      ap (λ l. l ++ tail) (flat_map-append f A (B ++ C) ∙ ap (λ l. flat_map f A ++ l) (flat_map-append f B C))
      ∙ append_assoc (flat_map f A) (flat_map f B ++ flat_map f C) tail
      ∙ ap (λ l. flat_map f A ++ l) (append_assoc (flat_map f B) (flat_map f C) tail) in
      subst AllRun (sym same) a_run.0

  pub instance_run : (x : Template) (n : ℕ) (tail : List Piece) → IsPlaced ts x → n < 2 ^ 64 → Behind text (end_before x.end ts) tail → AllRun (instance text (suc m) (body_steps text names ts x) n ++ tail)
  instance_run x n tail placed small behind =
      let body = body_run x n tail placed small behind in
      let rest = joined (pieces_of text (suc m) n (body_steps text names ts x) ++ tail) [] in
      (fun_stands rest, (record { gaps = record { bytes = codes " "; kind = None } ∷ []; are_gaps = (refl, tt); whole = refl; stand = (blank_stands rest, tt) }, body))

  fun_close : (x : Template) (p : IsPlaced ts x) (rest : List ℕ) → Close (bytes_of text p.first ++ drop p.first.span.end text) (102 ∷ 117 ∷ rest)
  fun_close x p rest =
      let at_first = led_one text ts x.first p.first led p.first_is in
      let bytes : bytes_of text p.first ≡ codes "fun" = subst (IsToken (bytes_of text p.first)) p.first_kind at_first.token.is_piece in
      subst (λ l. Close (l ++ drop p.first.span.end text) (102 ∷ 117 ∷ rest)) (sym bytes) (Close.Same (102 ∷ 117 ∷ 110 ∷ drop p.first.span.end text) (102 ∷ 117 ∷ rest) refl)

  feed_run : (ps : List Piece) → AllRun ps → AllRun (gap (codes "\n") ∷ ps)
  feed_run ps runs = (record { gaps = record { bytes = codes "\n"; kind = None } ∷ []; are_gaps = (refl, tt); whole = refl; stand = (feed_stands (joined ps []), tt) }, runs)

  -- what stands in a template's place is read, and what is close to `fun` may stand before it
  instances_run : (x : Template) (p : IsPlaced ts x) (ns : List ℕ) (tail : List Piece) → AllSmall ns → Behind text (end_before x.end ts) tail →
      AllRun (instances text (suc m) (body_steps text names ts x) ns ++ tail)
      × Close (bytes_of text p.first ++ drop p.first.span.end text) (joined (instances text (suc m) (body_steps text names ts x) ns ++ tail) [])
  instances_run x p [] tail small behind = (feed_run tail behind.0, Close.Feed (bytes_of text p.first ++ drop p.first.span.end text) (joined tail []))
  instances_run x p (n ∷ []) tail small behind = (instance_run x n tail p small.0 behind, fun_close x p _)
  instances_run x p (n ∷ k ∷ ns) tail small behind =
      let later = instances_run x p (k ∷ ns) tail small.1 behind in
      let rest = gap (codes "\n") ∷ (instances text (suc m) (body_steps text names ts x) (k ∷ ns) ++ tail) in
      let there : Behind text (end_before x.end ts) rest = (feed_run (instances text (suc m) (body_steps text names ts x) (k ∷ ns) ++ tail) later.0, Close.Feed (drop (end_before x.end ts) text) (joined (instances text (suc m) (body_steps text names ts x) (k ∷ ns) ++ tail) [])) in
      let here = instance_run x n rest p small.0 there in
      let same = append_assoc (instance text (suc m) (body_steps text names ts x) n) (gap (codes "\n") ∷ instances text (suc m) (body_steps text names ts x) (k ∷ ns)) tail in
      (subst AllRun (sym same) here, subst (λ ps. Close (bytes_of text p.first ++ drop p.first.span.end text) (joined ps [])) (sym same) (fun_close x p _))

  -- the blanks and comments at the end
  end_run : Behind text (end_before (length ts) ts) (gap_before text ts (length ts) ∷ [])
  end_run =
      let last = led_drop text 0 ts (length ts) led (omega arith) in
      let none : drop (length ts) ts ≡ [] = dropped ts in
      let there : AllLed text (end_at 0 (length ts) ts) [] = subst (AllLed text (end_at 0 (length ts) ts)) none last in
      let at : AllLed text (end_before (length ts) ts) [] = subst (λ a. AllLed text a []) (end_before-is (length ts) ts (omega arith)) there in
      let start : start_of text (slice_get ts (length ts)) ≡ length text = ap (start_of text) (slice_get_past ts (length ts) (omega arith)) in
      let bytes : slice_range text (end_before (length ts) ts) (start_of text (slice_get ts (length ts))) ≡ drop (end_before (length ts) ts) text = ap (slice_range text (end_before (length ts) ts)) start ∙ take_rest text (end_before (length ts) ts) in
      ((subst (λ l. IsGap l []) (sym bytes) at.0, tt), Close.Same (drop (end_before (length ts) ts) text) _ (ap (take 2) (sym (append_none (slice_range text (end_before (length ts) ts) (start_of text (slice_get ts (length ts)))) ∙ bytes))))
    where
      dropped : (us : List Token) → drop (length us) us ≡ []
      dropped [] = refl
      dropped (u ∷ us) = dropped us

      append_none : (l : List ℕ) → l ++ [] ≡ l
      append_none [] = refl
      append_none (x ∷ l) = ap (λ k. x ∷ k) (append_none l)

  pub written_run : (xs : List Template) (i k : ℕ) (widths : ℕ → List ℕ) → Placed ts i xs → ((k : ℕ) → AllSmall (widths k)) → Behind text (end_before i ts) (written_from text ts (suc m) names widths i k xs)
  written_run [] i k widths placed small = between_run None 0 i (length ts) (gap_before text ts (length ts) ∷ []) (omega arith) placed (omega arith) end_run
  written_run (x ∷ xs) i k widths placed small =
      let p = placed.1 in
      let later = written_run xs x.end (k + 1) widths placed.2 small in
      let there = instances_run x p (widths k) (written_from text ts (suc m) names widths x.end (k + 1) xs) (small k) later in
      let ps = instances text (suc m) (body_steps text names ts x) (widths k) ++ written_from text ts (suc m) names widths x.end (k + 1) xs in
      let before : Behind text (end_before x.first ts) (gap (slice_range text (end_before x.first ts) p.first.span.start) ∷ ps) = gap_behind text (end_before x.first ts) p.first ps (led_one text ts x.first p.first led p.first_is) there.0 there.1 in
      let same : gap_before text ts x.first ≡ gap (slice_range text (end_before x.first ts) p.first.span.start) = ap (λ o. gap (slice_range text (end_before x.first ts) (start_of text o))) p.first_is in
      let here : Behind text (end_before x.first ts) (gap_before text ts x.first ∷ ps) = subst (λ g. Behind text (end_before x.first ts) (g ∷ ps)) (sym same) before in
      between_run None 0 i x.first (gap_before text ts x.first ∷ ps) (omega arith) placed.0 (let b = p.before in let o = p.order in let w = p.within in omega arith) here
