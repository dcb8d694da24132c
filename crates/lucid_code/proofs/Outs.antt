-- The outs of valid code: at most 8, each with at most 8 numbers.
use Rattle.std.proofs.Common.{◌≡◌, ◌≢◌, ℕ, ◌+◌, ◌-◌, ◌<◌, ◌≤◌, List, [], ◌∷◌, ◌++◌, Bool, true, false, ◌⊎◌, Some, inl, inr, if◌then◌else◌, length, nat_eq, nat_lt, nat_le, refl, sym, ap, subst, ◌∙◌, ⊎_elim, arith, append_assoc, true≢false}
use Rattle.std.specs.Prelude.{⊤}
use Rattle.std.proofs.lemmas.Bool.{and_parts, eqb-true, leb-true, ltb-true, lt-ltb, cases_lt}
use Rattle.std.proofs.lemmas.List.{length-map}
use Rattle.lucid_base.specs.declared.event.Event.{Event}
use Rattle.lucid_base.specs.declared.event.Out.{Out}
use Rattle.lucid_base.specs.declared.event.Out.TheVariants as out
use Rattle.lucid_code.specs.declared.op.Act.{Act}
use Rattle.lucid_code.specs.declared.op.Act.TheVariants as act
use Rattle.lucid_code.specs.declared.op.Op.{Op}
use Rattle.lucid_code.specs.Guards.{Fields, all_hold}
use Rattle.lucid_code.specs.Laws.{numbers_of}
use Rattle.lucid_code.specs.Parts.{CodeParts}
use Rattle.lucid_code.specs.Run.{Machine, begun, value, values, put_out, sent, run_op, run}
use Rattle.lucid_code.specs.Uses.{slot_of}
use Rattle.lucid_code.specs.Valid.{IsValid, act_keeps_limits}
use Rattle.lucid_code.proofs.Acting.{Outs, acts, rests, contradict_never}
use Rattle.lucid_code.proofs.Facts.{Pair, Facts, code_facts, sound_each}
use Rattle.lucid_code.proofs.Fresh.{blind_alike}
use Rattle.lucid_code.proofs.Members.{In, Pairwise, Split, pairs_split, in_left, in_right}

abbrev pub Rising : Outs → Type 0
Rising [] = ⊤
Rising (p ∷ ps) = ((q : ℕ × Out) → In q ps → p.0 < q.0) × Rising ps

in_put : (s : ℕ) (v : Out) (ps : Outs) (q : ℕ × Out) → In q (put_out s v ps) → (q ≡ (s, v)) ⊎ In q ps
in_put s v [] q i = i
in_put s v (p ∷ ps) q i = by (in_put s v ps q) (nat_lt s p.0) (nat_eq s p.0) i
  where
    by : (In q (put_out s v ps) → (q ≡ (s, v)) ⊎ In q ps) → (b c : Bool) → In q (if b then (s, v) ∷ (p ∷ ps) else if c then (s, v) ∷ ps else p ∷ put_out s v ps) → (q ≡ (s, v)) ⊎ In q (p ∷ ps)
    by rest true c j = j
    by rest false true (inl e) = inl e
    by rest false true (inr j) = inr (inr j)
    by rest false false (inl e) = inr (inl e)
    by rest false false (inr j) = ⊎_elim (λ e. inl e) (λ k. inr (inr k)) (rest j)

rising_put : (s : ℕ) (v : Out) (ps : Outs) → Rising ps → ((q : ℕ × Out) → In q ps → q.0 ≢ s) → Rising (put_out s v ps)
rising_put s v [] r n = ((λ q i. absurd i), tt)
rising_put s v (p ∷ ps) r n = by (rising_put s v ps r.1 (λ q i. n q (inr i))) (nat_lt s p.0) (nat_eq s p.0) refl refl
  where
    by : Rising (put_out s v ps) → (b c : Bool) → nat_lt s p.0 ≡ b → nat_eq s p.0 ≡ c → Rising (if b then (s, v) ∷ (p ∷ ps) else if c then (s, v) ∷ ps else p ∷ put_out s v ps)
    by rest true c e f =
        let first : s < p.0 = ltb-true s p.0 e in
        ((λ q i. ⊎_elim (λ z. subst (λ (y : ℕ × Out). s < y.0) (sym z) first) (λ j. let l = r.0 q j in omega (arith, first, l)) i), r)
    by rest false true e f = absurd (n p (inl refl) (sym (eqb-true s p.0 f)))
    by rest false false e f =
        let ge : p.0 ≤ s = not_less e in
        let lt : p.0 < s = let d = n p (inl refl) in strict p.0 s ge d in
        ((λ q i. ⊎_elim (λ z. subst (λ (y : ℕ × Out). p.0 < y.0) (sym z) lt) (λ j. r.0 q j) (in_put s v ps q i)), rest)
      where
        not_less : nat_lt s p.0 ≡ false → p.0 ≤ s
        not_less e = ⊎_elim (λ l. absurd (true≢false (sym (lt-ltb s p.0 l) ∙ e))) (λ g. g) (cases_lt s p.0)

        strict : (a b : ℕ) → a ≤ b → a ≢ b → a < b
        strict a b l d = ⊎_elim (λ l. l) (λ g. absurd (d (omega (arith, l, g)))) (cases_lt a b)

few_rising : (a : ℕ) (ps : Outs) → Rising ps → ((q : ℕ × Out) → In q ps → a ≤ q.0) → ((q : ℕ × Out) → In q ps → q.0 < 8) → a ≤ 8 → length ps ≤ 8 - a
few_rising a [] r low high h = omega arith
few_rising a (p ∷ ps) r low high h =
    let here = low p (inl refl) in
    let there = high p (inl refl) in
    let rest = few_rising (p.0 + 1) ps r.1 (λ q i. let l = r.0 q i in omega (arith, l)) (λ q i. high q (inr i)) (omega (arith, there)) in
    omega (arith, here, there, rest)

-- an act sends nothing out, or one out of its slot
record Sends (a : Act) (m : Machine) : Type 0 where
  pub slot : ℕ
  pub what : Out
  pub has : slot_of a ≡ Some slot
  pub is : sent a m ≡ put_out slot what m.outs
  pub small : slot < 8
  pub few : length (numbers_of what) ≤ 8

sends : (a : Act) (m : Machine) → act_keeps_limits a ≡ true → (sent a m ≡ m.outs) ⊎ Sends a m
sends (act.Gen slot event args delay to) m h = inr (record {
  slot = slot;
  what = out.Gen (record { id = event; args = values m.fields args }) (value m.fields delay) _;
  has = refl;
  is = refl;
  small = ltb-true slot 8 (and_parts (nat_lt slot 8) (nat_le (length args) 8) h).0;
  few = subst (λ n. n ≤ 8) (sym (length-map args (value m.fields))) (leb-true (length args) 8 (and_parts (nat_lt slot 8) (nat_le (length args) 8) h).1);
})
sends (act.Say slot form args) m h = inr (record {
  slot = slot;
  what = out.Say form (values m.fields args);
  has = refl;
  is = refl;
  small = ltb-true slot 8 (and_parts (nat_lt slot 8) (nat_le (length args) 8) h).0;
  few = subst (λ n. n ≤ 8) (sym (length-map args (value m.fields))) (leb-true (length args) 8 (and_parts (nat_lt slot 8) (nat_le (length args) 8) h).1);
})
sends (act.Un op w a k) m h = inl refl
sends (act.Bin op w a b k) m h = inl refl
sends (act.Cmp op w a b k) m h = inl refl
sends (act.Cast a k) m h = inl refl
sends (act.Hash xs k) m h = inl refl
sends (act.Move a k) m h = inl refl
sends (act.Touch array index get get_arg set set_arg to) m h = inl refl

-- who sent something out, whose guard still holds
pub record Sender (front : List Op) (f : Fields) (s : ℕ) : Type 0 where
  pub op : Op
  pub there : In op front
  pub slot : slot_of op.act ≡ Some s
  pub holds : all_hold f op.guard ≡ true

pub record Sent (front : List Op) (m : Machine) : Type 0 where
  pub rising : Rising m.outs
  pub small : (p : ℕ × Out) → In p m.outs → p.0 < 8
  pub few : (p : ℕ × Out) → In p m.outs → length (numbers_of p.1) ≤ 8
  pub senders : (p : ℕ × Out) → In p m.outs → Sender front m.fields p.0

module _ (widths : List ℕ) (ops : List Op) (facts : Facts false ops) (limits : (o : Op) → In o ops → act_keeps_limits o.act ≡ true) where
  sent_on : (front rest : List Op) → ops ≡ front ++ rest → (m : Machine) → Sent front m → Sent (front ++ rest) (run widths rest m)
  sent_on front [] e m s = record { rising = s.rising; small = s.small; few = s.few; senders = λ p i. let x = s.senders p i in record { op = x.op; there = in_left x.op front [] x.there; slot = x.slot; holds = x.holds } }
  sent_on front (o ∷ rest) e m s = subst (λ l. Sent l (run widths rest (run_op widths m o))) (append_assoc front (o ∷ []) rest) (sent_on (front ++ o ∷ []) rest (e ∙ sym (append_assoc front (o ∷ []) rest)) (run_op widths m o) after)
    where
      parts : Split (Pair false) front (o ∷ rest)
      parts = pairs_split (Pair false) front (o ∷ rest) (subst (Pairwise (Pair false)) e facts.pairs)

      there : In o ops
      there = subst (In o) (sym e) (in_right o front (o ∷ rest) (inl refl))

      still : (x : Op) → In x front → all_hold m.fields x.guard ≡ true → all_hold (run_op widths m o).fields x.guard ≡ true
      still x i h = (blind_alike widths m x o (parts.across x i o (inl refl)).blind).guard ∙ h

      kept : (run_op widths m o).outs ≡ m.outs → Sent (front ++ o ∷ []) (run_op widths m o)
      kept same = record {
        rising = subst Rising (sym same) s.rising;
        small = λ p i. s.small p (subst (In p) same i);
        few = λ p i. s.few p (subst (In p) same i);
        senders = λ p i. let x = s.senders p (subst (In p) same i) in record { op = x.op; there = in_left x.op front (o ∷ []) x.there; slot = x.slot; holds = still x.op x.there x.holds };
      }

      more : all_hold m.fields o.guard ≡ true → (d : Sends o.act m) → (run_op widths m o).outs ≡ put_out d.slot d.what m.outs → Sent (front ++ o ∷ []) (run_op widths m o)
      more g d same =
          let new : (p : ℕ × Out) → In p m.outs → p.0 ≢ d.slot
          = λ p i z. let x = s.senders p i in contradict_never m.fields x.op.guard o.guard ((parts.across x.op x.there o (inl refl)).slots d.slot (x.slot ∙ ap Some z) d.has) x.holds g in
          record {
            rising = subst Rising (sym same) (rising_put d.slot d.what m.outs s.rising new);
            small = λ p i. ⊎_elim (λ z. subst (λ (y : ℕ × Out). y.0 < 8) (sym z) d.small) (λ j. s.small p j) (in_put d.slot d.what m.outs p (subst (In p) same i));
            few = λ p i. ⊎_elim (λ z. subst (λ (y : ℕ × Out). length (numbers_of y.1) ≤ 8) (sym z) d.few) (λ j. s.few p j) (in_put d.slot d.what m.outs p (subst (In p) same i));
            senders = λ p i. ⊎_elim
                (λ z. record { op = o; there = in_right o front (o ∷ []) (inl refl); slot = d.has ∙ ap (λ (y : ℕ × Out). Some y.0) (sym z); holds = (blind_alike widths m o o (facts.own o there)).guard ∙ g })
                (λ j. let x = s.senders p j in record { op = x.op; there = in_left x.op front (o ∷ []) x.there; slot = x.slot; holds = still x.op x.there x.holds })
                (in_put d.slot d.what m.outs p (subst (In p) same i));
          }

      by : (b : Bool) → all_hold m.fields o.guard ≡ b → Sent (front ++ o ∷ []) (run_op widths m o)
      by true g = ⊎_elim
          (λ same. kept (ap (λ (n : Machine). n.outs) (acts widths m o g) ∙ same))
          (λ d. more g d (ap (λ (n : Machine). n.outs) (acts widths m o g) ∙ d.is))
          (sends o.act m (limits o there))
      by false g = kept (ap (λ (n : Machine). n.outs) (rests widths m o g))

      after : Sent (front ++ o ∷ []) (run_op widths m o)
      after = by (all_hold m.fields o.guard) refl

  -- From a machine that sent nothing, the code sends at most 8, each with at most 8 numbers.
  pub outs_fit : (m : Machine) → m.outs ≡ [] → (length (run widths ops m).outs ≤ 8) × ((p : ℕ × Out) → In p (run widths ops m).outs → length (numbers_of p.1) ≤ 8)
  outs_fit m none =
      let s = sent_on [] ops refl m (record { rising = subst Rising (sym none) tt; small = λ p i. absurd (subst (In p) none i); few = λ p i. absurd (subst (In p) none i); senders = λ p i. absurd (subst (In p) none i) }) in
      (few_rising 0 (run widths ops m).outs s.rising (λ q i. omega arith) s.small (omega arith), s.few)

-- For all cells, moments, switches and events.
pub code_outs_fit : (code : CodeParts) → IsValid code → (cells : List (List ℕ)) (now me : ℕ) (event : Event) →
    let m = run code.fields code.ops (begun cells now me event) in (length m.outs ≤ 8) × ((p : ℕ × Out) → In p m.outs → length (numbers_of p.1) ≤ 8)
code_outs_fit code valid cells now me event =
    outs_fit code.fields code.ops (code_facts code valid) (λ o i. (and_parts _ _ (and_parts _ _ (sound_each code valid o i)).0).1) (begun cells now me event) refl
