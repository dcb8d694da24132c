-- The outs of a run, sent one after another.
use Rattle.std.proofs.Common.{◌≢◌, zero, suc, Option, None, Some, IsSome, not, is_none, option_map, subst, length-append, ◌≡◌, ℕ, ◌+◌, ◌*◌, ◌<◌, ◌≤◌, ◌^◌, List, [], ◌∷◌, ◌++◌, Bool, true, false, if◌then◌else◌, get_or, drop, length, refl, sym, ◌∙◌, ap, drop-cons, drop_of_length-le, add-one, pow-add, arith}
use Rattle.std.specs.List.{count_by, list_all}
use Rattle.std.specs.Option.{option_to_list}
use Rattle.std.proofs.lemmas.List.Sums.{sum_by-cons}
use Rattle.lucid_base.specs.declared.event.Out.TheVariants.{Gen, Say}
use Rattle.lucid_base.specs.declared.event.Out.{Out}
use Rattle.lucid_net_spec.specs.Log.{losses, made, put_all}
use Rattle.lucid_net_spec.specs.Ways.{Arrival, Network, Run, arrival, departure, is_lost, lost_marks, pending_out, pending_outs}
use Rattle.lucid_queue.specs.Order.{is_before}
use Rattle.lucid_queue.specs.Waiting.{put_in}
use Rattle.lucid_queue.specs.declared.pending.Pending.{Pending}
use Rattle.lucid_net.specs.Kept.{is_kept}
use Rattle.lucid_net.specs.Sent.{makes}

put_all-append : (xs ys ps : List Pending) → put_all (xs ++ ys) ps ≡ put_all ys (put_all xs ps)
put_all-append [] ys ps = refl
put_all-append (x ∷ xs) ys ps = put_all-append xs ys (put_in is_before x ps)

-- the outs before this number are sent
pub record Sends (net : Network) (run : Run) (old queue : List Pending) (lost_count lost_bits index : ℕ) : Type 0 where
  pub waits : put_all (pending_outs net run index (drop index run.outs)) queue ≡ put_all (made net run) old
  pub kept : list_all (is_kept net.parts run.tick run.switch index) queue ≡ true
  pub count : lost_count + count_by (is_lost net run) (drop index run.outs) ≡ losses net run
  pub marks : lost_bits + lost_marks net run index (drop index run.outs) ≡ lost_marks net run 0 run.outs
  pub few : lost_count ≤ index
  pub small : lost_bits < 2 ^ index

one_or_none : (b : Bool) → (if b then 1 else 0) ≤ 1
one_or_none true = omega arith
one_or_none false = omega arith

bit_or_none : (b : Bool) (n : ℕ) → (if b then n else 0) ≤ n
bit_or_none true n = omega arith
bit_or_none false n = omega arith

twice : (i : ℕ) → 2 ^ (i + 1) ≡ 2 ^ i * 2
twice i = pow-add 2 i 1

pub sends_next : (net : Network) (run : Run) (old queue new : List Pending) (n bits n_2 bits_2 index : ℕ) (out : Out) (lost : Bool) → index < length run.outs → out ≡ get_or run.outs index out →
    Sends net run old queue n bits index → new ≡ put_all (option_to_list (pending_out net run index out)) queue → list_all (is_kept net.parts run.tick run.switch (index + 1)) new ≡ true →
    lost ≡ is_lost net run out → n_2 ≡ n + (if lost then 1 else 0) → bits_2 ≡ bits + (if lost then 2 ^ index else 0) → Sends net run old new n_2 bits_2 (index + 1)
sends_next net run old queue new n bits n_2 bits_2 index out lost lt is so put kept loses counted marked =
    let rest : List Out = drop (index + 1) run.outs in
    let step : drop index run.outs ≡ get_or run.outs index out ∷ drop (index + 1) run.outs = rw add-one (drop-cons run.outs index out lt) in
    let cut : drop index run.outs ≡ out ∷ drop (index + 1) run.outs = step ∙ ap (λ (o : Out). o ∷ drop (index + 1) run.outs) (sym is) in
    let first : count_by (is_lost net run) (drop index run.outs) ≡ (if lost then 1 else 0) + count_by (is_lost net run) rest =
    ap (count_by (is_lost net run)) cut ∙ sum_by-cons (λ (o : Out). if is_lost net run o then 1 else 0) out rest ∙ ap (λ (b : Bool). (if b then 1 else 0) + count_by (is_lost net run) rest) (sym loses) in
    let mark : lost_marks net run index (drop index run.outs) ≡ (if lost then 2 ^ index else 0) + lost_marks net run (index + 1) rest =
    ap (lost_marks net run index) cut ∙ ap (λ (b : Bool). (if b then 2 ^ index else 0) + lost_marks net run (index + 1) rest) (sym loses) in
    let one : (if lost then 1 else 0) ≤ 1 = one_or_none lost in
    let bit : (if lost then 2 ^ index else 0) ≤ 2 ^ index = bit_or_none lost (2 ^ index) in
    record {
      waits = ap (put_all (pending_outs net run (index + 1) rest)) put
          ∙ sym (put_all-append (option_to_list (pending_out net run index out)) (pending_outs net run (index + 1) rest) queue)
          ∙ sym (ap (λ (l : List Out). put_all (pending_outs net run index l) queue) cut)
          ∙ so.waits;
      kept = kept;
      count = omega (arith, so.count, first, counted);
      marks = omega (arith, so.marks, mark, marked);
      few = omega (arith, so.few, counted, one);
      small = omega (arith, so.small, marked, bit, twice index);
    }

pub sends_first : (net : Network) (run : Run) (queue : List Pending) → list_all (is_kept net.parts run.tick run.switch 0) queue ≡ true → Sends net run queue queue 0 0 0
sends_first net run queue kept = record { waits = refl; kept = kept; count = omega arith; marks = omega arith; few = omega arith; small = omega arith }

-- all are sent
pub sends_all : (net : Network) (run : Run) (old queue : List Pending) (n bits index : ℕ) → length run.outs ≤ index → Sends net run old queue n bits index →
    (queue ≡ put_all (made net run) old) × (n ≡ losses net run) × (bits ≡ lost_marks net run 0 run.outs)
sends_all net run old queue n bits index le so =
    let none : drop index run.outs ≡ [] = drop_of_length-le run.outs le in
    let count : count_by (is_lost net run) (drop index run.outs) ≡ 0 = ap (count_by (is_lost net run)) none in
    let mark : lost_marks net run index (drop index run.outs) ≡ 0 = ap (lost_marks net run index) none in
    (sym (ap (λ (l : List Out). put_all (pending_outs net run index l) queue) none) ∙ so.waits, omega (arith, so.count, count), omega (arith, so.marks, mark))

-- ---- logged without queueing

pub record Tells (net : Network) (run : Run) (lost_count lost_bits made_count index : ℕ) : Type 0 where
  pub made : made_count + length (pending_outs net run index (drop index run.outs)) ≡ length (made net run)
  pub count : lost_count + count_by (is_lost net run) (drop index run.outs) ≡ losses net run
  pub marks : lost_bits + lost_marks net run index (drop index run.outs) ≡ lost_marks net run 0 run.outs
  pub few : lost_count ≤ index
  pub fewer : made_count ≤ index
  pub small : lost_bits < 2 ^ index

one_made : (net : Network) (run : Run) (index : ℕ) (out : Out) → length (option_to_list (pending_out net run index out)) ≡ (if makes net run out then 1 else 0)
one_made net run index (Gen event delay to) = at (arrival net.scene run.switch (departure net.limits run.tick delay) to)
  where
    at : (a : Option Arrival) → length {A = Pending} (option_to_list (option_map (λ a. record { key = record { ready = a.ready; made = true; tick = run.tick; parent = run.switch; index = index }; switch = a.switch; event = event }) a))
        ≡ (if not (is_none a) then 1 else 0)
    at None = refl
    at (Some a) = refl
one_made net run index (Say form args) = refl

pub tells_next : (net : Network) (run : Run) (n bits m n_2 bits_2 m_2 index : ℕ) (out : Out) (lost made : Bool) → index < length run.outs → out ≡ get_or run.outs index out →
    Tells net run n bits m index → lost ≡ is_lost net run out → made ≡ makes net run out → n_2 ≡ n + (if lost then 1 else 0) → bits_2 ≡ bits + (if lost then 2 ^ index else 0) →
    m_2 ≡ m + (if made then 1 else 0) → Tells net run n_2 bits_2 m_2 (index + 1)
tells_next net run n bits m n_2 bits_2 m_2 index out lost made lt is so loses makes_it counted marked more =
    let rest : List Out = drop (index + 1) run.outs in
    let step : drop index run.outs ≡ get_or run.outs index out ∷ drop (index + 1) run.outs = rw add-one (drop-cons run.outs index out lt) in
    let cut : drop index run.outs ≡ out ∷ drop (index + 1) run.outs = step ∙ ap (λ (o : Out). o ∷ drop (index + 1) run.outs) (sym is) in
    let first : count_by (is_lost net run) (drop index run.outs) ≡ (if lost then 1 else 0) + count_by (is_lost net run) rest =
    ap (count_by (is_lost net run)) cut ∙ sum_by-cons (λ (o : Out). if is_lost net run o then 1 else 0) out rest ∙ ap (λ (b : Bool). (if b then 1 else 0) + count_by (is_lost net run) rest) (sym loses) in
    let mark : lost_marks net run index (drop index run.outs) ≡ (if lost then 2 ^ index else 0) + lost_marks net run (index + 1) rest =
    ap (lost_marks net run index) cut ∙ ap (λ (b : Bool). (if b then 2 ^ index else 0) + lost_marks net run (index + 1) rest) (sym loses) in
    let one : (if lost then 1 else 0) ≤ 1 = one_or_none lost in
    let one_more : (if made then 1 else 0) ≤ 1 = one_or_none made in
    let bit : (if lost then 2 ^ index else 0) ≤ 2 ^ index = bit_or_none lost (2 ^ index) in
    let new : length (option_to_list (pending_out net run index out)) ≡ (if made then 1 else 0) = one_made net run index out ∙ ap (λ (b : Bool). if b then 1 else 0) (sym makes_it) in
    let split : length (pending_outs net run index (drop index run.outs)) ≡ length (option_to_list (pending_out net run index out)) + length (pending_outs net run (index + 1) rest) =
    ap (λ (l : List Out). length (pending_outs net run index l)) cut ∙ length-append (option_to_list (pending_out net run index out)) (pending_outs net run (index + 1) rest) in
    record {
      made = omega (arith, so.made, new, split, more);
      count = omega (arith, so.count, first, counted);
      marks = omega (arith, so.marks, mark, marked);
      few = omega (arith, so.few, counted, one);
      fewer = omega (arith, so.fewer, more, one_more);
      small = omega (arith, so.small, marked, bit, twice index);
    }

pub tells_all : (net : Network) (run : Run) (n bits m index : ℕ) → length run.outs ≤ index → Tells net run n bits m index → (m ≡ length (made net run)) × (n ≡ losses net run) × (bits ≡ lost_marks net run 0 run.outs)
tells_all net run n bits m index le so =
    let none : drop index run.outs ≡ [] = drop_of_length-le run.outs le in
    let new : length (pending_outs net run index (drop index run.outs)) ≡ 0 = ap (λ (l : List Out). length (pending_outs net run index l)) none in
    let count : count_by (is_lost net run) (drop index run.outs) ≡ 0 = ap (count_by (is_lost net run)) none in
    let mark : lost_marks net run index (drop index run.outs) ≡ 0 = ap (lost_marks net run index) none in
    (omega (arith, so.made, new), omega (arith, so.count, count), omega (arith, so.marks, mark))

-- where one out waits, something is made
not_empty : (xs ys : List Pending) → ys ≢ [] → xs ++ ys ≢ []
not_empty [] ys some = some
not_empty (x ∷ xs) ys some = λ e. cc

pub out_made : (net : Network) (run : Run) (from k : ℕ) (outs : List Out) (out : Out) → k < length outs → out ≡ get_or outs k out → IsSome (pending_out net run (from + k) out) → pending_outs net run from outs ≢ []
out_made net run from k [] out lt is some = absurd (omega (arith, lt))
out_made net run from zero (o ∷ outs) out lt is some = at (pending_out net run from o) (subst (λ (x : Out). IsSome (pending_out net run from x)) is (subst (λ (i : ℕ). IsSome (pending_out net run i out)) none some))
  where
    none : from + zero ≡ from
    none = omega arith

    at : (p : Option Pending) → IsSome p → option_to_list p ++ pending_outs net run (from + 1) outs ≢ []
    at None some = cc
    at (Some p) some = λ e. cc
out_made net run from (suc k) (o ∷ outs) out lt is some =
    not_empty (option_to_list (pending_out net run from o)) (pending_outs net run (from + 1) outs)
    (out_made net run (from + 1) k outs out (omega (arith, lt)) is (subst (λ (i : ℕ). IsSome (pending_out net run i out)) next some))
  where
    next : from + suc k ≡ from + 1 + k
    next = omega arith

pub made_some : (net : Network) (run : Run) (k : ℕ) (out : Out) → k < length run.outs → out ≡ get_or run.outs k out → IsSome (pending_out net run k out) → made net run ≢ []
made_some net run k out lt is some = out_made net run 0 k run.outs out lt is (subst (λ (i : ℕ). IsSome (pending_out net run i out)) none some)
  where
    none : k ≡ 0 + k
    none = omega arith
