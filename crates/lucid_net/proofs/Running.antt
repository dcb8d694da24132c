-- The ticks of a run, one after another.
use Rattle.std.proofs.Common.{zero, suc, append_assoc, arith, ◌≡◌, ℕ, ◌+◌, ◌-◌, ◌<◌, ◌≤◌, List, [], ◌∷◌, ◌++◌, append-nil, Option, None, Some, false, length, get_or, drop, refl, sym, ◌∙◌, ap, subst, drop-cons, drop_of_length-le, add-one}
use Rattle.lucid_base.specs.declared.array.ArrayDef.{ArrayDef}
use Rattle.lucid_conf.specs.declared.limits.Limits.{Limits}
use Rattle.lucid_conf.specs.declared.scene.Scene.{Scene}
use Rattle.lucid_core.specs.Parts.{CoreParts}
use Rattle.lucid_io.proofs.Leaves.{Leaves-whole, Leaves-after, Leaves-nothing}
use Rattle.lucid_io.specs.Puts.{Leaves, PutsAll}
use Rattle.lucid_log.specs.Cells.{cells_text}
use Rattle.lucid_net_laws.proofs.Texts.{late_ticks}
use Rattle.lucid_net_laws.specs.Runs.{late_text}
use Rattle.lucid_net_spec.proofs.Telling.{pieces-all, pieces-next, pieces-none, pieces-push}
use Rattle.lucid_net_spec.specs.Log.{all_cells, end_text, log, ticks, whole}
use Rattle.lucid_net_spec.specs.Pieces.{pieces}
use Rattle.lucid_net_spec.specs.Ways.{Network}
use Rattle.lucid_pipe.specs.declared.sight.Sight.{Sight}
use Rattle.lucid_tables.specs.Placed.{PlacedParts}
use Rattle.lucid_net.specs.Seen.{AreSame, Seen, lag, lag_by, last_text, network}
use Rattle.lucid_net.specs.Sights.{sights, sights_to}
use Rattle.lucid_pipe.specs.Sights.{ShowsAll}
use Rattle.lucid_net.specs.Wanting.{SomeMade}

pub same_network : (old new : Seen) → AreSame old new → network new ≡ network old
same_network old new same =
    ap (λ (p : CoreParts). whole p new.scene new.limits) same.parts ∙ ap (λ (s : Scene). whole old.parts s new.limits) same.scene ∙ ap (λ (l : Limits). whole old.parts old.scene l) same.limits

-- ---- sights

pub shows_none : (seen : Option (List Sight)) → ShowsAll seen seen []
shows_none None = tt
shows_none (Some was) = sym (append-nil was)

pub shows_more : (old now new : Option (List Sight)) (xs ys : List Sight) → ShowsAll old now xs → ShowsAll now new ys → ShowsAll old new (xs ++ ys)
shows_more old now None xs ys first next = tt
shows_more old None (Some c) xs ys first next = absurd next
shows_more None (Some b) (Some c) xs ys first next = absurd first
shows_more (Some a) (Some b) (Some c) xs ys first next = next ∙ ap (λ (l : List Sight). l ++ ys) first ∙ append_assoc a xs ys

same_sights : (old new : Seen) (at : ℕ) → AreSame old new → new.at ≡ at → sights (network new) new.placed new.at ≡ sights (network old) old.placed at
same_sights old new at same is =
    ap (λ (net : Network). sights net new.placed new.at) (same_network old new same) ∙ ap (λ (p : Option PlacedParts). sights (network old) p new.at) same.placed ∙ ap (sights (network old) old.placed) is

-- so many ticks are done
pub record Ticking {T : Type 0} (written : T → Option (List ℕ)) (faults : T → ℕ) (old sink : T) (shown now_shown : Option (List Sight)) (begun now : Seen) (done : ℕ) : Type 0 where
  pub early : done ≤ begun.scene.stop
  pub sights : ShowsAll shown now_shown (sights_to (network begun) begun.placed done)
  pub same : AreSame begun now
  pub sound : now.failed ≡ false
  pub at : now.at ≡ done
  pub text : Leaves written faults old sink (pieces (late_text (network begun) (lag begun)) 0 begun.scene.stop) (pieces (late_text (network begun) (lag begun)) done (begun.scene.stop - done))

pub ticking_first : {T : Type 0} (written : T → Option (List ℕ)) (faults : T → ℕ) (sink : T) (shown : Option (List Sight)) (now : Seen) → now.at ≡ 0 → now.failed ≡ false → Ticking written faults sink sink shown shown now now 0
ticking_first written faults sink shown now at sound = record {
  early = omega arith;
  sights = shows_none shown;
  same = record { parts = refl; scene = refl; limits = refl; placed = refl };
  sound = sound;
  at = at;
  text = subst (λ (l : List ℕ). Leaves written faults sink sink (pieces (late_text (network now) (lag now)) 0 now.scene.stop) l) (pieces-all (late_text (network now) (lag now)) now.scene.stop) Leaves-whole;
}

same_lag : (old new : Seen) → AreSame old new → lag new ≡ lag old
same_lag old new same = ap (λ (p : Option PlacedParts). lag_by new.limits p) same.placed ∙ ap (λ (l : Limits). lag_by l old.placed) same.limits

pub tick_piece : (begun now : Seen) (done : ℕ) → AreSame begun now → now.at ≡ done → late_text (network now) (lag now) now.at ≡ late_text (network begun) (lag begun) done
tick_piece begun now done same at =
    ap (λ (net : Network). late_text net (lag now) now.at) (same_network begun now same) ∙ ap (λ (k : ℕ). late_text (network begun) k now.at) (same_lag begun now same)
    ∙ ap (late_text (network begun) (lag begun)) at

pub ticking_next : {T : Type 0} {written : T → Option (List ℕ)} {faults : T → ℕ} {old sink after : T} (shown now_shown new_shown : Option (List Sight)) (begun now new : Seen) (done : ℕ) → done < begun.scene.stop →
    Ticking written faults old sink shown now_shown begun now done → ShowsAll now_shown new_shown (sights (network new) new.placed new.at) → AreSame now new → new.failed ≡ false → new.at ≡ now.at + 1 → PutsAll written faults sink after (late_text (network now) (lag now) now.at) →
    Ticking written faults old after shown new_shown begun new (done + 1)
ticking_next {T} {written} {faults} {old} {sink} {after} shown now_shown new_shown begun now new done lt so more same sound at puts = record {
  early = omega (arith, lt);
  sights = subst (λ (k : ℕ). ShowsAll shown new_shown (sights_to (network begun) begun.placed k)) (sym (add-one done))
      (shows_more shown now_shown new_shown (sights_to (network begun) begun.placed done) (sights (network begun) begun.placed (suc done)) so.sights
      (subst (ShowsAll now_shown new_shown) (same_sights begun new (suc done) (record { parts = same.parts ∙ so.same.parts; scene = same.scene ∙ so.same.scene; limits = same.limits ∙ so.same.limits; placed = same.placed ∙ so.same.placed }) (at ∙ ap (λ (n : ℕ). n + 1) so.at ∙ add-one done)) more));
  same = record { parts = same.parts ∙ so.same.parts; scene = same.scene ∙ so.same.scene; limits = same.limits ∙ so.same.limits; placed = same.placed ∙ so.same.placed };
  sound = sound;
  at = at ∙ ap (λ (n : ℕ). n + 1) so.at;
  text = Leaves-after so.text (subst (PutsAll written faults sink after) (tick_piece begun now done so.same so.at) puts) (pieces-next (late_text (network begun) (lag begun)) done begun.scene.stop lt);
}

pub ticking_all : {T : Type 0} {written : T → Option (List ℕ)} {faults : T → ℕ} {old sink : T} {shown now_shown : Option (List Sight)} (begun now : Seen) (done : ℕ) → begun.scene.stop ≤ done →
    Ticking written faults old sink shown now_shown begun now done → PutsAll written faults old sink (pieces (late_text (network begun) (lag begun)) 0 begun.scene.stop)
ticking_all begun now done le so = Leaves-nothing so.text (pieces-none (late_text (network begun) (lag begun)) done begun.scene.stop le)

pub same_made : (old new : Seen) (done : ℕ) → AreSame old new → new.at ≡ done → SomeMade (network new) new.at → SomeMade (network old) done
same_made old new done same at some = subst (λ (k : ℕ). SomeMade (network old) k) at (subst (λ (net : Network). SomeMade net new.at) (same_network old new same) some)

pub pieces-split : (piece : ℕ → List ℕ) (from a b : ℕ) → pieces piece from (a + b) ≡ pieces piece from a ++ pieces piece (from + a) b
pieces-split piece from zero b = ap (pieces piece from) one ∙ ap (λ (k : ℕ). pieces piece k b) two
  where
    one : zero + b ≡ b
    one = omega arith

    two : from ≡ from + zero
    two = omega arith
pieces-split piece from (suc a) b =
    ap (pieces piece from) one ∙ ap (λ (l : List ℕ). piece from ++ l) (pieces-split piece (from + 1) a b)
    ∙ ap (λ (k : ℕ). piece from ++ (pieces piece (from + 1) a ++ pieces piece k b)) two
    ∙ sym (append_assoc (piece from) (pieces piece (from + 1) a) (pieces piece (from + suc a) b))
  where
    one : suc a + b ≡ suc (a + b)
    one = omega arith

    two : from + 1 + a ≡ from + suc a
    two = omega arith

-- all that is written is the log
pub log_is : (net : Network) (late : ℕ) → log net ≡ pieces (late_text net late) 0 net.scene.stop ++ last_text net late
log_is net late =
    let all : net.scene.stop + late - late ≡ net.scene.stop = omega arith in
    let none : 0 + net.scene.stop ≡ net.scene.stop = omega arith in
    ap (λ (k : ℕ). (ticks net k).text ++ end_text net (ticks net net.scene.stop)) (sym all)
    ∙ ap (λ (l : List ℕ). l ++ end_text net (ticks net net.scene.stop)) (sym (late_ticks net late (net.scene.stop + late)) ∙ pieces-split (late_text net late) 0 net.scene.stop late
    ∙ ap (λ (k : ℕ). pieces (late_text net late) 0 net.scene.stop ++ pieces (late_text net late) k late) none)
    ∙ append_assoc (pieces (late_text net late) 0 net.scene.stop) (pieces (late_text net late) net.scene.stop late) (end_text net (ticks net net.scene.stop))

pub so_far : (net : Network) (late at : ℕ) → (ticks net (at + 1 - late)).text ≡ (ticks net (at - late)).text ++ late_text net late at
so_far net late at =
    sym (late_ticks net late (at + 1)) ∙ ap (pieces (late_text net late) 0) next ∙ pieces-push (late_text net late) 0 at at (omega arith) ∙ ap (λ (l : List ℕ). l ++ late_text net late at) (late_ticks net late at)
  where
    next : at + 1 ≡ suc at
    next = omega arith

-- the cells of one more switch
pub all_cells-next : (parts : CoreParts) (arrays : List ArrayDef) (all : List (List (List ℕ))) (i : ℕ) (cells : List (List ℕ)) → i < length all → cells ≡ get_or all i cells → arrays ≡ parts.arrays →
    all_cells parts i (drop i all) ≡ cells_text i arrays cells ++ all_cells parts (i + 1) (drop (i + 1) all)
all_cells-next parts arrays all i cells lt is same =
    let step : drop i all ≡ get_or all i cells ∷ drop (i + 1) all = rw add-one (drop-cons all i cells lt) in
    ap (all_cells parts i) (step ∙ ap (λ (c : List (List ℕ)). c ∷ drop (i + 1) all) (sym is))
    ∙ ap (λ (declared : List ArrayDef). cells_text i declared cells ++ all_cells parts (i + 1) (drop (i + 1) all)) (sym same)

pub all_cells-none : (parts : CoreParts) (all : List (List (List ℕ))) (i : ℕ) → length all ≤ i → all_cells parts i (drop i all) ≡ []
all_cells-none parts all i le = ap (all_cells parts i) (drop_of_length-le all le)

pub same_last : (old new : Seen) → AreSame old new → last_text (network new) (lag new) ≡ last_text (network old) (lag old)
same_last old new same = ap (λ (net : Network). last_text net (lag new)) (same_network old new same) ∙ ap (last_text (network old)) (same_lag old new same)
