-- Where a run stops that finds no memory at a tick.
use Rattle.std.proofs.Common.{◌≡◌, ◌≢◌, ℕ, ◌+◌, ◌-◌, ◌<◌, List, ◌++◌, Option, None, Some, Result, Err, append_assoc, refl, sym, ◌∙◌, ap, subst, arith}
use Rattle.std.proofs.lemmas.List.{append_cancel_right}
use Rattle.std.proofs.KnownBytes.{Appends-trans}
use Rattle.lucid_io.specs.Puts.{Leaves}
use Rattle.lucid_net_laws.proofs.Texts.{late_ticks}
use Rattle.lucid_net_laws.specs.Runs.{late_text}
use Rattle.lucid_net_spec.proofs.Telling.{pieces-next}
use Rattle.lucid_net_spec.specs.Log.{ticks}
use Rattle.lucid_net_spec.specs.Pieces.{pieces}
use Rattle.lucid_net_spec.specs.Ways.{Network}
use Rattle.lucid_conf.specs.declared.limits.Limits.{Limits}
use Rattle.lucid_tables.specs.Placed.{PlacedParts}
use Rattle.lucid_net.specs.declared.error.NetError.{NetError}
use Rattle.lucid_net.specs.declared.error.NetError.TheVariants as error
use Rattle.lucid_net.specs.Seen.{lag_by, last_text}
use Rattle.lucid_net.specs.Wanting.{SomeMade, Stopped}
use Rattle.lucid_net.specs.Writes.{Writes}
use Rattle.lucid_net.proofs.Running.{log_is, pieces-split, so_far}

-- packets take as many ticks as there are stages
pub lag_is : (limits : Limits) (placed : Option PlacedParts) → placed ≢ None → lag_by limits placed ≡ limits.stages
lag_is limits None some = absurd (some refl)
lag_is limits (Some p) some = refl

-- at want of memory a part of the text was written
pub Writes-cut : {T : Type 0} (written : T → Option (List ℕ)) (faults : T → ℕ) (old new : T) (text : List ℕ) (e : NetError) → ◌≡◌ {A = Result (Unit {0}) NetError} (Err e) (Err error.Memory) → Writes written faults old new text (Err e) →
    (rest : List ℕ) × Leaves written faults old new text rest
Writes-cut written faults old new text e is writes = subst (Writes written faults old new text) is writes

module _ {T : Type 0} (written : T → Option (List ℕ)) (faults : T → ℕ) (old now new : T) (net : Network) (late done : ℕ) (lt : done < net.scene.stop)
    (so : Leaves written faults old now (pieces (late_text net late) 0 net.scene.stop) (pieces (late_text net late) done (net.scene.stop - done))) where
  abbrev left : ℕ
  left = net.scene.stop - done

  -- what was written before the tick is all that the ticks before it wrote
  before_tick : so.before ≡ (ticks net (done - late)).text
  before_tick =
      append_cancel_right so.before (pieces (late_text net late) 0 done) (pieces (late_text net late) done left)
      (sym so.parts ∙ ap (pieces (late_text net late) 0) all ∙ pieces-split (late_text net late) 0 done left
      ∙ ap (λ (k : ℕ). pieces (late_text net late) 0 done ++ pieces (late_text net late) k left) none)
      ∙ late_ticks net late done
    where
      all : net.scene.stop ≡ done + left
      all = omega (arith, lt)

      none : 0 + done ≡ done
      none = omega arith

  -- and then a part of what it writes was written
  pub stops_at : (rest : List ℕ) → late ≡ net.limits.stages → Leaves written faults now new (late_text net late done) rest → SomeMade net done → Stopped written faults old new net
  stops_at rest stages cut made =
      let more = pieces (late_text net late) (done + 1) (net.scene.stop - (done + 1)) in
      let last = last_text net late in
      let piece : pieces (late_text net late) done left ≡ cut.before ++ (rest ++ more) =
      pieces-next (late_text net late) done net.scene.stop lt ∙ ap (λ (l : List ℕ). l ++ more) cut.parts ∙ append_assoc cut.before rest more in
      let ticked : pieces (late_text net late) 0 net.scene.stop ≡ (so.before ++ cut.before) ++ (rest ++ more) =
      so.parts ∙ ap (λ (l : List ℕ). so.before ++ l) piece ∙ sym (append_assoc so.before cut.before (rest ++ more)) in (
        (rest ++ more) ++ last,
        record {
          before = so.before ++ cut.before;
          puts = record {
            bytes = Appends-trans (written old) (written now) (written new) so.before cut.before so.puts.bytes cut.puts.bytes;
            quiet = cut.puts.quiet ∙ so.puts.quiet;
          };
          parts = log_is net late ∙ ap (λ (l : List ℕ). l ++ last) ticked ∙ append_assoc (so.before ++ cut.before) (rest ++ more) last;
        },
        record {
          tick = done;
          within = lt;
          made = made;
          part = cut.before;
          rest = rest;
          before = ap (λ (l : List ℕ). l ++ cut.before) before_tick ∙ ap (λ (k : ℕ). (ticks net (done - k)).text ++ cut.before) stages;
          cut =
              ap (λ (k : ℕ). (ticks net (done + 1 - k)).text) (sym stages) ∙ so_far net late done
              ∙ ap (λ (l : List ℕ). l ++ late_text net late done) (sym before_tick) ∙ ap (λ (l : List ℕ). so.before ++ l) cut.parts
              ∙ sym (append_assoc so.before cut.before rest);
        },
      )
