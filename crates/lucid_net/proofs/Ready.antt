-- The inputs of a network with pipes, from the invariants of its scenario and its program.
use Rattle.std.proofs.Common.{◌≡◌, ℕ, ◌+◌, ◌-◌, ◌*◌, ◌^◌, ◌<◌, ◌≤◌, List, [], ◌∷◌, length, ◌∙◌, ap, arith}
use Rattle.std.proofs.lemmas.List.Elements.{recursion_from_All}
use Rattle.std.specs.List.{AllByRecursion}
use Rattle.lucid_base.specs.declared.event.Event.{Event}
use Rattle.lucid_code.specs.Inputs.{IsInput}
use Rattle.lucid_conf.specs.Kept.{IsFileEvent, IsLink, IsScene}
use Rattle.lucid_conf.specs.Reading.{IsBetween}
use Rattle.lucid_conf.specs.declared.limits.Limits.{Limits}
use Rattle.lucid_conf.specs.declared.scene.FileEvent.{FileEvent}
use Rattle.lucid_conf.specs.declared.scene.Link.{Link}
use Rattle.lucid_conf.specs.declared.scene.Scene.{Scene}
use Rattle.lucid_core.specs.Laws.{OutsFit}
use Rattle.lucid_core.specs.Parts.{CoreParts}
use Rattle.lucid_net_laws.proofs.Fitting.{all_fit}
use Rattle.lucid_net_laws.specs.Fitting.{FileFits, SendsFit, fits}
use Rattle.lucid_net_laws.specs.Stages.{DoAs}
use Rattle.lucid_net_spec.specs.Log.{whole}
use Rattle.lucid_net_spec.specs.Ways.{Network}
use Rattle.lucid_net_laws.specs.Does.{IsGood, PassDoesAs, TakesAll}
use Rattle.lucid_net_laws.specs.PipeStages.{stages_of}
use Rattle.lucid_normal_spec.specs.Stands.{StandsFor}
use Rattle.lucid_tables.specs.Placed.{PlacedParts}
use Rattle.lucid_net.specs.Pipes.{IsReady}
use Rattle.lucid_net.proofs.Went.{first_long}

links_take : (n : ℕ) (ls : List Link) → AllByRecursion (IsLink n) ls → AllByRecursion (λ l. 1 ≤ l.latency) ls
links_take n [] all = tt
links_take n (l ∷ ls) all = (all.0.latency.0, links_take n ls all.1)

events_fit : (parts : CoreParts) (n : ℕ) (es : List FileEvent) → AllByRecursion (IsFileEvent parts n) es → AllByRecursion (λ e. fits parts e.event) es
events_fit parts n [] all = tt
events_fit parts n (e ∷ es) all = (all.0.fits, events_fit parts n es all.1)

-- few ticks
few_ticks : (stop n most : ℕ) → 1 ≤ n → stop * n ≤ most → stop ≤ most
few_ticks stop n most some few = let whole : 1 + (n - 1) ≡ n = omega (arith, some) in omega (arith, few, more stop (n - 1), ap (λ (m : ℕ). stop * m) whole)
  where
    more : (a b : ℕ) → a * (1 + b) ≡ a + a * b
    more a b = grind arith

pub ready : (parts : CoreParts) (scene : Scene) (limits : Limits) (placed : PlacedParts) → IsScene parts scene → IsBetween 1 32 limits.stages → length placed.stages ≡ limits.stages → OutsFit parts →
    length scene.events ≤ 2 ^ 32 → DoAs (whole parts scene limits) (stages_of placed) (IsGood placed parts) (fits parts) →
    ((switch : ℕ) (event : Event) → switch < 2 ^ 32 → fits parts event → IsInput placed.code switch event) → IsReady (whole parts scene limits) placed
ready parts scene limits placed kept stages long outs few does takes = record {
  sound = record {
    some = omega (arith, stages.0);
    long = first_long placed ∙ long;
    short = omega (arith, short);
    links = links_take scene.switches scene.links (recursion_from_All (IsLink scene.switches) scene.links kept.links);
    does = does;
    fit = all_fit net file sends;
  };
  file = file;
  sends = sends;
  few = λ cells tick switch event. outs.few cells tick switch event;
  takes = takes;
  switches = kept.switches.1;
  ticks = kept.stop;
  events = few;
  short = short;
  stages = stages.1;
}
  where
    net : Network
    net = whole parts scene limits

    short : scene.stop ≤ 131072
    short = few_ticks scene.stop scene.switches 131072 kept.switches.0 kept.stop

    file : FileFits net
    file = events_fit parts scene.switches scene.events (recursion_from_All (IsFileEvent parts scene.switches) scene.events kept.events)

    sends : SendsFit net
    sends = λ cells tick switch event. outs.each cells tick switch event

-- the same for code that represents the program
pub ready_placed : (parts : CoreParts) (scene : Scene) (limits : Limits) (placed : PlacedParts) → IsScene parts scene → IsBetween 1 32 limits.stages → length placed.stages ≡ limits.stages → OutsFit parts →
    length scene.events ≤ 2 ^ 32 → length parts.events ≤ 2 ^ 32 → StandsFor placed.code parts → placed.code.arrays ≡ parts.arrays → PassDoesAs parts placed → TakesAll parts placed → IsReady (whole parts scene limits) placed
ready_placed parts scene limits placed kept stages long outs few many stands arrays does takes =
    let short : scene.stop ≤ 131072 = few_ticks scene.stop scene.switches 131072 kept.switches.0 kept.stop in
    ready parts scene limits placed kept stages long outs few
    (does stands arrays many scene limits (omega (arith, short)) (omega (arith, kept.switches.1)))
    (takes stands many)
