-- Pipes are shown, one after another.
use Rattle.std.proofs.Common.{◌≡◌, ℕ, zero, suc, ◌+◌, ◌<◌, ◌≤◌, List, [], ◌∷◌, ◌++◌, Option, None, Some, Bool, is_some, length, get_or, drop, if◌then◌else◌, refl, sym, ◌∙◌, ap, subst, append_assoc, append-nil, drop-cons, drop_of_length-le, add-one, arith}
use Rattle.std.proofs.lemmas.List.{length-map}
use Rattle.std.proofs.lemmas.List.Sums.{sum_by-cons}
use Rattle.std.specs.List.{count_by}
use Rattle.std.specs.Option.{option_map}
use Rattle.lucid_net_laws.specs.Flying.{one_if}
use Rattle.lucid_net_laws.specs.Runs.{entering}
use Rattle.lucid_net_laws.specs.Stages.{fed, packet_of}
use Rattle.lucid_net_spec.specs.Ways.{Network, Run}
use Rattle.lucid_net_laws.specs.Rows.{first_cells, rows_in, step_of}
use Rattle.lucid_net_laws.specs.PipeStages.{stages_of}
use Rattle.lucid_pipe.specs.Pipe.{PipeParts, empty_pipe, in_flight}
use Rattle.lucid_pipe.specs.Sights.{Shows, ShowsAll, sight_of}
use Rattle.lucid_pipe.specs.declared.sight.Sight.{Sight}
use Rattle.lucid_pipe_laws.specs.Moves.{through}
use Rattle.lucid_pipe_laws.specs.Rows.{Row, Steps, after_first}
use Rattle.lucid_pipe_laws.specs.Stream.{next, picture, ran}
use Rattle.lucid_tables.specs.Placed.{PlacedParts}
use Rattle.lucid_net.specs.Numbered.{FewPipes, Packets, WithinPipes}
use Rattle.lucid_net.specs.Pipes.{piped_of}
use Rattle.lucid_net.specs.Seen.{lag_by}
use Rattle.lucid_net.specs.Sent.{net_of}
use Rattle.lucid_net.specs.Sights.{in_last, shown, shown_from, sight_at, sights, sights_from}
use Rattle.lucid_net.specs.Stands.{IsAt, placed_of}
use Rattle.lucid_net.specs.declared.machines.Machines.TheVariants as machines
use Rattle.lucid_net.specs.declared.machines.Machines.{Machines}
use Rattle.lucid_net.specs.declared.world.World.{World}
use Rattle.lucid_net.proofs.Piping.{pipe_between}
use Rattle.lucid_net.proofs.Running.{shows_more, shows_none}
use Rattle.lucid_net.proofs.Sighting.{sight_between}
use Rattle.lucid_net.proofs.Went.{count_slots}

-- those before this number are shown
pub record Showing (old now : Option (List Sight)) (pipes : List PipeParts) (switch : ℕ) : Type 0 where
  pub done : List Sight
  pub shows : ShowsAll old now done
  pub parts : shown_from 0 pipes ≡ done ++ shown_from switch (drop switch pipes)

pub showing_first : (seen : Option (List Sight)) (pipes : List PipeParts) → Showing seen seen pipes 0
showing_first seen pipes = record { done = []; shows = shows_none seen; parts = refl }

pub showing_next : (old now new : Option (List Sight)) (pipes : List PipeParts) (switch : ℕ) (p : PipeParts) → switch < length pipes → p ≡ get_or pipes switch p → Showing old now pipes switch →
    ShowsAll now new (sight_of switch p ∷ []) → Showing old new pipes (switch + 1)
showing_next old now new pipes switch p lt is so more =
    let step : drop switch pipes ≡ get_or pipes switch p ∷ drop (switch + 1) pipes = rw add-one (drop-cons pipes switch p lt) in
    let cut : drop switch pipes ≡ p ∷ drop (switch + 1) pipes = step ∙ ap (λ (q : PipeParts). q ∷ drop (switch + 1) pipes) (sym is) in
    record {
      done = so.done ++ sight_of switch p ∷ [];
      shows = shows_more old now new so.done (sight_of switch p ∷ []) so.shows more;
      parts = so.parts ∙ ap (λ (l : List PipeParts). so.done ++ shown_from switch l) cut ∙ sym (append_assoc so.done (sight_of switch p ∷ []) (shown_from (switch + 1) (drop (switch + 1) pipes)));
    }

pub showing_all : (old now : Option (List Sight)) (pipes : List PipeParts) (switch : ℕ) → length pipes ≤ switch → Showing old now pipes switch → ShowsAll old now (shown_from 0 pipes)
showing_all old now pipes switch le so =
    let none : drop switch pipes ≡ [] = drop_of_length-le pipes le in
    subst (ShowsAll old now) (sym (so.parts ∙ ap (λ (l : List PipeParts). so.done ++ shown_from switch l) none ∙ append-nil so.done)) so.shows

-- pipes that are seen as the definition says
pipes_are : (net : Network) (placed : PlacedParts) (at i : ℕ) (pipes : List PipeParts) → ((k : ℕ) (d : PipeParts) → k < length pipes → sight_of (i + k) (get_or pipes k d) ≡ sight_at net placed at (i + k)) →
    shown_from i pipes ≡ sights_from net placed at i (length pipes)
pipes_are net placed at i [] are = refl
pipes_are net placed at i (p ∷ pipes) are =
    let none : i + zero ≡ i = omega arith in
    let here : sight_of i p ≡ sight_at net placed at i = subst (λ (j : ℕ). sight_of j p ≡ sight_at net placed at j) none (are zero p (omega arith)) in
    ap (λ (s : Sight). s ∷ shown_from (i + 1) pipes) here
    ∙ ap (λ (l : List Sight). sight_at net placed at i ∷ l) (pipes_are net placed at (i + 1) pipes (λ (k : ℕ) (d : PipeParts) (lt : k < length pipes).
    (let next : i + suc k ≡ i + 1 + k = omega arith in
    subst (λ (j : ℕ). sight_of j (get_or pipes k d) ≡ sight_at net placed at j) next (are (suc k) d (omega (arith, lt))))))

itself : (xs : List PipeParts) (k : ℕ) (d : PipeParts) → k < length xs → get_or xs k d ≡ get_or xs k (get_or xs k d)
itself [] k d lt = absurd (omega (arith, lt))
itself (x ∷ xs) zero d lt = refl
itself (x ∷ xs) (suc k) d lt = itself xs k d (omega (arith, lt))

few_pipes : (world : World) (now : Machines) (at : ℕ) → IsAt (net_of world) at now → world.scene.now.switches ≤ 64 → FewPipes now
few_pipes world (machines.Whole switches) at is few = tt
few_pipes world (machines.Piped pipes) at is few = omega (arith, few, is.piped.flying.long, length-map pipes.pipes.items (λ (q : PipeParts). (rows_in q)))

pub are_few : (world : World) (now : Machines) (at : ℕ) → IsAt (net_of world) at now → world.scene.now.switches ≤ 64 → FewPipes now
are_few world now at is few = few_pipes world now at is few

pub are_within : (world : World) (now : Machines) (at switch : ℕ) → IsAt (net_of world) at now → switch < world.scene.now.switches → WithinPipes now switch
are_within world (machines.Whole switches) at switch is lt = tt
are_within world (machines.Piped pipes) at switch is lt = omega (arith, lt, is.piped.flying.long, length-map pipes.pipes.items (λ (q : PipeParts). (rows_in q)))

pub shown_is : (world : World) (now : Machines) (at : ℕ) → at ≤ world.scene.now.stop → IsAt (net_of world) at now → shown now ≡ sights (net_of world) (placed_of now) at
shown_is world (machines.Whole switches) at within is = refl
shown_is world (machines.Piped pipes) at within is =
    pipes_are net placed at 0 items same ∙ ap (sights_from net placed at 0) long
  where
    net : Network
    net = net_of world

    placed : PlacedParts
    placed = pipes.placed.now

    items : List PipeParts
    items = pipes.pipes.items

    long : length items ≡ net.scene.switches
    long = sym (length-map items (λ (q : PipeParts). (rows_in q))) ∙ is.piped.flying.long

    same : (k : ℕ) (d : PipeParts) → k < length items → sight_of (0 + k) (get_or items k d) ≡ sight_at net placed at (0 + k)
    same k d lt =
        let below : k < net.scene.switches = subst (λ (n : ℕ). k < n) long lt in
        let none : k ≡ 0 + k = omega arith in
        let here = itself items k d lt in
        subst (λ (j : ℕ). sight_of j (get_or items k d) ≡ sight_at net placed at j) none
        (sight_between net placed at k (piped_of pipes) (get_or items k d) is.ready below within is.piped here)

-- ---- how many are in flight

one_through : {C P : Type 0} (f : C → P → C × P) (c : C) (o : Option P) → is_some (through f c o).1 ≡ is_some o
one_through f c None = refl
one_through f c (Some p) = refl

abbrev taken : {C P : Type 0} → Row C P → Bool
taken r = is_some r.slot

one_of : (o : Option Run) (b : Bool) → b ≡ is_some o → (if b then 1 else 0) ≡ one_if o
one_of None b is = ap (λ (x : Bool). if x then 1 else 0) is
one_of (Some r) b is = ap (λ (x : Bool). if x then 1 else 0) is

count_picture : {C P : Type 0} (step : Steps C P) (cs : List C) (run : ℕ → Option P) (of : ℕ → Option Run) (t : ℕ) → ((e : ℕ) → is_some (run e) ≡ is_some (of e)) →
    count_by (λ (r : Row C P). is_some r.slot) (picture step cs run t) ≡ in_last of t (length cs)
count_picture step [] run of t same = refl
count_picture {C} {P} step (c ∷ cs) run of zero same = first ∙ ap (λ (n : ℕ). 0 + n) (count_picture (after_first step) cs (next (step 0) c run) of zero (λ (e : ℕ). one_through (step 0) (ran (step 0) c run e) (run e) ∙ same e)) ∙ none cs
  where
    first : count_by (λ (r : Row C P). is_some r.slot) (picture step (c ∷ cs) run zero) ≡ 0 + count_by (λ (r : Row C P). is_some r.slot) (picture (after_first step) cs (next (step 0) c run) zero)
    first = sum_by-cons (λ (r : Row C P). if is_some r.slot then 1 else 0) (record { cells = c; slot = None }) (picture (after_first step) cs (next (step 0) c run) zero)

    none : (cs : List C) → 0 + in_last of zero (length cs) ≡ 0
    none [] = refl
    none (c ∷ cs) = refl
count_picture {C} {P} step (c ∷ cs) run of (suc t) same =
    sum_by-cons (λ (r : Row C P). if is_some r.slot then 1 else 0) (record { cells = ran (step 0) c run t; slot = run t }) (picture (after_first step) cs (next (step 0) c run) t)
    ∙ ap (λ (n : ℕ). n + count_by (λ (r : Row C P). is_some r.slot) (picture (after_first step) cs (next (step 0) c run) t)) (one_of (of t) (is_some (run t)) (same t))
    ∙ ap (λ (n : ℕ). one_if (of t) + n) (count_picture (after_first step) cs (next (step 0) c run) of t (λ (e : ℕ). one_through (step 0) (ran (step 0) c run e) (run e) ∙ same e))

is_some-map : {A B : Type 0} (f : A → B) (o : Option A) → is_some (option_map f o) ≡ is_some o
is_some-map f None = refl
is_some-map f (Some x) = refl

pub packets_are : (world : World) (now : Machines) (at switch n : ℕ) → IsAt (net_of world) at now → switch < world.scene.now.switches → Packets now switch n →
    n ≡ in_last (entering (net_of world) switch) at (lag_by world.limits.now (placed_of now))
packets_are world (machines.Whole switches) at switch n is lt counted = counted
packets_are world (machines.Piped pipes) at switch n is lt counted =
    counted d ∙ ap in_flight (pipe_between net placed at switch (piped_of pipes) p lt is.piped here)
    ∙ count_slots (picture (step_of placed) (first_cells placed) (fed net (stages_of placed) switch) at)
    ∙ count_picture (step_of placed) (first_cells placed) (fed net (stages_of placed) switch) (entering net switch) at (λ (e : ℕ). is_some-map (packet_of (stages_of placed)) (entering net switch e))
    ∙ ap (in_last (entering net switch) at) is.ready.sound.long
  where
    net : Network
    net = net_of world

    placed : PlacedParts
    placed = pipes.placed.now

    d : PipeParts
    d = empty_pipe placed

    p : PipeParts
    p = get_or pipes.pipes.items switch d

    within : switch < length pipes.pipes.items
    within = omega (arith, lt, is.piped.flying.long, length-map pipes.pipes.items (λ (q : PipeParts). (rows_in q)))

    here : p ≡ get_or pipes.pipes.items switch p
    here = itself pipes.pipes.items switch d within

-- the sight of one pipe
pub shows_one : (old new : Option (List Sight)) (s : Sight) → Shows old new s → ShowsAll old new (s ∷ [])
shows_one old None s is = tt
shows_one None (Some now) s is = absurd is
shows_one (Some was) (Some now) s is = is
