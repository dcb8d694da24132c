-- The stages of a first fit are those of a placed code: its places are there, and writers precede readers.
use Rattle.std.proofs.Common.{◌≡◌, ◌<◌, List, [], ◌∷◌, ◌++◌, inl, inr, true, replicate, refl, sym, ap, subst, ◌∙◌, ⊎_elim, append_assoc, arith}
use Rattle.std.specs.List.{flat_map}
use Rattle.std.proofs.lemmas.Bool.{true≢false}
use Rattle.lucid_code.specs.declared.op.Op.{Op}
use Rattle.lucid_code.specs.Parts.{CodeParts}
use Rattle.lucid_code.specs.Valid.{IsValid}
use Rattle.lucid_tables.specs.Placed.{IsPlaced}
use Rattle.lucid_tables.specs.Rows.{table}
use Rattle.lucid_tables.proofs.Members.{In, any_in}
use Rattle.lucid_merge.specs.Laws.{ProductsAct, ProductsName, GuardsContradict}
use Rattle.lucid_conf.specs.declared.limits.Limits.{Limits}
use Rattle.lucid_conf.specs.Kept.{AreLimits}
use Rattle.lucid_stages.specs.declared.node.Work.{Work}
use Rattle.lucid_stages.specs.declared.stage.Pair.{Pair}
use Rattle.lucid_stages.specs.declared.stage.Seat.{Seat}
use Rattle.lucid_stages.specs.declared.stage.Stage.{Stage}
use Rattle.lucid_stages.specs.Stage.{seats, laid, no_tables, rows_at}
use Rattle.lucid_stages.specs.Marks.{feeds}
use Rattle.lucid_stages.specs.NodeWorks.{works}
use Rattle.lucid_stages.proofs.NodeTablesLemmas.{Made, made_none}
use Rattle.lucid_stages.proofs.PlacingLemmas.{keeps}
use Rattle.lucid_stages.proofs.StageLemmas.{laid_length, filled_push, InRange, Holds, table_at, all_ops, all_of, in_append, seat_node, filled_holds, none_yet}
use Rattle.lucid_layout.specs.Fit.{IsFirstFit}
use Rattle.lucid_layout.specs.Layout.{stages_of}

pub fit_range : (ops : List Op) (limits : Limits) (done : List Seat) (ns : List Work) (ps : List Pair) → IsFirstFit ops limits done ns ps → InRange ops (laid ops limits done) (seats ns ps)
fit_range ops limits done [] [] f = tt
fit_range ops limits done [] (p ∷ ps) f = absurd f
fit_range ops limits done (n ∷ ns) [] f = absurd f
fit_range ops limits done (n ∷ ns) (p ∷ ps) f =
    let s : Seat = record { node = n; at = p } in (
      subst (λ m. p.stage < m) (sym (laid_length ops limits done)) f.0.holds.room.below,
      f.0.holds.room.fits.table.next,
      subst (λ l. InRange ops l (seats ns ps)) (filled_push ops (replicate limits.stages no_tables) done s) (fit_range ops limits (done ++ s ∷ []) ns ps f.1),
    )

pub laid_holds : (acting : ProductsAct) (naming : ProductsName) (ops : List Op) (limits : Limits) (ns : List Work) (ps : List Pair) → IsFirstFit ops limits [] ns ps → Holds ops (seats ns ps) (laid ops limits (seats ns ps))
laid_holds acting naming ops limits ns ps f = filled_holds acting naming ops (replicate limits.stages no_tables) [] (seats ns ps)
    (record {
      made = λ k t. subst (λ (g : Stage). Made ops [] (rows_at g t)) (sym (none_yet limits.stages k)) (made_none ops);
      keyed = λ k t. subst (λ (g : Stage). table_at g t ≡ table (rows_at g t)) (sym (none_yet limits.stages k)) refl;
    })
    (fit_range ops limits [] ns ps f)

-- ---- writers precede readers

pub in_order : (ops : List Op) (limits : Limits) (done : List Seat) (ns : List Work) (ps : List Pair) → IsFirstFit ops limits done ns ps → (r w : Seat) → In r (seats ns ps) → In w (done ++ seats ns ps) → feeds w.node r.node ≡ true → w.at.stage < r.at.stage
in_order ops limits done ns [] f r w h g e = absurd h
in_order ops limits done [] (p ∷ ps) f r w h g e = absurd h
in_order ops limits done (n ∷ ns) (p ∷ ps) f r w (inl h) g e =
    ⊎_elim
    (λ i. subst (λ k. w.at.stage < k) (ap (λ (s : Seat). s.at.stage) (sym h)) (all_of (λ (s : Seat). feeds s.node n ≡ true → s.at.stage < p.stage) done w f.0.holds.room.behind i fed))
    (λ i. absurd (true≢false (sym fed ∙ any_in (λ v. feeds v n) (n ∷ ns) w.node (seat_node (n ∷ ns) (p ∷ ps) w i) f.0.holds.written)))
    (in_append w done (seats (n ∷ ns) (p ∷ ps)) g)
  where
    fed : feeds w.node n ≡ true
    fed = sym (ap (λ (s : Seat). feeds w.node s.node) h) ∙ e
in_order ops limits done (n ∷ ns) (p ∷ ps) f r w (inr h) g e =
    in_order ops limits (done ++ record { node = n; at = p } ∷ []) ns ps f.1 r w h (subst (In w) (sym (append_assoc done (record { node = n; at = p } ∷ []) (seats ns ps))) g) e

-- ---- no operation has two places

pub seats_ops : (ops : List Op) (limits : Limits) (done : List Seat) (ns : List Work) (ps : List Pair) → IsFirstFit ops limits done ns ps → all_ops (seats ns ps) ≡ flat_map (λ (w : Work). w.ops) ns
seats_ops ops limits done [] [] f = refl
seats_ops ops limits done [] (p ∷ ps) f = absurd f
seats_ops ops limits done (n ∷ ns) [] f = absurd f
seats_ops ops limits done (n ∷ ns) (p ∷ ps) f = ap (λ l. n.ops ++ l) (seats_ops ops limits (done ++ record { node = n; at = p } ∷ []) ns ps f.1)

-- ---- the placed code

pub fit_keeps : (acting : ProductsAct) (naming : ProductsName) (contradicting : GuardsContradict) (code : CodeParts) (limits : Limits) (ps : List Pair) → IsValid code → AreLimits limits → IsFirstFit code.ops limits [] (works code.ops) ps →
    IsPlaced code (stages_of code limits ps)
fit_keeps acting naming contradicting code limits ps valid ranges fit =
    let ss : List Seat = seats (works code.ops) ps in
    keeps contradicting code ss (laid code.ops limits ss) valid (record {
      some = omega (arith, laid_length code.ops limits ss, ranges.stages);
      holds = laid_holds acting naming code.ops limits (works code.ops) ps fit;
      ops_are = seats_ops code.ops limits [] (works code.ops) ps fit;
      nodes_are = seat_node (works code.ops) ps;
      order = in_order code.ops limits [] (works code.ops) ps fit;
    })
