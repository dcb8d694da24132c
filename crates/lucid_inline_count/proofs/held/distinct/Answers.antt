use Rattle.std.proofs.Common.{◌≡◌, ◌+◌, ℕ, List, Bool, arith, false, true, [], ◌∷◌, ◌++◌, ◌&&◌, ◌||◌, drop, get_or, length, sym, ap, ap₂, subst, ◌∙◌}
use Rattle.std.proofs.lemmas.List.{drop_all, drop_more, length_push}
use Rattle.std.specs.Prelude.{slice_index_or, slice_set}
use Rattle.lucid_base.specs.Numbers.{is_in}
use Rattle.lucid_inline_count.specs.Found.{joined}
use Rattle.lucid_inline_count.proofs.HeldLemmas.{found_all, found_less, found_more}
use Rattle.lucid_inline_count.proofs.Joining.{joined_less, joined_more, joined_none}
use Rattle.lucid_inline_count.proofs.held.distinct.Goals.{then-is_held+in_ok-set+in_ok-push, else-is_held}
use Rattle.lucid_inline_count.proofs.held.distinct.Goals as goal

pub loop-x-preserved : goal.loop-x-preserved
loop-x-preserved c =
    let held = c.loop-x.held.items in
    let first = c.args.held.now.items in
    let names = c.args.names.now in
    let found = c.loop-x.found.items in
    let x = get_or names c.loop-x.x-index 0 in
    let rest = drop (c.loop-x.x-index + 1) names in
    let more = drop_more names c.loop-x.x-index 0 c.loop-x-test.true in
    let same = subst (λ (ns : List ℕ). (i : ℕ) → (slice_index_or first i false && (is_in i found || (slice_index_or held i false && is_in i ns))) ≡ (slice_index_or first i false && is_in i names))
    more c.loop-x.invariant.alike in
    let all : length found + joined held (x ∷ rest) ≡ joined first names = ap (λ (ns : List ℕ). length found + joined held ns) (sym more) ∙ c.loop-x.invariant.count in
    elim c.if-is_held.branch [
      | then-is_held+in_ok-set+in_ok-push w ↦
          let on : slice_index_or held x false ≡ true = sym (rw c.as_slice.ensures.value at c.is_held.ensures) ∙ w.if-is_held.true in
          let one = joined_more held x rest on in
          let long = length_push found x in
          let count : length (found ++ x ∷ []) + joined (slice_set held x false) rest ≡ length found + joined held (x ∷ rest) = omega (arith, one, long) in
          rw (w.held-is, w.notes-is, w.found-is) (record {
            back = w.in_ok-set.ensures.back ∙ c.loop-x.invariant.back;
            count = ap₂ (λ (h : List Bool) (f : List ℕ). length f + joined h rest) w.in_ok-set.ensures.set w.in_ok-push.ensures.items ∙ count ∙ all;
            alike = λ i. ap₂ (λ (h : List Bool) (f : List ℕ). slice_index_or first i false && (is_in i f || (slice_index_or h i false && is_in i rest)))
                w.in_ok-set.ensures.set w.in_ok-push.ensures.items ∙ found_more first held found x rest names on same i;
          })
      | else-is_held w ↦
          let off : slice_index_or held x false ≡ false = sym (rw c.as_slice.ensures.value at c.is_held.ensures) ∙ w.if-is_held.false in
          rw (w.held-is, w.notes-is, w.found-is) (record {
            back = c.loop-x.invariant.back;
            count = ap (λ (n : ℕ). length found + n) (sym (joined_less held x rest off)) ∙ all;
            alike = found_less first held found x rest names off same;
          })
    ]

pub returns-clause-joined : goal.returns-clause-joined
returns-clause-joined c =
    let held = c.loop-x.held.items in
    let names = c.args.names.now in
    let all : length c.loop-x.found.items + joined held [] ≡ joined c.args.held.now.items names =
    ap (λ (ns : List ℕ). length c.loop-x.found.items + joined held ns) (sym (drop_all c.loop-x.x-index names c.loop-x-test.false)) ∙ c.loop-x.invariant.count in
    let none = joined_none held in
    let found : length c.loop-x.found.items ≡ length c.loop-x.found.items + joined held [] = omega (arith, none) in
    found ∙ all

pub returns-clause-alike : goal.returns-clause-alike
returns-clause-alike c =
    let first = c.args.held.now.items in
    let names = c.args.names.now in
    let same = subst (λ (ns : List ℕ). (i : ℕ) → (slice_index_or first i false && (is_in i c.loop-x.found.items || (slice_index_or c.loop-x.held.items i false && is_in i ns))) ≡ (slice_index_or first i false && is_in i names))
    (drop_all c.loop-x.x-index names c.loop-x-test.false) c.loop-x.invariant.alike in
    found_all first c.loop-x.held.items c.loop-x.found.items names same
