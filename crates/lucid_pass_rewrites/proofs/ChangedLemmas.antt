-- Operations that are changed one after another.
use Rattle.std.proofs.Common.{◌≡◌, ℕ, suc, ◌+◌, ◌<◌, List, [], ◌∷◌, ◌++◌, length, drop, slice_index_or, refl, sym, ap, ap₂, subst, ◌∙◌, arith, append_assoc}
use Rattle.std.proofs.Math.Seq.{drop-cons}
use Rattle.std.proofs.lemmas.List.{length-append}
use Rattle.lucid_code.specs.declared.op.Act.{Act}
use Rattle.lucid_code.specs.declared.op.Op.{Op}
use Rattle.lucid_code.specs.Uses.{written_by, with_operands}
use Rattle.lucid_pass_spec.specs.Looks.{changed, looked}
use Rattle.lucid_code.proofs.Acting.{written_with}
use Rattle.lucid_pass_spec.proofs.Looking.{fold_sound}
use Rattle.lucid_pass_rewrites.specs.declared.looks.Looks.{Looks}
use Rattle.lucid_pass_rewrites.specs.declared.looks.Looks.TheVariants.{Copied, Constant}
use Rattle.lucid_pass_rewrites.specs.declared.writers.Writer.{Writer}
use Rattle.lucid_pass_rewrites.specs.Changed.{change_of, finish_of, put_of, standing}
use Rattle.lucid_pass_rewrites.specs.Writers.{Tells}
use Rattle.lucid_pass_rewrites.proofs.WritersLemmas.{tells_changed}

finish_writes : (looks : Looks) (a : Act) → written_by (finish_of looks a) ≡ written_by a
finish_writes Copied a = refl
finish_writes Constant a = (fold_sound []).written a

-- a changed operation writes the same field
change_writes : (looks : Looks) (widths : List ℕ) (ops : List Op) (o : Op) → written_by (change_of looks widths ops o).act ≡ written_by o.act
change_writes looks widths ops o = finish_writes looks (with_operands (looked (put_of looks widths) ops o.guard) o.act) ∙ written_with (looked (put_of looks widths) ops o.guard) o.act

-- The number of changed operations.
pub record Turn (looks : Looks) (widths : List ℕ) (ops : List Op) (writers : List Writer) (done : List Op) (i : ℕ) : Type 0 where
  pub many : length done ≡ i
  pub tells : Tells (standing done ops) writers
  pub rest : changed (change_of looks widths) done (drop i ops) ≡ changed (change_of looks widths) [] ops

pub turn_begins : (looks : Looks) (widths : List ℕ) (ops : List Op) (writers : List Writer) → Tells ops writers → Turn looks widths ops writers [] 0
turn_begins looks widths ops writers t = record { many = refl; tells = t; rest = refl }

module _ (looks : Looks) (widths : List ℕ) (ops : List Op) (writers : List Writer) (done : List Op) (i : ℕ) (turn : Turn looks widths ops writers done i) where
  pub turn_more : (o new : Op) → i < length ops → o ≡ slice_index_or ops i o → new ≡ change_of looks widths (standing done ops) o → Turn looks widths ops writers (done ++ new ∷ []) (i + 1)
  turn_more o new h is made =
      let next : suc i ≡ i + 1 = omega arith in
      let split : drop i ops ≡ o ∷ drop (i + 1) ops = drop-cons ops i o h ∙ ap₂ (λ (x : Op) (n : ℕ). x ∷ drop n ops) (sym is) next in
      let now : standing done ops ≡ done ++ o ∷ drop (i + 1) ops = ap (λ n. done ++ drop n ops) turn.many ∙ ap (λ l. done ++ l) split in
      let long : length (done ++ new ∷ []) ≡ i + 1 = length-append done (new ∷ []) ∙ ap (λ n. n + 1) turn.many in
      let after : standing (done ++ new ∷ []) ops ≡ done ++ new ∷ drop (i + 1) ops = ap (λ n. (done ++ new ∷ []) ++ drop n ops) long ∙ append_assoc done (new ∷ []) (drop (i + 1) ops) in
      record {
        many = long;
        tells = subst (λ l. Tells l writers) (sym after) (tells_changed done o new (drop (i + 1) ops) writers (ap (λ (p : Op). written_by p.act) made ∙ change_writes looks widths (standing done ops) o) (subst (λ l. Tells l writers) now turn.tells));
        rest =
            ap (λ (p : Op). changed (change_of looks widths) (done ++ p ∷ []) (drop (i + 1) ops)) (made ∙ ap (λ l. change_of looks widths l o) now)
            ∙ ap (changed (change_of looks widths) done) (sym split) ∙ turn.rest;
      }

  pub turn_ends : i ≡ length ops → done ≡ changed (change_of looks widths) [] ops
  turn_ends e = sym (ap (changed (change_of looks widths) done) (ap (λ n. drop n ops) e ∙ dropped_all ops)) ∙ turn.rest
    where
      dropped_all : (ops : List Op) → drop (length ops) ops ≡ []
      dropped_all [] = refl
      dropped_all (o ∷ ops) = dropped_all ops
