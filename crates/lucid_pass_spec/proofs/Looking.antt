-- Code whose operands are replaced, one operation after another.
use Rattle.std.proofs.Common.{◌≡◌, ℕ, suc, ◌+◌, ◌<◌, ◌≤◌, ◌^◌, List, [], ◌∷◌, ◌++◌, Bool, true, false, ◌⊎◌, Option, None, Some, inl, inr, if◌then◌else◌, map, length, slice_index, nat_le, refl, sym, ap, subst, ◌∙◌, ⊎_elim, true≢false, arith, append_assoc}
use Rattle.std.specs.List.{list_all, flat_map}
use Rattle.std.specs.Option.{option_map_or}
use Rattle.std.proofs.lemmas.Bool.{leb-true}
use Rattle.std.proofs.lemmas.List.{append-nil, length-append}
use Rattle.std.proofs.Math.Nat.{mod-eq_of_lt}
use Rattle.std.proofs.Math.Pow.{pow_mono}
use Rattle.lucid_base.specs.Ops.{low_of}
use Rattle.lucid_base.specs.declared.array.ArrayDef.{ArrayDef}
use Rattle.lucid_code.specs.declared.inputs.Inputs.{Inputs}
use Rattle.lucid_code.specs.declared.op.Act.{Act}
use Rattle.lucid_code.specs.declared.op.Act.TheVariants as act
use Rattle.lucid_code.specs.declared.op.Op.{Op}
use Rattle.lucid_code.specs.declared.op.Operand.{Operand}
use Rattle.lucid_code.specs.declared.op.Operand.TheVariants.{Fixed, Field}
use Rattle.lucid_code.specs.Guards.{Fields}
use Rattle.lucid_code.specs.Nodes.{nodes_follow_writes}
use Rattle.lucid_code.specs.Parts.{CodeParts}
use Rattle.lucid_code.specs.Run.{Machine, Done, begun, value, result, written, run_act, run, FieldsFit}
use Rattle.lucid_code.specs.Uses.{written_by, called_by, slot_of, operands_of, field_of, only_writes}
use Rattle.lucid_code.specs.Valid.{IsValid, op_is_sound, widths_agree, act_keeps_limits}
use Rattle.lucid_pass_spec.specs.Looks.{Putting, changed, copied, copies, constant, folded, is_fixed, computes, nowhere, settled}
use Rattle.lucid_pass_spec.specs.Replace.{MayReplace}
use Rattle.lucid_code.proofs.Begun.{begun_fits}
use Rattle.lucid_code.proofs.Facts.{Facts, code_facts, sound_each, tests_of, nodes_of, facts_with_nodes}
use Rattle.lucid_code.proofs.Fresh.{made_is, made_by}
use Rattle.lucid_code.proofs.Members.{In, all_in, all_from, each_in}
use Rattle.lucid_pass_spec.proofs.Replacing.{Sound, put_op, same_run, put_facts, put_sound}

module _ (widths : List ℕ) (put : Putting) (settle : Act → Act) (sound : Sound widths put settle) where
  next : (nodes : Bool) (done : List Op) (o : Op) (rest : List Op) → Facts nodes (done ++ o ∷ rest) → Facts nodes ((done ++ put_op put settle (done ++ o ∷ rest) o ∷ []) ++ rest)
  next nodes done o rest f = subst (Facts nodes) (sym (append_assoc done (put_op put settle (done ++ o ∷ rest) o ∷ []) rest)) (put_facts widths put settle sound nodes done o rest f)

  changed_runs : (nodes : Bool) (done rest : List Op) → Facts nodes (done ++ rest) → (m : Machine) → FieldsFit widths m.fields → run widths (changed (put_op put settle) done rest) m ≡ run widths (done ++ rest) m
  changed_runs nodes done [] f m fit = ap (λ l. run widths l m) (sym (append-nil done))
  changed_runs nodes done (o ∷ rest) f m fit =
      let p = put_op put settle (done ++ o ∷ rest) o in
      changed_runs nodes (done ++ p ∷ []) rest (next nodes done o rest f) m fit
      ∙ ap (λ l. run widths l m) (append_assoc done (p ∷ []) rest)
      ∙ same_run widths put settle sound nodes done o rest f m fit

  changed_facts : (nodes : Bool) (done rest : List Op) → Facts nodes (done ++ rest) → Facts nodes (changed (put_op put settle) done rest)
  changed_facts nodes done [] f = subst (Facts nodes) (append-nil done) f
  changed_facts nodes done (o ∷ rest) f = changed_facts nodes (done ++ put_op put settle (done ++ o ∷ rest) o ∷ []) rest (next nodes done o rest f)

  changed_sound : (inputs : Inputs) (arrays : List ArrayDef) (done rest : List Op) → Facts false (done ++ rest) → ((q : Op) → In q (done ++ rest) → op_is_sound widths inputs arrays q ≡ true)
      → (q : Op) → In q (changed (put_op put settle) done rest) → op_is_sound widths inputs arrays q ≡ true
  changed_sound inputs arrays done [] f each q i = each q (subst (In q) (sym (append-nil done)) i)
  changed_sound inputs arrays done (o ∷ rest) f each q i =
      let p = put_op put settle (done ++ o ∷ rest) o in
      changed_sound inputs arrays (done ++ p ∷ []) rest (next false done o rest f)
      (λ r j. put_sound widths put settle sound false done o rest f inputs arrays each r (subst (In r) (append_assoc done (p ∷ []) rest) j)) q i

  changed_length : (done rest : List Op) → length (changed (put_op put settle) done rest) ≡ length (done ++ rest)
  changed_length done [] = ap length (sym (append-nil done))
  changed_length done (o ∷ rest) =
      let p = put_op put settle (done ++ o ∷ rest) o in
      changed_length (done ++ p ∷ []) rest
      ∙ length-append (done ++ p ∷ []) rest
      ∙ ap (λ n. n + length rest) (length-append done (p ∷ []))
      ∙ omega_add (length done) (length rest)
      ∙ sym (length-append done (o ∷ rest))
    where
      omega_add : (a b : ℕ) → a + 1 + b ≡ a + suc b
      omega_add a b = omega arith

pub done_of : Machine → Done
done_of m = record { cells = m.cells; outs = map (λ o. o.1) m.outs }

module _ (put : List ℕ → Putting) (settle : Act → Act) (sound : (widths : List ℕ) → Sound widths (put widths) settle) (code : CodeParts) (valid : IsValid code) where
  abbrev pub new : CodeParts
  new = record code { ops = changed (put_op (put code.fields) settle) [] code.ops }

  pub new_valid : IsValid new
  new_valid =
      let t = tests_of false new.ops (changed_facts code.fields (put code.fields) settle (sound code.fields) false [] code.ops (code_facts code valid)) in
      record {
        inputs = valid.inputs;
        arrays = valid.arrays;
        ops = all_from (op_is_sound code.fields code.inputs code.arrays) new.ops (changed_sound code.fields (put code.fields) settle (sound code.fields) code.inputs code.arrays [] code.ops (code_facts code valid) (sound_each code valid));
        fields = t.fields;
        calls = t.calls;
        slots = t.slots;
        reads = t.reads;
      }

  pub new_replaces : MayReplace code new
  new_replaces = record {
    valid = new_valid;
    inputs = refl;
    widths = refl;
    arrays = refl;
    runs = λ cells now me event input.
        let m = begun cells now me event in
        ap (λ (n : Machine). record { cells = n.cells; outs = map (λ o. o.1) n.outs })
        (changed_runs code.fields (put code.fields) settle (sound code.fields) false [] code.ops (code_facts code valid) m (begun_fits code cells now me event valid input));
    few = subst (λ n. n ≤ length code.ops) (sym (changed_length code.fields (put code.fields) settle (sound code.fields) [] code.ops)) (omega arith);
    small = λ h. h;
  }

  pub new_nodes : nodes_follow_writes code.ops ≡ true → nodes_follow_writes new.ops ≡ true
  new_nodes t = nodes_of new.ops (changed_facts code.fields (put code.fields) settle (sound code.fields) true [] code.ops (facts_with_nodes code.ops t (code_facts code valid)))

-- ---- `Copies`

low_stays : (w w' v : ℕ) → v < 2 ^ w → w ≤ w' → low_of w' v ≡ v
low_stays w w' v small le =
    let wide : 2 ^ w ≤ 2 ^ w' = pow_mono le in
    mod-eq_of_lt (omega (arith, small, wide))

pick : (P : Operand → Type 0) (b : Bool) (x y : Operand) → (b ≡ true → P x) → P y → P (if b then x else y)
pick P true x y p q = p refl
pick P false x y p q = q

copied_same : (widths : List ℕ) (k : ℕ) (a : Operand) (f : Fields) → FieldsFit widths f → slice_index f k ≡ low_of (slice_index widths k) (value f a) → value f (copied widths k a) ≡ slice_index f k
copied_same widths k (Fixed v) f fit e = refl
copied_same widths k (Field j) f fit e =
    pick (λ x. value f x ≡ slice_index f k) (nat_le (slice_index widths j) (slice_index widths k)) (Field j) (Field k)
    (λ l. sym (e ∙ low_stays (slice_index widths j) (slice_index widths k) (slice_index f j) (fit j) (leb-true (slice_index widths j) (slice_index widths k) l))) refl

copied_fields : (widths : List ℕ) (k : ℕ) (a : Operand) (j : ℕ) → In j (field_of (copied widths k a)) → (j ≡ k) ⊎ In j (field_of a)
copied_fields widths k (Fixed v) j (inl e) = inl e
copied_fields widths k (Fixed v) j (inr i) = absurd i
copied_fields widths k (Field i) j h =
    pick (λ x. In j (field_of x) → (j ≡ k) ⊎ In j (i ∷ [])) (nat_le (slice_index widths i) (slice_index widths k)) (Field i) (Field k) (λ l r. inr r) (λ r. ⊎_elim (λ e. inl e) (λ n. absurd n) r) h

pub copies_sound : (widths : List ℕ) → Sound widths (copied widths) (λ a. a)
copies_sound widths = record {
  same = copied_same widths;
  fields = copied_fields widths;
  runs = λ a m. refl;
  written = λ a. refl;
  called = λ a. refl;
  slot = λ a. refl;
  reads = λ a j h. h;
  agrees = λ fields arrays a h. h;
  limits = λ a h. h;
}

pub copies_replaces : (code : CodeParts) → IsValid code → MayReplace code (copies code)
copies_replaces code valid = new_replaces copied (λ a. a) copies_sound code valid

pub copies_nodes : (code : CodeParts) → IsValid code → nodes_follow_writes code.ops ≡ true → nodes_follow_writes (copies code).ops ≡ true
copies_nodes code valid t = new_nodes copied (λ a. a) copies_sound code valid t

-- ---- `Fold`

constant_same : (widths : List ℕ) (k : ℕ) (a : Operand) (f : Fields) → FieldsFit widths f → slice_index f k ≡ low_of (slice_index widths k) (value f a) → value f (constant widths k a) ≡ slice_index f k
constant_same widths k (Fixed v) f fit e = sym e
constant_same widths k (Field j) f fit e = refl

constant_fields : (widths : List ℕ) (k : ℕ) (a : Operand) (j : ℕ) → In j (field_of (constant widths k a)) → (j ≡ k) ⊎ In j (field_of a)
constant_fields widths k (Fixed v) j h = absurd h
constant_fields widths k (Field i) j (inl e) = inl e
constant_fields widths k (Field i) j (inr n) = absurd n

-- an act stays, or computes from numbers and becomes a move
settles : (P : Act → Type 0) (a : Act) → P a → ((k : ℕ) → computes a ≡ Some k → list_all is_fixed (operands_of a) ≡ true → P (act.Move (Fixed (result a nowhere)) k)) → P (settled a)
settles P a stays moves = by (computes a) refl
  where
    fixed : (k : ℕ) → computes a ≡ Some k → (b : Bool) → list_all is_fixed (operands_of a) ≡ b → P (if b then act.Move (Fixed (result a nowhere)) k else a)
    fixed k c true e = moves k c e
    fixed k c false e = stays

    by : (x : Option ℕ) → computes a ≡ x → P (option_map_or (λ k. if list_all is_fixed (operands_of a) then act.Move (Fixed (result a nowhere)) k else a) x a)
    by None c = stays
    by (Some k) c = fixed k c (list_all is_fixed (operands_of a)) refl

pub record Computes (a : Act) (k : ℕ) : Type 0 where
  pub only : only_writes a ≡ Some k
  pub writes : written_by a ≡ Some k
  pub called : called_by a ≡ None
  pub slot : slot_of a ≡ None
  pub runs : (widths : List ℕ) (m : Machine) → run_act widths a m ≡ record { fields = written widths (Some k) (result a m) m.fields; cells = m.cells; outs = m.outs }

computing : (a : Act) (k : ℕ) → computes a ≡ Some k → Computes a k
computing (act.Un op w x j) k e = record { only = e; writes = e; called = refl; slot = refl; runs = λ widths m. ap (λ to. record { fields = written widths to (result (act.Un op w x j) m) m.fields; cells = m.cells; outs = m.outs }) e }
computing (act.Bin op w x y j) k e = record { only = e; writes = e; called = refl; slot = refl; runs = λ widths m. ap (λ to. record { fields = written widths to (result (act.Bin op w x y j) m) m.fields; cells = m.cells; outs = m.outs }) e }
computing (act.Cmp op w x y j) k e = record { only = e; writes = e; called = refl; slot = refl; runs = λ widths m. ap (λ to. record { fields = written widths to (result (act.Cmp op w x y j) m) m.fields; cells = m.cells; outs = m.outs }) e }
computing (act.Cast x j) k e = record { only = e; writes = e; called = refl; slot = refl; runs = λ widths m. ap (λ to. record { fields = written widths to (result (act.Cast x j) m) m.fields; cells = m.cells; outs = m.outs }) e }
computing (act.Hash xs j) k e = record { only = e; writes = e; called = refl; slot = refl; runs = λ widths m. ap (λ to. record { fields = written widths to (result (act.Hash xs j) m) m.fields; cells = m.cells; outs = m.outs }) e }
computing (act.Move x j) k e = absurd (cc)
computing (act.Touch array index get get_arg set set_arg to) k e = absurd (cc)
computing (act.Gen slot event args delay to) k e = absurd (cc)
computing (act.Say slot form args) k e = absurd (cc)

fixed_value : (f : Fields) (x : Operand) → is_fixed x ≡ true → value f x ≡ value [] x
fixed_value f (Fixed v) e = refl
fixed_value f (Field k) e = absurd (true≢false (sym e))

settled_runs : (widths : List ℕ) (a : Act) (m : Machine) → run_act widths (settled a) m ≡ run_act widths a m
settled_runs widths a m = settles (λ b. run_act widths b m ≡ run_act widths a m) a refl (λ k c e.
    let d = computing a k c in
    let same : result a nowhere ≡ result a m
    = sym (made_is a m k d.only ∙ made_by [] m.fields a (each_in (λ (x : Operand). value m.fields x ≡ value [] x) (operands_of a) (λ x i. fixed_value m.fields x (all_in is_fixed (operands_of a) e x i)))) in
    ap (λ v. record { fields = written widths (Some k) v m.fields; cells = m.cells; outs = m.outs }) same ∙ sym (d.runs widths m))

pub fold_sound : (widths : List ℕ) → Sound widths (constant widths) settled
fold_sound widths = record {
  same = constant_same widths;
  fields = constant_fields widths;
  runs = settled_runs widths;
  written = λ a. settles (λ b. written_by b ≡ written_by a) a refl (λ k c e. sym (computing a k c).writes);
  called = λ a. settles (λ b. called_by b ≡ called_by a) a refl (λ k c e. sym (computing a k c).called);
  slot = λ a. settles (λ b. slot_of b ≡ slot_of a) a refl (λ k c e. sym (computing a k c).slot);
  reads = λ a j. settles (λ b. In j (flat_map field_of (operands_of b)) → In j (flat_map field_of (operands_of a))) a (λ h. h) (λ k c e h. absurd h);
  agrees = λ fields arrays a h. settles (λ b. widths_agree fields arrays b ≡ true) a h (λ k c e. refl);
  limits = λ a h. settles (λ b. act_keeps_limits b ≡ true) a h (λ k c e. refl);
}

pub fold_replaces : (code : CodeParts) → IsValid code → MayReplace code (folded code)
fold_replaces code valid = new_replaces constant settled fold_sound code valid

pub fold_nodes : (code : CodeParts) → IsValid code → nodes_follow_writes code.ops ≡ true → nodes_follow_writes (folded code).ops ≡ true
fold_nodes code valid t = new_nodes constant settled fold_sound code valid t
