-- One pass more: its result for the code, and how its count rises.
use Rattle.std.proofs.Common.{◌≡◌, ℕ, zero, suc, ◌+◌, ◌-◌, ◌<◌, ◌≤◌, List, [], ◌∷◌, ◌++◌, length, map, take, drop, slice_index, slice_set, get_or, set, refl, sym, ap, ap₂, ◌∙◌, subst, arith, append_assoc, Result, Ok, Err, OnErr}
use Rattle.std.proofs.lemmas.List.{map-set, length-set, length-append, length-map}
use Rattle.std.proofs.Math.Seq.{map-set_same, take-append_seam}
use Rattle.lucid_base.specs.Saturating.{saturating_sum}
use Rattle.lucid_code.specs.declared.op.Op.{Op}
use Rattle.lucid_code.specs.Parts.{CodeParts}
use Rattle.lucid_code.specs.Valid.{IsValid}
use Rattle.lucid_pass_spec.specs.Replace.{MayReplace, Rewrite}
use Rattle.lucid_pass_spec.proofs.Replaces.{replaces_twice}
use Rattle.lucid_pass.specs.Through.{through, gone, raised}

raised_more : (counts ns : List ℕ) (n count : ℕ) → length ns < length counts → count ≡ saturating_sum (slice_index (raised counts ns) (length ns)) n
    → raised counts (ns ++ n ∷ []) ≡ slice_set (raised counts ns) (length ns) count
raised_more [] ns n count h e = absurd (omega arith)
raised_more (c ∷ counts) [] n count h e = ap (λ k. k ∷ counts) (sym e)
raised_more (c ∷ counts) (m ∷ ns) n count h e = ap (λ l. saturating_sum c m ∷ l) (raised_more counts ns n count (omega arith) e)

raised_none : (counts : List ℕ) → raised counts [] ≡ counts
raised_none [] = refl
raised_none (c ∷ counts) = refl

index_map : {X : Type 0} (f : X → ℕ) (xs : List X) (i : ℕ) (x : X) → i < length xs → slice_index (map f xs) i ≡ f (get_or xs i x)
index_map f [] i x h = absurd (omega arith)
index_map f (y ∷ xs) zero x h = refl
index_map f (y ∷ xs) (suc i) x h = index_map f xs i x (omega arith)

map_cons : {X : Type 0} {Y : Type 0} (f : X → Y) (xs : List X) (i : ℕ) (x : X) → i < length xs → drop i (map f xs) ≡ f (get_or xs i x) ∷ drop (suc i) (map f xs)
map_cons f [] i x h = absurd (omega arith)
map_cons f (y ∷ xs) zero x h = refl
map_cons f (y ∷ xs) (suc i) x h = map_cons f xs i x (omega arith)

-- This many passes ran: their results, the operations that each removed, and their counts.
pub record Ran {X : Type 0} (named : X → List ℕ) (gives : X → Rewrite) (count : X → ℕ) (before now : List X) (start code : CodeParts) (told : List ℕ) (i : ℕ) : Type 0 where
  pub long : length now ≡ length before
  pub names : map named now ≡ map named before
  pub same : map gives now ≡ map gives before
  pub made : through (drop i (map gives before)) code ≡ through (map gives before) start
  pub all_gone : told ++ gone (drop i (map gives before)) code ≡ gone (map gives before) start
  pub counts : map count now ≡ raised (map count before) told
  pub many : length told ≡ i
  pub replaces : MayReplace start code

module _ {X : Type 0} (named : X → List ℕ) (gives : X → Rewrite) (count : X → ℕ) (before : List X) (start : CodeParts) where
  pub begins : MayReplace start start → Ran named gives count before before start start [] 0
  begins replaces = record { long = refl; names = refl; same = refl; made = refl; all_gone = refl; counts = sym (raised_none (map count before)); many = refl; replaces = replaces }

  -- the end of a call that runs out of memory
  pub stops : (now : List X) (code : CodeParts) (told : List ℕ) (i : ℕ) → i ≤ length before → Ran named gives count before now start code told i →
      (k : ℕ) × (k ≤ length before) × (map count now ≡ raised (map count before) (take k (gone (map gives before) start)))
  stops now code told i h r =
      let seam : take i (gone (map gives before) start) ≡ told
      = ap (take i) (sym r.all_gone) ∙ ap (λ n. take n (told ++ gone (drop i (map gives before)) code)) (sym r.many) ∙ take-append_seam told (gone (drop i (map gives before)) code) in
      (i, h, r.counts ∙ ap (raised (map count before)) (sym seam))

  module _ (now : List X) (code : CodeParts) (told : List ℕ) (i : ℕ) (x y : X) (below : i < length now) (is : x ≡ get_or now i x) (r : Ran named gives count before now start code told i)
      (name : named y ≡ named x) (same : gives y ≡ gives x) where
    now_at : gives (get_or now i x) ≡ gives x
    now_at = ap gives (sym is)

    -- a pass that ran out of memory
    pub one_failed : count y ≡ count x → Ran named gives count before (set now i y) start code told i
    one_failed e = record {
      long = length-set now i y ∙ r.long;
      names = map-set_same named now i y x (name ∙ ap named is) ∙ r.names;
      same = map-set_same gives now i y x (same ∙ ap gives is) ∙ r.same;
      made = r.made;
      all_gone = r.all_gone;
      counts = map-set_same count now i y x (e ∙ ap count is) ∙ r.counts;
      many = r.many;
      replaces = r.replaces;
    }

    -- one that ran
    pub one_ran : (new : CodeParts) → new ≡ (gives x).makes code → count y ≡ saturating_sum (count x) (length code.ops - length ((gives x).makes code).ops) → IsValid code
        → Ran named gives count before (set now i y) start new (told ++ (length code.ops - length new.ops) ∷ []) (i + 1)
    one_ran new e c valid =
        let n = length code.ops - length new.ops in
        let fs = map gives before in
        let next : suc i ≡ i + 1 = omega arith in
        let split : drop i fs ≡ gives x ∷ drop (i + 1) fs
        = ap (drop i) (sym r.same) ∙ map_cons gives now i x below ∙ ap₂ (λ (f : Rewrite) (l : List Rewrite). f ∷ drop (suc i) l) now_at r.same ∙ ap (λ j. gives x ∷ drop j fs) next in
        let was : slice_index (raised (map count before) told) (length told) ≡ count x
        = ap₂ slice_index (sym r.counts) r.many ∙ index_map count now i x below ∙ ap count (sym is) in
        record {
          long = length-set now i y ∙ r.long;
          names = map-set_same named now i y x (name ∙ ap named is) ∙ r.names;
          same = map-set_same gives now i y x (same ∙ ap gives is) ∙ r.same;
          made = ap (through (drop (i + 1) fs)) e ∙ ap (λ l. through l code) (sym split) ∙ r.made;
          all_gone =
              append_assoc told (n ∷ []) (gone (drop (i + 1) fs) new)
              ∙ ap (λ (p : CodeParts). told ++ (length code.ops - length p.ops) ∷ gone (drop (i + 1) fs) p) e
              ∙ ap (λ l. told ++ gone l code) (sym split)
              ∙ r.all_gone;
          counts =
              map-set count now i y
              ∙ ap₂ (λ (l : List ℕ) (j : ℕ). slice_set l j (count y)) r.counts (sym r.many)
              ∙ sym (raised_more (map count before) told n (count y) (subst (λ j. j < length (map count before)) (sym r.many) (subst (λ m. i < m) (sym (length-map before count ∙ sym r.long)) below))
              (c ∙ ap₂ saturating_sum (sym was) (ap (λ (p : CodeParts). length code.ops - length p.ops) (sym e))));
          many = length-append told (n ∷ []) ∙ ap (λ k. k + 1) r.many;
          replaces = replaces_twice start code new r.replaces (subst (MayReplace code) (sym e) ((gives x).keeps code valid));
        }

-- An unconditional fact holds at an error.
pub on_err : {T E P : Type 0} (r : Result T E) → P → OnErr r P
on_err (Ok x) p = tt
on_err (Err e) p = p

pub told_as : {X : Type 0} (named : X → List ℕ) (gives : X → Rewrite) (count : X → ℕ) (before now : List X) (start code : CodeParts) (told pushed : List ℕ) (i : ℕ) → pushed ≡ told →
    Ran named gives count before now start code told i → Ran named gives count before now start code pushed i
told_as named gives count before now start code told pushed i e r = subst (λ l. Ran named gives count before now start code l i) (sym e) r

pub ap₂_le : {a b c d : List Op} → a ≡ c → b ≡ d → length c ≤ length d → length a ≤ length b
ap₂_le {a = a} {b = b} {c = c} {d = d} e f h = subst (λ (x : List Op). length x ≤ length b) (sym e) (subst (λ (y : List Op). length c ≤ length y) (sym f) h)
