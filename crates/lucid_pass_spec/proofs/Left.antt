-- The remaining operations after unneeded ones are removed, in any order.
use Rattle.std.proofs.Common.{◌≡◌, ℕ, zero, suc, List, [], ◌∷◌, ◌++◌, Bool, true, false, ◌||◌, Option, None, Some, inl, inr, nat_eq, refl, sym, ap, ap₂, subst, ◌∙◌, ⊎_elim, append_assoc}
use Rattle.std.specs.Option.{option_map_or}
use Rattle.std.proofs.lemmas.Bool.{or_right, or_parts, or_from, eqb-true}
use Rattle.lucid_code.specs.declared.op.Op.{Op}
use Rattle.lucid_code.specs.Parts.{CodeParts}
use Rattle.lucid_code.specs.Uses.{read_by, only_writes}
use Rattle.lucid_code.specs.Valid.{IsValid}
use Rattle.lucid_code.proofs.Facts.{code_facts}
use Rattle.lucid_pass_spec.specs.Dead.{reads, is_read, is_needed, kept_if, live, Strips, IsLeft}
use Rattle.lucid_code.proofs.Facts.{Blind, Pair, Facts}
use Rattle.lucid_code.proofs.Fresh.{only_written}
use Rattle.lucid_code.proofs.Members.{In, pairs_split, pairs_join, any_gives, all_in, all_from, in_left, in_right, in_either}

by_false : (b : Bool) → (b ≡ true → ⊥) → b ≡ false
by_false true f = absurd (f refl)
by_false false f = refl

-- an operation that is blind to a writer doesn't read its field
blind_reads : (y x : Op) (k : ℕ) → Blind y x → only_writes x.act ≡ Some k → reads y k ≡ false
blind_reads y x k b e = by_false (reads y k) (λ t. let p = any_gives (λ j. nat_eq j k) (read_by y) t in b p.one p.there (only_written x.act k e ∙ ap Some (sym (eqb-true p.one k p.passes))))

needs : (xs ys : List Op) (o : Op) → ((k : ℕ) → only_writes o.act ≡ Some k → is_read xs k ≡ is_read ys k) → is_needed xs o ≡ is_needed ys o
needs xs ys o h = by (only_writes o.act) refl
  where
    by : (to : Option ℕ) → only_writes o.act ≡ to → option_map_or (is_read xs) to true ≡ option_map_or (is_read ys) to true
    by None e = refl
    by (Some k) e = h k e

-- ---- none is left

live_none : (ops : List Op) → (o : Op) → In o (live ops) → is_needed (live ops) o ≡ true
live_none [] o i = absurd i
live_none (x ∷ ops) o i = by (live_none ops) (is_needed (live ops) x) refl i
  where
    more : (q : Op) → is_needed (live ops) q ≡ true → is_needed (x ∷ live ops) q ≡ true
    more q h = to (only_writes q.act) h
      where
        to : (t : Option ℕ) → option_map_or (is_read (live ops)) t true ≡ true → option_map_or (is_read (x ∷ live ops)) t true ≡ true
        to None h = refl
        to (Some k) h = or_right (reads x k) (is_read (live ops) k) h

    by : ((q : Op) → In q (live ops) → is_needed (live ops) q ≡ true) → (b : Bool) → is_needed (live ops) x ≡ b → In o (kept_if b x (live ops)) → is_needed (kept_if b x (live ops)) o ≡ true
    by rest true e (inl s) = more o (ap (is_needed (live ops)) s ∙ e)
    by rest true e (inr j) = more o (rest o j)
    by rest false e j = rest o j

-- ---- they go one after another

none_read : (front rest : List Op) (k : ℕ) → ((y : Op) → In y front → reads y k ≡ false) → is_read (front ++ rest) k ≡ is_read rest k
none_read [] rest k h = refl
none_read (y ∷ front) rest k h = ap₂ (λ (a b : Bool). a || b) (h y (inl refl)) (none_read front rest k (λ q i. h q (inr i)))

-- needed only by the operations after it
needed_behind : (front : List Op) (o : Op) (rest : List Op) → ((y : Op) → In y front → Blind y o) → Blind o o → is_needed (front ++ o ∷ rest) o ≡ is_needed rest o
needed_behind front o rest b own = needs (front ++ o ∷ rest) rest o (λ k e. none_read front (o ∷ rest) k (λ y i. blind_reads y o k (b y i) e) ∙ ap (λ c. c || is_read rest k) (blind_reads o o k own e))

strips_more : (n : ℕ) (xs front : List Op) (o : Op) (rest : List Op) → Strips n xs (front ++ o ∷ rest) → is_needed (front ++ o ∷ rest) o ≡ false → Strips (suc n) xs (front ++ rest)
strips_more zero xs front o rest s e = (front, o, rest, s, ap (λ l. is_needed l o) s ∙ e, refl)
strips_more (suc n) xs front o rest s e = (s.0, s.1, s.2, s.3, s.4, strips_more n (s.0 ++ s.2) front o rest s.5 e)

abbrev Stripped : List Op → List Op → Type 0
Stripped xs ys = (n : ℕ) × Strips n xs ys

one_more : (o : Op) (front rest xs : List Op) → ((y : Op) → In y front → Blind y o) → Blind o o → Stripped xs (front ++ o ∷ rest) → (b : Bool) → is_needed rest o ≡ b → Stripped xs (front ++ kept_if b o rest)
one_more o front rest xs a own s true e = s
one_more o front rest xs a own s false e = (suc s.0, strips_more s.0 xs front o rest s.1 (needed_behind front o rest a own ∙ e))

live_from : (front ops : List Op) → Facts false (front ++ ops) → Stripped (front ++ ops) (front ++ live ops)
live_from front [] f = (0, refl)
live_from front (o ∷ ops) f =
    let same : (front ++ o ∷ []) ++ ops ≡ front ++ o ∷ ops = append_assoc front (o ∷ []) ops in
    let rest = live_from (front ++ o ∷ []) ops (subst (Facts false) (sym same) f) in
    let s : Stripped (front ++ o ∷ ops) (front ++ o ∷ live ops) = (rest.0, subst (λ l. Strips rest.0 l (front ++ o ∷ live ops)) same (subst (Strips rest.0 ((front ++ o ∷ []) ++ ops)) (append_assoc front (o ∷ []) (live ops)) rest.1)) in
    let parts = pairs_split (Pair false) front (o ∷ ops) f.pairs in
    one_more o front (live ops) (front ++ o ∷ ops) (λ y i. (parts.across y i o (inl refl)).blind) (f.own o (in_right o front (o ∷ ops) (inl refl))) s (is_needed (live ops) o) refl

-- ---- in any order

less_needed : (xs ys : List Op) (o : Op) → ((k : ℕ) → is_read xs k ≡ false → is_read ys k ≡ false) → is_needed xs o ≡ false → is_needed ys o ≡ false
less_needed xs ys o h = by (only_writes o.act)
  where
    by : (to : Option ℕ) → option_map_or (is_read xs) to true ≡ false → option_map_or (is_read ys) to true ≡ false
    by None e = e
    by (Some k) e = h k e

live_reads : (k : ℕ) (ops : List Op) → is_read ops k ≡ false → is_read (live ops) k ≡ false
live_reads k [] e = refl
live_reads k (o ∷ ops) e = by (live_reads k ops (or_parts (reads o k) (is_read ops k) e).1) (is_needed (live ops) o)
  where
    by : is_read (live ops) k ≡ false → (b : Bool) → is_read (kept_if b o (live ops)) k ≡ false
    by rest true = or_from (reads o k) (is_read (live ops) k) (or_parts (reads o k) (is_read ops k) e).0 rest
    by rest false = rest

-- one that isn't needed may go first
live_without : (front : List Op) (o : Op) (back : List Op) → is_needed (front ++ o ∷ back) o ≡ false → live (front ++ o ∷ back) ≡ live (front ++ back)
live_without [] o back e = ap (λ b. kept_if b o (live back)) (less_needed (o ∷ back) (live back) o (λ k h. live_reads k back (or_parts (reads o k) (is_read back k) h).1) e)
live_without (x ∷ front) o back e =
    ap (λ (l : List Op). kept_if (is_needed l x) x l) (live_without front o back (less_needed (x ∷ front ++ o ∷ back) (front ++ o ∷ back) o (λ k h. (or_parts (reads x k) (is_read (front ++ o ∷ back) k) h).1) e))

live_stripped : (n : ℕ) (xs ys : List Op) → Strips n xs ys → live xs ≡ live ys
live_stripped zero xs ys s = ap live s
live_stripped (suc n) xs ys s = ap live s.3 ∙ live_without s.0 s.1 s.2 (ap (λ l. is_needed l s.1) (sym s.3) ∙ s.4) ∙ live_stripped n (s.0 ++ s.2) ys s.5

facts_without : (front : List Op) (o : Op) (back : List Op) → Facts false (front ++ o ∷ back) → Facts false (front ++ back)
facts_without front o back f =
    let parts = pairs_split (Pair false) front (o ∷ back) f.pairs in
    record {
      own = λ x i. f.own x (⊎_elim (λ l. in_left x front (o ∷ back) l) (λ r. in_right x front (o ∷ back) (inr r)) (in_either x front back i));
      pairs = pairs_join (Pair false) front back (record { first = parts.first; second = parts.second.1; across = λ x i y j. parts.across x i y (inr j) });
    }

strips_facts : (n : ℕ) (xs ys : List Op) → Strips n xs ys → Facts false xs → Facts false ys
strips_facts zero xs ys s f = subst (Facts false) s f
strips_facts (suc n) xs ys s f = strips_facts n (s.0 ++ s.2) ys s.5 (facts_without s.0 s.1 s.2 (subst (Facts false) s.3 f))

-- where each is needed, all stay
all_stay : (front ops : List Op) → Facts false (front ++ ops) → ((o : Op) → In o ops → is_needed (front ++ ops) o ≡ true) → live ops ≡ ops
all_stay front [] f n = refl
all_stay front (o ∷ ops) f n =
    let same : (front ++ o ∷ []) ++ ops ≡ front ++ o ∷ ops = append_assoc front (o ∷ []) ops in
    let rest = all_stay (front ++ o ∷ []) ops (subst (Facts false) (sym same) f) (λ q i. ap (λ l. is_needed l q) same ∙ n q (inr i)) in
    let parts = pairs_split (Pair false) front (o ∷ ops) f.pairs in
    let here : is_needed (live ops) o ≡ true
    = ap (λ l. is_needed l o) rest ∙ sym (needed_behind front o ops (λ y i. (parts.across y i o (inl refl)).blind) (f.own o (in_right o front (o ∷ ops) (inl refl)))) ∙ n o (inl refl) in
    ap (λ b. kept_if b o (live ops)) here ∙ ap (λ l. o ∷ l) rest

pub dead_is_left : (code : CodeParts) → IsValid code → IsLeft code.ops (live code.ops)
dead_is_left code valid =
    let facts = code_facts code valid in
    record {
      none = all_from (is_needed (live code.ops)) (live code.ops) (live_none code.ops);
      strips = live_from [] code.ops facts;
      unique = λ n other s none. sym (live_stripped n code.ops other s ∙ all_stay [] other (strips_facts n code.ops other s facts) (all_in (is_needed other) other none));
    }
