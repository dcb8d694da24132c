-- The operations whose tables were merged into a table.
use Rattle.std.proofs.Common.{◌≡◌, ℕ, List, [], ◌∷◌, ◌++◌, Bool, true, false, not, ◌||◌, ◌⊎◌, inl, inr, if◌then◌else◌, map, nat_eq, refl, sym, ap, ap₂, subst, ◌∙◌, ⊎_elim, append-nil, append_assoc}
use Rattle.std.specs.List.{filter, flat_map, fold}
use Rattle.std.proofs.lemmas.Bool.{and_parts, and_from, or_cases, or_left, or_right, eqb-true, true≢false, not-true, false_from_ne_true}
use Rattle.std.proofs.lemmas.Grind.{flat_map-append}
use Rattle.lucid_code.specs.declared.op.Literal.{Literal}
use Rattle.lucid_code.specs.declared.op.Op.{Op}
use Rattle.lucid_code.specs.Guards.{Fields}
use Rattle.lucid_tables.specs.declared.table.Row.{Row}
use Rattle.lucid_tables.specs.Numbers.{is_in, all_differ}
use Rattle.lucid_tables.specs.Rows.{acts, named_fields, rows_of, refusal, guard_of}
use Rattle.lucid_tables.proofs.Members.{is_in_append}
use Rattle.lucid_merge.specs.Laws.{ProductsAct, ProductsName, named_ops, rows_differ}
use Rattle.lucid_merge.specs.Product.{product}
use Rattle.lucid_stages.specs.NodeTables.{merged, tables_at}

-- the fields of an operation's guard
abbrev pub guard_fields : List Op → ℕ → List ℕ
guard_fields ops i = map (λ (l : Literal). l.field) (guard_of ops i)

pub record Made (ops : List Op) (is : List ℕ) (rows : List Row) : Type 0 where
  -- it has the effect of the tables of its operations
  pub act : (fields : Fields) → acts fields rows ≡ flat_map (λ i. acts fields (rows_of (guard_of ops i) i)) is
  -- it names those alone
  pub names : (i : ℕ) → is_in i (named_ops rows) ≡ true → is_in i is ≡ true
  -- and fields of their guards
  pub fields : (k : ℕ) → is_in k (named_fields rows) ≡ true → is_in k (flat_map (guard_fields ops) is) ≡ true
  pub once : all_differ is ≡ true → rows_differ rows ≡ true

pub made_none : (ops : List Op) → Made ops [] []
made_none ops = record { act = λ fields. refl; names = λ i h. h; fields = λ k h. h; once = λ h. refl }

-- ---- an operation alone

ops_refused : (guard : List Literal) (last : List Row) → named_ops (map refusal (filter (λ l. not l.equal) guard) ++ last) ≡ named_ops last
ops_refused [] last = refl
ops_refused (l ∷ guard) last = by (not l.equal) (ops_refused guard last)
  where
    by : (b : Bool) → named_ops (map refusal (filter (λ l. not l.equal) guard) ++ last) ≡ named_ops last →
        named_ops (map refusal (if b then l ∷ filter (λ l. not l.equal) guard else filter (λ l. not l.equal) guard) ++ last) ≡ named_ops last
    by true h = h
    by false h = h

differ_refused : (guard : List Literal) (last : List Row) → rows_differ (map refusal (filter (λ l. not l.equal) guard) ++ last) ≡ rows_differ last
differ_refused [] last = refl
differ_refused (l ∷ guard) last = by (not l.equal) (differ_refused guard last)
  where
    by : (b : Bool) → rows_differ (map refusal (filter (λ l. not l.equal) guard) ++ last) ≡ rows_differ last →
        rows_differ (map refusal (if b then l ∷ filter (λ l. not l.equal) guard else filter (λ l. not l.equal) guard) ++ last) ≡ rows_differ last
    by true h = h
    by false h = h

fields_of : List Literal → List ℕ
fields_of p = map (λ (l : Literal). l.field) p

kept_fields : (t : Literal → Bool) (guard : List Literal) (k : ℕ) → is_in k (map (λ (l : Literal). l.field) (filter t guard)) ≡ true → is_in k (map (λ (l : Literal). l.field) guard) ≡ true
kept_fields t [] k h = h
kept_fields t (l ∷ guard) k h = by (t l) h (λ r. kept_fields t guard k r)
  where
    by : (b : Bool) → is_in k (map (λ (l : Literal). l.field) (if b then l ∷ filter t guard else filter t guard)) ≡ true → (is_in k (map (λ (l : Literal). l.field) (filter t guard)) ≡ true → is_in k (map (λ (l : Literal). l.field) guard) ≡ true) →
        (nat_eq l.field k || is_in k (map (λ (l : Literal). l.field) guard)) ≡ true
    by true h again = ⊎_elim (λ e. or_left (nat_eq l.field k) (is_in k (map (λ (l : Literal). l.field) guard)) e) (λ e. or_right (nat_eq l.field k) (is_in k (map (λ (l : Literal). l.field) guard)) (again e))
        (or_cases (nat_eq l.field k) (is_in k (map (λ (l : Literal). l.field) (filter t guard))) h)
    by false h again = or_right (nat_eq l.field k) (is_in k (map (λ (l : Literal). l.field) guard)) (again h)

fields_refused : (guard : List Literal) (last : List Row) (k : ℕ) → is_in k (named_fields (map refusal (filter (λ l. not l.equal) guard) ++ last)) ≡ true →
    (is_in k (map (λ (l : Literal). l.field) guard) ≡ true) ⊎ (is_in k (named_fields last) ≡ true)
fields_refused [] last k h = inr h
fields_refused (l ∷ guard) last k h = by (not l.equal) h (λ r. fields_refused guard last k r)
  where
    more : (is_in k (map (λ (l : Literal). l.field) guard) ≡ true) ⊎ (is_in k (named_fields last) ≡ true) → (is_in k (map (λ (l : Literal). l.field) (l ∷ guard)) ≡ true) ⊎ (is_in k (named_fields last) ≡ true)
    more (inl e) = inl (or_right (nat_eq l.field k) (is_in k (map (λ (l : Literal). l.field) guard)) e)
    more (inr e) = inr e

    by : (b : Bool) → is_in k (named_fields (map refusal (if b then l ∷ filter (λ l. not l.equal) guard else filter (λ l. not l.equal) guard) ++ last)) ≡ true →
        (is_in k (named_fields (map refusal (filter (λ l. not l.equal) guard) ++ last)) ≡ true → (is_in k (map (λ (l : Literal). l.field) guard) ≡ true) ⊎ (is_in k (named_fields last) ≡ true)) →
        (is_in k (map (λ (l : Literal). l.field) (l ∷ guard)) ≡ true) ⊎ (is_in k (named_fields last) ≡ true)
    by true h again = ⊎_elim (λ e. inl (or_left (nat_eq l.field k) (is_in k (map (λ (l : Literal). l.field) guard)) e)) (λ e. more (again e))
        (or_cases (nat_eq l.field k) (is_in k (named_fields (map refusal (filter (λ l. not l.equal) guard) ++ last))) h)
    by false h again = more (again h)

pub made_one : (ops : List Op) (i : ℕ) → Made ops (i ∷ []) (rows_of (guard_of ops i) i)
made_one ops i =
    let guard = guard_of ops i in
    let last : Row = record { pattern = filter (λ l. l.equal) guard; ops = i ∷ [] } in
    record {
      act = λ fields. sym (append-nil (acts fields (rows_of guard i)));
      names = λ j h. sym (ap (is_in j) (ops_refused guard (last ∷ []))) ∙ h;
      fields = λ k h. ap (is_in k) (append-nil (guard_fields ops i)) ∙
          ⊎_elim (λ e. e) (λ e. kept_fields (λ l. l.equal) guard k (sym (ap (is_in k) (append-nil (map (λ (l : Literal). l.field) (filter (λ l. l.equal) guard)))) ∙ e)) (fields_refused guard (last ∷ []) k h);
      once = λ h. differ_refused guard (last ∷ []);
    }

-- ---- products

differ_parts : (xs ys : List ℕ) → all_differ (xs ++ ys) ≡ true → (all_differ xs ≡ true) × (all_differ ys ≡ true) × ((i : ℕ) → is_in i xs ≡ true → is_in i ys ≡ false)
differ_parts [] ys h = (refl, h, λ i n. absurd (true≢false (sym n)))
differ_parts (x ∷ xs) ys h =
    let parts = and_parts (not (is_in x (xs ++ ys))) (all_differ (xs ++ ys)) h in
    let rest = differ_parts xs ys parts.1 in
    let none : (is_in x xs || is_in x ys) ≡ false = sym (is_in_append x xs ys) ∙ not-true (is_in x (xs ++ ys)) parts.0 in (
      and_from (not (is_in x xs)) (all_differ xs) (ap not (left (is_in x xs) (is_in x ys) none)) rest.0,
      rest.1,
      λ i n. ⊎_elim (λ e. ap (λ k. is_in k ys) (sym (eqb-true x i e)) ∙ right (is_in x xs) (is_in x ys) none) (λ e. rest.2 i e) (or_cases (nat_eq x i) (is_in i xs) n),
    )
  where
    left : (a b : Bool) → (a || b) ≡ false → a ≡ false
    left true b h = h
    left false b h = refl

    right : (a b : Bool) → (a || b) ≡ false → b ≡ false
    right true b h = absurd (true≢false h)
    right false b h = h

pub differ_split : (xs ys : List ℕ) → all_differ (xs ++ ys) ≡ true → (all_differ xs ≡ true) × (all_differ ys ≡ true) × ((i : ℕ) → is_in i xs ≡ true → is_in i ys ≡ false)
differ_split xs ys h = differ_parts xs ys h

module _ (acting : ProductsAct) (naming : ProductsName) (ops : List Op) where
  pub made_product : (is js : List ℕ) (a b : List Row) → Made ops is a → Made ops js b → Made ops (is ++ js) (product a b)
  made_product is js a b m n = record {
    act = λ fields. acting.both fields a b ∙ ap₂ (λ (x y : List ℕ). x ++ y) (m.act fields) (n.act fields) ∙ sym (flat_map-append (λ i. acts fields (rows_of (guard_of ops i) i)) is js);
    names = λ i h. is_in_append i is js ∙ either i (m.names i) (n.names i) (or_cases (is_in i (named_ops a)) (is_in i (named_ops b)) (naming.ops a b i h));
    fields = λ k h. ap (is_in k) (flat_map-append (guard_fields ops) is js) ∙ is_in_append k (flat_map (guard_fields ops) is) (flat_map (guard_fields ops) js)
        ∙ both k (m.fields k) (n.fields k) (or_cases (is_in k (named_fields a)) (is_in k (named_fields b)) (naming.fields a b k h));
    once = λ h.
        let parts = differ_parts is js h in
        naming.once a b (m.once parts.0) (n.once parts.1) (λ i e. false_from_ne_true (is_in i (named_ops b)) (λ f. true≢false (sym (n.names i f) ∙ parts.2 i (m.names i e))));
  }
    where
      either : (i : ℕ) → (is_in i (named_ops a) ≡ true → is_in i is ≡ true) → (is_in i (named_ops b) ≡ true → is_in i js ≡ true) → (is_in i (named_ops a) ≡ true) ⊎ (is_in i (named_ops b) ≡ true) → (is_in i is || is_in i js) ≡ true
      either i f g (inl e) = or_left (is_in i is) (is_in i js) (f e)
      either i f g (inr e) = or_right (is_in i is) (is_in i js) (g e)

      both : (k : ℕ) → (is_in k (named_fields a) ≡ true → is_in k (flat_map (guard_fields ops) is) ≡ true) → (is_in k (named_fields b) ≡ true → is_in k (flat_map (guard_fields ops) js) ≡ true) →
          (is_in k (named_fields a) ≡ true) ⊎ (is_in k (named_fields b) ≡ true) → (is_in k (flat_map (guard_fields ops) is) || is_in k (flat_map (guard_fields ops) js)) ≡ true
      both k f g (inl e) = or_left (is_in k (flat_map (guard_fields ops) is)) (is_in k (flat_map (guard_fields ops) js)) (f e)
      both k f g (inr e) = or_right (is_in k (flat_map (guard_fields ops) is)) (is_in k (flat_map (guard_fields ops) js)) (g e)

  made_more : (is js : List ℕ) (a : List Row) → Made ops is a → Made ops (is ++ js) (fold product a (tables_at ops js))
  made_more is [] a m = subst (λ l. Made ops l a) (sym (append-nil is)) m
  made_more is (j ∷ js) a m = subst (λ l. Made ops l (fold product a (tables_at ops (j ∷ js)))) (append_assoc is (j ∷ []) js)
      (made_more (is ++ j ∷ []) js (product a (rows_of (guard_of ops j) j)) (made_product is (j ∷ []) a (rows_of (guard_of ops j) j) m (made_one ops j)))

  -- the table of a node
  pub made_merged : (is : List ℕ) → Made ops is (merged (tables_at ops is))
  made_merged [] = made_none ops
  made_merged (i ∷ is) = made_more (i ∷ []) is (rows_of (guard_of ops i) i) (made_one ops i)
