-- Programs are read declaration by declaration: the declarations so far, where reading stops, and that a program has one tree.
use Rattle.std.proofs.Common.{◌≡◌, ◌≢◌, ℕ, zero, suc, ◌+◌, ◌-◌, ◌<◌, ◌≤◌, true, List, [], ◌∷◌, ◌++◌, length, drop, Option, Some, None, Result, Ok, Err, IfOk, IfErr, MatchResult, refl, sym, ap, subst, ◌∙◌, arith, take, get_or, count_by, slice_range, if◌then◌else◌, ◌==◌}
use Rattle.std.proofs.Math.Seq.{drop-cons}
use Rattle.std.proofs.lemmas.List.{drop-take, take-take}
use Rattle.std.proofs.lemmas.List.Sums.{sum_by-take-drop}
use Rattle.std.proofs.lemmas.List.Folds.{list_all-append}
use Rattle.lucid_lex.specs.declared.token.Token.{Token}
use Rattle.lucid_lex.specs.declared.token.Kind.{Kind}
use Rattle.lucid_lex.specs.Reading.{Reads, tokens_from, with_token}
use Rattle.lucid_lex.specs.Piece.{Piece}
use Rattle.lucid_parse.specs.declared.error.ParseError.{ParseError}
use Rattle.lucid_parse.specs.declared.error.ParseError.TheVariants as errors
use Rattle.lucid_parse_tree.specs.declared.tree.Decl.{Decl}
use Rattle.lucid_parse_tree.specs.declared.tree.DeclKind.{DeclKind}
use Rattle.lucid_parse_tree.specs.declared.tree.Tree.{Tree}
use Rattle.lucid_parse_spec.specs.Lexemes.{lexemes_of}
use Rattle.lucid_parse_spec.specs.Spelling.{Text, declaration, declaration_built, declarations, all_written}
use Rattle.lucid_parse_spec.specs.ReadDeclaration as read_d
use Rattle.lucid_parse.specs.Program.{line_at, line_of, last_of, HasLines, IsTreeOf, IsFault, Progress, Rising, IsWhy}
use Rattle.lucid_parse_spec.specs.Law.{ReadAsSpelled}
use Rattle.lucid_parse_spec.proofs.Steps.{both, of_both}

one_behind : (all : List Decl) (x : Decl) (r : Text) → declarations (all ++ x ∷ []) r ≡ declarations all (declaration x.kind r)
one_behind [] x r = refl
one_behind (y ∷ ys) x r = ap (declaration y.kind) (one_behind ys x r)

lines_behind : (text : List ℕ) (ts : List Token) (all : List Decl) (x : Decl) (rest after : Text) → HasLines text ts all rest → rest ≡ declaration x.kind after → x.line ≡ line_of text (last_of (length rest) ts) → HasLines text ts (all ++ x ∷ []) after
lines_behind text ts [] x rest after lines is line = (line ∙ ap (λ z. line_of text (last_of (length z) ts)) is, tt)
lines_behind text ts (y ∷ ys) x rest after lines is line =
    let same : declarations (y ∷ ys) rest ≡ declarations (y ∷ (ys ++ x ∷ [])) after = ap (declaration y.kind) (ap (declarations ys) is ∙ sym (one_behind ys x after)) in
    (lines.0 ∙ ap (λ z. line_of text (last_of (length z) ts)) same, lines_behind text ts ys x rest after lines.1 is line)

empty : (ts : Text) → length ts ≤ 0 → ts ≡ []
empty [] h = refl
empty (t ∷ ts) h = absurd (omega arith)

same_some : {A : Type 0} {x y : A} → Some x ≡ Some y → x ≡ y
same_some h = cc

clashes : {A : Type 0} {x : A} → None ≡ Some x → ⊥
clashes h = cc

same_cons : (x y : Decl) (xs ys : List Decl) → x ≡ y → xs ≡ ys → (x ∷ xs) ≡ (y ∷ ys)
same_cons x y xs ys h k = cc

same_decl : (x y : Decl) → x.line ≡ y.line → x.kind ≡ y.kind → x ≡ y
same_decl x y h k = let make : ℕ → DeclKind → Decl = λ l m. record { line = l; kind = m } in ap (λ l. make l x.kind) h ∙ ap (make y.line) k

same_tree : (t u : Tree) → t.decls ≡ u.decls → t ≡ u
same_tree t u h = let make : List Decl → Tree = λ xs. record { decls = xs } in ap make h

-- ---- one fault

pub one_fault : (ls : Text) (n m : ℕ) → IsFault ls n → IsFault ls m → n ≡ m
one_fault ls n m hn hm =
    let up = hn.longest hm.at hm.before in
    let down = hm.longest hn.at hn.before in
    let first = hn.number in
    let second = hm.number in
    omega arith

-- a program has no fault
pub no_fault : (text : List ℕ) (ts : List Token) (t : Tree) (n : ℕ) → IsTreeOf text ts t → IsFault (lexemes_of text ts) n → ⊥
no_fault text ts t n ht hn =
    let most = hn.longest (length (lexemes_of text ts)) (record { decls = t.decls; rest = []; written = ht.written; spelled = ht.spelled; place = omega arith }) in
    let within = hn.within in
    omega arith

-- ---- tokens are in order

rising_token : (n start len : ℕ) (k : Option Kind) (ts : List Token) → n ≤ start → ((m : ℕ) → m ≤ start + len → Rising m ts) → Rising n (with_token start len k ts)
rising_token n start len None ts low later = later n (omega arith)
rising_token n start len (Some k) ts low later = (low, later start (omega arith))

rising_from : (n start : ℕ) (ps : List Piece) → n ≤ start → Rising n (tokens_from start ps)
rising_from n start [] low = tt
rising_from n start (q ∷ qs) low = rising_token n start (length q.bytes) q.kind (tokens_from (start + length q.bytes) qs) low (λ m under. rising_from m (start + length q.bytes) qs under)

pub tokens_rise : (text : List ℕ) (ts : List Token) → Reads text ts → Rising 0 ts
tokens_rise text ts reads = subst (Rising 0) (sym reads.tokens) (rising_from 0 0 reads.pieces (omega arith))

pub rising_less : (n m : ℕ) (ts : List Token) → m ≤ n → Rising n ts → Rising m ts
rising_less n m [] low rise = tt
rising_less n m (t ∷ ts) low rise = let first = rise.0 in (omega arith, rise.1)

pub rising_drop : (n k : ℕ) (ts : List Token) → Rising n ts → Rising n (drop k ts)
rising_drop n zero ts rise = rise
rising_drop n (suc k) [] rise = tt
rising_drop n (suc k) (t ∷ ts) rise = rising_drop n k ts (rising_less t.span.start n ts rise.0 rise.1)

rising_later : (n k at : ℕ) (ts : List Token) → at ≤ k → Rising n (drop at ts) → Rising n (drop k ts)
rising_later n k zero ts low rise = rising_drop n k ts rise
rising_later n zero (suc at) ts low rise = absurd (omega arith)
rising_later n (suc k) (suc at) [] low rise = tt
rising_later n (suc k) (suc at) (t ∷ ts) low rise = rising_later n k at ts (omega arith) rise

-- facts of the token at this place
pub first_rises : (text : List ℕ) (ts : List Token) (at n : ℕ) (other : Token) → at < length ts → Rising n (drop at ts) → (line_of text (drop at ts) ≡ line_at text (get_or ts at other).span.start) × (n ≤ (get_or ts at other).span.start) × ((k : ℕ) → at < k → Rising (get_or ts at other).span.start (drop k ts))
first_rises text ts at n other within rise =
    let cut : drop at ts ≡ get_or ts at other ∷ drop (suc at) ts = drop-cons ts at other within in
    let here = subst (Rising n) cut rise in
    (ap (line_of text) cut, here.0, λ k above. rising_later (get_or ts at other).span.start k (suc at) ts (omega arith) here.1)

-- the line feeds before an offset, by those before an earlier one
pub breaks_between : (text : List ℕ) (from to : ℕ) → from ≤ to → count_by (λ b. b == 10) (take to text) ≡ count_by (λ b. b == 10) (take from text) + count_by (λ b. b == 10) (slice_range text from to)
breaks_between text from to low =
    let whole : from + (to - from) ≡ to = omega arith in
    let front : take from (take to text) ≡ take from text = take-take from to text low in
    let back : drop from (take to text) ≡ take (to - from) (drop from text) = subst (λ n. drop from (take n text) ≡ take (to - from) (drop from text)) whole (drop-take from (to - from) text) in
    let halves = sum_by-take-drop (λ b. if b == 10 then 1 else 0) (take to text) from in
    rw (front, back) at (sym halves)

-- ---- the meaning of an answer

pub whole_tree : (text : List ℕ) (ts : List Token) (ls : Text) (t : Tree) → ls ≡ lexemes_of text ts → Progress text ts ls t.decls [] → IsTreeOf text ts t
whole_tree text ts ls t said p = record { written = p.written; spelled = sym said ∙ p.spelled; lines = p.lines }

why_parses : (text : List ℕ) (ts : List Token) (ls : Text) (t : Tree) (e : ParseError) → ls ≡ lexemes_of text ts → IsTreeOf text ts t → IsWhy ls e → e ≡ errors.Memory
why_parses text ts ls t (errors.NoTree n) said is why = absurd (no_fault text ts t n is (rw said at why))
why_parses text ts ls t (errors.TooDeep n) said is why = absurd why
why_parses text ts ls t errors.Memory said is why = refl

why_refuses : (ls us : Text) (n : ℕ) (e : ParseError) → ls ≡ us → IsFault us n → IsWhy ls e → e ≢ errors.Memory → e ≡ errors.NoTree n
why_refuses ls us n (errors.NoTree m) said fault why other = ap errors.NoTree (one_fault us m n (rw said at why) fault)
why_refuses ls us n (errors.TooDeep m) said fault why other = absurd why
why_refuses ls us n errors.Memory said fault why other = absurd (other refl)

-- a fault is found where there is one
pub faults : (text : List ℕ) (ts : List Token) (ls : Text) (r : Result Tree ParseError) → ls ≡ lexemes_of text ts → IfOk r (λ t. Progress text ts ls t.decls []) → IfErr r (λ e. IsWhy ls e) → (n : ℕ) → IsFault (lexemes_of text ts) n → MatchResult r (λ _. ⊥) (λ e. e ≢ errors.Memory → e ≡ errors.NoTree n)
faults text ts ls (Ok u) said read why n fault = no_fault text ts u n (whole_tree text ts ls u said read) fault
faults text ts ls (Err e) said read why n fault = why_refuses ls (lexemes_of text ts) n e said fault why

-- ---- consequences of the law of the grammar

module _ (law : ReadAsSpelled) where
  -- one more declaration is read
  pub goes_on : (text : List ℕ) (ts : List Token) (ls : Text) (all : List Decl) (rest after : Text) (x : Decl) → Progress text ts ls all rest → read_d.declaration rest ≡ Some (x.kind, after) → x.line ≡ line_of text (last_of (length rest) ts) → Progress text ts ls (all ++ x ∷ []) after
  goes_on text ts ls all rest after x so_far given line =
      let h = law.sound rest x.kind after given in
      record {
        written = list_all-append (λ y. declaration_built y.kind) all (x ∷ []) ∙ of_both _ _ so_far.written (of_both _ _ h.1 refl);
        spelled = so_far.spelled ∙ ap (declarations all) h.0 ∙ sym (one_behind all x after);
        lines = lines_behind text ts all x rest after so_far.lines h.0 line;
      }

  pub shorter : (rest after : Text) (x : DeclKind) → read_d.declaration rest ≡ Some (x, after) → length after < length rest
  shorter rest after x given =
      let h = law.sound rest x after given in
      let more = law.long x after in
      rw h.0 more

  -- ---- where no declaration follows

  all_long : (xs : List Decl) (r : Text) → length r ≤ length (declarations xs r)
  all_long [] r = omega arith
  all_long (x ∷ xs) r = let rest = all_long xs r in let more = law.long x.kind (declarations xs r) in omega arith

  -- two declarations that begin one text are the same, and so are the rests
  one_first : (x y : DeclKind) (r q : Text) → declaration_built x ≡ true → declaration_built y ≡ true → declaration x r ≡ declaration y q → (x ≡ y) × (r ≡ q)
  one_first x y r q bx bz same =
      let pair : ◌≡◌ {A = DeclKind × Text} (x, r) (y, q) = same_some (sym (law.complete x r bx) ∙ ap read_d.declaration same ∙ law.complete y q bz) in
      (ap (λ (z : DeclKind × Text). z.0) pair, ap (λ (z : DeclKind × Text). z.1) pair)

  -- no program goes further than to a place where no declaration is read
  no_further : (xs ys : List Decl) (rest q : Text) → all_written xs ≡ true → all_written ys ≡ true → read_d.declaration rest ≡ None → declarations xs rest ≡ declarations ys q → length rest ≤ length q
  no_further [] [] rest q bx bz none same = omega (arith, ap length same)
  no_further [] (y ∷ ys) rest q bx bz none same =
      let again = law.complete y.kind (declarations ys q) (both _ _ bz).0 in
      let clash : read_d.declaration rest ≡ Some (y.kind, declarations ys q) = ap read_d.declaration same ∙ again in
      absurd (clashes (sym none ∙ clash))
  no_further (x ∷ xs) [] rest q bx bz none same = let long = all_long (x ∷ xs) rest in omega (arith, ap length same)
  no_further (x ∷ xs) (y ∷ ys) rest q bx bz none same =
      let hx = both _ _ bx in
      let hy = both _ _ bz in
      no_further xs ys rest q hx.1 hy.1 none (one_first x.kind y.kind (declarations xs rest) (declarations ys q) hx.0 hy.0 same).1

  -- where no declaration is read the lexemes are no program, and this is the place
  pub stops_here : (text : List ℕ) (ts : List Token) (ls : Text) (all : List Decl) (rest : Text) → Progress text ts ls all rest → read_d.declaration rest ≡ None → 0 < length rest → IsFault ls (length ls - length rest + 1)
  stops_here text ts ls all rest so_far none some =
      let long = all_long all rest in
      let whole = ap length so_far.spelled in
      record {
        at = length ls - length rest;
        number = refl;
        within = omega arith;
        before = record { decls = all; rest = rest; written = so_far.written; spelled = so_far.spelled; place = omega arith };
        longest = λ m p. let further = no_further all p.decls rest p.rest so_far.written p.written none (sym so_far.spelled ∙ p.spelled) in omega (arith, p.place);
      }

  -- ---- one tree

  one_list : (text : List ℕ) (ts : List Token) (xs ys : List Decl) → all_written xs ≡ true → all_written ys ≡ true → HasLines text ts xs [] → HasLines text ts ys [] → declarations xs [] ≡ declarations ys [] → xs ≡ ys
  one_list text ts [] [] bx bz lx ly same = refl
  one_list text ts [] (y ∷ ys) bx bz lx ly same = let long = law.long y.kind (declarations ys []) in absurd (omega (arith, ap length same))
  one_list text ts (x ∷ xs) [] bx bz lx ly same = let long = law.long x.kind (declarations xs []) in absurd (omega (arith, ap length same))
  one_list text ts (x ∷ xs) (y ∷ ys) bx bz lx ly same =
      let hx = both _ _ bx in
      let hy = both _ _ bz in
      let first = one_first x.kind y.kind (declarations xs []) (declarations ys []) hx.0 hy.0 same in
      let line : x.line ≡ y.line = lx.0 ∙ ap (λ z. line_of text (last_of (length z) ts)) same ∙ sym ly.0 in
      let rest = one_list text ts xs ys hx.1 hy.1 lx.1 ly.1 first.1 in
      same_cons x y xs ys (same_decl x y line first.0) rest

  pub one_tree : (text : List ℕ) (ts : List Token) (t u : Tree) → IsTreeOf text ts t → IsTreeOf text ts u → t ≡ u
  one_tree text ts t u ht hu = same_tree t u (one_list text ts t.decls u.decls ht.written hu.written ht.lines hu.lines (sym ht.spelled ∙ hu.spelled))

  -- a tree is found where there is one
  pub finds : (text : List ℕ) (ts : List Token) (ls : Text) (r : Result Tree ParseError) → ls ≡ lexemes_of text ts → IfOk r (λ t. Progress text ts ls t.decls []) → IfErr r (λ e. IsWhy ls e) → (t : Tree) → IsTreeOf text ts t → MatchResult r (λ u. u ≡ t) (λ e. e ≡ errors.Memory)
  finds text ts ls (Ok u) said read why t is = one_tree text ts u t (whole_tree text ts ls u said read) is
  finds text ts ls (Err e) said read why t is = why_parses text ts ls t e said is why
