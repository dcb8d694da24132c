-- The findings for a valid core are the length and the size of each handler, capped.
use Rattle.std.proofs.Common.{◌≡◌, ◌⊎◌, inl, inr, ℕ, zero, suc, ◌<◌, List, [], ◌∷◌, ◌++◌, true, false, fold, length, map, refl, sym, ap, ap₂, ◌∙◌, arith, length-append, nat_lt, slice_index, slice_index_or}
use Rattle.std.specs.List.{list_all}
use Rattle.std.proofs.lemmas.Bool.{and_from, and_parts, cases_eq}
use Rattle.std.proofs.lemmas.List.{get_or_append_left, get_or_at, map-append}
use Rattle.lucid_core.specs.declared.body.Stmt.{Stmt}
use Rattle.lucid_core.specs.declared.defs.FunDef.{FunDef}
use Rattle.lucid_core.specs.declared.defs.HandlerDef.{HandlerDef}
use Rattle.lucid_core.specs.Events.{event_params}
use Rattle.lucid_core.specs.Length.{body_length, fun_lengths, handler_length}
use Rattle.lucid_core.specs.Numbers.{all_hold}
use Rattle.lucid_core.specs.Parts.{CoreParts}
use Rattle.lucid_core.specs.Syntax.{is_core_stmt}
use Rattle.lucid_core.specs.Valid.{IsValid}
use Rattle.lucid_inline_spec.specs.Counts.{body_size, fun_sizes, handler_lengths, handler_sizes}
use Rattle.lucid_inline_count.specs.declared.counts.Counts.{Counts}
use Rattle.lucid_inline_count.specs.Bodies.{body_found, fun_found, funs_found, handlers_found, held_first}
use Rattle.lucid_inline_count.specs.Counts.{capped, counted, counts_at}
use Rattle.lucid_inline_count.proofs.Agrees.{Known, block_agrees, both}

held-length : (params n : ℕ) → length (held_first params n) ≡ n
held-length params zero = refl
held-length params (suc n) = let e = length-append (held_first params n) (nat_lt n params ∷ []) in let h = held-length params n in omega arith

held-at : (params n i : ℕ) → i < n → slice_index_or (held_first params n) i false ≡ nat_lt i params
held-at params zero i h = absurd (omega arith)
held-at params (suc n) i h = of (cases_eq i n) (held-at params n i)
  where
    of : (i ≡ n) ⊎ (i ≡ n → ⊥) → (i < n → slice_index_or (held_first params n) i false ≡ nat_lt i params) → slice_index_or (held_first params n ++ nat_lt n params ∷ []) i false ≡ nat_lt i params
    of (inl e) rest = let l = held-length params n in get_or_at (held_first params n) (nat_lt n params) [] false i (omega arith) ∙ ap (λ (k : ℕ). nat_lt k params) (sym e)
    of (inr ne) rest = let l = held-length params n in let lt : i < n = omega (arith, ne) in get_or_append_left (held_first params n) (nat_lt n params ∷ []) false i (omega arith) ∙ rest lt

mapped : (ss : List Stmt) → list_all is_core_stmt ss ≡ true → all_hold (map is_core_stmt ss) ≡ true
mapped [] h = refl
mapped (x ∷ ss) h = let parts = and_parts _ _ h in and_from _ _ parts.0 (mapped ss parts.1)

body_agrees : (funs : List Counts) (lengths sizes : List ℕ) → Known funs lengths sizes → (params n : ℕ) (ss : List Stmt) → list_all is_core_stmt ss ≡ true →
    body_found funs params n ss ≡ both (body_length lengths params n ss) (body_size ss sizes)
body_agrees funs lengths sizes known params n ss core =
    let l = held-length params n in
    block_agrees ss (mapped ss core) (record { funs = funs; held = held_first params n }) (record { funs = lengths; locals = n; held = λ i. nat_lt i params }) sizes
    (record { funs = record { at = known.at }; locals = sym l; held = λ i h. held-at params n i (omega arith) })

-- The findings for a list are these lengths and sizes, capped.
record Listed (found : List Counts) (ns ms : List ℕ) : Type 0 where
  lengths : map (λ c. c.length) found ≡ map capped ns
  sizes : map (λ c. c.size) found ≡ map capped ms

known_at : (found : List Counts) (lengths sizes : List ℕ) → map (λ (c : Counts). c.length) found ≡ map capped lengths → map (λ (c : Counts). c.size) found ≡ map capped sizes →
    (k : ℕ) → counts_at found k ≡ both (slice_index lengths k) (slice_index sizes k)
unfolding both
known_at [] [] [] e f k = ap₂ counted (omega arith) (omega arith)
known_at [] [] (m ∷ ms) e f k = absurd (cc)
known_at [] (n ∷ ns) ms e f k = absurd (cc)
known_at (c ∷ cs) [] ms e f k = absurd (cc)
known_at (c ∷ cs) (n ∷ ns) [] e f k = absurd (cc)
known_at (c ∷ cs) (n ∷ ns) (m ∷ ms) e f zero = let x : c.length ≡ capped n = cc in let y : c.size ≡ capped m = cc in ap₂ counted x y
known_at (c ∷ cs) (n ∷ ns) (m ∷ ms) e f (suc k) =
    let x : map (λ (d : Counts). d.length) cs ≡ map capped ns = cc in let y : map (λ (d : Counts). d.size) cs ≡ map capped ms = cc in known_at cs ns ms x y k

known : (found : List Counts) (lengths sizes : List ℕ) → Listed found lengths sizes → Known found lengths sizes
known found lengths sizes is = record { at = known_at found lengths sizes is.lengths is.sizes }

-- One more behind these.
one_more : (found : List Counts) (lengths sizes : List ℕ) (c : Counts) (n m : ℕ) → Listed found lengths sizes → c ≡ both n m → Listed (found ++ c ∷ []) (lengths ++ n ∷ []) (sizes ++ m ∷ [])
unfolding both
one_more found lengths sizes c n m is e = record {
  lengths = map-append (λ (d : Counts). d.length) found (c ∷ []) ∙ ap₂ (λ (xs : List ℕ) (d : Counts). xs ++ d.length ∷ []) is.lengths e ∙ sym (map-append capped lengths (n ∷ []));
  sizes = map-append (λ (d : Counts). d.size) found (c ∷ []) ∙ ap₂ (λ (xs : List ℕ) (d : Counts). xs ++ d.size ∷ []) is.sizes e ∙ sym (map-append capped sizes (m ∷ []));
}

funs_agree : (found : List Counts) (lengths sizes : List ℕ) → Listed found lengths sizes → (fs : List FunDef) → list_all (λ f. list_all is_core_stmt f.body) fs ≡ true →
    Listed (fold (λ so_far f. so_far ++ fun_found so_far f ∷ []) found fs) (fun_lengths lengths fs) (fun_sizes sizes fs)
funs_agree found lengths sizes is [] core = record { lengths = is.lengths; sizes = is.sizes }
funs_agree found lengths sizes is (f ∷ fs) core =
    let parts = and_parts _ _ core in
    let own = body_agrees found lengths sizes (known found lengths sizes is) f.params (length f.locals) f.body parts.0 in
    funs_agree (found ++ fun_found found f ∷ []) (lengths ++ body_length lengths f.params (length f.locals) f.body ∷ []) (sizes ++ body_size f.body sizes ∷ [])
    (one_more found lengths sizes (fun_found found f) (body_length lengths f.params (length f.locals) f.body) (body_size f.body sizes) is own) fs parts.1

handlers_agree : (core : CoreParts) (found : List Counts) → Listed found (fun_lengths [] core.funs) (fun_sizes [] core.funs) → (hs : List HandlerDef) → list_all (λ h. list_all is_core_stmt h.body) hs ≡ true →
    Listed (handlers_found core.events found hs) (map (handler_length core (fun_lengths [] core.funs)) hs) (map (λ h. body_size h.body (fun_sizes [] core.funs)) hs)
unfolding both
handlers_agree core found is [] all = record { lengths = refl; sizes = refl }
handlers_agree core found is (h ∷ hs) all =
    let parts = and_parts _ _ all in
    let params = length (event_params core.events h.event) in
    let own = body_agrees found (fun_lengths [] core.funs) (fun_sizes [] core.funs) (known found _ _ is) params (length h.locals) h.body parts.0 in
    let rest = handlers_agree core found is hs parts.1 in record {
      lengths = ap₂ (λ (n : ℕ) (ns : List ℕ). n ∷ ns) (ap (λ (c : Counts). c.length) own) rest.lengths;
      sizes = ap₂ (λ (n : ℕ) (ns : List ℕ). n ∷ ns) (ap (λ (c : Counts). c.size) own) rest.sizes;
    }

counts_agree : (core : CoreParts) → IsValid core → Listed (handlers_found core.events (funs_found core.funs) core.handlers) (handler_lengths core) (handler_sizes core)
counts_agree core valid =
    let forms = and_parts _ _ valid.syntax in
    let all = handlers_agree core (funs_found core.funs) (funs_agree [] [] [] (record { lengths = refl; sizes = refl }) core.funs forms.0) core.handlers forms.1 in
    record { lengths = all.lengths; sizes = all.sizes }

pub lengths_agree : (core : CoreParts) → IsValid core → map (λ (c : Counts). c.length) (handlers_found core.events (funs_found core.funs) core.handlers) ≡ map capped (handler_lengths core)
lengths_agree core valid = (counts_agree core valid).lengths

pub sizes_agree : (core : CoreParts) → IsValid core → map (λ (c : Counts). c.size) (handlers_found core.events (funs_found core.funs) core.handlers) ≡ map capped (handler_sizes core)
sizes_agree core valid = (counts_agree core valid).sizes
