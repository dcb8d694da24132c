-- The length that is counted over a program is that of its flat form.
use Rattle.std.proofs.Common.{◌≡◌, ℕ, ◌+◌, ◌≤◌, List, [], ◌∷◌, ◌++◌, true, ◌&&◌, length, map, refl, ap, ap₂, arith, nat_eq, nat_lt, length-append}
use Rattle.std.specs.List.{list_all, enumerate_from, starts_with}
use Rattle.std.proofs.lemmas.Bool.{and_parts, leb-true, le-ltb}
use Rattle.lucid_core.specs.declared.defs.FunDef.{FunDef}
use Rattle.lucid_core.specs.declared.defs.HandlerDef.{HandlerDef}
use Rattle.lucid_core.specs.Events.{event_params, is_handled_by}
use Rattle.lucid_core.specs.Length.{body_length, fun_lengths, handler_length}
use Rattle.lucid_core.specs.Parts.{CoreParts}
use Rattle.lucid_core.specs.Valid.{IsValid}
use Rattle.lucid_inline_spec.specs.Flat as f
use Rattle.lucid_inline_spec.specs.Flat.{PutIn, flat_stmt}
use Rattle.lucid_inline_spec.specs.Counts.{body_size, flat_handler_size, fun_sizes, handler_lengths, handler_sizes}
use Rattle.lucid_inline_spec.proofs.Fit as r
use Rattle.lucid_inline_spec.proofs.Fit.{stmt_fit}
use Rattle.lucid_inline_spec.proofs.Grows.{AllGrow, stmts_grow}
use Rattle.lucid_inline_spec.proofs.Lengths.{AllCounts, Counts, body_long}
use Rattle.lucid_inline_spec.proofs.Locals.{Begins, begins_append, begins_length, begins_then}
use Rattle.lucid_inline_spec.proofs.Runs.{funs_fit, puts_from, rooms_from}
use Rattle.lucid_inline_spec.proofs.Sizes.{handler_size}
use Rattle.lucid_inline_spec.proofs.Steps.{starts-length, valid_fits}

pub grow_more : (ps : List PutIn) (put : PutIn) → AllGrow ps → ((arrays ws : List ℕ) → Begins ws (put arrays ws).locals) → AllGrow (ps ++ put ∷ [])
grow_more [] put all one = (one, tt)
grow_more (p ∷ ps) put all one = (all.0, grow_more ps put all.1 one)

-- Behind functions that only add locals, a function adds its own first.
pub put_begins : (puts : List PutIn) (d : FunDef) → AllGrow puts → (arrays ws : List ℕ) → Begins (ws ++ d.locals) (f.put_of puts d arrays ws).locals
put_begins puts d all arrays ws = stmts_grow d.body (record { arrays = arrays; first = length ws; funs = puts }) all (ws ++ d.locals)

pub put_grows : (puts : List PutIn) (d : FunDef) → AllGrow puts → (arrays ws : List ℕ) → Begins ws (f.put_of puts d arrays ws).locals
put_grows puts d all arrays ws = begins_then ws (ws ++ d.locals) _ (begins_append ws d.locals) (put_begins puts d all arrays ws)

pub grow_puts : (puts : List PutIn) (ds : List FunDef) → AllGrow puts → AllGrow (puts_from puts ds)
grow_puts puts [] all = all
grow_puts puts (d ∷ ds) all = grow_puts (puts ++ f.put_of puts d ∷ []) ds (grow_more puts (f.put_of puts d) all (put_grows puts d all))

module _ (N : ℕ) where
  one_more : (cs rs : List ℕ) (ps : List PutIn) (c k : ℕ) (put : PutIn) → AllCounts N cs rs ps → Counts N c k put → AllCounts N (cs ++ c ∷ []) (rs ++ k ∷ []) (ps ++ put ∷ [])
  one_more [] [] [] c k put all one = (one, tt)
  one_more (d ∷ cs) (q ∷ rs) (p ∷ ps) c k put all one = (all.0, one_more cs rs ps c k put all.1 one)
  one_more [] [] (p ∷ ps) c k put all one = absurd all
  one_more [] (q ∷ rs) ps c k put all one = absurd all
  one_more (d ∷ cs) [] ps c k put all one = absurd all
  one_more (d ∷ cs) (q ∷ rs) [] c k put all one = absurd all

  fun_long : (cs rooms : List ℕ) (puts : List PutIn) (d : FunDef) → AllCounts N cs rooms puts → AllGrow puts → d.params ≤ length d.locals → r.each (map stmt_fit d.body) (length d.locals) rooms ≡ true →
      Counts N (body_length cs d.params (length d.locals) d.body) d.params (f.put_of puts d)
  fun_long cs rooms puts d all grow small fit = record {
    own = length d.locals;
    room = small;
    ops = λ arrays ws top under within b many held past.
        let l = length-append ws d.locals in
        body_long N (record { arrays = arrays; first = length ws; funs = puts }) cs rooms all grow (length d.locals) d.body fit (ws ++ d.locals) (omega arith) top under within
        (record { funs = cs; locals = length d.locals; held = λ i. nat_lt i d.params }) b
        (record { funs = refl; locals = refl; all_locals = many; own = held; rest = λ k h u. past k (omega arith) u });
    above = λ arrays ws. let l = length-append ws d.locals in let g = begins_length (ws ++ d.locals) _ (put_begins puts d grow arrays ws) in omega arith;
  }

  funs_long : (cs rooms : List ℕ) (puts : List PutIn) (ds : List FunDef) → AllCounts N cs rooms puts → AllGrow puts → funs_fit rooms ds ≡ true → AllCounts N (fun_lengths cs ds) (rooms_from rooms ds) (puts_from puts ds)
  funs_long cs rooms puts [] all grow fit = all
  funs_long cs rooms puts (d ∷ ds) all grow fit =
      let fits = and_parts _ _ fit in
      let own = and_parts _ _ fits.0 in
      let count = body_length cs d.params (length d.locals) d.body in
      funs_long (cs ++ count ∷ []) (rooms ++ d.params ∷ []) (puts ++ f.put_of puts d ∷ []) ds
      (one_more cs rooms puts count d.params (f.put_of puts d) all (fun_long cs rooms puts d all grow (leb-true _ _ own.0) own.1))
      (grow_more puts (f.put_of puts d) grow (put_grows puts d grow)) fits.1

handler_long : (core : CoreParts) → funs_fit [] core.funs ≡ true → (h : HandlerDef) → r.each (map stmt_fit h.body) (length h.locals) (rooms_from [] core.funs) ≡ true →
    length (event_params core.events h.event) ≤ length h.locals → handler_length (f.flat_of core) [] (f.flat_handler core.funs h) ≡ handler_length core (fun_lengths [] core.funs) h
handler_long core fits h fit small =
    let made = f.flat_body core.funs h in
    let N = length made.locals in
    let grow = grow_puts [] core.funs tt in
    let all = funs_long N [] [] [] core.funs tt tt fits in
    let params = length (event_params core.events h.event) in
    body_long N (record { arrays = []; first = 0; funs = f.puts_of core.funs }) (fun_lengths [] core.funs) (rooms_from [] core.funs) all grow (length h.locals) h.body fit h.locals (omega arith) N (omega arith) (omega arith)
    (record { funs = fun_lengths [] core.funs; locals = length h.locals; held = λ i. nat_lt i params }) (record { funs = []; locals = N; held = λ i. nat_lt i params })
    (record { funs = refl; locals = refl; all_locals = refl; own = λ i k. let z : 0 + i ≡ i = omega arith in ap (λ (j : ℕ). nat_lt j params) z; rest = λ k l u. le-ltb k params (omega arith) })

-- A handler's first locals are its event's parameters.
handlers_begin : (core : CoreParts) (b : ℕ) (hs : List HandlerDef) → list_all (λ (p : ℕ × HandlerDef). is_handled_by core.events p.0 p.1.event && starts_with nat_eq p.1.locals (event_params core.events p.1.event)) (enumerate_from b hs) ≡ true →
    list_all (λ h. r.each (map stmt_fit h.body) (length h.locals) (rooms_from [] core.funs)) hs ≡ true → funs_fit [] core.funs ≡ true →
    map (handler_length (f.flat_of core) []) (map (f.flat_handler core.funs) hs) ≡ map (handler_length core (fun_lengths [] core.funs)) hs
handlers_begin core b [] agree fit fits = refl
handlers_begin core b (h ∷ hs) agree fit fits =
    let here = and_parts _ _ agree in
    let own = and_parts _ _ fit in
    let small = starts-length h.locals (event_params core.events h.event) (and_parts _ _ here.0).1 in
    ap₂ (λ (x : ℕ) (xs : List ℕ). x ∷ xs) (handler_long core fits h own.0 small) (handlers_begin core (b + 1) hs here.1 own.1 fits)

pub lengths_kept : (core : CoreParts) → IsValid core → handler_lengths (f.flat_of core) ≡ handler_lengths core
lengths_kept core valid =
    let fits = and_parts _ _ (valid_fits core valid) in
    handlers_begin core 0 core.handlers (and_parts _ _ valid.sound.events).1 fits.1 fits.0

pub sizes_kept : (core : CoreParts) → IsValid core → map flat_handler_size (f.flat_of core).handlers ≡ handler_sizes core
sizes_kept core valid = let fits = and_parts _ _ (valid_fits core valid) in at fits.0 core.handlers fits.1
  where
    at : funs_fit [] core.funs ≡ true → (hs : List HandlerDef) → list_all (λ h. r.each (map stmt_fit h.body) (length h.locals) (rooms_from [] core.funs)) hs ≡ true →
        map flat_handler_size (map (f.flat_handler core.funs) hs) ≡ map (λ h. body_size h.body (fun_sizes [] core.funs)) hs
    at fits [] fit = refl
    at fits (h ∷ hs) fit = let own = and_parts _ _ fit in ap₂ (λ (x : ℕ) (xs : List ℕ). x ∷ xs) (handler_size core.funs fits h own.0) (at fits hs own.1)
