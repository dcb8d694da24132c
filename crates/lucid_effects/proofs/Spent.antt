-- The steps of the checks of all functions, or handlers, together.
use Rattle.std.proofs.Common.{◌≡◌, ℕ, zero, suc, ◌+◌, ◌*◌, ◌≤◌, List, [], ◌∷◌, Some, length, map, take, slice_get, refl, sym, ap, subst, ◌∙◌, arith}
use Rattle.std.proofs.Math.Nat.{mul-le-mul_left}
use Rattle.lucid_core.specs.declared.body.Stmt.{Stmt}
use Rattle.lucid_core.specs.declared.defs.FunDef.{FunDef}
use Rattle.lucid_core.specs.declared.defs.HandlerDef.{HandlerDef}
use Rattle.lucid_core.specs.Parts.{CoreParts}
use Rattle.lucid_core.specs.Valid.{IsSound}
use Rattle.lucid_effects_spec.specs.Evaluation.{body_walk}
use Rattle.lucid_effects_spec.specs.Size.{fun_nodes, handler_nodes, nodes, size, total}
use Rattle.lucid_effects_spec.specs.declared.scheme.Scheme.{Scheme}
use Rattle.lucid_effects_spec.specs.SchemeLaws.{TakesFewSteps, steps_a_node}
use Rattle.lucid_effects_spec.specs.Schemes.{begun, body_found, schemes_of}
use Rattle.lucid_effects_spec.proofs.Costs.{walks_are_short}

module _ {A : Type 0} (f : A → ℕ) where
  total_more : (xs : List A) (i : ℕ) (x : A) → slice_get xs i ≡ Some x → total (map f (take (suc i) xs)) ≡ total (map f (take i xs)) + f x
  total_more [] i x is = absurd (cc)
  total_more (y ∷ xs) zero x is = let e : y ≡ x = cc in let g = ap f e in omega (arith, g)
  total_more (y ∷ xs) (suc i) x is = let rest = total_more xs i x is in omega (arith, rest)

  total_least : (xs : List A) (i : ℕ) → total (map f (take i xs)) ≤ total (map f xs)
  total_least [] zero = omega arith
  total_least [] (suc i) = omega arith
  total_least (x ∷ xs) zero = omega arith
  total_least (x ∷ xs) (suc i) = let rest = total_least xs i in omega (arith, rest)

-- One more body, of this many nodes.
spent : (k start old new before nodes after : ℕ) → old ≤ start + before * k → new ≤ old + nodes * k → after ≡ before + nodes → new ≤ start + after * k
spent k start old new before nodes after h one is =
    let both : (before + nodes) * k ≡ before * k + nodes * k = omega arith in
    let e : after * k ≡ (before + nodes) * k = ap (λ m. m * k) is in
    omega (arith, h, one, both, e)

all_spent : (k start new part whole : ℕ) → new ≤ start + part * k → part ≤ whole → new ≤ start + whole * k
all_spent k start new part whole h le = let m : k * part ≤ k * whole = mul-le-mul_left k le in omega (arith, h, m)

module _ (parts : CoreParts) (sound : IsSound parts) (n start old new : ℕ) (ss : List Scheme) (i : ℕ) (counted : length parts.arrays ≡ n) where
  fast : (funs : List FunDef) (body stmts : List Stmt) → TakesFewSteps (length parts.arrays) funs body → ss ≡ schemes_of funs → stmts ≡ body → new ≤ (body_found stmts ss (begun old)).steps →
      new ≤ old + (1 + body_walk size body) * steps_a_node n
  fast funs body stmts few known is most =
      let here = subst (λ (xs : List Scheme). new ≤ (body_found body xs (begun old)).steps) known (subst (λ (b : List Stmt). new ≤ (body_found b ss (begun old)).steps) is most) in
      let le = few old in
      let same = ap (λ m. (1 + body_walk size body) * steps_a_node m) counted in
      omega (arith, here, le, same)

  pub fun_spent : (funs : List FunDef) → parts.funs ≡ funs → (f : FunDef) → slice_get funs i ≡ Some f → (stmts : List Stmt) → ss ≡ schemes_of (take i funs) → stmts ≡ f.body → new ≤ (body_found stmts ss (begun old)).steps →
      old ≤ start + fun_nodes (take i funs) * steps_a_node n → new ≤ start + fun_nodes (take (i + 1) funs) * steps_a_node n
  fun_spent funs own f is stmts known same most before =
      let there : slice_get parts.funs i ≡ Some f = ap (λ (fs : List FunDef). slice_get fs i) own ∙ is in
      let few = subst (λ (fs : List FunDef). TakesFewSteps (length parts.arrays) (take i fs) f.body) own ((walks_are_short parts sound).functions i f there) in
      let next : suc i ≡ i + 1 = omega arith in
      subst (λ j. new ≤ start + fun_nodes (take j funs) * steps_a_node n) next
      (spent (steps_a_node n) start old new (fun_nodes (take i funs)) (1 + body_walk size f.body) (fun_nodes (take (suc i) funs)) before (fast (take i funs) f.body stmts few known same most)
      (total_more (λ (g : FunDef). 1 + body_walk size g.body) funs i f is))

  pub handler_spent : (handlers : List HandlerDef) → parts.handlers ≡ handlers → (h : HandlerDef) → slice_get handlers i ≡ Some h → (stmts : List Stmt) → ss ≡ schemes_of parts.funs → stmts ≡ h.body → new ≤ (body_found stmts ss (begun old)).steps →
      old ≤ start + handler_nodes (take i handlers) * steps_a_node n → new ≤ start + handler_nodes (take (i + 1) handlers) * steps_a_node n
  handler_spent handlers own h is stmts known same most before =
      let there : slice_get parts.handlers i ≡ Some h = ap (λ (hs : List HandlerDef). slice_get hs i) own ∙ is in
      let next : suc i ≡ i + 1 = omega arith in
      subst (λ j. new ≤ start + handler_nodes (take j handlers) * steps_a_node n) next
      (spent (steps_a_node n) start old new (handler_nodes (take i handlers)) (1 + body_walk size h.body) (handler_nodes (take (suc i) handlers)) before
      (fast parts.funs h.body stmts ((walks_are_short parts sound).handlers i h there) known same most) (total_more (λ (g : HandlerDef). 1 + body_walk size g.body) handlers i h is))

-- A loop that memory stops has taken no more than the whole.
pub funs_spent : (k start new i : ℕ) (funs : List FunDef) → new ≤ start + fun_nodes (take i funs) * k → new ≤ start + fun_nodes funs * k
funs_spent k start new i funs h = all_spent k start new (fun_nodes (take i funs)) (fun_nodes funs) h (total_least (λ (g : FunDef). 1 + body_walk size g.body) funs i)

pub handlers_spent : (k start new i : ℕ) (handlers : List HandlerDef) → new ≤ start + handler_nodes (take i handlers) * k → new ≤ start + handler_nodes handlers * k
handlers_spent k start new i handlers h = all_spent k start new (handler_nodes (take i handlers)) (handler_nodes handlers) h (total_least (λ (g : HandlerDef). 1 + body_walk size g.body) handlers i)

-- Of a program.
module _ (parts : CoreParts) (start mid : ℕ) (funs : List FunDef) (own : parts.funs ≡ funs) (n : ℕ) (counted : length parts.arrays ≡ n) (first : mid ≤ start + fun_nodes funs * steps_a_node n) where
  first_here : mid ≤ start + fun_nodes parts.funs * steps_a_node (length parts.arrays)
  first_here = subst (λ (fs : List FunDef). mid ≤ start + fun_nodes fs * steps_a_node (length parts.arrays)) (sym own) (subst (λ m. mid ≤ start + fun_nodes funs * steps_a_node m) (sym counted) first)

  pub of_funs : mid ≤ start + nodes parts * steps_a_node (length parts.arrays)
  of_funs = all_spent (steps_a_node (length parts.arrays)) start mid (fun_nodes parts.funs) (nodes parts) first_here (omega arith)

  pub of_all : (new : ℕ) (handlers : List HandlerDef) → parts.handlers ≡ handlers → new ≤ mid + handler_nodes handlers * steps_a_node n → new ≤ start + nodes parts * steps_a_node (length parts.arrays)
  of_all new handlers is second =
      let last = subst (λ (hs : List HandlerDef). new ≤ mid + handler_nodes hs * steps_a_node (length parts.arrays)) (sym is) (subst (λ m. new ≤ mid + handler_nodes handlers * steps_a_node m) (sym counted) second) in
      spent (steps_a_node (length parts.arrays)) start mid new (fun_nodes parts.funs) (handler_nodes parts.handlers) (nodes parts) first_here last refl
