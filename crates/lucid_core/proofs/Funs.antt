-- The functions before a function.
use Rattle.std.proofs.Common.{◌≡◌, ℕ, zero, suc, ◌+◌, ◌<◌, ◌≤◌, List, [], ◌∷◌, map, take, None, Some, refl, arith}
use Rattle.std.specs.Prelude.{slice_get}
use Rattle.std.specs.Option.{option_map}
use Rattle.std.proofs.lemmas.Option.{slice_get_within}
use denote.Param.Weighed.{most}
use Rattle.lucid_base.specs.declared.bits.Bits.{Bits}
use Rattle.lucid_core.specs.declared.body.Stmt.{Stmt}
use Rattle.lucid_core.specs.declared.body.Expr.TheViews.{size-Stmt}
use Rattle.lucid_core.specs.declared.defs.FunDef.{FunDef}
use Rattle.lucid_core.specs.Computations.{Frame, Fun, State, begun_with, block, called}
use Rattle.lucid_core.specs.Meaning.{call, effect_of, fun_of, funs_of}
use Rattle.lucid_core.specs.Values.{nothing}
use Rattle.lucid_core.specs.Weight.{weight}
use Rattle.lucid_core.proofs.Grown.{grow, grow-at}

-- The effects of functions, after those already known.
abbrev pub funs_from : ℕ → ℕ → List Fun → List FunDef → List Fun
funs_from now me known fs = grow (fun_of now me) known fs

pub funs_of-at : (now me : ℕ) (fs : List FunDef) (k : ℕ) → slice_get (funs_of now me fs) k ≡ option_map (λ f. fun_of now me (funs_of now me (take k fs)) f) (slice_get fs k)
funs_of-at now me fs k = let e : 0 + k ≡ k = omega arith in rw e at (grow-at (fun_of now me) [] fs k)

pub weight-at : (fs : List FunDef) (k : ℕ) (f : FunDef) → slice_get fs k ≡ Some f → weight (take k fs) + most (λ x. size-Stmt x) f.body + 1 ≤ weight fs
weight-at [] k f is = absurd (let past : k < 0 = slice_get_within [] k f is in omega arith)
weight-at (g ∷ fs) zero f is = let e : f ≡ g = cc in rw e (omega arith)
weight-at (g ∷ fs) (suc k) f is = let below = weight-at fs k f is in omega arith

pub call_none : (p : Frame) (fs : List FunDef) (k : ℕ) (arrays : List ℕ) (args : List Bits) (s : State) → p.funs ≡ funs_of p.now p.me fs → None ≡ slice_get fs k →
    call k arrays args p s ≡ record { gives = nothing; after = s; calls = [] }
call_none p fs k arrays args s known is = rw (known, funs_of-at p.now p.me fs k, ← is) refl

-- A call of a function that is there runs its body on locals of its own, behind the functions before it.
pub call_some : (p : Frame) (fs before : List FunDef) (k : ℕ) (arrays : List ℕ) (args locals : List Bits) (widths : List ℕ) (body : List Stmt) (f : FunDef) (s : State) →
    p.funs ≡ funs_of p.now p.me fs → Some f ≡ slice_get fs k → before ≡ take k fs → widths ≡ f.locals → body ≡ f.body → locals ≡ begun_with args widths →
    call k arrays args p s ≡ called locals (block (map effect_of body)) (record { now = p.now; me = p.me; arrays = arrays; funs = funs_of p.now p.me before }) s
call_some p fs before k arrays args locals widths body f s known is at ws ss begun = rw (known, funs_of-at p.now p.me fs k, ← is, ← at, ← ws, ← ss, ← begun) refl
