-- The branches of an `if`: both begin at the end of the condition, and the walk goes on where they meet.
use Rattle.std.proofs.Common.{◌≡◌, ◌∙◌, ℕ, List, [], ◌∷◌, ◌++◌, Bool, true, false, Option, None, ap, ap₂, map, refl, subst, sym}
use Rattle.lucid_code.specs.declared.op.Literal.{Literal}
use Rattle.lucid_code.specs.declared.op.Op.{Op}
use Rattle.lucid_code.specs.declared.op.Operand.{Operand}
use Rattle.lucid_code.specs.declared.op.Operand.TheVariants.{Field, Fixed}
use Rattle.lucid_core.specs.declared.body.Stmt.{Stmt}
use Rattle.lucid_normal.specs.Bodies.{Walk, chosen, ended, finished, joined, operand_of, turned, turned_back}
use Rattle.lucid_normal_join.specs.Branches.{Ends, ends_at, ends_of, env_of, ops_of}
use Rattle.lucid_normal_join.specs.declared.branches.Begun.{Begun}
use Rattle.lucid_normal_join.specs.declared.branches.Ended.{Ended}
use Rattle.lucid_normal_steps.specs.Added.{added}
use Rattle.lucid_normal_steps.specs.Notes.{before}
use Rattle.lucid_normal_steps.specs.declared.notes.Note.{Note}
use Rattle.lucid_normal_steps.proofs.Adding.{added_guarded, added_more}
use Rattle.lucid_normal_spec.specs.declared.env.Env.{Env}
use Rattle.lucid_normal_spec.specs.declared.env.Typed.{Typed}
use Rattle.lucid_normal_spec.specs.Translate.{◌>>=◌, Translation, bit_field, body_code, branch, guarded, is}
use Rattle.lucid_normal.proofs.BodiesLemmas.{bind}

bit_held : (flag : Bool) (o : Operand) (t : Typed) (env : Env) → (bit_field flag o t env).env.held ≡ env.held
bit_held true o t env = refl
bit_held false (Fixed v) t env = refl
bit_held false (Field k) t env = refl

-- Both branches from where the condition ends.
module _ (s : Walk) (c : ℕ) (ss ts : List Stmt) (begun : Begun)
    (notes_are : before begun.notes.items s.env.held ≡ s.was)
    (env_is : s.env ≡ record s.env { answer = begun.answer; slot = begun.slot; place = begun.place }) where
  abbrev inner : Walk
  inner = record s { guard = s.guard ++ is c 1 ∷ []; was = s.env.held }

  abbrev a : Env
  a = (body_code ss s.env).env

  abbrev start : Env
  start = record s.env { widths = a.widths }

  starts : record a { held = s.env.held; answer = begun.answer; slot = begun.slot; place = begun.place } ≡ start
  starts =
      ap (λ (x : Env). record a { held = s.env.held; answer = x.answer; slot = x.slot; place = x.place }) (sym env_is)

  -- The walk at the end of the second branch, that begins in this environment.
  abbrev second : Env → Walk
  second env = joined c s.guard begun.notes.items (ends_of a) (finished (body_code ts) (record (finished (body_code ss) inner) {
    guard = s.guard ++ is c 0 ∷ [];
    env = env;
  }))

  pub branched : turned begun c s.guard ts (finished (body_code ss) inner) ≡ finished (branch (body_code ss) (body_code ts) c) s
  unfolding ended joined turned
  branched =
      let t = (body_code ss s.env).ops in
      let b = body_code ts start in
      let rest = ops_of c s.env.held (ends_of a) b.env in
      let more : added s.guard (added (s.guard ++ is c 0 ∷ []) (added (s.guard ++ is c 1 ∷ []) s.ops t) b.ops) rest
      ≡ added s.guard s.ops (map (guarded (is c 1)) t ++ (map (guarded (is c 0)) b.ops ++ rest)) =
      ap (λ (o : List Op). added s.guard (added (s.guard ++ is c 0 ∷ []) o b.ops) rest) (added_guarded s.guard (is c 1) s.ops t)
      ∙ ap (λ (o : List Op). added s.guard o rest) (added_guarded s.guard (is c 0) _ b.ops)
      ∙ added_more s.guard (added s.guard s.ops (map (guarded (is c 1)) t)) (map (guarded (is c 0)) b.ops) rest
      ∙ added_more s.guard s.ops (map (guarded (is c 1)) t) (map (guarded (is c 0)) b.ops ++ rest) in
      ap second starts
      ∙ ap₂ (λ (o : List Op) (w : List (Option Typed)). record s { ops = o; env = env_of c s.env.held (ends_of a) b.env; was = w; value = None })
      more notes_are

-- The walk where the first branch begins. The condition is the value of `s`; the rest is the effect of its test.
module _ (s : Walk) (flag : Bool) (t : Typed) (ss ts : List Stmt) (begun : Begun) (t_is : t ≡ operand_of s)
    (notes_are : s.was ≡ before begun.notes.items s.env.held) where
  abbrev test : Translation ℕ
  test = bit_field flag t.operand t

  pub chooses : (c : ℕ) → c ≡ (test s.env).value → (guard outer : List Literal) → guard ≡ s.guard ++ is c 1 ∷ [] → outer ≡ s.guard →
      (env : Env) → env ≡ (test s.env).env → env ≡ record env { answer = begun.answer; slot = begun.slot; place = begun.place } →
      (ops : List Op) → ops ≡ added s.guard s.ops (test s.env).ops → (notes : List Note) → notes ≡ [] →
      turned begun c outer ts (finished (body_code ss) (record s { guard = guard; ops = ops; env = env; was = before notes env.held }))
      ≡ chosen flag ss ts s
  unfolding ended chosen
  chooses c c_is guard outer guard_is outer_is env env_is begun_is ops ops_is notes notes_is =
      let b = test s.env in
      let after = ended (λ _. s.value) test s in
      let next = branch (body_code ss) (body_code ts) in
      let back : before begun.notes.items b.env.held ≡ s.was =
      ap (before begun.notes.items) (bit_held flag t.operand t s.env) ∙ sym notes_are in
      let begins : b.env ≡ record b.env { answer = begun.answer; slot = begun.slot; place = begun.place } =
      subst (λ (e : Env). e ≡ record e { answer = begun.answer; slot = begun.slot; place = begun.place }) env_is begun_is in
      ap₂ (λ (g : List Literal) (e : Env). turned begun c outer ts (finished (body_code ss)
      (record s { guard = g; ops = ops; env = e; was = before notes e.held }))) guard_is env_is
      ∙ ap₂ (λ (o : List Op) (ns : List Note). turned begun c outer ts (finished (body_code ss)
      (record s { guard = s.guard ++ is c 1 ∷ []; ops = o; env = b.env; was = before ns b.env.held }))) ops_is notes_is
      ∙ ap (λ (g : List Literal). turned begun c g ts (finished (body_code ss)
      (record after { guard = s.guard ++ is c 1 ∷ []; was = b.env.held }))) outer_is
      ∙ branched after c ss ts begun back begins
      ∙ ap (λ (n : ℕ). finished (next n) after) c_is
      ∙ bind (λ _. None) s.value test next s
      ∙ ap (λ (x : Typed). finished (bit_field flag x.operand x >>= next) s) t_is

-- The walk where the second branch begins.
pub turns : (s : Walk) (begun : Begun) (c : ℕ) (outer : List Literal) (ts : List Stmt) (guard : List Literal) → guard ≡ outer ++ is c 0 ∷ [] →
    (env : Env) → env ≡ record s.env { held = s.was; answer = begun.answer; slot = begun.slot; place = begun.place } →
    (ops : List Op) → ops ≡ s.ops → (notes : List Note) → notes ≡ [] →
    (earlier : List Note) → earlier ≡ begun.notes.items → (first : Ended) → ends_at s.was first ≡ ends_of s.env →
    joined c outer earlier (ends_at (finished (body_code ts) (record s { guard = guard; ops = ops; env = env; was = before notes env.held })).was first)
    (finished (body_code ts) (record s { guard = guard; ops = ops; env = env; was = before notes env.held }))
    ≡ turned begun c outer ts s
unfolding ended turned
turns s begun c outer ts guard guard_is env env_is ops ops_is notes notes_is earlier earlier_is first first_is =
    let walked : record s { guard = guard; ops = ops; env = env; was = before notes env.held } ≡ turned_back begun c outer s =
    ap₂ (λ (g : List Literal) (e : Env). record s { guard = g; ops = ops; env = e; was = before notes e.held }) guard_is env_is
    ∙ ap₂ (λ (o : List Op) (ns : List Note). record (turned_back begun c outer s) { ops = o; was = before ns s.was }) ops_is notes_is in
    ap₂ (λ (w : Walk) (ns : List Note). joined c outer ns (ends_at (finished (body_code ts) w).was first) (finished (body_code ts) w))
    walked earlier_is
    ∙ ap (λ (x : Ends). joined c outer begun.notes.items x (finished (body_code ts) (turned_back begun c outer s))) first_is
