-- Which passes ran, where a part ended and where the whole went on from it.
use Rattle.std.proofs.Common.{◌≡◌, ◌∙◌, inl, inr, ℕ, suc, ◌≤◌, List, [], ◌∷◌, Result, Ok, Err, length, map, take, refl, sym, ap, ap₂, subst, arith}
use Rattle.std.proofs.lemmas.List.{length-map, take_all}
use Rattle.std.proofs.lemmas.Simd.{map-map}
use Rattle.lucid_code.specs.Parts as code
use Rattle.lucid_pass.specs.Through.{gone, raised}
use Rattle.lucid_pass_spec.specs.Replace.{Rewrite}
use Rattle.lucid_top_fit.specs.Passes.{PassView, PassesRun, Ran, RanOut, pass_view, passes_view}
use Rattle.lucid_top_words.specs.declared.refusal.Refusal.{Refusal}
use Rattle.lucid_top_words.specs.declared.refusal.Refusal.TheVariants as refusal
use Rattle.lucid_top_words.specs.Outcome.{Declines, Prepares}
use Rattle.lucid_top_words.specs.Words.{Bytes}

-- a part that has an answer is declined for want of memory alone
pub only-memory : {X : Type 0} (P : Type 0) (answers : Result X Refusal → Type 0) (x : X) (r : Refusal) → Declines answers r → answers (Ok x) → RanOut {X = P} (Err r)
only-memory P answers x refusal.Memory declined is = tt
only-memory P answers x refusal.WriteFault declined is = absurd declined
only-memory P answers x (refusal.ReadFault word) declined is = absurd declined
only-memory P answers x (refusal.TooLong word) declined is = absurd declined
only-memory P answers x r declined is = absurd (declined.only (Ok x) is)

module _ {B : Type 0} (name : B → Bytes) (gives : B → Rewrite) (removed : B → ℕ) where
  pub seen-gives : (boxes : List B) → map PassView.gives (passes_view name gives removed boxes) ≡ map gives boxes
  seen-gives boxes = map-map PassView.gives (pass_view name gives removed) boxes

  -- the first n ran
  pub ran-some : (old new : List B) (from : code.CodeParts) (n : ℕ) → map name new ≡ map name old → map gives new ≡ map gives old →
      map removed new ≡ raised (map removed old) (take n (gone (map gives old) from)) → Ran n from (passes_view name gives removed old) (passes_view name gives removed new)
  ran-some old new from n names same counts =
      let seen : B → PassView = pass_view name gives removed in
      record {
        names = map-map PassView.name seen new ∙ names ∙ sym (map-map PassView.name seen old);
        same = map-map PassView.gives seen new ∙ same ∙ sym (map-map PassView.gives seen old);
        counts =
            map-map PassView.removed seen new ∙ counts
            ∙ ap₂ (λ (counts : List ℕ) (gs : List Rewrite). raised counts (take n (gone gs from))) (sym (map-map PassView.removed seen old)) (sym (map-map PassView.gives seen old));
      }

  length-gone : (gs : List Rewrite) (from : code.CodeParts) → length (gone gs from) ≡ length gs
  length-gone [] from = refl
  length-gone (p ∷ ps) from = ap suc (length-gone ps (p.makes from))

  -- all ran
  pub ran-all : (old new : List B) (from : code.CodeParts) → map name new ≡ map name old → map gives new ≡ map gives old →
      map removed new ≡ raised (map removed old) (gone (map gives old) from) →
      Ran (length (passes_view name gives removed old)) from (passes_view name gives removed old) (passes_view name gives removed new)
  ran-all old new from names same counts =
      let n : ℕ = length (passes_view name gives removed old) in
      let many : length (gone (map gives old) from) ≡ n = length-gone (map gives old) from ∙ length-map old gives ∙ sym (length-map old (pass_view name gives removed)) in
      let few : length (gone (map gives old) from) ≤ n = omega (arith, many) in
      ran-some old new from n names same (counts ∙ ap (raised (map removed old)) (sym (take_all n (gone (map gives old) from) few)))

-- ---- ends

-- a part that refused
pub declined : {Q X : Type 0} (answers : Result X Refusal → Type 0) (view : Q → X) (r : Refusal) (result : Result Q Refusal) → result ≡ Err r → Declines answers r →
    Prepares answers view result
declined {Q} answers view r result is declines = subst (λ (e : Result Q Refusal). Prepares answers view e) (sym is) declines

module _ (P : Type 0) (runs : code.CodeParts → Type 0) where
  -- no pass ran, since there is no code, or memory ran out
  pub none-ran : (passes : List PassView) (r : Refusal) (result : Result P Refusal) → result ≡ Err r → ((from : code.CodeParts) → runs from → RanOut {X = P} (Err r)) →
      PassesRun {X = P} runs passes passes result
  none-ran passes r result is none = subst (PassesRun {X = P} runs passes passes) (sym is) (inl (refl, none))

  -- memory ran out behind some of them
  pub some-ran : (old new : List PassView) (from : code.CodeParts) (n : ℕ) (result : Result P Refusal) → result ≡ Err refusal.Memory → runs from → Ran n from old new →
      PassesRun {X = P} runs old new result
  some-ran old new from n result is on ran = subst (PassesRun {X = P} runs old new) (sym is) (inr (from, on, n, ran, inl tt))

-- ---- parts of a whole

module _ (P Q : Type 0) (runs : code.CodeParts → Type 0) (old new : List PassView) where
  out : (r : Refusal) → RanOut {X = P} (Err r) → RanOut {X = Q} (Err r)
  out refusal.Memory o = tt
  out r o = absurd o

  -- a part ended so, and with it the whole
  pub ran-err : (r : Refusal) (end : Result Q Refusal) → PassesRun {X = P} runs old new (Err r) → end ≡ Err r → PassesRun {X = Q} runs old new end
  ran-err r end ran is = subst (PassesRun {X = Q} runs old new) (sym is) (elim ran [
    | inl kept ↦ inl (kept.0, λ from on. out r (kept.1 from on))
    | inr on ↦ inr (on.0, on.1, on.2, on.3, elim on.4 [ inl o ↦ inl (out r o) | inr all ↦ inr all ])
  ])

  -- or went on from it: then all ran
  pub ran-ok : (x : P) (end : Result Q Refusal) → PassesRun {X = P} runs old new (Ok x) → PassesRun {X = Q} runs old new end
  ran-ok x end ran = elim ran [
    | inl kept ↦ inl (kept.0, λ from on. absurd (kept.1 from on))
    | inr on ↦ inr (on.0, on.1, on.2, on.3, elim on.4 [ inl o ↦ absurd o | inr all ↦ inr all ])
  ]
