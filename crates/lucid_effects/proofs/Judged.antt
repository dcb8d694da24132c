-- One more body is judged.
use Rattle.std.proofs.Common.{◌≡◌, ℕ, ◌<◌, true, false, List, [], ◌∷◌, ◌++◌, Option, None, Some, refl, arith}
use Rattle.std.specs.Prelude.{All}
use Rattle.std.specs.Global.{Vec}
use Rattle.std.proofs.lemmas.Bool.{ltb-true, ltb-false}
use Rattle.std.proofs.lemmas.List.Elements.{All-append, All-cons, All-nil, Contains-append_left, Contains-append_right}
use Rattle.lucid_base.specs.declared.array.ArrayName.{ArrayName}
use Rattle.lucid_constraints.specs.Cycle.{FindsCycle, FormsCycle, Needed}
use Rattle.lucid_effects_spec.specs.Order.{Body, InOrder}
use Rattle.lucid_effects_spec.proofs.Cycles.{cycles_refuse}
use Rattle.lucid_effects.specs.declared.first.Refused.{Refused}
use Rattle.lucid_effects_spec.specs.declared.scheme.Scheme.{Scheme}
use Rattle.lucid_effects.specs.First.{IsFirst, IsRefusedFirst, comes_first, kept}
use Rattle.lucid_effects_spec.specs.Schemes.{scheme_of, schemes_of}
use Rattle.lucid_effects_spec.proofs.CyclesTell.{cycles_tell}

-- ---- the first so far

abbrev Fine : ℕ → Body → Type 0
Fine n b = InOrder n b.funs b.body

abbrev pub Told : ℕ → Scheme → Option (Vec ArrayName) → Type 0
Told n s r = FindsCycle (Needed n s.needs) r

one : {A : Type 0} (P : A → Type 0) (xs : List A) (x : A) → All P xs → P x → All P (xs ++ x ∷ [])
one P xs x all last = All-append P xs (x ∷ []) all (All-cons P x [] last (All-nil P))

module _ (n : ℕ) (bs : List Body) (b : Body) where
  still_first : (decl : ℕ) (xs : List ArrayName) → IsRefusedFirst n bs decl xs → (b.decl < decl → Fine n b) → IsRefusedFirst n (bs ++ b ∷ []) decl xs
  still_first decl [] h last = h
  still_first decl (x ∷ xs) h last = record {
    refused = h.refused;
    there = Contains-append_left bs (b ∷ []) h.refused h.there;
    number = h.number;
    isnt = h.isnt;
    cycle = h.cycle;
    none_before = one (λ (e : Body). e.decl < decl → Fine n e) bs b h.none_before last;
  }

  now_first : (xs : List ArrayName) → FormsCycle (Needed n (scheme_of (schemes_of b.funs) b.body).needs) xs → All (λ e. e.decl < b.decl → Fine n e) bs → IsRefusedFirst n (bs ++ b ∷ []) b.decl xs
  now_first [] forms before = forms
  now_first (x ∷ xs) forms before =
      let cycle = (cycles_tell n b.funs b.body).1 x xs forms in
      record {
        refused = b;
        there = Contains-append_right bs (b ∷ []) b (0, omega arith, refl);
        number = refl;
        isnt = cycles_refuse n b.funs b.body x xs cycle;
        cycle = cycle;
        none_before = one (λ (e : Body). e.decl < b.decl → Fine n e) bs b before (λ l. absurd (omega arith));
      }

  none_below : (decl least : ℕ) (xs : List ArrayName) → least < decl → IsRefusedFirst n bs decl xs → All (λ e. e.decl < least → Fine n e) bs
  none_below decl least [] l h = absurd h
  none_below decl least (x ∷ xs) l h = λ k d m below. h.none_before k d m (omega arith)

  fine_still : (first : Option Refused) → IsFirst n bs first → Fine n b → IsFirst n (bs ++ b ∷ []) first
  fine_still None h last = one (Fine n) bs b h last
  fine_still (Some r) h last = still_first r.decl r.cycle.items h (λ l. last)

  pub judged : (first : Option Refused) (r : Option (Vec ArrayName)) → IsFirst n bs first → comes_first first b.decl ≡ true → Told n (scheme_of (schemes_of b.funs) b.body) r → IsFirst n (bs ++ b ∷ []) (kept first b.decl r)
  judged first None h e told = fine_still first h ((cycles_tell n b.funs b.body).0 (told.none.0 refl))
  judged None (Some xs) h e told = now_first xs.items told.cycle (λ k d m l. h k d m)
  judged (Some r) (Some xs) h e told = now_first xs.items told.cycle (none_below r.decl b.decl r.cycle.items (ltb-true b.decl r.decl e) h)

  pub passed_over : (first : Option Refused) → IsFirst n bs first → comes_first first b.decl ≡ false → IsFirst n (bs ++ b ∷ []) first
  passed_over None h e = absurd (cc)
  passed_over (Some r) h e = let least = ltb-false b.decl r.decl e in still_first r.decl r.cycle.items h (λ l. absurd (omega (arith, l, least)))
