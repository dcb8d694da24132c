-- The flat form of an accepted core is accepted.
use Rattle.std.proofs.Common.{◌≡◌, ℕ, zero, suc, All, List, [], ◌∷◌, Some, arith, length, map, refl, slice_get}
use Rattle.lucid_core.specs.declared.defs.HandlerDef.{HandlerDef}
use Rattle.lucid_core.specs.Parts.{CoreParts}
use Rattle.lucid_inline_spec.specs.Flat.{flat_handler, flat_of}
use Rattle.lucid_inline_spec.specs.Laws.{KeepsOrder}
use Rattle.lucid_effects_spec.specs.Order.{InOrder, IsAccepted, handler_bodies}
use Rattle.lucid_effects_spec.proofs.Rising.{handler_in_order}

module _ (core : CoreParts) where
  abbrev declared_arrays : ℕ
  declared_arrays = length core.arrays

  each_in_order : (hs : List HandlerDef)
      → ((k : ℕ) (h : HandlerDef) → slice_get hs k ≡ Some h → InOrder declared_arrays [] (flat_handler core.funs h).body)
      → All (λ b. InOrder declared_arrays b.funs b.body) (handler_bodies [] (map (flat_handler core.funs) hs))
  each_in_order [] at i d l = absurd (omega (arith, l))
  each_in_order (h ∷ hs) at zero d l = at 0 h refl
  each_in_order (h ∷ hs) at (suc i) d l = each_in_order hs (λ k g is. at (suc k) g is) i d (omega (arith, l))

pub flat_is_accepted : (core : CoreParts) → KeepsOrder core → IsAccepted core → IsAccepted (flat_of core)
flat_is_accepted core keeps accepted =
    each_in_order core core.handlers (λ k h is. let order = handler_in_order core accepted k h is in let both = keeps k h is in both.0 order)
