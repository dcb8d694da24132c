-- A handler is in order exactly where its flat form is.
use Rattle.std.proofs.Common.{◌≡◌, ℕ, [], Some, length, map, sym, ◌∙◌, refl, arith, slice_get}
use Rattle.std.proofs.lemmas.Bool.{and_parts}
use Rattle.lucid_core.specs.declared.defs.HandlerDef.{HandlerDef}
use Rattle.lucid_effects_spec.specs.Order.{InOrder}
use Rattle.lucid_core.specs.Parts.{CoreParts}
use Rattle.lucid_core.specs.Valid.{IsValid}
use Rattle.lucid_core.proofs.WidthLists.{passes_at}
use Rattle.lucid_effects_spec.proofs.Alike.{handlers_alike}
use Rattle.lucid_inline_spec.specs.Flat as f
use Rattle.lucid_inline_spec.specs.Laws.{KeepsOrder}
use Rattle.lucid_inline_spec.proofs.Fit as r
use Rattle.lucid_inline_spec.proofs.Fit.{stmt_fit}
use Rattle.lucid_inline_spec.proofs.Steps.{valid_fits}
use Rattle.lucid_inline_spec.proofs.Runs.{rooms_from}
use Rattle.lucid_inline_spec.proofs.SameEnds.{handler_turns, through}

module _ (core : CoreParts) (valid : IsValid core) (k : ℕ) (h : HandlerDef) (is : slice_get core.handlers k ≡ Some h) where
  abbrev declared_arrays : ℕ
  declared_arrays = length core.arrays

  to_core : InOrder declared_arrays [] (f.flat_handler core.funs h).body → InOrder declared_arrays core.funs h.body
  to_core order =
      let fits = and_parts _ _ (valid_fits core valid) in
      let here = passes_at (λ (g : HandlerDef). r.each (map stmt_fit g.body) (length g.locals) (rooms_from [] core.funs)) core.handlers k h fits.1 is in
      record {
        numbering = through order.numbering [];
        rises = order.rises;
        end = order.end;
        derived = sym (handler_turns order.numbering core.funs h fits.0 here 0) ∙ order.derived;
      }

  to_flat : InOrder declared_arrays core.funs h.body → InOrder declared_arrays [] (f.flat_handler core.funs h).body
  to_flat order =
      let fits = and_parts _ _ (valid_fits core valid) in
      let here = passes_at (λ (g : HandlerDef). r.each (map stmt_fit g.body) (length g.locals) (rooms_from [] core.funs)) core.handlers k h fits.1 is in
      let moved = handlers_alike core valid.sound k h is order.numbering (through order.numbering []) (record { first = refl; declared = λ i l. refl; given = λ i l. absurd (omega arith) }) 0 in
      record {
        numbering = order.numbering;
        rises = order.rises;
        end = order.end;
        derived = handler_turns order.numbering core.funs h fits.0 here 0 ∙ sym moved ∙ order.derived;
      }

pub handlers_keep_order : (core : CoreParts) → IsValid core → KeepsOrder core
handlers_keep_order core valid k h is = (to_flat core valid k h is, to_core core valid k h is)
