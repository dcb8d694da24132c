use Rattle.std.proofs.Common.{◌≡◌, ◌∷◌, [], ◌++◌, true, false, sym, subst, ap, ◌∙◌, Option}
use Rattle.lucid_effects_spec.specs.Order.{Body}
use Rattle.lucid_effects.specs.declared.first.Refused.{Refused}
use Rattle.lucid_effects_spec.specs.declared.scheme.Scheme.{Scheme}
use Rattle.lucid_effects.specs.First.{IsFirst, comes_first}
use Rattle.lucid_effects_spec.specs.Schemes.{scheme_of}
use Rattle.lucid_effects.proofs.Judged.{Told, judged, passed_over}
use Rattle.lucid_effects.proofs.declaration.judge.Goals as goal
use Rattle.lucid_effects.proofs.declaration.judge.Goals.{then-is_earlier+in-Ok, else-is_earlier}

pub returns-clause-first : goal.returns-clause-first
returns-clause-first g c = λ funs is bs h.
    let b : Body = record { decl = c.args.decl; funs = funs; body = c.args.stmts.now } in
    let same = c.in_ok-found.ensures.scheme ∙ ap (λ ss. scheme_of ss c.args.stmts.now) is in
    elim c.if-is_earlier.branch [
      | then-is_earlier+in-Ok w ↦
          let earlier : comes_first c.args.first.now c.args.decl ≡ true = sym c.is_earlier.ensures ∙ w.if-is_earlier.true in
          let kept = judged c.args.arrays bs b c.args.first.now w.in-Ok.cycle h earlier (subst (λ (s : Scheme). Told c.args.arrays s w.in-Ok.cycle) same w.in-Ok.ensures) in
          subst (λ (first : Option Refused). IsFirst c.args.arrays (bs ++ b ∷ []) first) (sym (w.first-is ∙ w.keep.ensures)) kept
      | else-is_earlier w ↦
          let later : comes_first c.args.first.now c.args.decl ≡ false = sym c.is_earlier.ensures ∙ w.if-is_earlier.false in
          let still = passed_over c.args.arrays bs b c.args.first.now h later in
          subst (λ (first : Option Refused). IsFirst c.args.arrays (bs ++ b ∷ []) first) (sym w.first-is) still
    ]
