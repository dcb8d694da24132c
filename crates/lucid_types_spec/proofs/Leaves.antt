-- Which expressions have a leaf that is no number.
use Rattle.std.proofs.Common.{ℕ, List, sym, ap, subst, ◌∙◌}
use Rattle.lucid_parse_tree.specs.declared.tree.A.{A}
use Rattle.lucid_parse_tree.specs.declared.tree.A.TheOpen.{E-F}
use Rattle.lucid_parse_tree.specs.declared.tree.E.{E}
use Rattle.lucid_parse_tree.specs.declared.tree.E.TheVariants as e
use Rattle.lucid_parse_tree.specs.declared.tree.A.TheViews.{out-E, out-roll-E}
use Rattle.lucid_types_spec.specs.Leaves.{OnlyNumbers}
use Rattle.lucid_types_spec.specs.Leaves as rule

-- What the rules ask of the parts.
abbrev pub Inside : E-F A E → Type 0
Inside (E-F.Number n) = Unit {0}
Inside (E-F.Paren x) = OnlyNumbers x
Inside (E-F.Prefix sign x) = OnlyNumbers x
Inside (E-F.Shift x left k) = OnlyNumbers x
Inside (E-F.Infix sign x y) = OnlyNumbers x × OnlyNumbers y
Inside _ = ⊥

pub inside : {x : E} → OnlyNumbers x → Inside (out-E x)
inside (rule.number n) = subst Inside (sym (ap out-E (sym (e.rolls-Number n)) ∙ out-roll-E (E-F.Number n))) tt
inside (rule.paren x of) = subst Inside (sym (ap out-E (sym (e.rolls-Paren x)) ∙ out-roll-E (E-F.Paren x))) of
inside (rule.minus x of) = subst Inside (sym (ap out-E (sym (e.rolls-Prefix _ x)) ∙ out-roll-E (E-F.Prefix _ x))) of
inside (rule.tilde x of) = subst Inside (sym (ap out-E (sym (e.rolls-Prefix _ x)) ∙ out-roll-E (E-F.Prefix _ x))) of
inside (rule.shift x left k of) = subst Inside (sym (ap out-E (sym (e.rolls-Shift x left k)) ∙ out-roll-E (E-F.Shift x left k))) of
inside (rule.sum sign op x y is of and) = subst Inside (sym (ap out-E (sym (e.rolls-Infix sign x y)) ∙ out-roll-E (E-F.Infix sign x y))) (of, and)

-- A name is none.
pub no_name : (n : List ℕ) → OnlyNumbers (e.Name n) → ⊥
no_name n of = subst Inside (ap out-E (sym (e.rolls-Name n)) ∙ out-roll-E (E-F.Name n)) (inside of)
