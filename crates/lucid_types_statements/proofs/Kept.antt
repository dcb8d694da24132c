-- Names that are kept.
use Rattle.std.proofs.Common.{◌≡◌, ℕ, ◌+◌, ◌-◌, List, ◌∷◌, Some, Result, Ok, Err, OnOk, drop, length, sym, ap, subst, ◌∙◌, arith}
use Rattle.std.proofs.lemmas.List.{drop-drop, length-drop}
use Rattle.lucid_memop.proofs.Parts.{bound, same_some}
use Rattle.lucid_parse_tree.specs.declared.tree.E.{E}
use Rattle.lucid_parse_tree.specs.declared.tree.Ty.{Ty}
use Rattle.lucid_types_spec.specs.declared.scope.Entry.TheVariants as entry
use Rattle.lucid_types_spec.specs.declared.scope.Named.{Named}
use Rattle.lucid_types_spec.specs.Block.{Numbered}
use Rattle.lucid_types_spec.specs.Names.{Names, called}
use Rattle.lucid_types_laws.specs.declared.part.Part.{Part}
use Rattle.lucid_types_laws.specs.Reading.{core_of}
use Rattle.lucid_types_laws.specs.Statement.{Taken, declared, type_of}
use Rattle.lucid_types_expressions.specs.declared.fault.Fault.{Fault}
use Rattle.lucid_types_statements.specs.Bodies.{Takes}
use Rattle.lucid_types_statements.specs.Kept.{Keeps}

pub keeps_same : (s : Names) → Keeps s s
keeps_same s = let none : length s - length s ≡ 0 = omega arith in ap (λ (k : ℕ). drop k s) none

pub keeps_one : (s : Names) (d : Named) → Keeps s (d ∷ s)
keeps_one s d = let one : length (d ∷ s) - length s ≡ 1 = omega arith in ap (λ (k : ℕ). drop k (d ∷ s)) one

pub keeps_more : (s t r : Names) → Keeps s t → Keeps t r → Keeps s r
keeps_more s t r of and =
    let shorter : length s ≡ length t - (length t - length s) = sym (ap length of) ∙ length-drop (length t - length s) t in
    let short : length t ≡ length r - (length r - length t) = sym (ap length and) ∙ length-drop (length r - length t) r in
    let sum : length r - length s ≡ (length r - length t) + (length t - length s) = omega arith in
    ap (λ (k : ℕ). drop k r) sum ∙ sym (drop-drop (length t - length s) (length r - length t) r) ∙ ap (drop (length t - length s)) and ∙ of

pub declared_keeps : (p : Part) (t : Ty) (n : List ℕ) (x : E) (s new : Names) (m k : Numbered) →
    declared t n x s m ≡ Some (record { part = p; names = new; numbered = k }) → Keeps s new
declared_keeps p t n x s new m k h = kept (record { part = p; names = new; numbered = k }) h
  where
    kept : (r : Taken) → declared t n x s m ≡ Some r → Keeps s r.names
    kept r is =
        let v = bound (type_of t) _ r is in
        let c = bound (core_of x s v.0) _ r v.2 in
        subst (λ (q : Taken). Keeps s q.names) (same_some _ r c.2) (keeps_one s (called n (entry.Local (length m.locals) v.0)))

pub declare_keeps : (r : Result Part Fault) (t : Ty) (n : List ℕ) (x : E) (s new : Names) (m k : Numbered) →
    Takes r new k (declared t n x s m) → OnOk r (Keeps s new)
declare_keeps (Ok p) t n x s new m k h = declared_keeps p t n x s new m k h
declare_keeps (Err f) t n x s new m k h = tt

pub keeps_all : (s new : Names) → new ≡ s → Keeps s new
keeps_all s new is = subst (λ (r : Names). Keeps s r) (sym is) (keeps_same s)

pub ruleset keeping = (keeps_same, keeps_one, keeps_more)
