-- What the rules derive, the function gives.
use Rattle.std.proofs.Common.{◌≡◌, ℕ, ◌^◌, List, ◌∷◌, Option, Some, true, map, nat_eq, refl, ◌∙◌}
use Rattle.std.proofs.lemmas.Bool.{eq-eqb, lt-ltb}
use Rattle.lucid_base.specs.declared.array.ArrayName.{ArrayName}
use Rattle.lucid_core.specs.declared.body.Expr.{Expr}
use Rattle.lucid_core.specs.declared.body.Touch.{Touch}
use Rattle.lucid_parse_tree.specs.declared.tree.A.{A}
use Rattle.lucid_parse_tree.specs.declared.tree.E.{E}
use Rattle.lucid_parse_tree.specs.declared.tree.Pre.TheVariants.{Minus, Tilde, Not}
use Rattle.lucid_types_spec.specs.declared.scope.Param.{Param}
use Rattle.lucid_types_spec.specs.declared.scope.ValueType.{ValueType}
use Rattle.lucid_types_spec.specs.declared.scope.ValueType.TheVariants.{Int}
use Rattle.lucid_types_spec.specs.declared.scope.ValueType.TheVariants as vt
use Rattle.lucid_types_spec.specs.Names.{Names}
use Rattle.lucid_types_spec.specs.Typed.{AllFree, Called, Free, Given, Touched, Typed}
use Rattle.lucid_types_spec.specs.Typed as rule
use Rattle.lucid_types_spec.specs.Types.{stated}
use Rattle.lucid_types_laws.specs.Reading as read
use Rattle.lucid_types_laws.specs.Reading.{core_of, given_all, reading, same_type, touch_of}
use Rattle.lucid_types_laws.proofs.Forms.{array_is, bare_at, call_is, cast_is, core_at, get_is, getm_is, hash_is, infix_is, me_is, name_is, number_is, paren_is, prefix_is, set_is, setm_is, shift_is, time_is, touch_at, truth_is, update_is}
use Rattle.lucid_types_laws.proofs.Leads.{fits_width, free_found, shared_found}
use Rattle.lucid_types_laws.proofs.Signs.{compares, joins, joins_alone}

pub same_number : (w : ℕ) → nat_eq w w ≡ true
same_number w = eq-eqb w w refl

type_itself : (t : ValueType) → same_type t t ≡ true
type_itself (Int w) = same_number w
type_itself vt.Bool = refl

mutual
  pub typed : {s : Names} {t : ValueType} {x : E} {c : Expr} → Typed s t x c → core_of x s t ≡ Some c
  typed {s} (rule.number w n fits) = core_at (number_is n) s (Int w) ∙ rw (lt-ltb n (2 ^ w) fits) refl
  typed {s} (rule.truth b) = core_at (truth_is b) s vt.Bool
  typed {s} rule.me = core_at me_is s (Int 32)
  typed {s} rule.time = core_at time_is s (Int 32)
  typed {s} (rule.constant n b is) = core_at (name_is n) s (Int b.width) ∙ rw (is, same_number b.width) refl
  typed {s} (rule.local n i t is) = core_at (name_is n) s t ∙ rw (is, type_itself t) refl
  typed {s} (rule.paren t x c of) = core_at (paren_is x) s t ∙ typed of
  typed {s} (rule.minus w x c of) = core_at (prefix_is Minus x) s (Int w) ∙ rw (typed of) refl
  typed {s} (rule.tilde w x c of) = core_at (prefix_is Tilde x) s (Int w) ∙ rw (typed of) refl
  typed {s} (rule.not x c of) = core_at (prefix_is Not x) s vt.Bool ∙ rw (typed of) refl
  typed {s} (rule.shift w x left k c of) = core_at (shift_is x left k) s (Int w) ∙ rw (typed of) refl
  typed {s} (rule.cast w v x c fits of) =
      core_at (cast_is w x) s (Int (stated w)) ∙ rw (free of, same_number (stated w), fits_width (stated w) fits) refl
  typed {s} (rule.hash w v x xs c cs fits of all) =
      core_at (hash_is w (x ∷ xs)) s (Int w) ∙ rw (free of, all_free all, same_number w, fits_width w fits) refl
  typed {s} (rule.sum w sign op x y c d is of and) = core_at (infix_is sign x y) s (Int w) ∙ rw (is, typed of, typed and) refl
  typed {s} (rule.compare w sign op x y c d is width of and) =
      let found = shared_found width of and in
      core_at (infix_is sign x y) s vt.Bool ∙ rw (compares sign op is, is, found.0, fits_width w found.1, typed of, typed and) refl
  typed {s} (rule.logical sign op x y c d is of and) =
      core_at (infix_is sign x y) s vt.Bool ∙ rw (joins sign op is, joins_alone sign op is, is, typed of, typed and) refl
  typed {s} (rule.call t n xs c of) = core_at (call_is n xs) s t ∙ rw (called of, type_itself t) refl
  typed {s} (rule.array w x c of) = core_at (array_is x) s (Int w) ∙ rw (touched of, same_number w) refl

  pub free : {s : Names} {x : E} {w : ℕ} {c : Expr} → Free s x w c → read.free (reading x) s ≡ Some c
  free (rule.free x w c width of) = let found = free_found width of in rw (found.0, fits_width w found.1) (typed of)

  pub all_free : {s : Names} {xs : List E} {cs : List Expr} → AllFree s xs cs → read.all_free (map reading xs) s ≡ Some cs
  all_free rule.none = refl
  all_free (rule.more x xs w c cs of all) = rw (free of, all_free all) refl

  pub touched : {s : Names} {x : A} {o : Option ℕ} {c : Touch} → Touched s x o c → touch_of x s ≡ Some (o, c)
  touched {s} (rule.get n array w v i j is of) = touch_at (get_is n i) s ∙ rw (is, free of) refl
  touched {s} (rule.set n array w v i x j c is of value) = touch_at (set_is n i x) s ∙ rw (is, free of, typed value) refl
  touched {s} (rule.getm n m array w v memop i x j c is of named fits value) =
      touch_at (getm_is n i m x) s ∙ rw (is, free of, named, eq-eqb memop.width w fits, typed value) refl
  touched {s} (rule.setm n m array w v memop i x j c is of named fits value) =
      touch_at (setm_is n i m x) s ∙ rw (is, free of, named, eq-eqb memop.width w fits, typed value) refl
  touched {s} (rule.update n m k array w v get set i x y j c d is of named fits value second fits_too other) =
      touch_at (update_is n i m x k y) s ∙ rw (is, free of, named, eq-eqb get.width w fits, typed value, second, eq-eqb set.width w fits_too, typed other) refl

  pub called : {s : Names} {n : List ℕ} {xs : List E} {t : Option ValueType} {c : Expr} → Called s n xs t c → read.called n (map reading xs) s ≡ Some (t, c)
  called (rule.fun n k ps t xs arrays cs is all) = rw (is, given all) refl

  pub given : {s : Names} {ps : List Param} {xs : List E} {arrays : List ArrayName} {cs : List Expr} → Given s ps xs arrays cs →
      given_all ps (map reading xs) s ≡ Some (record { names = arrays; values = cs })
  given rule.nothing = refl
  given (rule.value t ps x xs arrays c cs of all) = rw (typed of, given all) refl
  given (rule.array_name w ps n xs array arrays cs is all) = rw (bare_at (name_is n), is, same_number w, given all) refl
