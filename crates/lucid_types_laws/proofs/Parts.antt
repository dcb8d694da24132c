-- What an answer that is there says of its test.
use Rattle.std.proofs.Common.{◌≡◌, Option, Some, Bool, true, false, refl}
use Rattle.lucid_types_laws.specs.Partial.{given, when}

pub was : {A : Type 0} (b : Bool) (x y : A) → given b x ≡ Some y → (b ≡ true) × (x ≡ y)
was true x y h = (refl, cc)
was false x y h = absurd (cc)

pub when_parts : {A : Type 0} (b : Bool) (o : Option A) (x : A) → when b o ≡ Some x → (b ≡ true) × (o ≡ Some x)
when_parts true o x h = (refl, h)
when_parts false o x h = absurd (cc)
