-- The meaning of an answer for its parts.
use Rattle.std.proofs.Common.{◌≡◌, Option, None, Some, Bool, true, false, if◌then◌else◌, option_map, refl}
use Rattle.lucid_core.specs.Typing.{◌>>=◌}

pub bound : {A B : Type 0} (o : Option A) (f : A → Option B) (z : B) → (o >>= f) ≡ Some z → (v : A) × (o ≡ Some v) × (f v ≡ Some z)
bound None f z h = absurd (cc)
bound (Some v) f z h = (v, refl, h)

pub same_some : {A : Type 0} (x y : A) → Some x ≡ Some y → x ≡ y
same_some x y h = cc

pub mapped : {A B : Type 0} (f : A → B) (o : Option A) (z : B) → option_map f o ≡ Some z → (v : A) × (o ≡ Some v) × (f v ≡ z)
mapped f None z h = absurd (cc)
mapped f (Some v) z h = (v, refl, cc)

pub chosen : {A : Type 0} (b : Bool) (o : Option A) (z : A) → (if b then o else None) ≡ Some z → (b ≡ true) × (o ≡ Some z)
chosen true o z h = (refl, h)
chosen false o z h = absurd (cc)
