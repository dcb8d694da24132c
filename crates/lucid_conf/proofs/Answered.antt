-- From the reading of a value to the answer of a call to bytes that spell it.
use Rattle.std.proofs.Common.{ℕ, List, Result, Ok, Err}
use Rattle.serde_json.specs.Data.{Data}
use Rattle.lucid_conf.specs.Answers.{Reads, Gives, Answers}
use Rattle.lucid_conf.specs.Reading.{Reading}
use Rattle.lucid_conf.specs.declared.error.ConfError.{ConfError}
use Rattle.lucid_conf.specs.declared.error.ConfError.TheVariants as error

pub answered : {A : Type 0} (reading : Data → Reading A) (bytes : List ℕ) (d : Data) (r : Result A ConfError) →
    Reads bytes d → Gives r (reading d) → Answers r reading bytes
answered reading bytes d (Ok x) reads given = (d, reads, given)
answered reading bytes d (Err error.NotJson) reads given = absurd given
answered reading bytes d (Err (error.BadField k place)) reads given = (d, reads, given)
answered reading bytes d (Err error.Memory) reads given = tt
