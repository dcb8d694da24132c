use Rattle.std.proofs.Common.{◌≡◌, take}
use Rattle.lucid_inline.proofs.program.copy_forms.Given as goal

-- the visited items are copied
abbrev pub invariant-loop-form : goal.invariant-loop-form
invariant-loop-form l = l.copies.items ≡ take l.form-index l.forms
