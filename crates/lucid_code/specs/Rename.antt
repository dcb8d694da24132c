-- An act with other operands and another written field.
use Rattle.std.specs.Prelude.{ℕ, map}
use Rattle.std.specs.Option.{option_map}
use Rattle.lucid_code.specs.declared.op.Act.{Act}
use Rattle.lucid_code.specs.declared.op.Act.TheVariants as act
use Rattle.lucid_code.specs.declared.op.Operand.{Operand}

-- The act that names h o for each operand o, and writes field f k in place of field k.
abbrev pub renamed : (Operand → Operand) → (ℕ → ℕ) → Act → Act
renamed h f (act.Un op w a k) = act.Un op w (h a) (f k)
renamed h f (act.Bin op w a b k) = act.Bin op w (h a) (h b) (f k)
renamed h f (act.Cmp op w a b k) = act.Cmp op w (h a) (h b) (f k)
renamed h f (act.Cast a k) = act.Cast (h a) (f k)
renamed h f (act.Hash xs k) = act.Hash (map h xs) (f k)
renamed h f (act.Move a k) = act.Move (h a) (f k)
renamed h f (act.Touch array index get get_arg set set_arg to) = act.Touch array (h index) get (h get_arg) set (h set_arg) (option_map f to)
renamed h f (act.Gen slot event args delay to) = act.Gen slot event (map h args) (h delay) (option_map h to)
renamed h f (act.Say slot form args) = act.Say slot form (map h args)
