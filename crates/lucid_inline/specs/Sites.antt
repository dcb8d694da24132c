-- An inlined call, and the statements of a group.
use Rattle.std.specs.Prelude.{ℕ, ◌++◌, List, Bool, Option, length, map}
use Rattle.std.specs.List.{enumerate_from}
use Rattle.lucid_core.specs.declared.body.Expr.{Expr}
use Rattle.lucid_core.specs.declared.body.Stmt.{Stmt}
use Rattle.lucid_core.specs.declared.body.Expr.TheOpen.{Stmt-F}
use Rattle.lucid_core.specs.declared.body.Expr.TheViews.{roll-Expr, roll-Stmt}
use Rattle.lucid_inline_spec.specs.Flat.{Flattened, PutIn, put_in, to_member, width_in}

-- The greatest number of 32 bits.
abbrev pub most : ℕ
most = 4294967295

-- A call of this function, with these arrays and arguments, behind these locals.
abbrev pub called : Option PutIn → List ℕ → List Expr → List ℕ → Flattened Expr
called f arrays args ws = let made = put_in f arrays args ws in record { value = roll-Expr made.value; locals = made.locals }

-- An assignment of each to the next local, from b on.
abbrev pub assigned : ℕ → List Expr → List Stmt
assigned b xs = map (λ g. roll-Stmt (Stmt-F.Assign g.0 g.1)) (enumerate_from b xs)

-- An event to each member.
abbrev pub sent : ℕ → ℕ → ℕ → Bool → List ℕ → List Stmt
sent event b n delayed members = map (λ m. roll-Stmt (to_member event b n delayed m)) members

-- A group whose arguments, and delay behind them, have these values.
abbrev pub sent_to_all : ℕ → ℕ → Bool → List ℕ → List Expr → List ℕ → Flattened (List Stmt)
sent_to_all event n delayed members held ws = record {
  value = assigned (length ws) held ++ sent event (length ws) n delayed members;
  locals = ws ++ map (width_in ws) held;
}

-- A part that was made, and the locals after it.
abbrev pub flattened : {A : Type 0} → A → List ℕ → Flattened A
flattened x ws = record { value = x; locals = ws }
