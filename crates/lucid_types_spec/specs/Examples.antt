-- A program and its core, worked by hand.
use Rattle.std.specs.Prelude.{ℕ, List, [], ◌∷◌, None, Some, true, false, codes}
use Rattle.lucid_base.specs.Bits.{bits_of}
use Rattle.lucid_base.specs.declared.array.ArrayName.TheVariants.{Global, Param}
use Rattle.lucid_base.specs.declared.memory_alu.MemArg.TheVariants.{Stored}
use Rattle.lucid_base.specs.declared.ops.CmpOp.TheVariants.{Eq, Gt}
use Rattle.lucid_core.specs.declared.body.Expr.{Expr}
use Rattle.lucid_core.specs.declared.body.Expr.TheOpen.{Expr-F}
use Rattle.lucid_core.specs.declared.body.Expr.TheViews.{roll-Expr, roll-Touch}
use Rattle.lucid_core.specs.declared.body.Stmt.{Stmt}
use Rattle.lucid_core.specs.ExamplePrograms.{assign, call, choose, local, number, plus, return, say, to_each_after}
use Rattle.lucid_core.specs.Parts.{CoreParts}
use Rattle.lucid_parse_tree.specs.declared.tree.A.TheVariants as a
use Rattle.lucid_parse_tree.specs.declared.tree.DeclKind.TheVariants as d
use Rattle.lucid_parse_tree.specs.declared.tree.E.{E}
use Rattle.lucid_parse_tree.specs.declared.tree.E.TheVariants as e
use Rattle.lucid_parse_tree.specs.declared.tree.Infix.TheVariants as sign
use Rattle.lucid_parse_tree.specs.declared.tree.No.TheVariants as no
use Rattle.lucid_parse_tree.specs.declared.tree.P.{P}
use Rattle.lucid_parse_tree.specs.declared.tree.P.TheVariants as p
use Rattle.lucid_parse_tree.specs.declared.tree.S.{S}
use Rattle.lucid_parse_tree.specs.declared.tree.S.TheVariants as s
use Rattle.lucid_parse_tree.specs.declared.tree.Size.TheVariants as size
use Rattle.lucid_parse_tree.specs.declared.tree.Tree.{Tree}
use Rattle.lucid_parse_tree.specs.declared.tree.Ty.{Ty}
use Rattle.lucid_parse_tree.specs.declared.tree.Ty.TheVariants as ty
use Rattle.lucid_parse_tree.specs.declared.tree.V.TheVariants as v
use Rattle.lucid_types_spec.specs.Block.{if_of}
use Rattle.lucid_types_spec.specs.Typed.{returning}

-- ---- the tree

abbrev pub int : Ty
int = ty.Int None

abbrev pub int_of : ℕ → Ty
int_of w = ty.Int (Some w)

abbrev pub name : List ℕ → E
name n = e.Name n

-- fun int count(Array.t<<32>> a, int i) { return Array.getm(a, i, plus, 1); }
abbrev pub count_params : List P
count_params = p.Array false 32 (codes "a") ∷ p.Value int (codes "i") ∷ []

abbrev pub count_body : List S
count_body = s.Return (Some (e.Array (a.Getm (codes "a") (name (codes "i")) (codes "plus") (e.Number 1)))) ∷ []

-- handle pkt(int i, int<<8>> n) {
--   int c = count(seen, i);
--   if (n > limit) { return; }
--   match n with | 1 -> { c = 0; } | _ -> { printf("seen %d", c); }
--   generate Event.delay(Event.locate(out(c), both), 5);
-- }
abbrev pub pkt_body : List S
pkt_body =
    s.Declare int (codes "c") (e.Call (codes "count") (name (codes "seen") ∷ name (codes "i") ∷ []))
    ∷ if_of (e.Infix sign.Greater (name (codes "n")) (name (codes "limit"))) (s.Return None ∷ []) no.Absent
    ∷ s.Match (name (codes "n")) ((1, s.Assign (codes "c") (e.Number 0) ∷ []) ∷ [])
    (Some (s.Printf (codes "seen %d") (name (codes "c") ∷ []) ∷ []))
    ∷ s.Generate (v.Delay (v.Locate (v.Call (codes "out") (name (codes "c") ∷ [])) (name (codes "both"))) (e.Number 5))
    ∷ []

abbrev pub pkt_params : List P
pkt_params = p.Value int (codes "i") ∷ p.Value (int_of 8) (codes "n") ∷ []

-- const int<<8>> limit = 10;
-- global Array.t<<32>> seen = Array.create(limit);
-- memop plus(int stored, int x) { return stored + x; }
-- event out(int n);
-- group both = { 1, 2 };
-- fun int count(..) { .. }
-- event pkt(int i, int<<8>> n);
-- handle pkt(int i, int<<8>> n) { .. }
abbrev pub worked : Tree
worked = record {
  decls = record { line = 1; kind = d.Const (int_of 8) (codes "limit") 10 }
      ∷ record { line = 2; kind = d.Global false 32 (codes "seen") (size.Named (codes "limit")) }
      ∷ record {
        line = 3;
        kind = d.Memop (codes "plus") (int, codes "stored") (int, codes "x")
            (s.Return (Some (e.Infix sign.Plus (name (codes "stored")) (name (codes "x")))) ∷ []);
      }
      ∷ record { line = 4; kind = d.Event (codes "out") (p.Value int (codes "n") ∷ []) }
      ∷ record { line = 5; kind = d.Group (codes "both") (1 ∷ 2 ∷ []) }
      ∷ record { line = 6; kind = d.Fun (Some int) (codes "count") count_params count_body }
      ∷ record { line = 7; kind = d.Event (codes "pkt") pkt_params }
      ∷ record { line = 8; kind = d.Handle (codes "pkt") pkt_params pkt_body }
      ∷ [];
}

-- ---- its core

abbrev pub count_steps : List Stmt
count_steps =
    return (Some (roll-Expr (Expr-F.Array (roll-Touch (record {
      array = Param 0;
      index = local 0;
      get = plus;
      get_arg = number 1;
      set = returning 32 Stored;
      set_arg = number 0;
      answers = true;
    })))))
    ∷ []

-- A number of 8 bits.
abbrev pub byte : ℕ → Expr
byte n = roll-Expr (Expr-F.Fixed (bits_of 8 n))

-- Local 2 is `c`, local 3 the test of the match. The statements after the first `if` have become its second branch.
abbrev pub pkt_steps : List Stmt
pkt_steps =
    assign 2 (call 0 (Global 0 ∷ []) (local 0 ∷ []))
    ∷ choose (roll-Expr (Expr-F.Cmp Gt (local 1) (byte 10))) (return None ∷ [])
    (assign 3 (local 1)
    ∷ choose (roll-Expr (Expr-F.Cmp Eq (local 3) (byte 1))) (assign 2 (number 0) ∷ []) (say 0 (local 2 ∷ []) ∷ [])
    ∷ to_each_after 0 (local 2 ∷ []) (Some (number 5)) (1 ∷ 2 ∷ [])
    ∷ [])
    ∷ []

abbrev pub worked_core : CoreParts
worked_core = record {
  arrays = record { name = codes "seen"; width = 32; size = 10 } ∷ [];
  memops = record { name = codes "plus"; alu = plus } ∷ [];
  events = record { name = codes "out"; params = 32 ∷ []; handler = None }
      ∷ record { name = codes "pkt"; params = 32 ∷ 8 ∷ []; handler = Some 0 } ∷ [];
  funs = record {
    name = codes "count";
    arrays = 32 ∷ [];
    params = 1;
    locals = 32 ∷ [];
    answer = Some 32;
    body = count_steps;
    decl = 6;
    line = 6;
  } ∷ [];
  handlers = record { event = 1; locals = 32 ∷ 8 ∷ 32 ∷ 8 ∷ []; body = pkt_steps; decl = 8; line = 8 } ∷ [];
  forms = codes "seen %d" ∷ [];
}
