-- The worked program, rule by rule.
use Rattle.std.proofs.Common.{◌≡◌, List, [], ◌∷◌, None, Some, refl, ap, subst, codes, arith}
use Rattle.lucid_base.specs.declared.ops.CmpOp.TheVariants.{Eq, Gt}
use Rattle.lucid_core.specs.declared.body.Expr.{Expr}
use Rattle.lucid_core.specs.declared.body.Stmt.{Stmt}
use Rattle.lucid_base.specs.Bits.{bits_of}
use Rattle.lucid_base.specs.declared.array.ArrayName.TheVariants.{Global, Param}
use Rattle.lucid_core.specs.ExamplePrograms.{plus}
use Rattle.lucid_memop.specs.Shape as shape
use Rattle.lucid_core.specs.declared.ending.Ending.TheVariants.{Sometimes, Always}
use Rattle.lucid_types_spec.specs.declared.scope.Entry.TheVariants as entry
use Rattle.lucid_types_spec.specs.declared.scope.Param.TheVariants as param
use Rattle.lucid_types_spec.specs.declared.scope.ValueType.TheVariants.{Int}
use Rattle.lucid_types_spec.specs.Block.{Block, Numbered}
use Rattle.lucid_types_spec.specs.Block as block
use Rattle.lucid_types_spec.specs.Declaration as rule
use Rattle.lucid_types_spec.specs.Examples.{count_body, count_steps, pkt_body, pkt_steps, worked, worked_core}
use Rattle.lucid_types_spec.specs.Leaves as leaves
use Rattle.lucid_types_spec.specs.Makes.{IsTyped}
use Rattle.lucid_types_spec.specs.Makes as made
use Rattle.lucid_types_spec.specs.Memop as memop
use Rattle.lucid_types_spec.specs.Names.{Names, called}
use Rattle.lucid_types_spec.specs.Sends as sends
use Rattle.lucid_types_spec.specs.Typed as typed
use Rattle.lucid_types_spec.specs.Types.{IsWidth}
use Rattle.lucid_types_spec.specs.Types as types
use Rattle.lucid_core.proofs.Folds.{folds}
use Rattle.std.proofs.lemmas.Bool.{and_from}
use Rattle.lucid_core.specs.declared.body.Touch.{roll-Touch}
use Rattle.lucid_types_spec.proofs.FewCases as few
use Rattle.lucid_types_spec.proofs.Rolled as rolled
use Rattle.lucid_types_spec.proofs.Leaves.{no_name}

wide : IsWidth 32
wide = (omega arith, omega arith)

byte : IsWidth 8
byte = (omega arith, omega arith)

-- The names before `count`, and before `pkt`.
abbrev before_count : Names
before_count =
    called (codes "both") (entry.Group (1 ∷ 2 ∷ []))
    ∷ called (codes "out") (entry.Event 0 (32 ∷ []))
    ∷ called (codes "plus") (entry.Memop plus)
    ∷ called (codes "seen") (entry.Array (Global 0) 32)
    ∷ called (codes "limit") (entry.Constant (bits_of 8 10))
    ∷ []

abbrev before_pkt : Names
before_pkt =
    called (codes "pkt") (entry.Event 1 (32 ∷ 8 ∷ []))
    ∷ called (codes "count") (entry.Fun 0 (param.Array 32 ∷ param.Value (Int 32) ∷ []) (Some (Int 32)))
    ∷ before_count

abbrev in_pkt : Names
in_pkt = called (codes "n") (entry.Local 1 (Int 8)) ∷ called (codes "i") (entry.Local 0 (Int 32)) ∷ before_pkt

abbrev at_start : Numbered
at_start = record { locals = 32 ∷ 8 ∷ []; forms = [] }

abbrev at_end : Numbered
at_end = record { locals = 32 ∷ 8 ∷ 32 ∷ 8 ∷ []; forms = codes "seen %d" ∷ [] }

abbrev pkt_rolled : (ss : List Stmt) × (ss ≡ pkt_steps)
pkt_rolled = (
  _,
  rolled.parts (rolled.assign 2 (rolled.call 0 _ (rolled.parts (rolled.local 0) refl)))
      (rolled.parts
      (rolled.choose (rolled.cmp Gt (rolled.local 1) (rolled.fixed (bits_of 8 10))) (rolled.parts (rolled.returned refl) refl)
      (rolled.parts (rolled.assign 3 (rolled.local 1))
      (rolled.parts
      (rolled.choose (rolled.cmp Eq (rolled.local 3) (rolled.fixed (bits_of 8 1))) (rolled.parts (rolled.assign 2 (rolled.fixed (bits_of 32 0))) refl)
      (rolled.parts (rolled.say 0 (rolled.parts (rolled.local 2) refl)) refl))
      (rolled.parts (rolled.to_each 0 _ (rolled.parts (rolled.local 2) refl) (ap (λ (c : Expr). Some c) (rolled.fixed (bits_of 32 5)))) refl))))
      refl),
)

pkt_is_typed : Block None in_pkt at_start pkt_body (record { steps = pkt_steps; ending = Sometimes }) at_end
pkt_is_typed = subst (λ (ss : List Stmt). Block None in_pkt at_start pkt_body (record { steps = ss; ending = Sometimes }) at_end) pkt_rolled.1 (
    block.declare _ _ _ _ _ _ _ _ _ _ (types.int _ wide)
    (typed.call _ _ _ _ (typed.fun _ _ _ _ _ _ _ refl (typed.array_name _ _ _ _ _ _ _ refl (typed.value _ _ _ _ _ _ _ (typed.local _ _ _ refl) typed.nothing))))
    (block.guards _ _ _ _ _ _ _ _ _ _
    (typed.compare 8 _ _ _ _ _ _ refl (leaves.of_leaves _ _ byte (λ all. no_name (codes "n") all.0)) (typed.local _ _ _ refl) (typed.constant _ _ refl))
    (block.stops _ _ _ _ _ (block.return_nothing _ _ refl) (λ is. cc)) refl
    (block.goes_on _ _ _ _ _ _ _ _
    (block.matched _ _ _ 8 _ _ _ _ _ _ (typed.free _ _ _ (leaves.of_leaves _ _ byte (λ all. no_name (codes "n") all.0)) (typed.local _ _ _ refl)) refl
    (block.next _ _ _ _ _ _ _ _ _ _ _ _ (omega arith)
    (block.goes_on _ _ _ _ _ _ _ _ (block.assign _ _ _ _ _ _ _ refl (typed.number _ _ (omega arith))) refl (block.end _ _))
    (block.last_arm _ _ _ _ _ _ _
    (block.goes_on _ _ _ _ _ _ _ _ (block.printf _ _ _ _ _ (typed.more _ _ _ _ _ (typed.free _ _ _ (leaves.of_leaves _ _ wide (λ all. no_name (codes "c") all.0)) (typed.local _ _ _ refl)) typed.none) refl) refl (block.end _ _)))))
    refl
    (block.goes_on _ _ _ _ _ _ _ _
    (block.generate _ _ _ _
    (sends.delay _ _ _ _ _ (sends.group _ _ _ _ (sends.call _ _ _ _ _ refl (typed.value _ _ _ _ _ _ _ (typed.local _ _ _ refl) typed.nothing)) refl refl) refl
    (typed.free _ _ _ (leaves.of_numbers _ (leaves.number _, tt)) (typed.number _ _ (omega arith)))))
    refl (block.end _ _)))))

abbrev count_rolled : (ss : List Stmt) × (ss ≡ count_steps)
count_rolled = (_, rolled.parts (rolled.returned (ap (λ (c : Expr). Some c) (rolled.array (ap roll-Touch (rolled.touched _ (rolled.local 0) (rolled.fixed (bits_of 32 1)) (rolled.fixed (bits_of 32 0))))))) refl)

abbrev in_count : Names
in_count = called (codes "i") (entry.Local 0 (Int 32)) ∷ called (codes "a") (entry.Array (Param 0) 32) ∷ before_count

abbrev one_local : Numbered
one_local = record { locals = 32 ∷ []; forms = [] }

count_is_typed : Block (Some (Int 32)) in_count one_local count_body (record { steps = count_steps; ending = Always }) one_local
count_is_typed = subst (λ (ss : List Stmt). Block (Some (Int 32)) in_count one_local count_body (record { steps = ss; ending = Always }) one_local) count_rolled.1 (
    block.stops _ _ _ _ _
    (block.return_value _ _ (Int 32) _ _ refl
    (typed.array 32 _ _ (typed.getm _ _ _ _ 32 _ _ _ _ _ refl (typed.free _ _ _ (leaves.of_leaves _ _ wide (λ all. no_name (codes "i") all.0)) (typed.local _ _ _ refl)) refl refl
    (typed.number _ _ (omega arith)))))
    (λ is. cc))

pkt_few : few.Few pkt_body
pkt_few =
    and_from _ _ (few.declared _ _ _) (and_from _ _ (few.alone _ _ (and_from _ _ (few.returned _) refl))
    (and_from _ _ (few.matched _ 1 _ _ (and_from _ _ (few.assigned _ _) refl) (and_from _ _ (few.printed _ _) refl)) (and_from _ _ (few.generated _) refl)))

count_few : few.Few count_body
count_few = and_from _ _ (few.returned _) refl

pub worked_is_typed : IsTyped worked worked_core
worked_is_typed = (
  _,
  made.one_more _ _ _ _ _ _ (rule.constant _ _ _ _ (types.int _ byte) (omega arith)) refl
      (made.one_more _ _ _ _ _ _ (rule.global _ _ _ _ _ wide (rule.constant _ _ refl) (omega arith) (omega arith)) refl
      (made.one_more _ _ _ _ _ _
      (rule.memop _ _ _ _ _ _ _ _ _ (types.int _ wide) (types.int _ wide) (memop.plain _ _ (memop.returned _ _ (typed.sum _ _ _ _ _ _ _ refl (typed.local _ _ _ refl) (typed.local _ _ _ refl))))
      (shape.plain _ _ _ (shape.two _ _ _ _ _ _ refl (shape.stored _) (shape.argument _) refl))) refl
      (made.one_more _ _ _ _ _ _ (rule.event _ _ (32 ∷ []) _ (types.value _ _ _ _ _ _ _ _ _ (types.int _ wide) (types.none _ _ _))) refl
      (made.one_more _ _ _ _ _ _ (rule.group _ _ refl) refl
      (made.one_more _ _ _ _ _ _
      (rule.fun _ _ _ _ _ _ _ _ _ (types.value _ _ (types.int _ wide))
      (types.array _ _ _ _ _ _ _ _ _ wide (types.value _ _ _ _ _ _ _ _ _ (types.int _ wide) (types.none _ _ _))) count_is_typed) (rw count_few (simp folds refl))
      (made.one_more _ _ _ _ _ _
      (rule.event _ _ (32 ∷ 8 ∷ []) _ (types.value _ _ _ _ _ _ _ _ _ (types.int _ wide) (types.value _ _ _ _ _ _ _ _ _ (types.int _ byte) (types.none _ _ _)))) (simp folds refl)
      (made.one_more _ _ _ _ _ _
      (rule.handle _ _ _ 1 (32 ∷ 8 ∷ []) _ _ _ _ refl refl refl
      (types.value _ _ _ _ _ _ _ _ _ (types.int _ wide) (types.value _ _ _ _ _ _ _ _ _ (types.int _ byte) (types.none _ _ _))) pkt_is_typed) (rw pkt_few (simp folds refl))
      (made.done _ _)))))))),
  refl,
)
