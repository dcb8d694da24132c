use Rattle.std.proofs.Common.{◌≡◌, ◌+◌, IsTrue, drop, map, take}
use Rattle.lucid_core.specs.Numbered.{rising}
use Rattle.lucid_inline_count.specs.Bodies.{handlers_found}
use Rattle.lucid_inline_count.specs.Sums.{IsSum}
use Rattle.lucid_inline_count.proofs.program.of_handlers.Given as goal

-- the sums so far; and the next declaration's number is above the next handler's
abbrev pub invariant-loop-h : goal.invariant-loop-h
invariant-loop-h l = record {
  room : l.length.bound ≡ l.room;
  most : l.size.bound ≡ l.most;
  length : IsSum l.room (map (λ c. c.length) (handlers_found l.events l.funs (take l.h-index l.handlers))) l.length;
  size : IsSum l.most (map (λ c. c.size) (handlers_found l.events l.funs (take l.h-index l.handlers))) l.size;
  number : l.number ≡ l.h-index;
  rising : IsTrue (rising (l.h-index + 1) (map (λ h. h.decl) (drop l.h-index l.handlers)));
}
