-- The texts of a block, cut into the pieces that are buffered.
use Rattle.std.proofs.Common.{◌≡◌, ◌∙◌, ℕ, List, ◌++◌, append_assoc, refl}

pub call_parts : (word name paren args : List ℕ) → word ++ name ++ paren ++ args ≡ word ++ (name ++ (paren ++ args))
call_parts word name paren args = append_assoc (word ++ name) paren args ∙ append_assoc word name (paren ++ args)

-- The tick, the switch, the call and the end of the first line.
pub head_parts : (tick c d e f g h end : List ℕ) → tick ++ c ++ d ++ e ++ f ++ g ++ h ++ end ≡ tick ++ ((c ++ d) ++ ((e ++ f ++ g ++ h) ++ end))
head_parts tick c d e f g h end =
    rw (
      append_assoc tick c d,
      append_assoc (tick ++ (c ++ d)) e f,
      append_assoc (tick ++ (c ++ d)) (e ++ f) g,
      append_assoc (tick ++ (c ++ d)) (e ++ f ++ g) h,
      append_assoc (tick ++ (c ++ d)) (e ++ f ++ g ++ h) end,
      append_assoc tick (c ++ d) ((e ++ f ++ g ++ h) ++ end),
    ) refl

-- The call, the delay, the target and the end of the line of an event that is sent.
pub sent_parts : (call c d target end : List ℕ) → call ++ c ++ d ++ target ++ end ≡ call ++ ((c ++ d) ++ (target ++ end))
sent_parts call c d target end =
    rw (append_assoc call c d, append_assoc call (c ++ d) target, append_assoc call (c ++ d ++ target) end, append_assoc (c ++ d) target end) refl
