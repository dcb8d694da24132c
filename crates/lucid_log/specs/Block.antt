-- The text of a block: the event, and its outs, a line each.
use Rattle.std.specs.Prelude.{ℕ, ◌+◌, List, [], ◌∷◌, ◌++◌, Bool, if◌then◌else◌, nat_eq, codes, decimal, slice_get, unwrap_or}
use Rattle.std.specs.Option.{option_map_or}
use Rattle.std.specs.Int.{bit_at}
use Rattle.lucid_base.specs.declared.event.Event.{Event}
use Rattle.lucid_base.specs.declared.event.Target.{Target}
use Rattle.lucid_base.specs.declared.event.Target.TheVariants.{Here, At}
use Rattle.lucid_base.specs.declared.event.Out.{Out}
use Rattle.lucid_base.specs.declared.event.Out.TheVariants.{Gen, Say}
use Rattle.lucid_core.specs.Parts.{CoreParts}
use Rattle.lucid_log.specs.Filled.{filled}
use Rattle.lucid_log.specs.Pieces.{numbers_text}

-- The name of an event; none where there is no such event.
abbrev pub event_name : CoreParts → ℕ → List ℕ
event_name core id = option_map_or (λ e. e.name) (slice_get core.events id) []

-- The text of a print; none where there is no such text.
abbrev pub form_of : CoreParts → ℕ → List ℕ
form_of core form = unwrap_or (slice_get core.forms form) []

-- `[T] sS NAME(ARGS)`
abbrev pub head_text : ℕ → ℕ → List ℕ → List ℕ → List ℕ
head_text tick switch name args =
    codes "[" ++ decimal tick ++ codes "] s" ++ decimal switch ++ codes " " ++ name ++ codes "(" ++ numbers_text args ++ codes ")\n"

-- ` here`, or ` to N`
abbrev pub target_text : Target → List ℕ
target_text Here = codes " here"
target_text (At n) = codes " to " ++ decimal n

abbrev pub end_text : Bool → List ℕ
end_text is_lost = if is_lost then codes " lost\n" else codes "\n"

-- `generate NAME(ARGS) delay D`
abbrev pub sent_text : List ℕ → List ℕ → ℕ → List ℕ
sent_text name args delay = codes "  generate " ++ name ++ codes "(" ++ numbers_text args ++ codes ") delay " ++ decimal delay

-- the same with its target, and ` lost` where it is lost
abbrev pub generate_text : List ℕ → List ℕ → ℕ → Target → Bool → List ℕ
generate_text name args delay to is_lost = sent_text name args delay ++ target_text to ++ end_text is_lost

-- `say ` and the text with its numbers
abbrev pub say_text : List ℕ → List ℕ → List ℕ
say_text text numbers = codes "  say " ++ filled text numbers ++ codes "\n"

abbrev pub out_text : CoreParts → Out → Bool → List ℕ
out_text core (Gen event delay to) is_lost = generate_text (event_name core event.id) event.args delay to is_lost
out_text core (Say form numbers) is_lost = say_text (form_of core form) numbers

-- Bit `i` of the byte is set.
abbrev pub is_marked : ℕ → ℕ → Bool
is_marked marks i = nat_eq (bit_at marks i) 1

-- The outs from number `i` on, a line each; bit `i` of `lost` marks out `i`.
abbrev pub outs_text : CoreParts → ℕ → ℕ → List Out → List ℕ
outs_text core lost i [] = []
outs_text core lost i (out ∷ outs) = out_text core out (is_marked lost i) ++ outs_text core lost (i + 1) outs

abbrev pub block_text : CoreParts → ℕ → ℕ → Event → List Out → ℕ → List ℕ
block_text core tick switch event outs lost = head_text tick switch (event_name core event.id) event.args ++ outs_text core lost 0 outs
