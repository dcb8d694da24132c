use Rattle.std.proofs.Common.{◌++◌, ◌∙◌, ap, arith, map, string_bytes, sym, List, ℕ}
use Rattle.std.specs.List.{concat, range_with_len}
use Rattle.std.proofs.lemmas.List.FromFn.{map-range_with_len_more}
use Rattle.lucid_gen.specs.Program.{event_line}
use Rattle.lucid_gen.proofs.Texts.{concat_more}
use Rattle.lucid_gen.proofs.program.write_events.Goals as goal

pub loop-j-preserved : goal.loop-j-preserved
loop-j-preserved c =
    concat_more (map event_line (range_with_len 0 c.loop-j.j)) (event_line c.loop-j.j) _ _ _ c.loop-j.invariant c.in_ok-write_event.ensures
    ∙ ap (λ (lines : List (List ℕ)). string_bytes c.args.text.now ++ concat lines) (sym (map-range_with_len_more event_line 0 c.loop-j.j c.loop-j.j (omega arith)))
