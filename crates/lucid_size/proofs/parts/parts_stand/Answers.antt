use Rattle.std.proofs.Common.{◌≡◌, ◌∙◌, ap, length, subst, sym}
use Rattle.std.specs.Prelude.{All}
use Rattle.lucid_size.specs.Parts.{body_steps, name_of, names_of, outside_from}
use Rattle.lucid_size.specs.Places.{InText}
use Rattle.lucid_size.specs.Search.{AreWithin}
use Rattle.lucid_size.proofs.Exists.{all_within, bodies_within, length_map, outside_below}
use Rattle.lucid_size.proofs.InText.{all_forward, bodies_in_text, forward, outside_in_text, read_led, read_placed}
use Rattle.lucid_size.proofs.parts.parts_stand.Goals as goal

pub returns : goal.returns
returns c =
    let text = c.args.text.now in
    let ts = c.args.tokens.now in
    let xs = c.args.templates.now in
    let names = names_of text ts xs in
    let led = read_led text ts c.requires.reads in
    let placed = read_placed ts xs c.requires.whole in
    let outer = subst (All (InText text)) (sym c.requires.outside) (outside_in_text text names ts 0 xs led placed) in
    let inner = subst (All (All (InText text))) (sym c.requires.bodies) (bodies_in_text text names ts 0 xs led placed) in
    let many : length c.args.bodies.now ≡ length xs = ap length c.requires.bodies ∙ length_map (body_steps text names ts) xs in
    let count : length names ≡ length c.args.bodies.now = length_map (name_of text ts) xs ∙ sym many in
    record {
      outer = forward text c.args.outside.now outer;
      inner = all_forward text c.args.bodies.now inner;
      in_text = inner;
      outside = subst (λ n. AreWithin n c.args.outside.now) count (subst (AreWithin (length names)) (sym c.requires.outside) (all_within (length names) (outside_from text names ts 0 xs) (outside_below text names ts 0 xs)));
      bodies = subst (λ n. All (AreWithin n) c.args.bodies.now) count (subst (All (AreWithin (length names))) (sym c.requires.bodies) (bodies_within text names ts xs));
      same = many;
    }
