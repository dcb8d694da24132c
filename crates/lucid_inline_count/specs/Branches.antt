-- The counts of an `if`, from those of its branches, and of statements one after another. Only contracts inside this crate cite this page.
use Rattle.std.specs.Prelude.{ℕ, List, Bool, None, ◌&&◌, ◌||◌, fold}
use Rattle.lucid_inline_count.specs.declared.body.Part.{Part}
use Rattle.lucid_inline_count.specs.declared.counts.Counts.{Counts}
use Rattle.lucid_inline_count.specs.Counts.{counted, plus}
use Rattle.lucid_inline_count.specs.Found.{Round, Tally, joins, one_more}

-- The locals held after these statements.
abbrev pub held_behind : List Tally → Round → List Bool
held_behind ts r = (fold (one_more r.funs) (record { counts = counted 0 0; held = r.held }) ts).held

-- An `if`, from its condition with its first branch, both branches, the locals held before them, and those that they assign.
abbrev pub chosen : Counts → Part → Part → List Bool → List ℕ → Part
chosen tested first second held names = record {
  counts = plus (plus tested second.counts) (counted (joins (first.returns || second.returns) (first.value && second.value) held names) 0);
  sets = None;
  returns = first.returns || second.returns;
  value = first.value && second.value;
}

-- One part, and another after it.
abbrev pub followed : Part → Part → Part
followed p q = record { counts = plus p.counts q.counts; sets = None; returns = p.returns || q.returns; value = p.value || q.value }
