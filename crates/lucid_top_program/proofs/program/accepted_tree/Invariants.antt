use Rattle.lucid_top_program.proofs.program.accepted_tree.Given as goal

abbrev pub ghosts-in_order : goal.ghosts-in_order
ghosts-in_order a = record { name = a.blank.name; parts = a.blank.parts }
