use Rattle.lucid_merge.proofs.product.merge.Given as goal

abbrev pub ghosts-product_rows : goal.ghosts-product_rows
ghosts-product_rows a = record { name = a.blank.name; parts = a.blank.parts }
