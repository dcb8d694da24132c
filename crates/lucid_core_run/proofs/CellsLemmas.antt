-- Writes that are taken back.
use Rattle.std.proofs.Common.{◌≡◌, ℕ, ◌%◌, List, [], ◌∷◌, ◌++◌, length, refl, ap, ◌∙◌, inl, inr}
use Rattle.std.specs.Prelude.{slice_set, slice_index}
use Rattle.std.proofs.lemmas.List.{get_or-set_same, set-get_or, set_past, length-set, set-set}
use Rattle.std.proofs.lemmas.Bool.{cases_lt}
use Rattle.lucid_core_run.specs.declared.run.Write.{Write}
use Rattle.lucid_base.specs.Cells.{row_of, place_of, cell_at, with_cell}
use Rattle.lucid_core_run.specs.Running.{rewound}

-- A row once its place has its old value again.
row_back : (row : List ℕ) (i v : ℕ) → slice_set (slice_set row (place_of row i) v) (place_of (slice_set row (place_of row i) v) i) (slice_index row (place_of row i)) ≡ row
row_back row i v =
    rw (length-set row (i % length row) v, set-set row (i % length row) v (slice_index row (i % length row))) (set-get_or row (i % length row) 0)

-- The cells once a cell has its old value again.
pub with_cell-undo : (cells : List (List ℕ)) (a i v : ℕ) → with_cell (with_cell cells a i v) a i (cell_at cells a i) ≡ cells
with_cell-undo cells a i v =
    elim (cases_lt a (length cells)) [
      | inl there ↦
          let row = slice_set (row_of cells a) (place_of (row_of cells a) i) v in
          let is : row_of (slice_set cells a row) a ≡ row = get_or-set_same cells a row [] there in
          ap (λ (r : List ℕ). slice_set (slice_set cells a row) a (slice_set r (place_of r i) (cell_at cells a i))) is
          ∙ ap (slice_set (slice_set cells a row) a) (row_back (row_of cells a) i v)
          ∙ set-set cells a row (row_of cells a)
          ∙ set-get_or cells a []
      | inr past ↦
          let same = λ (r : List ℕ). set_past cells a r past in
          ap (λ (cs : List (List ℕ)). with_cell cs a i (cell_at cells a i)) (same _) ∙ same _
    ]

pub rewound-append : (ws : List Write) (w : Write) (cells : List (List ℕ)) → rewound (ws ++ w ∷ []) cells ≡ rewound ws (with_cell cells w.array w.cell w.old)
rewound-append [] w cells = refl
rewound-append (x ∷ ws) w cells = ap (λ (cs : List (List ℕ)). with_cell cs x.array x.cell x.old) (rewound-append ws w cells)

-- A write that is noted first leads back to the same cells.
pub rewound-noted : (ws : List Write) (cells : List (List ℕ)) (a i v : ℕ) →
    rewound (ws ++ record { array = a; cell = i; old = cell_at cells a i } ∷ []) (with_cell cells a i v) ≡ rewound ws cells
rewound-noted ws cells a i v =
    rewound-append ws (record { array = a; cell = i; old = cell_at cells a i }) (with_cell cells a i v) ∙ ap (rewound ws) (with_cell-undo cells a i v)
