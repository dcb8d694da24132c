-- The work of the nodes of code, in the order of lucid_code's specs/Nodes.
use Rattle.std.specs.Prelude.{ℕ, List, [], ◌∷◌, Some, Bool, true, false, map, slice_get}
use Rattle.std.specs.List.{filter, flat_map, enumerate_from}
use Rattle.std.specs.Option.{option_map_or, option_to_list}
use Rattle.lucid_code.specs.declared.op.Op.{Op}
use Rattle.lucid_code.specs.Uses.{written_by, called_by, read_by, is_same}
use Rattle.lucid_code.specs.Nodes.{nodes}
use Rattle.lucid_code.specs.declared.node.Node.{Node}
use Rattle.lucid_code.specs.declared.node.Node.TheVariants.{Pure, Array}
use Rattle.lucid_stages.specs.declared.node.Work.{Work}

-- ---- the work of a node

-- The places of the calls of an array.
abbrev pub calls_of : List Op → ℕ → List ℕ
calls_of ops array = map (λ (o : ℕ × Op). o.0) (filter (λ (o : ℕ × Op). is_same (called_by o.1.act) (Some array)) (enumerate_from 0 ops))

-- The places of its operations.
abbrev pub places_of : List Op → Node → List ℕ
places_of ops (Pure i) = i ∷ []
places_of ops (Array array) = calls_of ops array

abbrev pub is_array : Node → Bool
is_array (Pure i) = false
is_array (Array array) = true

-- The reads and writes of the operations at these places.
abbrev pub reads_at : List Op → List ℕ → List ℕ
reads_at ops places = flat_map (λ i. option_map_or read_by (slice_get ops i) []) places

abbrev pub writes_at : List Op → List ℕ → List ℕ
writes_at ops places = flat_map (λ i. option_map_or (λ (o : Op). option_to_list (written_by o.act)) (slice_get ops i) []) places

abbrev pub work_at : List Op → List ℕ → Bool → Work
work_at ops places array = record { ops = places; reads = reads_at ops places; writes = writes_at ops places; is_array = array }

-- Its operations, their reads and writes, and whether they call an array.
abbrev pub work_of : List Op → Node → Work
work_of ops n = work_at ops (places_of ops n) (is_array n)

abbrev pub works : List Op → List Work
works ops = map (work_of ops) (nodes ops)
