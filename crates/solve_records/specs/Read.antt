-- What reading a record gives: each field is the cell that the definition reads.
use Rattle.std.specs.Prelude.{ℕ, ◌+◌, ◌*◌, ◌≡◌, List, get_or}
use Rattle.definition.specs.Sizes.{record_cells}
use Rattle.definition.specs.Problem.{Problem, Node, children, node, node_of}
use Rattle.solve_records.specs.declared.Rec.{Rec}

pub record HasCells (records : List ℕ) (r : ℕ) (rec : Rec) : Type 0 where
  pub kind : rec.kind ≡ get_or records (r * record_cells) 0
  pub first : rec.first ≡ get_or records (r * record_cells + 1) 0
  pub second : rec.second ≡ get_or records (r * record_cells + 2) 0
  pub third : rec.third ≡ get_or records (r * record_cells + 3) 0
  pub place : rec.place ≡ get_or records (r * record_cells + 6) 0

-- the node that the fields decode as, and its children
abbrev pub node_read : List ℕ → Rec → Node
node_read side rec = node_of side rec.kind rec.first rec.second rec.third

abbrev pub children_read : List ℕ → Rec → List ℕ
children_read side rec = children (node_read side rec)

pub read_node : (p : Problem) (r : ℕ) (rec : Rec) → HasCells p.records r rec → node p r ≡ node_read p.side rec
unfolding node
read_node p r rec h = rw (h.kind, h.first, h.second, h.third)
