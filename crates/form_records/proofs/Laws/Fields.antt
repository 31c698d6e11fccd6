-- What the definition reads of a record in the flat list is what its struct holds.
use Rattle.std.specs.Prelude.{ℕ, ◌+◌, ◌*◌, ◌<◌, ◌≡◌, List, get_or}
use Rattle.std.proofs.Common.{sym, ap, ◌∙◌, arith, add-zero}
use Rattle.definition.specs.declared.Counts.{Counts}
use Rattle.definition.specs.Sizes.{record_cells}
use Rattle.definition.specs.Problem.{node, node_of, place_of}
use Rattle.solve_records.specs.declared.Rec.{Rec}
use Rattle.solve_records.specs.Lent.{lent}
use Rattle.solve_records.specs.Read.{HasCells, read_node}
use Rattle.form_records.specs.declared.Record.{Record}
use Rattle.form_records.specs.Cells.{cells_of, flat, none}
use Rattle.form_records.specs.Left.{Checked}
use Rattle.form_records.proofs.Laws.Flat.{cell_at}
use Rattle.form_records.proofs.Laws.Checks.{left_cell}

-- what is read of a record
abbrev pub read_of : Record → Rec
read_of r = record { kind = r.kind; first = r.first; second = r.second; third = r.third; place = r.place }

-- where the 8 cells of record i are a struct's, that is what is read
reads_as : (list : List ℕ) (i : ℕ) (r : Record) → ((k : ℕ) → k < record_cells → get_or list (i * record_cells + k) 0 ≡ get_or (cells_of r) k 0) → HasCells list i (read_of r)
reads_as list i r cell = record {
  kind = sym (ap (λ (j : ℕ). get_or list j 0) (sym (add-zero (i * record_cells))) ∙ cell 0 (omega arith));
  first = sym (cell 1 (omega arith));
  second = sym (cell 2 (omega arith));
  third = sym (cell 3 (omega arith));
  place = sym (cell 6 (omega arith));
}

pub has_fields : (rs : List Record) (i : ℕ) → HasCells (flat rs) i (read_of (get_or rs i none))
has_fields rs i = reads_as (flat rs) i (get_or rs i none) (cell_at rs i)

-- so the updates see the struct's kind and values, and errors its place
pub field_node : (c : Counts) (rs : List Record) (side tops range : List ℕ) (i : ℕ) →
    node (lent c (flat rs) side tops range) i ≡ node_of side (get_or rs i none).kind (get_or rs i none).first (get_or rs i none).second (get_or rs i none).third
field_node c rs side tops range i = read_node (lent c (flat rs) side tops range) i (read_of (get_or rs i none)) (has_fields rs i)

pub field_place : (c : Counts) (rs : List Record) (side tops range : List ℕ) (i : ℕ) → place_of (lent c (flat rs) side tops range) i ≡ (get_or rs i none).place
field_place c rs side tops range i = cell_at rs i 6 (omega arith)

-- The flat list that the check leaves: each counted record reads as its struct, so the updates of `solve` see the struct's kind and values.
module _ (c : Counts) (rs : List Record) (side tops range old left : List ℕ) (h : Checked c rs side tops range old 0 left) (i : ℕ) (l : i < c.records) where
  pub left_fields : HasCells left i (read_of (get_or rs i none))
  left_fields = reads_as left i (get_or rs i none) (λ k. left_cell c rs side tops range old left h i k l)

  pub left_node : node (lent c left side tops range) i ≡ node_of side (get_or rs i none).kind (get_or rs i none).first (get_or rs i none).second (get_or rs i none).third
  left_node = read_node (lent c left side tops range) i (read_of (get_or rs i none)) left_fields
