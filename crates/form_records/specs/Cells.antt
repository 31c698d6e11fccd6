-- A record's cells, and the flat list of a list of records.
use Rattle.std.specs.Prelude.{ℕ, zero, suc, ◌+◌, ◌*◌, cond, ◌&&◌, List, [], ◌∷◌, ◌++◌, leb, get_or}
use Rattle.definition.specs.Sizes.{max_records, record_cells}
use Rattle.rule_cells.specs.Put.{puts}
use Rattle.form_records.specs.declared.Record.{Record}

abbrev pub cells_of : Record → List ℕ
cells_of r = r.kind ∷ r.first ∷ r.second ∷ r.third ∷ r.fourth ∷ r.fifth ∷ r.place ∷ r.rule ∷ []

unfoldable pub flat : List Record → List ℕ
flat [] = []
flat (r ∷ rs) = cells_of r ++ flat rs

-- what stands past a list's end
abbrev pub none : Record
none = record { kind = 0; first = 0; second = 0; third = 0; fourth = 0; fifth = 0; place = 0; rule = 0 }

-- the kind and the place of a record, as the flat list has them
abbrev pub kind_at : List Record → ℕ → ℕ
kind_at records number = get_or (flat records) (number * record_cells) 0

abbrev pub place_at : List Record → ℕ → ℕ
place_at records number = get_or (flat records) (number * record_cells + 6) 0

-- the list with the cells of the first n records
unfoldable pub laid : List Record → ℕ → List ℕ → List ℕ
laid rs zero list = list
laid rs (suc n) list = puts (laid rs n list) (n * record_cells) (cells_of (get_or rs n none))

-- how many records are looked at: as many as are counted, none where that is too many
abbrev pub counted : ℕ → ℕ → ℕ
counted count lent = cond (leb count max_records && leb count lent) count 0
