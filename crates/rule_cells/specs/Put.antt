-- What a generator adds to the lent lists, and the lists with it.
use Rattle.std.specs.Prelude.{ℕ, suc, ◌*◌, List, [], ◌∷◌}
use Rattle.std.proofs.lemmas.List.Edits.{sets}
use Rattle.rule_cells.specs.declared.Origin.{Origin}
use Rattle.definition.specs.Sizes.{record_cells}

-- The largest number of a record, an entry or a cell that a function which writes is given: far above every count of what is lent to be
-- written (at most 2,048), and so far below where a number wraps that no sum with it and no product with a record's cells does.
abbrev pub most_number : ℕ
most_number = 1000000

-- the list with `values` from `at` on. Past the list's end nothing changes
abbrev pub puts : List ℕ → ℕ → List ℕ → List ℕ
puts list at values = sets list at values

-- A constraint that a generator adds, as a record: no Implies is added. And and Xor name a part of the side list.
pub data Record : Type 0 where
  eq : ℕ → ℕ → Record
  assign : ℕ → ℕ → Record
  and : ℕ → ℕ → Record
  xor : ℕ → ℕ → Record
  impossible : ℕ → ℕ → Record

-- the 8 cells of a record
abbrev pub as_cells : Origin → ℕ → ℕ → ℕ → List ℕ
as_cells o kind first second = kind ∷ first ∷ second ∷ 0 ∷ 0 ∷ 0 ∷ o.place ∷ 0 ∷ []

unfoldable pub cells : Origin → Record → List ℕ
cells o (eq x y) = as_cells o 0 x y
cells o (assign x s) = as_cells o 1 x s
cells o (and start count) = as_cells o 2 start count
cells o (xor start count) = as_cells o 3 start count
cells o (impossible head expected) = as_cells o 4 head expected

-- the record list with these records from number n on
unfoldable pub lay : Origin → List ℕ → ℕ → List Record → List ℕ
lay o records n [] = records
lay o records n (r ∷ rs) = lay o (puts records (n * record_cells) (cells o r)) (suc n) rs
