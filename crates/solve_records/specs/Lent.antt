-- What is lent, as a problem of the definition, and what the tests of its records say of a single record.
use Rattle.std.specs.Prelude.{ℕ, ◌+◌, ◌*◌, ◌≤◌, ◌≡◌, true, List, [], length, get_or}
use Rattle.definition.specs.declared.Counts.{Counts}
use Rattle.definition.specs.declared.Problem.{Problem as Lending}
use Rattle.definition.specs.Sizes.{record_cells}
use Rattle.definition.specs.Problem.{Problem, children, node}
use Rattle.definition.specs.Refusal.{counts_fit, cells_fit, children_below, unless}

abbrev pub lent : Counts → List ℕ → List ℕ → List ℕ → List ℕ → Problem
lent counts records side tops range =
    record { counts = counts; records = records; side = side; tops = tops; range = range }

-- the same of the code's struct
abbrev pub seen : Lending → Problem
seen p = lent p.counts p.records.now p.side.now p.tops.now p.range.now

-- the records alone, where nothing else is read
abbrev pub lists : List ℕ → List ℕ → Problem
lists records side = lent (record { records = 0; side = 0; tops = 0; range = 0; terms = 0; sorts = 0 }) records side [] []

abbrev pub children_of : List ℕ → List ℕ → ℕ → List ℕ
children_of records side r = children (node (lists records side) r)

-- the first of 1 and 2 that is given, 0 where neither is
abbrev pub cells_refusal : Problem → ℕ
cells_refusal p = unless (counts_fit p) 1 (unless (cells_fit p) 2 0)

-- the children of an And and of an Xor are a part of the side list
pub record PartInside (side : List ℕ) (kind first second : ℕ) : Type 0 where
  pub of_and : kind ≡ 2 → first + second ≤ length side
  pub of_xor : kind ≡ 3 → first + second ≤ length side

-- a record can be read, and its children too
pub record Readable (records side : List ℕ) (r : ℕ) : Type 0 where
  pub inside : r * record_cells + record_cells ≤ length records
  pub listed : PartInside side (get_or records (r * record_cells) 0) (get_or records (r * record_cells + 1) 0) (get_or records (r * record_cells + 2) 0)

-- and its children are below it
pub record Tree (records side : List ℕ) (r : ℕ) : Type 0 where
  pub sound : Readable records side r
  pub below : children_below (lists records side) r ≡ true
