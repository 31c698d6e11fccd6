-- Marks: a cell for each number, which counts how often the number was named.
use Rattle.std.specs.Prelude.{ℕ, ◌+◌, ◌≤◌, ◌<◌, ◌≡◌, Bool, true, false, ◌⊎◌, List, ltb, get_or}
use Rattle.definition.specs.Lists.{all, from, count, joined}
use Rattle.definition.specs.Refusal.{children_below}
use Rattle.solve_records.specs.Lent.{lists, children_of}

-- each name was counted in its cell
pub record Marked (names marks marks' : List ℕ) : Type 0 where
  pub counted : (k : ℕ) → get_or marks' k 0 ≡ get_or marks k 0 + count k names

-- a number below the bound is named a second time
pub record Twice (bound : ℕ) (names marks : List ℕ) : Type 0 where
  pub number : ℕ
  pub inside : number < bound
  pub again : 2 ≤ get_or marks number 0 + count number names

-- what the answer of a marking says: the names pass their test and are marked; or they don't, or one is named again
abbrev pub Marking : Bool → ℕ → List ℕ → List ℕ → List ℕ → Bool → Type 0
Marking fits bound names marks marks' true = (fits ≡ true) × Marked names marks marks'
Marking fits bound names marks marks' false = (fits ≡ false) ⊎ Twice bound names marks

-- the names are to be below the bound
abbrev pub MarkingBelow : ℕ → List ℕ → List ℕ → List ℕ → Bool → Type 0
MarkingBelow bound names = Marking (all (λ x. ltb x bound) names) bound names

-- the children of the first records, each to be below its parent
abbrev pub MarkingChildren : List ℕ → List ℕ → ℕ → List ℕ → List ℕ → Bool → Type 0
MarkingChildren records side n =
    Marking (all (children_below (lists records side)) (from 0 n)) n (joined (children_of records side) (from 0 n))
