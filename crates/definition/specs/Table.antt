-- The small problems C1 to C13, as one table under one theorem that the checker computes: outcome, pass count, and all
-- three buffers at exit, two cells beyond each included.
use Rattle.std.specs.Prelude.{ℕ, suc, ◌+◌, ◌-◌, ◌*◌, List, [], ◌∷◌, ◌++◌, length, replicate}
use Rattle.definition.specs.Sizes.{entry_cells, room_frames}
use Rattle.definition.specs.Problem.{Problem}
use Rattle.definition.specs.Lists.{count}
use Rattle.definition.specs.Update.{Entry, entry}
use Rattle.definition.specs.Buffers.{Exit, exit, entries_cells}

-- the terms a, b, c and the sorts S, T
abbrev pub a : ℕ
a = 0

abbrev pub b : ℕ
b = 1

abbrev pub c : ℕ
c = 2

abbrev pub S : ℕ
S = 0

abbrev pub T : ℕ
T = 1

-- a record of each kind, its values and its place
abbrev pub as_cells : ℕ → ℕ → ℕ → ℕ → ℕ → List ℕ
as_cells kind x y z place = kind ∷ x ∷ y ∷ z ∷ 0 ∷ 0 ∷ place ∷ 0 ∷ []

abbrev pub Eq : ℕ → ℕ → ℕ → List ℕ
Eq x y = as_cells 0 x y 0

abbrev pub Assign : ℕ → ℕ → ℕ → List ℕ
Assign x s = as_cells 1 x s 0

abbrev pub And : ℕ → ℕ → ℕ → List ℕ
And start count = as_cells 2 start count 0

abbrev pub Xor : ℕ → ℕ → ℕ → List ℕ
Xor start count = as_cells 3 start count 0

abbrev pub Impossible : ℕ → ℕ → ℕ → List ℕ
Impossible head expected = as_cells 4 head expected 0

abbrev pub Implies : ℕ → ℕ → ℕ → ℕ → List ℕ
Implies = as_cells 5

-- what is lent
pub record Lent : Type 0 where
  pub records : List (List ℕ)
  pub side : List ℕ
  pub tops : List ℕ
  pub range : List (List ℕ)

abbrev pub lent : List (List ℕ) → List ℕ → List ℕ → List (List ℕ) → Lent
lent records side tops range = record { records = records; side = side; tops = tops; range = range }

-- a range entry at place 20
abbrev pub at : ℕ → List ℕ
at t = t ∷ 20 ∷ []

unfoldable pub flat : List (List ℕ) → List ℕ
flat [] = []
flat (x ∷ xs) = x ++ flat xs

-- three terms and two sorts are lent to each
unfoldable pub problem : Lent → Problem
problem l = record {
  counts = record { records = length l.records; side = length l.side; tops = length l.tops; range = length l.range; terms = 3; sorts = 2 };
  records = flat l.records;
  side = l.side;
  tops = l.tops;
  range = flat l.range;
}

-- the buffers have the least length that is taken and two cells more, filled with 9, 8 and 7
abbrev pub room_of : Lent → ℕ
room_of l = room_frames * (3 + length l.records) + 2

unfoldable pub got : Lent → Exit
unfolding problem flat
got l = exit (problem l) (replicate (room_of l) 9) (replicate 5 8) (replicate (length l.records * entry_cells + 2) 7)

-- what must be there at exit: for an answer the sorts, for 31 the term, for a conflict its entries
unfoldable pub leaving : Lent → ℕ → ℕ → ℕ → ℕ → List ℕ → List Entry → Exit
leaving l number passes term place sorts entries = record {
  outcome = record { number = number; passes = passes; term = term; place = place };
  work = replicate (room_of l) 0;
  sort_list = sorts ++ (8 ∷ 8 ∷ []);
  errors = entries_cells entries ++ replicate ((length l.records - length entries) * entry_cells) 0 ++ (7 ∷ 7 ∷ []);
}

pub record Line : Type 0 where
  pub lends : Lent
  pub leaves : Exit

abbrev pub answered : Lent → ℕ → List ℕ → Line
answered l passes sorts = record { lends = l; leaves = leaving l 0 passes 0 0 sorts [] }

abbrev pub unsorted : Lent → ℕ → ℕ → Line
unsorted l passes term = record { lends = l; leaves = leaving l 31 passes term 20 (8 ∷ 8 ∷ 8 ∷ []) [] }

abbrev pub conflict : Lent → ℕ → ℕ → List Entry → Line
conflict l number passes entries = record { lends = l; leaves = leaving l number passes 0 0 (8 ∷ 8 ∷ 8 ∷ []) entries }

abbrev pub c1 : Line
c1 = answered (lent [] [] [] []) 1 (0 ∷ 0 ∷ 0 ∷ [])

abbrev pub c2 : Line
c2 = unsorted (lent [] [] [] (at a ∷ [])) 1 a

abbrev pub c3 : Line
c3 = answered (lent (Assign a S 10 ∷ []) [] (0 ∷ []) []) 2 (suc S ∷ 0 ∷ 0 ∷ [])

abbrev pub c4 : Line
c4 = conflict (lent (Assign a S 10 ∷ Assign a T 11 ∷ []) [] (0 ∷ 1 ∷ []) []) 30 1 (entry 30 1 11 a T S ∷ [])

abbrev pub c5 : Line
c5 = conflict (lent (Assign a S 10 ∷ Assign b T 11 ∷ Eq a b 12 ∷ []) [] (0 ∷ 1 ∷ 2 ∷ []) []) 30 1 (entry 30 2 12 a S T ∷ [])

abbrev pub c6 : Line
c6 = answered (lent (Eq a b 10 ∷ Assign a S 11 ∷ []) [] (0 ∷ 1 ∷ []) []) 3 (suc S ∷ suc S ∷ 0 ∷ [])

abbrev pub c7 : Line
c7 = unsorted (lent (Assign a S 10 ∷ Assign a T 11 ∷ Xor 0 2 12 ∷ []) (0 ∷ 1 ∷ []) (2 ∷ []) (at a ∷ [])) 1 a

abbrev pub c8 : Line
c8 = answered (lent (Assign a S 10 ∷ Assign a T 11 ∷ Xor 0 2 12 ∷ Assign a T 13 ∷ []) (0 ∷ 1 ∷ []) (2 ∷ 3 ∷ []) (at a ∷ [])) 2 (suc T ∷ 0 ∷ 0 ∷ [])

abbrev pub c9 : Line
c9 =
    conflict (lent (Assign c S 10 ∷ Assign c T 11 ∷ Impossible 7 3 12 ∷ Xor 0 2 13 ∷ []) (1 ∷ 2 ∷ []) (0 ∷ 3 ∷ []) [])
    32 1 (entry 32 3 13 2 0 0 ∷ entry 30 1 11 c T S ∷ entry 33 2 12 7 3 0 ∷ [])

abbrev pub c10 : Line
c10 =
    unsorted (lent (Eq a b 10 ∷ Assign a S 11 ∷ Assign b T 12 ∷ And 0 3 13 ∷ Assign a S 14 ∷ Xor 3 2 15 ∷ [])
    (0 ∷ 1 ∷ 2 ∷ 3 ∷ 4 ∷ []) (5 ∷ []) (at a ∷ [])) 1 a

abbrev pub c11 : Line
c11 = conflict (lent (Xor 0 0 10 ∷ []) [] (0 ∷ []) []) 32 1 (entry 32 0 10 0 0 0 ∷ [])

abbrev pub c12 : Line
c12 = answered (lent (And 0 0 10 ∷ Implies 0 0 0 11 ∷ []) [] (1 ∷ []) []) 2 (0 ∷ 0 ∷ 0 ∷ [])

abbrev pub c13 : Line
c13 = answered (lent (Assign b S 10 ∷ Implies 0 1 0 11 ∷ Assign a T 12 ∷ []) (a ∷ []) (1 ∷ 2 ∷ []) []) 3 (suc T ∷ suc S ∷ 0 ∷ [])

unfoldable pub lines : List Line
lines = c1 ∷ c2 ∷ c3 ∷ c4 ∷ c5 ∷ c6 ∷ c7 ∷ c8 ∷ c9 ∷ c10 ∷ c11 ∷ c12 ∷ c13 ∷ []
