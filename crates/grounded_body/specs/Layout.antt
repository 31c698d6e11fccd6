-- The problem that constraints make: their records, one after another, each child before its parent.
use Rattle.std.specs.Prelude.{ℕ, suc, ◌+◌, Bool, false, cond, ◌||◌, List, [], ◌∷◌, ◌++◌, eqb, length}
use Rattle.definition.specs.Lists.{from}
use Rattle.definition.specs.Problem.{Problem}
use Rattle.rule_ranges.specs.Enter.{entries}
use Rattle.grounded_body.specs.Body.{Body, is_variable, Constraint, assigned, same, follows, given, mentioned}

-- a record's 8 cells, with the rule's place
abbrev pub as_cells : ℕ → ℕ → ℕ → ℕ → ℕ → List ℕ
as_cells place kind a b c = kind ∷ a ∷ b ∷ c ∷ 0 ∷ 0 ∷ place ∷ 0 ∷ []

-- how many records a constraint takes, and the terms that it puts into the side list
abbrev pub records_of : Constraint → ℕ
records_of (assigned t) = 1
records_of (same x y) = 1
records_of (follows ws t) = 2

abbrev pub watched : Constraint → List ℕ
watched (assigned t) = []
watched (same x y) = []
watched (follows ws t) = ws

-- its records, where n records and s cells of the side list stand before it
abbrev pub cells_of : ℕ → ℕ → ℕ → Constraint → List ℕ
cells_of place n s (assigned t) = as_cells place 1 t 0 0
cells_of place n s (same x y) = as_cells place 0 x y 0
cells_of place n s (follows ws t) = as_cells place 1 t 0 0 ++ as_cells place 5 s (length ws) n

-- the number of its top-level record
abbrev pub top_of : ℕ → Constraint → ℕ
top_of n (assigned t) = n
top_of n (same x y) = n
top_of n (follows ws t) = suc n

-- the same of constraints in order
unfoldable pub records_in : List Constraint → ℕ
records_in [] = 0
records_in (g ∷ gs) = records_of g + records_in gs

unfoldable pub side_in : List Constraint → List ℕ
side_in [] = []
side_in (g ∷ gs) = watched g ++ side_in gs

unfoldable pub cells_in : ℕ → ℕ → ℕ → List Constraint → List ℕ
cells_in place n s [] = []
cells_in place n s (g ∷ gs) = cells_of place n s g ++ cells_in place (n + records_of g) (s + length (watched g)) gs

unfoldable pub tops_in : ℕ → List Constraint → List ℕ
tops_in n [] = []
tops_in n (g ∷ gs) = top_of n g ∷ tops_in (n + records_of g) gs

-- x stands in the list
unfoldable pub elem : ℕ → List ℕ → Bool
elem x [] = false
elem x (y ∷ ys) = eqb x y || elem x ys

-- the range: the variables among these terms, each where it first appears, those already seen left out
unfoldable pub variables : List ℕ → List ℕ → List ℕ → List ℕ
variables terms seen [] = []
variables terms seen (t ∷ ts) =
    cond (is_variable terms t) (cond (elem t seen) (variables terms seen ts) (t ∷ variables terms (t ∷ seen) ts)) (variables terms seen ts)

-- the body's constraints and the terms of its range, whole
unfoldable pub constraints : Body → List Constraint
constraints b = given b (from 0 b.atom_count)

unfoldable pub range : Body → List ℕ
range b = variables b.terms [] (mentioned b (from 0 b.atom_count))

-- the problem that grounded_check solves, with one sort
abbrev pub asked : Body → List Constraint → List ℕ → Problem
asked b gs vs = record {
  counts = record {
    records = records_in gs;
    side = length (side_in gs);
    tops = length (tops_in 0 gs);
    range = length vs;
    terms = b.term_count;
    sorts = 1;
  };
  records = cells_in b.place 0 0 gs;
  side = side_in gs;
  tops = tops_in 0 gs;
  range = entries b.place vs;
}

unfoldable pub grounded_problem : Body → Problem
grounded_problem b = asked b (constraints b) (range b)
