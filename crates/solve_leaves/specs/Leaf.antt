-- What the updates of records without children ask and promise: of every problem that what is lent stands for.
use Rattle.std.specs.Prelude.{ℕ, zero, suc, ◌<◌, ◌≤◌, ◌≡◌, Bool, true, false, List, length}
use Rattle.definition.specs.declared.Counts.{Counts}
use Rattle.definition.specs.Sizes.{entry_cells}
use Rattle.definition.specs.Lists.{Among}
use Rattle.definition.specs.Problem.{Problem, Node, eq, assign, impossible, terms_of, place_of}
use Rattle.definition.specs.Frame.{Frame}
use Rattle.definition.specs.Update.{Out, step}
use Rattle.solve_leaves.specs.Room.{most_in_cell, frame_of}
use Rattle.solve_leaves.specs.Says.{Answer, Says}

-- the answer to an update of a node without children, from the work room to what is left of it and of the errors
abbrev pub LeafSays : Answer → Node → ℕ → ℕ → List ℕ → List ℕ → List ℕ → Type 0
LeafSays r o number place work work' errors' =
    (n : Counts) (p : Problem) (u : ℕ → Frame → Out) → ((t : ℕ) → Among t (terms_of o) → t < n.terms) → place_of p number ≡ place
    → Says r (step u p number o (frame_of n work)) n work' errors'

-- the kinds without children: Eq, Assign, Impossible
abbrev pub is_leaf : ℕ → Bool
is_leaf zero = true
is_leaf (suc zero) = true
is_leaf (suc (suc zero)) = false
is_leaf (suc (suc (suc zero))) = false
is_leaf (suc (suc (suc (suc zero)))) = true
is_leaf (suc (suc (suc (suc (suc k))))) = false

-- the node that such a kind and two values make
abbrev pub leaf_of : ℕ → ℕ → ℕ → Node
leaf_of zero a b = eq a b
leaf_of (suc zero) a b = assign a b
leaf_of (suc (suc k)) a b = impossible a b

-- what its update asks. A sort is held as the number after it
abbrev pub LeafAsks : ℕ → ℕ → ℕ → List ℕ → List ℕ → Type 0
LeafAsks zero a b work errors = (a < length work) × (b < length work) × (entry_cells ≤ length errors)
LeafAsks (suc zero) a b work errors = (a < length work) × (b < most_in_cell) × (entry_cells ≤ length errors)
LeafAsks (suc (suc k)) a b work errors = entry_cells ≤ length errors
