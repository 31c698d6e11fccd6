-- Kinds without children.
use Rattle.std.specs.Prelude.{ℕ, zero, suc, ◌≤◌, ◌≡◌, refl, List, length}
use Rattle.definition.specs.Sizes.{entry_cells}
use Rattle.definition.specs.Problem.{impossible}
use Rattle.solve_leaves.specs.Leaf.{LeafAsks, leaf_of}

pub asks_room : (k a b : ℕ) (work errors : List ℕ) → LeafAsks k a b work errors → entry_cells ≤ length errors
asks_room zero a b work errors h = h.2
asks_room (suc zero) a b work errors h = h.2
asks_room (suc (suc k)) a b work errors h = h

pub leaf_last : (k a b : ℕ) → (k ≡ 0 → ⊥) → (k ≡ 1 → ⊥) → impossible a b ≡ leaf_of k a b
leaf_last zero a b n0 n1 = absurd (n0 refl)
leaf_last (suc zero) a b n0 n1 = absurd (n1 refl)
leaf_last (suc (suc k)) a b n0 n1 = refl
