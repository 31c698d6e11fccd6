-- When a record holds, by what it is.
use Rattle.std.specs.Prelude.{ℕ, ◌≡◌}
use Rattle.definition.specs.Problem.{Problem, Node, eq, assign, and, xor, impossible, implies, node}
use Rattle.definition.specs.Meaning.{Holds, holds_eq, holds_assign, holds_and, holds_xor, holds_implies}
use Rattle.meaning.specs.Words.{HoldsAs}

pub holds_node : (p : Problem) (τ : ℕ → ℕ) (r : ℕ) → Holds p τ r → HoldsAs τ (Holds p τ) (node p r)
holds_node p τ r (holds_eq e h) = rw e h
holds_node p τ r (holds_assign e h) = rw e h
holds_node p τ r (holds_and e h) = rw e h
holds_node p τ r (holds_xor e m h) = rw e (_, m, h)
holds_node p τ r (holds_implies e h) = rw e h

pub node_holds : (p : Problem) (τ : ℕ → ℕ) (r : ℕ) (n : Node) → node p r ≡ n → HoldsAs τ (Holds p τ) n → Holds p τ r
node_holds p τ r (eq x y) e h = holds_eq e h
node_holds p τ r (assign x s) e h = holds_assign e h
node_holds p τ r (and cs) e h = holds_and e h
node_holds p τ r (xor cs) e h = holds_xor e h.1 h.2
node_holds p τ r (impossible k s) e h = absurd h
node_holds p τ r (implies ws c) e h = holds_implies e h
