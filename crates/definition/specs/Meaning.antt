-- What a problem means, apart from solving: when a total assignment satisfies it.
use Rattle.std.specs.Prelude.{ℕ, ◌<◌, ◌≡◌, List}
use Rattle.definition.specs.Lists.{Among}
use Rattle.definition.specs.Problem.{Problem, eq, assign, and, xor, implies, node, terms_of, top_level, range_term}

-- a record or a range entry names the term
pub data Names (p : Problem) (t : ℕ) : Type 0 where
  in_record : (r : ℕ) → r < p.counts.records → Among t (terms_of (node p r)) → Names p t
  in_range : (i : ℕ) → i < p.counts.range → range_term p i ≡ t → Names p t

-- τ gives each term that is named a sort of the table
abbrev pub Total : Problem → (ℕ → ℕ) → Type 0
Total p τ = (t : ℕ) → Names p t → τ t < p.counts.sorts

-- τ satisfies a record. An Impossible: never
pub data Holds (p : Problem) (τ : ℕ → ℕ) : ℕ → Type 0 where
  holds_eq : {r x y : ℕ} → node p r ≡ eq x y → τ x ≡ τ y → Holds p τ r
  holds_assign : {r x s : ℕ} → node p r ≡ assign x s → τ x ≡ s → Holds p τ r
  holds_and : {r : ℕ} {cs : List ℕ} → node p r ≡ and cs → ((c : ℕ) → Among c cs → Holds p τ c) → Holds p τ r
  holds_xor : {r c : ℕ} {cs : List ℕ} → node p r ≡ xor cs → Among c cs → Holds p τ c → Holds p τ r
  holds_implies : {r c : ℕ} {ws : List ℕ} → node p r ≡ implies ws c → Holds p τ c → Holds p τ r

-- and the problem: every top-level constraint holds
abbrev pub Satisfies : Problem → (ℕ → ℕ) → Type 0
Satisfies p τ = (r : ℕ) → Among r (top_level p) → Holds p τ r
