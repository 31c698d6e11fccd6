-- What is promised of a problem and the one that a generator's call makes of it.
use Rattle.std.specs.Prelude.{ℕ, ◌≤◌, ◌<◌, ◌≡◌}
use Rattle.definition.specs.Lists.{Among, count}
use Rattle.definition.specs.Problem.{Problem, node, top_level}
use Rattle.definition.specs.Refusal.{named, depth, records_refusal}

-- no top-level constraint is deeper than d
abbrev pub Within : ℕ → Problem → Type 0
Within d p = (r : ℕ) → Among r (top_level p) → depth p r ≤ d

-- r is a record of the problem q that p did not have
pub record Added (p q : Problem) (r : ℕ) : Type 0 where
  pub past : p.counts.records ≤ r
  pub below : r < q.counts.records

-- q is p with more: solve's 1 to 4 are not given, what stood there stands, each record that is added is named once, by its
-- parent or at the top, and is at most 3 deep; so a problem that was not deeper than d, 3 or more, is not now
pub record Safe (p q : Problem) : Type 0 where
  pub taken : records_refusal q ≡ 0
  pub more : p.counts.records ≤ q.counts.records
  pub kept : (r : ℕ) → r < p.counts.records → node q r ≡ node p r
  pub tops : (r : ℕ) → Among r (top_level p) → Among r (top_level q)
  pub once : (r : ℕ) → Added p q r → count r (named q) ≡ 1
  pub shallow : (r : ℕ) → Added p q r → depth q r ≤ 3
  pub within : (d : ℕ) → 3 ≤ d → Within d p → Within d q
