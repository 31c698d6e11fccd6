-- The words of the demand that the definition does not have.
use Rattle.std.specs.Prelude.{ℕ, suc, pred, ◌<◌, ◌≡◌, true, ◌⊎◌, List, map, get_or}
use Rattle.definition.specs.Lists.{Among}
use Rattle.definition.specs.Problem.{Problem, Node, eq, assign, and, xor, impossible, implies, node, top_level}
use Rattle.definition.specs.Frame.{Frame, empty_frame}
use Rattle.definition.specs.Update.{ok}
use Rattle.definition.specs.Solve.{pass, settled, running, answered, solve}
use Rattle.definition.specs.Refusal.{records_refusal}
use Rattle.definition.specs.Meaning.{Names}

-- When an assignment satisfies a record, by what the record is; H says it of its children.
abbrev pub HoldsAs : (ℕ → ℕ) → (ℕ → Type 0) → Node → Type 0
HoldsAs τ H (eq x y) = τ x ≡ τ y
HoldsAs τ H (assign x s) = τ x ≡ s
HoldsAs τ H (and cs) = (c : ℕ) → Among c cs → H c
HoldsAs τ H (xor cs) = (c : ℕ) × Among c cs × H c
HoldsAs τ H (impossible h e) = ⊥
HoldsAs τ H (implies ws c) = H c

-- A sort list: the cell of a term is 0 where it has no sort, else sort + 1. What the term has, and what the list assigns.
abbrev pub Has : List ℕ → ℕ → ℕ → Type 0
Has S t s = get_or S t 0 ≡ suc s

abbrev pub given : List ℕ → ℕ → ℕ
given S t = pred (get_or S t 0)

-- Solving, not refused, ends its passes with these sorts: an answer, or 31.
pub record Held (p : Problem) (S : List ℕ) : Type 0 where
  pub accepted : records_refusal p ≡ 0
  pub passes : ℕ
  pub frame : Frame
  pub settles : running p ≡ settled passes frame
  pub sorts : S ≡ frame.sorts

-- Solving, not refused, answers with this sort list.
pub record Gives (p : Problem) (S : List ℕ) : Type 0 where
  pub accepted : records_refusal p ≡ 0
  pub passes : ℕ
  pub frame : Frame
  pub answer : solve p ≡ answered passes frame
  pub sorts : S ≡ frame.sorts

-- the list sorts every term that the problem names
abbrev pub SortsAll : Problem → List ℕ → Type 0
SortsAll p S = (t : ℕ) → Names p t → (s : ℕ) × Has S t s

-- f is the frame after n passes, each of which changed something
pub data Changed (p : Problem) : ℕ → Frame → Type 0 where
  begin : Changed p 0 (empty_frame p)
  again : {n : ℕ} {f g : Frame} → Changed p n f → pass p f ≡ ok true g → Changed p (suc n) g

-- the numbers of a conflict
abbrev pub Conflicting : ℕ → Type 0
Conflicting k = (k ≡ 30) ⊎ (k ≡ 32) ⊎ (k ≡ 33)

-- a node with its children renumbered by ρ and its terms by σ
abbrev pub renumbered : (ℕ → ℕ) → (ℕ → ℕ) → Node → Node
renumbered ρ σ (eq x y) = eq (σ x) (σ y)
renumbered ρ σ (assign x s) = assign (σ x) s
renumbered ρ σ (and cs) = and (map ρ cs)
renumbered ρ σ (xor cs) = xor (map ρ cs)
renumbered ρ σ (impossible h e) = impossible h e
renumbered ρ σ (implies ws c) = implies (map σ ws) (ρ c)

-- Every constraint of p stands in q, with its whole tree, renumbered. q may have others, before, between and after them,
-- in any order, other places and any range.
pub record StandsIn (p q : Problem) (ρ σ : ℕ → ℕ) : Type 0 where
  pub trees : (r : ℕ) → r < p.counts.records → node q (ρ r) ≡ renumbered ρ σ (node p r)
  pub tops : (r : ℕ) → Among r (top_level p) → Among (ρ r) (top_level q)
