-- What is known of the records of a problem that is not refused.
use Rattle.std.specs.Prelude.{ℕ, zero, suc, ◌+◌, ◌<◌, ◌≡◌, true, List, [], ◌∷◌, length}
use Rattle.definition.specs.Lists.{Among}
use Rattle.definition.specs.Problem.{Problem, xor, children, node}
use Rattle.definition.specs.Frame.{Frame, state_of}
use Rattle.definition.specs.Refusal.{record_fits}

-- facts about a record, over what is asked of its children
pub record Ok (p : Problem) (G : ℕ → Type 0) (r : ℕ) : Type 0 where
  pub below : r < p.counts.records
  pub values : record_fits p r ≡ true
  pub kids : (c : ℕ) → Among c (children (node p r)) → G c

-- a record and all below it, at most d levels deep
abbrev pub Fits : Problem → ℕ → ℕ → Type 0
Fits p zero r = ⊥
Fits p (suc d) r = Ok p (Fits p d) r

-- the sum of what m gives on a list
unfoldable pub total : (ℕ → ℕ) → List ℕ → ℕ
total m [] = 0
total m (x ∷ xs) = m x + total m xs

-- how many records an error of this record's update can name: the record and all below it
unfoldable pub size : Problem → ℕ → ℕ → ℕ
size p zero r = 1
size p (suc d) r = suc (total (size p d) (children (node p r)))

-- a frame with a cell for each term and each record, in which every narrowed Xor is narrowed to a child of its own
pub record Framed (p : Problem) (f : Frame) : Type 0 where
  pub sorts : length f.sorts ≡ p.counts.terms
  pub states : length f.states ≡ p.counts.records
  pub narrowed : (r c : ℕ) (cs : List ℕ) → node p r ≡ xor cs → state_of f r ≡ suc c → Among c cs
