-- What the definition of solving shuts out: a solver that always says 31, always refuses, always gives one sort, does
-- nothing, makes one real pass and then idle ones, or invents its count of passes. By the table of small problems.
use Rattle.std.specs.Prelude.{ℕ, suc, ◌≤◌, ◌<◌, ◌≡◌, refl, true, List, [], ◌∷◌, map, get_or}
use Rattle.std.proofs.Common.{ap, arith}
use Rattle.definition.specs.Problem.{Problem, node, node_of}
use Rattle.definition.specs.Frame.{Frame, empty_frame, sort_of}
use Rattle.definition.specs.Update.{ok, or_changed, and_then, eq_on, assign_on, each, step, upd}
use Rattle.definition.specs.Solve.{pass}
use Rattle.definition.specs.Buffers.{Exit, exit}
use Rattle.definition.proofs.SmallProblems.{small_problems}
use Rattle.definition.specs.Table.{S, Lent, flat, problem, Line, got, leaving, lines, c1, c3, c4, c6, c8}

-- line k of the table
line : (k : ℕ) →
    get_or (map (λ (l : Line). got l.lends) lines) k c1.leaves ≡ get_or (map (λ (l : Line). l.leaves) lines) k c1.leaves
line k = ap (λ (l : List Exit). get_or l k c1.leaves) small_problems

third : got c3.lends ≡ c3.leaves
unfolding lines
third = line 2

fourth : got c4.lends ≡ c4.leaves
unfolding lines
fourth = line 3

sixth : got c6.lends ≡ c6.leaves
unfolding lines
sixth = line 5

eighth : got c8.lends ≡ c8.leaves
unfolding lines
eighth = line 7

-- what is said of every problem and its exit is said of each line
abbrev Every : (Problem → Exit → Type 0) → Type 0
Every A = (p : Problem) (work sort_list errors : List ℕ) → A p (exit p work sort_list errors)

of_line : (A : Problem → Exit → Type 0) → Every A → (l : Lent) → A (problem l) (got l)
unfolding got
of_line A h l = h _ _ _ _

-- always saying 31, or never answering (C3)
pub not_always_31 : Every (λ p e. e.outcome.number ≡ 0 → ⊥) → ⊥
unfolding leaving
not_always_31 h =
    let k : c3.leaves.outcome.number ≡ 0 → ⊥ = rw third at (of_line (λ p e. e.outcome.number ≡ 0 → ⊥) h c3.lends) in
    k refl

-- always refusing (C3)
pub not_always_refused : Every (λ p e. (1 ≤ e.outcome.number) × (e.outcome.number ≤ 6)) → ⊥
unfolding leaving
not_always_refused h =
    let k : (1 ≤ c3.leaves.outcome.number) × (c3.leaves.outcome.number ≤ 6) =
    rw third at (of_line (λ p e. (1 ≤ e.outcome.number) × (e.outcome.number ≤ 6)) h c3.lends) in
    absurd (omega arith)

-- never finding a conflict (C4)
pub not_without_conflict : Every (λ p e. e.outcome.number ≡ 30 → ⊥) → ⊥
unfolding leaving
not_without_conflict h =
    let k : c4.leaves.outcome.number ≡ 30 → ⊥ =
    rw fourth at (of_line (λ p e. e.outcome.number ≡ 30 → ⊥) h c4.lends) in
    k refl

-- always giving one sort (C3, C8)
abbrev OneSort : ℕ → Problem → Exit → Type 0
OneSort s p e = e.outcome.number ≡ 0 → (t v : ℕ) → t < p.counts.terms → get_or e.sort_list t 0 ≡ suc v → v ≡ s

pub not_one_sort : (s : ℕ) → Every (OneSort s) → ⊥
unfolding leaving problem
not_one_sort s h =
    let k : OneSort s (problem c3.lends) c3.leaves = rw third at (of_line (OneSort s) h c3.lends) in
    let l : OneSort s (problem c8.lends) c8.leaves = rw eighth at (of_line (OneSort s) h c8.lends) in
    absurd (omega (arith, k refl 0 0 (omega arith) refl, l refl 0 1 (omega arith) refl))

-- doing nothing: answers in which no term has a sort (C6)
abbrev Nothing : Problem → Exit → Type 0
Nothing p e = e.outcome.number ≡ 0 → (t : ℕ) → t < p.counts.terms → get_or e.sort_list t 0 ≡ 0

pub not_nothing : Every Nothing → ⊥
unfolding leaving problem
not_nothing h =
    let k : Nothing (problem c6.lends) c6.leaves = rw sixth at (of_line Nothing h c6.lends) in
    absurd (omega (arith, k refl 1 (omega arith)))

-- one real pass and then idle ones: what the first pass leaves is not yet the answer (C6)
abbrev OnePass : Problem → Exit → Type 0
OnePass p e =
    e.outcome.number ≡ 0 → (f : Frame) → pass p (empty_frame p) ≡ ok true f → (t : ℕ) → t < p.counts.terms → get_or e.sort_list t 0 ≡ sort_of f t

pub not_one_pass : Every OnePass → ⊥
unfolding leaving problem flat node node_of or_changed and_then eq_on assign_on each step upd
not_one_pass h =
    let k : OnePass (problem c6.lends) c6.leaves = rw sixth at (of_line OnePass h c6.lends) in
    let f : Frame = record { sorts = suc S ∷ 0 ∷ 0 ∷ []; states = 0 ∷ 0 ∷ [] } in
    absurd (omega (arith, k refl f refl 1 (omega arith)))

-- an invented count of passes (C3, C6): no fixed number is the count of every answer. Demand's `passes_counted` says what
-- is counted
abbrev Counts : ℕ → Problem → Exit → Type 0
Counts n p e = e.outcome.number ≡ 0 → e.outcome.passes ≡ n

pub not_one_count : (n : ℕ) → Every (Counts n) → ⊥
unfolding leaving
not_one_count n h =
    let k : Counts n (problem c3.lends) c3.leaves = rw third at (of_line (Counts n) h c3.lends) in
    let l : Counts n (problem c6.lends) c6.leaves = rw sixth at (of_line (Counts n) h c6.lends) in
    absurd (omega (arith, k refl, l refl))
