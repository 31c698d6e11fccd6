-- What can be relied on, for every problem as it is lent and not refused. Total, Satisfies, Holds and Names are of the
-- definition (Meaning); Held, Gives, Has, given, SortsAll, Changed, Conflicting and StandsIn of Words.
use Rattle.std.specs.Prelude.{ℕ, ◌+◌, ◌≤◌, ◌<◌, ◌≡◌, refl, List, [], ◌∷◌, ◌++◌, map, length, take}
use mathlib.Core.List.Memᴰ
use Rattle.definition.specs.Lists.{Among, from, all, count, largest, joined}
use Rattle.definition.specs.Problem.{Problem, node, node_of, kind_of, top_level, range_term}
use Rattle.definition.specs.Frame.{Frame, empty_frame}
use Rattle.definition.specs.Update.{Entry, or_changed, and_then, each, is_sorted, implies_on, step, upd}
use Rattle.definition.specs.Solve.{after_pass, run, implies_among, most_passes, running, first_open, with_open, at_end, answered, unconstrained, conflict, solve, outcome_of}
use Rattle.definition.specs.Refusal.{records_refusal, counts_fit, cells_fit, record_fits, values_fit, range_fits, trees_fit, children_below, named, named_once, depth_within, depth_fits}
use Rattle.definition.specs.Buffers.{exit}
use Rattle.definition.specs.Meaning.{Names, Total, Holds, Satisfies}
use Rattle.definition.proofs.Laws.Passes.{Ended, passes_of}
use Rattle.definition.specs.Table.{Impossible, Implies}
use Rattle.meaning.specs.Words.{HoldsAs, Has, given, Held, Gives, SortsAll, Changed, Conflicting, StandsIn}
use Rattle.meaning.proofs.Nodes.{holds_node, node_holds}
use Rattle.meaning.proofs.Renumbered.{stands_same}
use Rattle.meaning.proofs.Answers.{OpenAt}
use Rattle.meaning.proofs.Exit.{answered_held, exit_gives, exit_conflict}
use Rattle.meaning.proofs.Whole as whole

-- 1. An assignment satisfies a record exactly as HoldsAs says: an Eq whose terms agree, an Assign whose term has that sort,
-- an And when all children hold, an Xor when at least one does, an Implies when its child holds, an Impossible never.
pub holds : (p : Problem) (τ : ℕ → ℕ) (r : ℕ) → Holds p τ r → HoldsAs τ (Holds p τ) (node p r)
holds = holds_node

pub holds_back : (p : Problem) (τ : ℕ → ℕ) (r : ℕ) → HoldsAs τ (Holds p τ) (node p r) → Holds p τ r
holds_back p τ r = node_holds p τ r (node p r) refl

-- 2. Forced: every sort in an answer holds in every assignment that satisfies the problem, total or not.
pub forced : (p : Problem) (S : List ℕ) → Gives p S → (t s : ℕ) → Has S t s → (τ : ℕ → ℕ) → Satisfies p τ → τ t ≡ s
forced p S g = whole.held_forced p S (answered_held p S g)

-- So does every sort held where the outcome is 31, at which the term named is the first of the range without a sort.
pub forced_open : (p : Problem) → records_refusal p ≡ 0 → (n t place : ℕ) → solve p ≡ unconstrained n t place →
    (f : Frame) × Held p f.sorts × OpenAt p f 0 t place
forced_open = whole.open_held

pub forced_held : (p : Problem) (S : List ℕ) → Held p S → (t s : ℕ) → Has S t s → (τ : ℕ → ℕ) → Satisfies p τ → τ t ≡ s
forced_held = whole.held_forced

-- 3. Only: an answer that sorts every term the problem names is a total assignment, satisfies the problem, and every
-- assignment that satisfies the problem agrees with it on those terms.
pub only_total : (p : Problem) (S : List ℕ) → Gives p S → SortsAll p S → Total p (given S)
only_total p S g = whole.held_total p S (answered_held p S g)

pub only_satisfies : (p : Problem) (S : List ℕ) → Gives p S → SortsAll p S → Satisfies p (given S)
only_satisfies p S g = whole.held_satisfies p S (answered_held p S g)

pub only_one : (p : Problem) (S : List ℕ) → Gives p S → SortsAll p S → (τ : ℕ → ℕ) → Satisfies p τ →
    (t : ℕ) → Names p t → τ t ≡ given S t
only_one p S g = whole.held_only p S (answered_held p S g)

-- 4. Conflict: 30, 32 or 33 means that no assignment satisfies the problem.
pub unsatisfied : (p : Problem) → records_refusal p ≡ 0 → Conflicting (outcome_of (solve p)).number →
    (τ : ℕ → ℕ) → Satisfies p τ → ⊥
unsatisfied = whole.conflict_unsatisfied

-- 5. Stays: whole top-level constraints are added or reordered, records, terms and places renumbered by it. No sort of the
-- old answer changes in the new one, whether or not that sorts every term (and the same where either is 31).
pub stays : (p q : Problem) (ρ σ : ℕ → ℕ) → StandsIn p q ρ σ → (S U : List ℕ) → Held p S → Held q U →
    (t s : ℕ) → Has S t s → Has U (σ t) s
stays = whole.sorts_stay

-- A conflict stays a conflict.
pub conflict_stays : (p q : Problem) (ρ σ : ℕ → ℕ) → StandsIn p q ρ σ → records_refusal p ≡ 0 → records_refusal q ≡ 0 →
    Conflicting (outcome_of (solve p)).number → Conflicting (outcome_of (solve q)).number
conflict_stays = whole.conflict_stays

-- For instance, where top-level entries are reordered, or constraints are added behind those of p.
pub stands : (p q : Problem) → ((r : ℕ) → r < p.counts.records → node q r ≡ node p r) →
    ((r : ℕ) → Among r (top_level p) → Among r (top_level q)) → StandsIn p q (λ r. r) (λ t. t)
stands = stands_same

-- 6. Passes: at most terms + Implies records + 1, the records of kind 5. They never end by that bound: each pass but the
-- last changed something, the last one changed nothing or failed, and a larger bound gives the same.
pub passes : (p : Problem) →
    (outcome_of (solve p)).passes ≤ p.counts.terms + count 5 (map (kind_of p) (from 0 p.counts.records)) + 1
passes = whole.passes_most

pub passes_counted : (p : Problem) → records_refusal p ≡ 0 → Ended p (Changed p) (running p)
passes_counted = whole.passes_counted

-- and the number told is that count
pub passes_told : (p : Problem) → (outcome_of (solve p)).passes ≡ passes_of (running p)
passes_told = whole.outcome_passes

pub passes_enough : (p : Problem) → records_refusal p ≡ 0 → (k : ℕ) → most_passes p ≤ k → run p k 0 (empty_frame p) ≡ running p
passes_enough = whole.more_passes

-- 7. An error has at most one entry for each record; every sort held is of the table; every range entry of an answer is
-- sorted.
pub entries : (p : Problem) → records_refusal p ≡ 0 → (n : ℕ) (e : Entry) (es : List Entry) → solve p ≡ conflict n e es →
    length (e ∷ es) ≤ p.counts.records
entries = whole.conflict_entries

pub of_the_table : (p : Problem) (S : List ℕ) → Held p S → (t s : ℕ) → Has S t s → s < p.counts.sorts
of_the_table = whole.held_in_table

pub range_sorted : (p : Problem) (S : List ℕ) → Gives p S → (i : ℕ) → i < p.counts.range →
    (s : ℕ) × Has S (range_term p i) s
range_sorted = whole.given_range

-- 8. The same of what a caller sees: the number 0 comes with a sort list whose first cells, one for each term, are an
-- answer, and all above holds of them; a conflict's number means a conflict.
pub answered_at_exit : (p : Problem) (work sort_list errors : List ℕ) → (exit p work sort_list errors).outcome.number ≡ 0 →
    Gives p (take p.counts.terms (exit p work sort_list errors).sort_list)
answered_at_exit = exit_gives

pub unsatisfied_at_exit : (p : Problem) (work sort_list errors : List ℕ) →
    Conflicting (exit p work sort_list errors).outcome.number → (τ : ℕ → ℕ) → Satisfies p τ → ⊥
unsatisfied_at_exit p work sort_list errors c = let (h, k) = exit_conflict p work sort_list errors c in unsatisfied p h k

-- 9. Not promised: an answer need not mean that the problem can be satisfied. The smallest example is Implies(a; Impossible)
-- alone: answered in one pass, and no assignment satisfies it.
abbrev alone : Problem
alone = record {
  counts = record { records = 2; side = 1; tops = 1; range = 0; terms = 1; sorts = 1 };
  records = Impossible 0 1 0 ++ Implies 0 1 0 0;
  side = 0 ∷ [];
  tops = 1 ∷ [];
  range = [];
}

pub alone_accepted : records_refusal alone ≡ 0
unfolding
    records_refusal counts_fit cells_fit record_fits values_fit range_fits trees_fit children_below named named_once depth_within
    depth_fits from all count largest joined node node_of
alone_accepted = refl

pub alone_answered : solve alone ≡ answered 1 (empty_frame alone)
unfolding
    solve at_end with_open first_open run after_pass implies_among from each and_then or_changed upd step implies_on is_sorted all node
    node_of
alone_answered = refl

pub alone_unsatisfied : (τ : ℕ → ℕ) → Satisfies alone τ → ⊥
unfolding node node_of
alone_unsatisfied τ h = holds alone τ 0 (holds alone τ 1 (h 1 (Memᴰ.head refl)))
