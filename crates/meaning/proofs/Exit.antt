-- What the numbers and buffers at exit say of the answer.
use Prim.Native.Nat.{ℕ, zero, suc, ◌+◌, ◌*◌, ◌≤◌}
use Rattle.std.specs.Prelude.{◌≡◌, ◌⊎◌, ◌≢◌, Bool, true, false, ◌&&◌, List, ◌++◌, leb, length, take, drop}
use Rattle.std.proofs.Math.Path.{refl}
use Rattle.std.proofs.Common.{subst, inl, inr, arith, take_at}
use Rattle.definition.specs.Sizes.{room_frames, entry_cells}
use Rattle.definition.specs.Problem.{Problem}
use Rattle.definition.specs.Frame.{Frame}
use Rattle.definition.specs.Update.{Entry}
use Rattle.definition.specs.Solve.{Answer, answered, unconstrained, conflict, solve, outcome_of}
use Rattle.definition.specs.Refusal.{unless, counts_fit, cells_fit, trees_fit, depth_fits, records_refusal, room_refusal, first_given, refusal}
use Rattle.definition.specs.Buffers.{sorts_after, exit_on, exit}
use Rattle.definition.proofs.Laws.Entries.{ErrorNumber, is30, is32, is33}
use Rattle.definition.proofs.Laws.Refused.{refusal_none}
use Rattle.definition.proofs.Laws.Solved.{Leaves, solve_leaves}
use Rattle.meaning.specs.Words.{Held, Gives, Conflicting}
use Rattle.meaning.proofs.Answers.{answered_from}

-- a refusal's number is 6 at most
unless_most : (b : Bool) (n k : ℕ) → n ≤ 6 → k ≤ 6 → unless b n k ≤ 6
unless_most true n k h i = i
unless_most false n k h i = h

records_most : (p : Problem) → records_refusal p ≤ 6
unfolding records_refusal
records_most p =
    unless_most (counts_fit p) 1 (unless (cells_fit p) 2 (unless (trees_fit p) 3 (unless (depth_fits p) 4 0))) (omega arith)
    (unless_most (cells_fit p) 2 (unless (trees_fit p) 3 (unless (depth_fits p) 4 0)) (omega arith)
    (unless_most (trees_fit p) 3 (unless (depth_fits p) 4 0) (omega arith) (unless_most (depth_fits p) 4 0 (omega arith) (omega arith))))

room_most : (terms records work sort_list errors : ℕ) → room_refusal terms records work sort_list errors ≤ 6
unfolding room_refusal
room_most terms records work sort_list errors =
    unless_most (leb (room_frames * (terms + records)) work) 5 _ (omega arith)
    (unless_most (leb terms sort_list && leb (records * entry_cells) errors) 6 0 (omega arith) (omega arith))

first_most : (n k : ℕ) → n ≤ 6 → k ≤ 6 → first_given n k ≤ 6
unfolding first_given
first_most zero k h i = i
first_most (suc n) k h i = h

pub refusal_most : (p : Problem) (work sort_list errors : List ℕ) → refusal p work sort_list errors ≤ 6
unfolding refusal
refusal_most p work sort_list errors =
    first_most (records_refusal p) _ (records_most p) (room_most p.counts.terms p.counts.records (length work) (length sort_list) (length errors))

-- the number of an answer says which it is
pub data Ending (p : Problem) (k : ℕ) : Type 0 where
  answers : (n : ℕ) (f : Frame) → k ≡ 0 → solve p ≡ answered n f → Ending p k
  opens : (n t place : ℕ) → k ≡ 31 → solve p ≡ unconstrained n t place → Ending p k
  fails : (n : ℕ) (e : Entry) (es : List Entry) → Conflicting k → solve p ≡ conflict n e es → Ending p k

conflicting : (k : ℕ) → ErrorNumber k → Conflicting k
conflicting k (is30 e) = inl e
conflicting k (is32 e) = inr (inl e)
conflicting k (is33 e) = inr (inr e)

conflicting_most : (k : ℕ) → Conflicting k → (30 ≤ k) × (k ≢ 31)
conflicting_most k (inl e) = omega arith
conflicting_most k (inr (inl e)) = omega arith
conflicting_most k (inr (inr e)) = omega arith

pub ending : (p : Problem) → records_refusal p ≡ 0 → Ending p (outcome_of (solve p)).number
unfolding outcome_of
ending p h = on (solve p) refl (solve_leaves p h)
  where
    on : (a : Answer) → solve p ≡ a → Leaves p p.counts.records a → Ending p (outcome_of a).number
    on (answered n f) e l = answers n f refl e
    on (unconstrained n t place) e l = opens n t place refl e
    on (conflict n x xs) e l = fails n x xs (conflicting x.number l.number) e

-- a conflict's number is given for a conflict only, and 31 for an unconstrained term only
pub number_conflict : (p : Problem) → records_refusal p ≡ 0 → Conflicting (outcome_of (solve p)).number
    → (n : ℕ) × (e : Entry) × (es : List Entry) × (solve p ≡ conflict n e es)
number_conflict p h k = on (ending p h) (conflicting_most (outcome_of (solve p)).number k)
  where
    on : Ending p (outcome_of (solve p)).number → (30 ≤ (outcome_of (solve p)).number) × ((outcome_of (solve p)).number ≢ 31)
        → (n : ℕ) × (e : Entry) × (es : List Entry) × (solve p ≡ conflict n e es)
    on (answers n f e i) l = absurd (omega (arith, l.0))
    on (opens n t place e i) l = absurd (l.1 e)
    on (fails n x xs c i) l = (n, x, xs, i)

pub number_answered : (p : Problem) → records_refusal p ≡ 0 → (outcome_of (solve p)).number ≡ 0 →
    (n : ℕ) × (f : Frame) × (solve p ≡ answered n f)
number_answered p h k = on (ending p h)
  where
    on : Ending p (outcome_of (solve p)).number → (n : ℕ) × (f : Frame) × (solve p ≡ answered n f)
    on (answers n f e i) = (n, f, i)
    on (opens n t place e i) = absurd (omega arith)
    on (fails n x xs c i) = absurd (omega (arith, (conflicting_most (outcome_of (solve p)).number c).0))

pub answered_held : (p : Problem) (S : List ℕ) → Gives p S → Held p S
answered_held p S g = record {
  accepted = g.accepted;
  passes = g.passes;
  frame = g.frame;
  settles = (answered_from p g.passes g.frame g.answer).0;
  sorts = g.sorts;
}

-- the exit, where nothing is refused, is that of the answer
module _ (p : Problem) (work sort_list errors : List ℕ) where
  exit_refused : ((exit p work sort_list errors).outcome.number ≡ 0) ⊎ (7 ≤ (exit p work sort_list errors).outcome.number) →
      refusal p work sort_list errors ≡ 0
  unfolding exit exit_on
  exit_refused h = on (refusal p work sort_list errors) refl h (refusal_most p work sort_list errors)
    where
      on : (k : ℕ) → refusal p work sort_list errors ≡ k
          → ((exit_on p (solve p) work sort_list errors k).outcome.number ≡ 0) ⊎ (7 ≤ (exit_on p (solve p) work sort_list errors k).outcome.number)
          → refusal p work sort_list errors ≤ 6 → refusal p work sort_list errors ≡ 0
      on zero e h l = e
      on (suc k) e (inl h) l = absurd (omega arith)
      on (suc k) e (inr h) l = absurd (omega arith)

  exit_outcome : refusal p work sort_list errors ≡ 0 → (exit p work sort_list errors).outcome ≡ outcome_of (solve p)
  unfolding exit exit_on
  exit_outcome e = rw e refl

  exit_sorts : (n : ℕ) (f : Frame) → refusal p work sort_list errors ≡ 0 → solve p ≡ answered n f →
      (exit p work sort_list errors).sort_list ≡ f.sorts ++ drop p.counts.terms sort_list
  unfolding exit exit_on sorts_after
  exit_sorts n f e a = rw (e, a) refl

  pub exit_gives : (exit p work sort_list errors).outcome.number ≡ 0 →
      Gives p (take p.counts.terms (exit p work sort_list errors).sort_list)
  exit_gives h =
      let e : refusal p work sort_list errors ≡ 0 = exit_refused (inl h) in
      let ok : records_refusal p ≡ 0 = (refusal_none p work sort_list errors e).0 in
      let number : (outcome_of (solve p)).number ≡ 0 = rw (exit_outcome e) at h in
      on e ok (number_answered p ok number)
    where
      on : refusal p work sort_list errors ≡ 0 → records_refusal p ≡ 0 → (n : ℕ) × (f : Frame) × (solve p ≡ answered n f)
          → Gives p (take p.counts.terms (exit p work sort_list errors).sort_list)
      on e ok (n, f, a) = record {
        accepted = ok;
        passes = n;
        frame = f;
        answer = a;
        sorts = rw (exit_sorts n f e a) (take_at f.sorts (drop p.counts.terms sort_list) p.counts.terms
            (subst (Leaves p p.counts.records) a (solve_leaves p ok)).sorts);
      }

  pub exit_conflict : Conflicting (exit p work sort_list errors).outcome.number →
      (records_refusal p ≡ 0) × Conflicting (outcome_of (solve p)).number
  exit_conflict c =
      let e : refusal p work sort_list errors ≡ 0 =
      exit_refused (inr (omega (arith, (conflicting_most (exit p work sort_list errors).outcome.number c).0))) in
      ((refusal_none p work sort_list errors e).0, rw (exit_outcome e) at c)
