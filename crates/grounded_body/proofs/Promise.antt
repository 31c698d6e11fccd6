-- What grounded_check promises, past its refusals. The arguments stand in Laws.
use Rattle.std.specs.Prelude.{ℕ, ◌≡◌, List, length, replicate}
use Rattle.std.proofs.Common.{arith}
use Rattle.definition.specs.Refusal.{records_refusal}
use Rattle.definition.specs.Solve.{conflict, solve}
use Rattle.definition.specs.Update.{Entry}
use Rattle.definition.specs.Buffers.{Exit}
use Rattle.grounded_body.specs.Body.{Body}
use Rattle.grounded_body.specs.Layout.{grounded_problem}
use Rattle.grounded_body.specs.Check.{grounded_refusal, checked_on, grounded_exit}
use Rattle.grounded_body.specs.Demand.{Grounded, BodyVariable, Verdict, all_grounded, one_is_not}
use Rattle.grounded_body.proofs.Laws.Whole.{fine, records_taken, ends, verdict_past, work_past}

module _ (b : Body) (work sort_list errors : List ℕ) (past : grounded_refusal b (length work) (length sort_list) (length errors) ≡ 0) where
  abbrev left : Exit
  left = grounded_exit b work sort_list errors

  -- the problem that it solves is never refused with 1 to 4, and solving it is never a conflict
  pub never_refused : records_refusal (grounded_problem b) ≡ 0
  unfolding grounded_problem
  never_refused = records_taken b (fine b work sort_list errors past).accepted

  pub never_conflict : (n : ℕ) (e : Entry) (es : List Entry) → solve (grounded_problem b) ≡ conflict n e es → ⊥
  unfolding grounded_problem
  never_conflict n e es = ends b work sort_list errors (fine b work sort_list errors past) (conflict n e es)

  pub verdict : Verdict b left.outcome
  unfolding grounded_exit checked_on
  verdict = rw past (verdict_past b work sort_list errors (fine b work sort_list errors past))

  -- 0: every variable of the body is grounded
  pub answered_grounded : left.outcome.number ≡ 0 → (t : ℕ) → BodyVariable b t → Grounded b t
  answered_grounded e = on verdict
    where
      on : Verdict b left.outcome → (t : ℕ) → BodyVariable b t → Grounded b t
      on (all_grounded h k) = k
      on (one_is_not h i k l) = absurd (omega (arith, e, h))

  -- 40: the variable named is not
  pub ungrounded_named : left.outcome.number ≡ 40 → BodyVariable b left.outcome.term × (Grounded b left.outcome.term → ⊥) × (left.outcome.place ≡ b.place)
  ungrounded_named e = on verdict
    where
      on : Verdict b left.outcome → BodyVariable b left.outcome.term × (Grounded b left.outcome.term → ⊥) × (left.outcome.place ≡ b.place)
      on (all_grounded h k) = absurd (omega (arith, e, h))
      on (one_is_not h i k l) = (k, l, i)

  -- the work room is zeroes
  pub work_zeroed : left.work ≡ replicate (length work) 0
  unfolding grounded_exit checked_on
  work_zeroed = rw past (work_past b work sort_list errors (fine b work sort_list errors past))
