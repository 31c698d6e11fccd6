-- Refused by the records or by the room, or run and finished.
use Rattle.std.proofs.Common.{refl, sym, arith}
use lib.Seq.{length-take-le}
use Rattle.solve_records.specs.Lent.{seen}
use Rattle.solver.proofs.Solving.{refused_records, refused_room, few, Accepted, few_records, entries_lent, can_run, can_finish, solved}
use Rattle.solver.proofs.solve.Goals.{In_default-room_refusal}
use Rattle.solver.proofs.solve.Goals as goal

-- past both tests nothing is refused
accepted : (c : In_default-room_refusal) → Accepted (seen c.args.problem) c.args.work.now c.args.sort_list.now c.args.errors.now
accepted c = record { records = c.in_default.ensures; lists = c.in_default-room_refusal.ensures }

pub returns-in-Err : goal.returns-in-Err
returns-in-Err c = rw c.refused_by.ensures (refused_records _ _ _ _ c.in-Err.refusal c.in-Err.ensures)

pub room_refusal-requires : goal.room_refusal-requires
room_refusal-requires c = few (seen c.args.problem) c.in_default.ensures

pub returns-in-Err-room_refusal : goal.returns-in-Err-room_refusal
returns-in-Err-room_refusal c =
    let refused = c.in-Err-room_refusal in
    rw c.refused_by-in-Err-room_refusal.ensures (refused_room _ _ _ _ refused.refusal c.in_default.ensures refused.ensures)

pub overflow_mul-entries : goal.overflow_mul-entries
overflow_mul-entries c = omega (arith, few_records (accepted (goal.at.overflow_mul-entries c).In_default-room_refusal))

pub slice_bounds-entries-end : goal.slice_bounds-entries-end
slice_bounds-entries-end c = entries_lent (accepted (goal.at.slice_bounds-entries-end c).In_default-room_refusal)

pub slice_bounds-entries-end-2 : goal.slice_bounds-entries-end-2
slice_bounds-entries-end-2 c = sym (length-take-le _ _ (entries_lent (accepted (goal.at.slice_bounds-entries-end-2 c).In_default-room_refusal)))

pub run-ended-requires : goal.run-ended-requires
run-ended-requires c = can_run (accepted (goal.at.run-ended-requires c).In_default-room_refusal)

pub finish-requires : goal.finish-requires
finish-requires c =
    let ran = c.run-ended in
    can_finish (accepted (goal.at.finish-requires c).In_default-room_refusal) ran.result _ _ _ ran.auto.work (ran.ensures c.args.problem.range.now)

pub returns : goal.returns
returns c =
    let ran = c.run-ended in
    solved (accepted (goal.at.returns c).In_default-room_refusal) ran.auto.work ran.auto.errors
    (c.finish.ensures _ _ refl refl (ran.ensures c.args.problem.range.now))
