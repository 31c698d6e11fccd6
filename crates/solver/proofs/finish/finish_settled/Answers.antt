-- An answer or an open range entry, by what `first_open` found.
use Rattle.std.proofs.Common.{sym}
use lib.Seq.{length-take-le}
use Rattle.solver.proofs.Finishing.{left_answered, left_open}
use Rattle.solver.proofs.finish.finish_settled.Goals as goal

pub slice_bounds-first_open-end-2 : goal.slice_bounds-first_open-end-2
slice_bounds-first_open-end-2 c = sym (length-take-le _ _ c.requires.room)

pub first_open-requires : goal.first_open-requires
first_open-requires c = record { range_cells_in_bounds = c.requires.entries; range_below = λ i l. rw (length-take-le c.args.counts.terms c.args.work.now c.requires.room) (c.requires.terms i l) }

pub returns-in-None : goal.returns-in-None
returns-in-None c =
    let found = c.first_open in
    λ p o ec er eo.
    left_answered p o c.args.counts c.args.range.now c.args.work.now _ _ _ ec er eo _ _ c.clear-in-None.ensures c.clear.ensures
    (rw c.in-None.is at found.ensures) _ c.put_all.ensures c.requires.room c.requires.cells

pub returns-in-Some : goal.returns-in-Some
returns-in-Some c =
    let found = c.first_open in
    λ p o ec er eo.
    left_open p o c.args.counts c.args.range.now c.args.work.now _ _ _ ec er eo _ _ c.clear-in-Some.ensures c.clear.ensures _ _
    (rw c.in-Some.is at found.ensures)
