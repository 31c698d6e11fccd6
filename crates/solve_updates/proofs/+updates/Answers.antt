-- The updates, which call one another: what each asks of the next, and that its answer is the definition's. A measure is met
-- by arithmetic, the rest by the laws of this crate.
use Rattle.std.proofs.Common.{◌≡◌, ◌⊎◌, length, rules, arith, sym, ◌∙◌, inl, inr}
use Rattle.solve_updates.proofs.Steps.{says_one, passing_start, passing_child, passing_turn, passing_fails, passing_ends}
use Rattle.solve_updates.proofs.Dispatch.{deep, above, record_in, part_in, leaf_asks, leaf_says, and_asks, xor_node, implies_asks, and_says, xor_says, implies_says}
use Rattle.solve_updates.proofs.Own.{cell_in, term_in, entry_in, firing_ready, says_waits, says_fires, xor_ready, narrowed_ready, tried_asks, only_asks, says_open, says_narrowed}
use Rattle.solve_updates.proofs.Trials.{child_left, trying_start, apart_trial, apart_stand, trial_ready, trying_next, tried_one, tried_rest}
use Rattle.solve_updates.proofs.+updates.Goals.{try_children-then-found-eq2, try_children-else-found-eq2+then-i-children}
use Rattle.solve_updates.proofs.+updates.Goals as goal

-- `update_and`: what is left of the children, from the frame now, answers for all of them from the frame at entry.
pub update_and-loop-child-init : goal.update_and-loop-child-init
update_and-loop-child-init t c = passing_start c.requires

pub update_and-update-requires : goal.update_and-update-requires
update_and-update-requires t c = (omega (arith, c.decreases), passing_child c.loop-child.invariant c.requires c.loop-child-test.true)

pub update_and-loop-child-preserved : goal.update_and-loop-child-preserved
update_and-loop-child-preserved t c =
    let done = c.update in
    passing_turn c.loop-child.invariant _ done.new.work done.new.errors c.loop-child-test.true c.in_ok-changed.was done.auto.work done.auto.errors done.ensures

pub update_and-returns-in_err-changed : goal.update_and-returns-in_err-changed
update_and-returns-in_err-changed t c =
    let done = c.update in
    let fails = passing_fails c.loop-child.invariant c.in_err-changed.field-0.0 done.new.work done.new.errors c.loop-child-test.true c.in_err-changed.was done.ensures in
    search (rules, fails)

pub update_and-returns : goal.update_and-returns
update_and-returns t c = passing_ends c.loop-child.invariant c.loop-child-test.false

-- `update_one`: a list of one record gives what the record gives.
pub update_one-returns : goal.update_one-returns
update_one-returns t c = let done = c.update_and in says_one done.result _ _ _ _ _ done.new.work done.new.errors done.ensures

-- `update_child`: a leaf, or a list of one record.
pub update_child-read_record-rec-requires : goal.update_child-read_record-rec-requires
update_child-read_record-rec-requires t c = record_in c.requires

pub update_child-update_leaf-requires : goal.update_child-update_leaf-requires
update_child-update_leaf-requires t c = leaf_asks c.requires c.read_record-rec.ensures (omega (arith, c.well_formed.0))

pub update_child-returns-then-is_leaf : goal.update_child-returns-then-is_leaf
update_child-returns-then-is_leaf t c =
    let done = c.update_leaf in
    leaf_says c.requires c.read_record-rec.ensures done.result done.new.work done.new.errors (sym c.is_leaf.ensures ∙ c.if-is_leaf.true) done.ensures

-- `update_implies`: it waits, it fires now, or it has fired.
pub update_implies-overflow_add-terms : goal.update_implies-overflow_add-terms
update_implies-overflow_add-terms t c = omega (arith, cell_in c.requires.ready)

pub update_implies-fire-firing-requires : goal.update_implies-fire-firing-requires
update_implies-fire-firing-requires t c = (cell_in c.requires.ready, λ x m. term_in c.requires.ready (c.requires.by_index x m))

pub update_implies-returns-then-waits : goal.update_implies-returns-then-waits
update_implies-returns-then-waits t c =
    let fire = c.fire-firing in
    says_waits c.requires.ready fire.result _ _ fire.new.work (sym c.waits.ensures ∙ c.if-waits.true) c.requires.by_index fire.ensures

pub update_implies-update_child-answer-requires : goal.update_implies-update_child-answer-requires
update_implies-update_child-answer-requires t c =
    let fire = c.fire-firing in
    (omega (arith, c.decreases), firing_ready c.requires.ready fire.result fire.new.work c.requires.number_value fire.ensures)

pub update_implies-returns : goal.update_implies-returns
update_implies-returns t c =
    let fire = c.fire-firing in
    let done = c.update_child-answer in
    says_fires c.requires.ready fire.result done.result c.fired.result _ _ fire.new.work done.new.work done.new.errors (sym c.waits.ensures ∙ c.if-waits.false)
    c.requires.by_index fire.ensures c.fired.ensures done.ensures

-- `update`: the record is read, and the update of its kind answers for it.
pub update-read_record-rec-requires : goal.update-read_record-rec-requires
update-read_record-rec-requires t c = record_in c.requires

pub update-update_leaf-requires : goal.update-update_leaf-requires
update-update_leaf-requires t c = leaf_asks c.requires c.read_record-rec.ensures (omega (arith, c.well_formed.0))

pub update-returns-then-is_leaf : goal.update-returns-then-is_leaf
update-returns-then-is_leaf t c =
    let done = c.update_leaf in
    leaf_says c.requires c.read_record-rec.ensures done.result done.new.work done.new.errors (sym c.is_leaf.ensures ∙ c.if-is_leaf.true) done.ensures

-- the record's part of the side list lies in it
pub update-overflow_add-own : goal.update-overflow_add-own
update-overflow_add-own t c = omega (arith, part_in c.requires c.read_record-rec.ensures (sym c.is_leaf.ensures ∙ c.if-is_leaf.false))

pub update-offset_bounds-side-rec : goal.update-offset_bounds-side-rec
update-offset_bounds-side-rec t c = omega (arith, part_in c.requires c.read_record-rec.ensures (sym c.is_leaf.ensures ∙ c.if-is_leaf.false))

pub update-slice_bounds-own-end : goal.update-slice_bounds-own-end
update-slice_bounds-own-end t c = part_in c.requires c.read_record-rec.ensures (sym c.is_leaf.ensures ∙ c.if-is_leaf.false)

pub update-overflow_sub-low : goal.update-overflow_sub-low
update-overflow_sub-low t c = omega (arith, deep c.requires)

pub update-update_and-requires : goal.update-update_and-requires
update-update_and-requires t c = (omega (arith, c.decreases, deep c.requires), and_asks c.requires c.read_record-rec.ensures c.in-2.is)

pub update-update_xor-requires : goal.update-update_xor-requires
update-update_xor-requires t c =
    (omega (arith, c.decreases, deep c.requires), (above c.requires, xor_node c.requires c.read_record-rec.ensures c.in-3.is))

pub update-update_implies-requires : goal.update-update_implies-requires
update-update_implies-requires t c = (
  omega (arith, c.decreases, deep c.requires),
  (above c.requires, implies_asks c.requires c.read_record-rec.ensures (sym c.is_leaf.ensures ∙ c.if-is_leaf.false, omega arith, omega arith)),
)

pub update-returns-in-2 : goal.update-returns-in-2
update-returns-in-2 t c =
    let done = c.update_and in
    and_says c.requires c.read_record-rec.ensures done.result done.new.work done.new.errors c.in-2.is done.ensures

pub update-returns-in-3 : goal.update-returns-in-3
update-returns-in-3 t c =
    let done = c.update_xor in
    xor_says c.requires c.read_record-rec.ensures done.result done.new.work done.new.errors c.in-3.is done.ensures

pub update-returns-in_default : goal.update-returns-in_default
update-returns-in_default t c =
    let done = c.update_implies in
    implies_says c.requires c.read_record-rec.ensures done.result done.new.work done.new.errors
    (sym c.is_leaf.ensures ∙ c.if-is_leaf.false, omega arith, omega arith) done.ensures

-- `update_xor`: the trials of all children, or the update of the one that is left; then the end that both have.
pub update_xor-overflow_add-state : goal.update_xor-overflow_add-state
update_xor-overflow_add-state t c = omega (arith, cell_in c.requires.ready)

pub update_xor-offset_bounds-work-terms : goal.update_xor-offset_bounds-work-terms
update_xor-offset_bounds-work-terms t c = omega (arith, cell_in c.requires.ready)

pub update_xor-bounds-work-terms : goal.update_xor-bounds-work-terms
update_xor-bounds-work-terms t c = cell_in c.requires.ready

pub update_xor-slice_bounds-behind-count : goal.update_xor-slice_bounds-behind-count
update_xor-slice_bounds-behind-count t c = entry_in c.requires.ready

pub update_xor-slice_bounds-behind-start : goal.update_xor-slice_bounds-behind-start
update_xor-slice_bounds-behind-start t c = entry_in c.requires.ready

pub update_xor-try_children-tried-requires : goal.update_xor-try_children-tried-requires
update_xor-try_children-tried-requires t c =
    (omega (arith, c.decreases), (xor_ready c.requires.ready c.requires.number_value.0, c.requires.ready.space))

pub update_xor-settle-requires : goal.update_xor-settle-requires
update_xor-settle-requires t c =
    let done = c.try_children-tried in
    tried_asks c.requires.ready done.result done.new.work done.new.errors c.requires.number_value.0 done.auto.work done.auto.errors done.ensures

pub update_xor-returns-then-state-eq0 : goal.update_xor-returns-then-state-eq0
update_xor-returns-then-state-eq0 t c =
    let done = c.try_children-tried in
    let settled = c.settle in
    says_open c.requires.ready settled.result done.result c.args.children.now done.new.work done.new.errors settled.new.work settled.new.errors
    c.requires.number_value.1 c.if-state-eq0.true done.ensures settled.ensures

pub update_xor-slice_bounds-behind-count-2 : goal.update_xor-slice_bounds-behind-count-2
update_xor-slice_bounds-behind-count-2 t c = entry_in c.requires.ready

pub update_xor-slice_bounds-behind-start-2 : goal.update_xor-slice_bounds-behind-start-2
update_xor-slice_bounds-behind-start-2 t c = entry_in c.requires.ready

pub update_xor-update_one-answer-requires : goal.update_xor-update_one-answer-requires
update_xor-update_one-answer-requires t c =
    (omega (arith, c.decreases), narrowed_ready c.requires.ready c.requires.number_value.0 c.if-state-eq0.false)

pub update_xor-settle-requires-2 : goal.update_xor-settle-requires-2
update_xor-settle-requires-2 t c =
    let done = c.update_one-answer in
    let seen = c.seen-tried in
    only_asks c.requires.ready seen.result done.result done.new.work done.new.errors c.requires.number_value.0 c.if-state-eq0.false
    done.auto.work done.auto.errors seen.ensures done.ensures

pub update_xor-returns : goal.update_xor-returns
update_xor-returns t c =
    let done = c.update_one-answer in
    let seen = c.seen-tried in
    let settled = c.settle-2 in
    says_narrowed c.requires.ready settled.result seen.result done.result c.args.children.now done.new.work done.new.errors settled.new.work settled.new.errors
    c.requires.number_value.1 c.if-state-eq0.false seen.ensures done.ensures settled.ensures

-- `try_children`: what has been found so far, with the children that are left, gives what all give.
pub try_children-loop-found-init : goal.try_children-loop-found-init
try_children-loop-found-init t c = trying_start

pub try_children-copy_cells-requires : goal.try_children-copy_cells-requires
try_children-copy_cells-requires t c = apart_trial c.requires.0 c.requires.1 c.loop-found.invariant c.trial_frame-trial.ensures c.entries_of-used.ensures

pub try_children-update_one-answer-requires : goal.try_children-update_one-answer-requires
try_children-update_one-answer-requires t c =
    let inv = c.loop-found.invariant in
    let copied = c.copy_cells in (
      omega (arith, c.decreases),
      trial_ready c.requires.0 c.requires.1 inv c.trial_frame-trial.ensures c.entries_of-used.ensures (child_left inv.within c.if-i-children.false) copied.new.cells copied.ensures,
    )

pub try_children-loop-found-preserved : goal.try_children-loop-found-preserved
try_children-loop-found-preserved t c =
    let inv = c.loop-found.invariant in
    let copied = c.copy_cells in
    let done = c.update_one-answer in
    trying_next c.requires.0 c.requires.1 inv c.trial_frame-trial.ensures c.entries_of-used.ensures (child_left inv.within c.if-i-children.false)
    copied.new.cells copied.ensures done.result done.new.work done.new.errors done.auto.work done.auto.errors done.ensures
    c.seen-tried.result c.successes_of-found.result c.seen-tried.ensures c.successes_of-found.ensures

pub try_children-returns-then-successes-ne1 : goal.try_children-returns-then-successes-ne1
-- the trying ends with the count of successes, at the second or after the last child
try_children-returns-then-successes-ne1 t c =
    let out : (c.if-found-eq2.successes ≡ c.loop-found.found) × ((c.loop-found.found ≡ 2) ⊎ (c.loop-found.i ≡ length c.args.children.now)) =
    elim c.if-found-eq2.branch [
      | try_children-then-found-eq2 w ↦ (w.successes-is, inl w.if-found-eq2.true)
      | try_children-else-found-eq2+then-i-children w ↦ (w.successes-is, inr w.if-i-children.true)
    ] in
    tried_rest c.requires.0 c.requires.1 c.loop-found.invariant out.1 (λ z. c.if-successes-ne1.true (out.0 ∙ z))

pub try_children-copy_cells-requires-2 : goal.try_children-copy_cells-requires-2
try_children-copy_cells-requires-2 t c = apart_stand c.requires.0 c.requires.1 c.loop-found.invariant

pub try_children-returns : goal.try_children-returns
try_children-returns t c =
    let out : (c.if-found-eq2.successes ≡ c.loop-found.found) × ((c.loop-found.found ≡ 2) ⊎ (c.loop-found.i ≡ length c.args.children.now)) =
    elim c.if-found-eq2.branch [
      | try_children-then-found-eq2 w ↦ (w.successes-is, inl w.if-found-eq2.true)
      | try_children-else-found-eq2+then-i-children w ↦ (w.successes-is, inr w.if-i-children.true)
    ] in
    tried_one c.requires.0 c.requires.1 c.loop-found.invariant out.1 c.copy_cells-2.new.cells (sym out.0 ∙ c.if-successes-ne1.false) c.copy_cells-2.ensures
