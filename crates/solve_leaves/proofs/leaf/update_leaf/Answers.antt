-- `update_leaf` meets its contract: the kind's update answers.
use Rattle.solve_leaves.specs.Laws.Leaves.{asks_room, leaf_last}
use native.Mathlib.Omega.{arith}
use Rattle.solve_leaves.proofs.leaf.update_leaf.Goals as goal

pub update_eq-requires : goal.update_eq-requires
update_eq-requires c = rw c.in-0.is at c.requires

pub update_assign-requires : goal.update_assign-requires
update_assign-requires c = rw c.in-1.is at c.requires

pub update_impossible-requires : goal.update_impossible-requires
update_impossible-requires c = asks_room c.args.kind c.args.first c.args.second c.args.work.now c.args.errors.now c.requires

pub returns-in-0 : goal.returns-in-0
returns-in-0 c = rw c.in-0.is c.update_eq.ensures

pub returns-in-1 : goal.returns-in-1
returns-in-1 c = rw c.in-1.is c.update_assign.ensures

pub returns-in_default : goal.returns-in_default
returns-in_default c =
    let a = c.args in
    rw (← leaf_last a.kind a.first a.second (omega arith) (omega arith)) (c.update_impossible.ensures _)
