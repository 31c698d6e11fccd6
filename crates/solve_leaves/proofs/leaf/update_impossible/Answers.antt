-- `update_impossible` meets its contract.
use Rattle.solve_leaves.specs.Laws.Answers.{impossible_says}
use Rattle.solve_leaves.proofs.leaf.update_impossible.Goals as goal

pub returns : goal.returns
returns c = impossible_says _ _ _ _ c.args.errors.now _ c.requires c.put_entry.ensures
