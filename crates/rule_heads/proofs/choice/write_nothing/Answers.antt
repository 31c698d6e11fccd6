-- `write_nothing` meets its contract.
use Rattle.rule_heads.specs.Turns.{written_plain}
use Rattle.rule_heads.proofs.choice.write_nothing.Goals as goal

pub returns : goal.returns
returns c = written_plain _ _ _ _ _ _ _ _ _ _ c.laid_fixed-count.ensures.laid c.end_plain.ensures
