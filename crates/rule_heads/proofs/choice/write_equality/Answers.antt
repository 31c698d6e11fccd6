-- `write_equality` meets its contract.
use Rattle.rule_cells.specs.Put.{cells}
use Rattle.rule_heads.specs.Turns.{written_plain, laid_more, laid_one}
use Rattle.rule_heads.proofs.choice.write_equality.Goals as goal

pub returns : goal.returns
unfolding cells
returns c = written_plain _ _ _ _ _ _ _ _ _ _ (laid_more _ _ _ _ _ _ _ _ _ c.laid_fixed-count.ensures.laid (laid_one _ _ _ _ _ _ (rw c.number.ensures at c.put_record.ensures))) c.end_plain.ensures
