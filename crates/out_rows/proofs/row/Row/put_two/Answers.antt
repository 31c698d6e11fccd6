-- `put_two` meets its contract.
use Rattle.out_rows.specs.Row.{wrote_both, wrote_next}
use Rattle.out_rows.proofs.row.Row.put_two.Goals as goal

pub returns : goal.returns
returns c = wrote_both (wrote_next _ _ c.begin.ensures.wrote c.begin-2.ensures.wrote) c.put.ensures
