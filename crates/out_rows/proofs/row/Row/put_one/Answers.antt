-- `put_one` meets its contract.
use Rattle.out_rows.specs.Row.{wrote_both}
use Rattle.out_rows.proofs.row.Row.put_one.Goals as goal

pub returns : goal.returns
returns c = wrote_both c.begin.ensures.wrote c.put.ensures
