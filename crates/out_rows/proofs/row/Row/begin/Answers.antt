-- `begin` meets its contract.
use Rattle.out_rows.specs.Row.{wrote_both}
use Rattle.out_rows.proofs.row.Row.begin.Goals as goal

pub returns-clause-wrote : goal.returns-clause-wrote
returns-clause-wrote c = wrote_both c.put.ensures c.put_count.ensures.wrote
