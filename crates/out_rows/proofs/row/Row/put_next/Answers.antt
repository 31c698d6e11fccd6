-- `put_next` meets its contract.
use Rattle.out_rows.specs.Row.{wrote_both}
use Rattle.out_rows.proofs.row.Row.put_next.Goals as goal

pub returns : goal.returns
returns c = wrote_both c.put.ensures c.put-2.ensures
