-- `put_refused` meets its contract.
use Rattle.std.proofs.Common.{sym}
use Rattle.out_rows.specs.Laws.{only_first_lem, only_behind}
use Rattle.out_rows.specs.Row.{wrote_as, wrote_none}
use Rattle.out_rows.proofs.row.Row.put_refused.Goals as goal

pub returns-then-k-eq0 : goal.returns-then-k-eq0
returns-then-k-eq0 c = wrote_as (sym (only_first_lem _ _ c.if-k-eq0.true)) c.put_two.ensures

pub returns-else-k-eq0 : goal.returns-else-k-eq0
returns-else-k-eq0 c = wrote_none (only_behind _ _ c.if-k-eq0.false)
