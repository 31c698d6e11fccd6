-- `put_open` meets its contract.
use Rattle.std.proofs.Common.{sym, arith}
use Rattle.out_rows.specs.Laws.{open_first, open_second, open_behind}
use Rattle.out_rows.specs.Row.{wrote_as, wrote_none}
use Rattle.out_rows.proofs.Shown.put_open.Goals as goal

pub returns-in-0 : goal.returns-in-0
returns-in-0 c = wrote_as (sym (open_first _ _ _ c.in-0.is)) c.put_one.ensures

pub returns-in-1 : goal.returns-in-1
returns-in-1 c = wrote_as (sym (open_second _ _ _ c.in-1.is)) c.put_unsorted.ensures

pub returns-in_default : goal.returns-in_default
returns-in_default c = wrote_none (open_behind _ _ _ (λ k. omega arith) (λ k. omega arith))
