-- `put_conflict` meets its contract.
use Rattle.std.proofs.Common.{sym, arith}
use Rattle.out_rows.specs.Laws.{conflict_first, conflict_later}
use Rattle.out_rows.specs.Row.{wrote_as}
use Rattle.out_rows.proofs.Shown.put_conflict.Goals as goal

pub returns-in-None : goal.returns-in-None
returns-in-None c = wrote_as (sym (conflict_first _ _ _ (omega arith))) c.put_one.ensures

pub returns-in-Some : goal.returns-in-Some
returns-in-Some c = wrote_as (sym (conflict_later _ _ c.in-Some.i c.args.k (omega arith))) c.put_entry.ensures
