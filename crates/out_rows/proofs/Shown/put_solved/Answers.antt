-- `put_solved` meets its contract, by the outcome's number.
use Rattle.std.proofs.Common.{arith, refl, sym, ◌∙◌}
use Rattle.out_rows.specs.Laws.{row_answered, row_unsorted, row_conflict, row_refusing}
use Rattle.out_rows.specs.Row.{wrote_as}
use Rattle.out_rows.proofs.Shown.put_solved.Goals as goal

pub returns-in-0 : goal.returns-in-0
returns-in-0 c = wrote_as (row_answered _ _ _ _ c.in-0.is) c.put_ok.ensures

pub returns-in-31 : goal.returns-in-31
returns-in-31 c = wrote_as (row_unsorted _ _ _ _ c.in-31.is) c.put_open.ensures

pub returns-in_default : goal.returns-in_default
returns-in_default c = wrote_as (row_conflict _ _ _ c.args.self.ended.outcome.number (λ n. omega arith) (λ n. omega arith) (sym c.is_conflict.ensures ∙ c.if-is_conflict.true)) c.put_conflict.ensures

pub returns-in_default-2 : goal.returns-in_default-2
returns-in_default-2 c =
    wrote_as (row_refusing _ _ _ _ refl (λ n. omega arith) (λ n. omega arith) (sym c.is_conflict.ensures ∙ c.if-is_conflict.false)) c.put_refused.ensures
