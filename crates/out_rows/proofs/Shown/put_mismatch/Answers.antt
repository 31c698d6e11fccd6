-- `put_mismatch` meets its contract.
use Rattle.out_rows.specs.Row.{wrote_both, wrote_name, wrote_term}
use Rattle.out_rows.proofs.Shown.put_mismatch.Goals as goal

pub returns : goal.returns
returns c =
    wrote_both
    (wrote_name _ _ c.sort-2.ensures.value
    (wrote_name _ _ c.sort.ensures.value (wrote_both (wrote_both c.begin.ensures.wrote c.put.ensures) (wrote_term _ _ _ c.term.ensures.value c.put_term.ensures.wrote)) c.put_next.ensures)
    c.put_next-2.ensures)
    c.put-2.ensures
