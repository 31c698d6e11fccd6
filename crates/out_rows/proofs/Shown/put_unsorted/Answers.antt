-- `put_unsorted` meets its contract.
use Rattle.out_rows.specs.Row.{wrote_both, wrote_term}
use Rattle.out_rows.proofs.Shown.put_unsorted.Goals as goal

pub returns : goal.returns
returns c = wrote_both (wrote_both (wrote_both c.begin.ensures.wrote c.put.ensures) (wrote_term _ _ _ c.term.ensures.value c.put_term.ensures.wrote)) c.put-2.ensures
