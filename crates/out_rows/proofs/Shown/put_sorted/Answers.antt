-- `put_sorted` meets its contract.
use Rattle.out_rows.specs.Row.{wrote_both, wrote_name, wrote_term}
use Rattle.out_rows.proofs.Shown.put_sorted.Goals as goal

pub returns : goal.returns
returns c = wrote_both (wrote_name _ _ c.sort.ensures.value (wrote_term _ _ _ c.term.ensures.value c.put_term.ensures.wrote) c.put_next.ensures) c.put.ensures
