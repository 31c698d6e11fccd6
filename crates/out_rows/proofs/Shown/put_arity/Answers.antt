-- `put_arity` meets its contract.
use Rattle.text_grammar.specs.Bytes.{bytes}
use Rattle.out_rows.specs.Row.{wrote_both, wrote_name, wrote_next}
use Rattle.out_rows.proofs.Shown.put_arity.Goals as goal

pub returns : goal.returns
returns c = wrote_both (wrote_next (bytes " ") _ (wrote_name _ _ c.head.ensures.value c.begin.ensures.wrote c.put_next.ensures) c.begin-2.ensures.wrote) c.put.ensures
