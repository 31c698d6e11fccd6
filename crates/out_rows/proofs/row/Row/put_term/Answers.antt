-- `put_term` meets its contract: a fresh term has no name.
use Rattle.std.proofs.Common.{arith}
use Rattle.std.proofs.lemmas.Bool.Decides.{nat_tests}
use Rattle.out_rows.specs.Laws.{fresh_term, named_term}
use Rattle.out_rows.specs.Row.{wrote_as}
use Rattle.out_rows.proofs.row.Row.put_term.Goals as goal

pub returns-then-is_empty-clause-wrote : goal.returns-then-is_empty-clause-wrote
returns-then-is_empty-clause-wrote c = wrote_as (fresh_term c.args.t c.args.name.now (grind (arith, nat_tests))) c.begin.ensures.wrote

pub returns-else-is_empty-clause-wrote : goal.returns-else-is_empty-clause-wrote
returns-else-is_empty-clause-wrote c = wrote_as (named_term c.args.t c.args.name.now (grind (arith, nat_tests))) c.put.ensures
