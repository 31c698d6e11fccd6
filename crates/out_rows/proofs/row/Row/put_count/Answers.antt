-- `put_count` meets its contract: a cell's number has twenty digits at most.
use Rattle.std.proofs.Common.{arith}
use Rattle.text_words.specs.Laws.Put.{decimal_most}
use Rattle.out_rows.proofs.row.Row.put_count.Goals as goal

pub put_number-self-requires : goal.put_number-self-requires
put_number-self-requires c = omega (arith, decimal_most 20 c.args.n)

pub returns-clause-most : goal.returns-clause-most
returns-clause-most c = omega (arith, decimal_most 20 c.args.n)
