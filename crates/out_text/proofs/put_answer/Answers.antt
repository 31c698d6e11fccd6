-- `put_answer` meets its contract: the rows are put where they fit, and nothing is where they don't.
use Rattle.std.proofs.Common.{arith}
use Rattle.out_text.specs.Shows.{front_whole}
use Rattle.out_text.proofs.put_answer.Goals as goal

pub returns : goal.returns
returns c =
    let put = c.put_rows.ensures in
    record { value = omega (arith, put.ends); out_after = front_whole put (omega (arith, c.count_bytes-bytes.ensures)) }
