-- No second outcome: for the same arguments, any two outcomes that meet a function's contract are equal, the line's last contents
-- included; and nothing is asked of a caller.
use contract.Lifetimes.{Lfts}
use borrow.Fn.Kinds.{Dens}
use Rattle.definition.proofs.Laws.Once.{Once, one}
use Rattle.out_rows.proofs as f

pub row_count_once : Once 0 f.row_count.Kinds.ps f.row_count.Kinds.r f.row_count.Reads.Post
row_count_once κs a o o' p q i = (one p q i, _)

pub row_count_asks_nothing : (κs : Lfts 0) (a : Dens κs f.row_count.Kinds.ps) → f.row_count.Reads.Asked κs a
row_count_asks_nothing κs a = tt

pub put_row_once : Once 2 f.Shown.put_row.Kinds.ps f.Shown.put_row.Kinds.r f.Shown.put_row.Reads.Post
put_row_once κs a o o' p q i = (one p.0.ends q.0.ends i, (_, (_, (one p.0.holds q.0.holds i, _))))

pub put_row_asks_nothing : (κs : Lfts 2) (a : Dens κs f.Shown.put_row.Kinds.ps) → f.Shown.put_row.Reads.Asked κs a
put_row_asks_nothing κs a = tt
