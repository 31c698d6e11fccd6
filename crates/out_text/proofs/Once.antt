-- No second outcome: for the same arguments, any two outcomes that meet the contract are equal, the last contents of `out`
-- included; and nothing is asked of a caller.
use contract.Lifetimes.{Lfts}
use borrow.Fn.Kinds.{Dens}
use Rattle.definition.proofs.Laws.Once.{Once, one}
use Rattle.out_text.proofs as f

pub put_text_once : Once 2 f.put_text.Kinds.ps f.put_text.Kinds.r f.put_text.Reads.Post
put_text_once κs a o o' p q i = (one p.0 q.0 i, (_, (one p.1 q.1 i, _)))

pub put_text_asks_nothing : (κs : Lfts 2) (a : Dens κs f.put_text.Kinds.ps) → f.put_text.Reads.Asked κs a
put_text_asks_nothing κs a = tt
