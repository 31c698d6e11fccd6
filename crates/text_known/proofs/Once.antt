-- No second outcome: for the same arguments, any two outcomes that meet a function's contract are equal. An outcome is the
-- result together with what every lent `&mut` list holds at exit.
use Rattle.definition.proofs.Laws.Once.{Once, one}
use Rattle.text_known.proofs as f

pub all_known_once : Once 2 f.all_known.Kinds.ps f.all_known.Kinds.r f.all_known.Reads.Post
all_known_once κs a o o' p q i = (one p q i, _)
