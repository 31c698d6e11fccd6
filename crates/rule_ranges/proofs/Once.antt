-- No second outcome: any two results that meet a public function's contract for the same arguments are equal, with all that
-- is bound at exit.
use mathlib.Core.Path.{◌≡◌, refl}
use Rattle.definition.proofs.Laws.Once.{Once, one}
use Rattle.rule_ranges.proofs as f

pub mark_range_once : Once 2 f.mark_range.Kinds.ps f.mark_range.Kinds.r f.mark_range.Reads.Post
mark_range_once κs a o o' p q i = (_, (_, (_, (one p q i, _))))

pub enter_once : Once 3 f.enter.Kinds.ps f.enter.Kinds.r f.enter.Reads.Post
enter_once κs a o o' p q i =
    (one p.0 q.0 i, (_, (_, (_, (one p.1.0 q.1.0 i, (one p.1.1 q.1.1 i, _))))))

-- what is proved of the code is what callers learn
pub mark_range_told : f.mark_range.Reads.Learnt ≡ f.mark_range.Reads.Post
mark_range_told = refl

pub enter_told : f.enter.Reads.Learnt ≡ f.enter.Reads.Post
enter_told = refl
