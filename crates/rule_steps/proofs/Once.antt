-- No second outcome: any two results that meet a public function's contract for the same arguments are equal, with all that
-- is bound at exit.
use mathlib.Core.Path.{◌≡◌, refl}
use Rattle.definition.proofs.Laws.Once.{Once, one}
use Rattle.rule_steps.proofs.Reached.{one_reached}
use Rattle.rule_steps.proofs as f

pub step_once : Once 7 f.adding.step.Kinds.ps f.adding.step.Kinds.r f.adding.step.Reads.Post
step_once κs a o o' p q i = (
  one_reached _ o.0 o'.0 p.number q.number p.counts' q.counts' i,
  (_, (_, (_, (_, (_, (_, (one p.lists.records' q.lists.records' i, (one p.lists.side' q.lists.side' i, (one p.lists.tops' q.lists.tops' i, (one p.lists.range' q.lists.range' i, (one p.lists.marks' q.lists.marks' i, _))))))))))),
)

pub head_of_once : Once 1 f.ask.head_of.Kinds.ps f.ask.head_of.Kinds.r f.ask.head_of.Reads.Post
head_of_once κs a o o' p q i = (one p q i, _)

pub place_of_once : Once 1 f.ask.place_of.Kinds.ps f.ask.place_of.Kinds.r f.ask.place_of.Reads.Post
place_of_once κs a o o' p q i = (one p q i, _)

pub room_for_once : Once 0 f.room.room_for.Kinds.ps f.room.room_for.Kinds.r f.room.room_for.Reads.Post
room_for_once κs a o o' p q i = (one p q i, _)

-- what is proved of the code is what callers learn
pub step_told : f.adding.step.Reads.Learnt ≡ f.adding.step.Reads.Post
step_told = refl

pub head_of_told : f.ask.head_of.Reads.Learnt ≡ f.ask.head_of.Reads.Post
head_of_told = refl

pub place_of_told : f.ask.place_of.Reads.Learnt ≡ f.ask.place_of.Reads.Post
place_of_told = refl

pub room_for_told : f.room.room_for.Reads.Learnt ≡ f.room.room_for.Reads.Post
room_for_told = refl
