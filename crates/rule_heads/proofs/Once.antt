-- No second outcome: any two results that meet a public function's contract for the same arguments are equal, with all that
-- is bound at exit.
use mathlib.Core.Path.{◌≡◌, refl}
use Rattle.definition.proofs.Laws.Once.{Once, one}
use Rattle.definition.proofs.Laws.Numbers.{one_refusal}
use Rattle.rule_heads.proofs as f

pub find_once : Once 2 f.alternatives.find.Kinds.ps f.alternatives.find.Kinds.r f.alternatives.find.Reads.Post
find_once κs a o o' p q i = (one p.1 q.1 i, (_, (_, (_, (_, (one p.0 q.0 i, _))))))

pub is_constructor_once : Once 1 f.alternatives.is_constructor.Kinds.ps f.alternatives.is_constructor.Kinds.r f.alternatives.is_constructor.Reads.Post
is_constructor_once κs a o o' p q i = (one p q i, _)

pub head_refusal_once : Once 2 f.alternatives.head_refusal.Kinds.ps f.alternatives.head_refusal.Kinds.r f.alternatives.head_refusal.Reads.Post
head_refusal_once κs a o o' p q i = (one_refusal p q i, _)

pub write_nothing_once : Once 4 f.choice.write_nothing.Kinds.ps f.choice.write_nothing.Kinds.r f.choice.write_nothing.Reads.Post
write_nothing_once κs a o o' p q i = (record { records = one p.at_record q.at_record i; side = one p.at_side q.at_side i; tops = one p.at_top q.at_top i }, (_, (_, (_, (one p.records q.records i, (one p.tops q.tops i, _))))))

pub write_equality_once : Once 4 f.choice.write_equality.Kinds.ps f.choice.write_equality.Kinds.r f.choice.write_equality.Reads.Post
write_equality_once κs a o o' p q i = (record { records = one p.at_record q.at_record i; side = one p.at_side q.at_side i; tops = one p.at_top q.at_top i }, (_, (_, (_, (_, (_, (one p.records q.records i, (one p.tops q.tops i, _))))))))

pub write_application_once : Once 6 f.choice.write_application.Kinds.ps f.choice.write_application.Kinds.r f.choice.write_application.Reads.Post
write_application_once κs a o o' p q i = (record { records = one p.at_record q.at_record i; side = one p.at_side q.at_side i; tops = one p.at_top q.at_top i }, (_, (_, (_, (_, (one p.records q.records i, (one p.side q.side i, (one p.tops q.tops i, _))))))))

-- what is proved of the code is what callers learn
pub find_told : f.alternatives.find.Reads.Learnt ≡ f.alternatives.find.Reads.Post
find_told = refl

pub is_constructor_told : f.alternatives.is_constructor.Reads.Learnt ≡ f.alternatives.is_constructor.Reads.Post
is_constructor_told = refl

pub head_refusal_told : f.alternatives.head_refusal.Reads.Learnt ≡ f.alternatives.head_refusal.Reads.Post
head_refusal_told = refl

pub write_nothing_told : f.choice.write_nothing.Reads.Learnt ≡ f.choice.write_nothing.Reads.Post
write_nothing_told = refl

pub write_equality_told : f.choice.write_equality.Reads.Learnt ≡ f.choice.write_equality.Reads.Post
write_equality_told = refl

pub write_application_told : f.choice.write_application.Reads.Learnt ≡ f.choice.write_application.Reads.Post
write_application_told = refl
