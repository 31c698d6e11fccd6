-- No second outcome: any two results that meet an entry point's contract for the same arguments are equal, with all that is
-- bound at exit.
use mathlib.Core.Path.{◌≡◌, refl}
use contract.Lifetimes.{Lfts}
use borrow.Fn.Kinds.{Dens}
use Rattle.definition.proofs.Laws.Once.{Once, one}
use Rattle.rule_calls.proofs as f

pub assign_local_var_type_once : Once 5 f.assign_local_var_type.Kinds.ps f.assign_local_var_type.Kinds.r f.assign_local_var_type.Reads.Post
assign_local_var_type_once κs a o o' p q i =
    (one p.answer q.answer i, (_, (_, (_, (_, (_, (_, (one p.records' q.records' i, (one p.tops' q.tops' i, (one p.range' q.range' i, _))))))))))

-- what is proved of the code is what callers learn
pub assign_local_var_type_told : f.assign_local_var_type.Reads.Learnt ≡ f.assign_local_var_type.Reads.Post
assign_local_var_type_told = refl

-- nothing is asked of a caller
pub assign_local_var_type_asks_nothing : (κs : Lfts 5) (a : Dens κs f.assign_local_var_type.Kinds.ps) → f.assign_local_var_type.Reads.Asked κs a
assign_local_var_type_asks_nothing κs a = tt

pub add_query_once : Once 6 f.add_query.Kinds.ps f.add_query.Kinds.r f.add_query.Reads.Post
add_query_once κs a o o' p q i =
    (one p.answer q.answer i, (_, (_, (_, (one p.lists.records' q.lists.records' i, (one p.lists.side' q.lists.side' i, (one p.lists.tops' q.lists.tops' i, (one p.lists.range' q.lists.range' i, _))))))))

pub add_query_told : f.add_query.Reads.Learnt ≡ f.add_query.Reads.Post
add_query_told = refl

pub add_query_asks_nothing : (κs : Lfts 6) (a : Dens κs f.add_query.Kinds.ps) → f.add_query.Reads.Asked κs a
add_query_asks_nothing κs a = tt

pub add_actions_once : Once 6 f.add_actions.Kinds.ps f.add_actions.Kinds.r f.add_actions.Reads.Post
add_actions_once κs a o o' p q i =
    (one p.left.answer q.left.answer i, (_, (_, (one p.terms' q.terms' i, (one p.left.lists.records' q.left.lists.records' i, (one p.left.lists.side' q.left.lists.side' i, (one p.left.lists.tops' q.left.lists.tops' i, (one p.left.lists.range' q.left.lists.range' i, _))))))))

pub add_actions_told : f.add_actions.Reads.Learnt ≡ f.add_actions.Reads.Post
add_actions_told = refl

pub add_actions_asks_nothing : (κs : Lfts 6) (a : Dens κs f.add_actions.Kinds.ps) → f.add_actions.Reads.Asked κs a
add_actions_asks_nothing κs a = tt
