-- No second outcome fits what is exported, and nothing is asked of a caller. An outcome is the result together with the last
-- list of each `&mut` slice; it meets the contract if the contract's own reading holds of it.
use contract.Lifetimes.{Lfts}
use borrow.Fn.Kinds.{Dens}
use Rattle.definition.proofs.Laws.Once.{Once, one}
use Rattle.sortlib.proofs as f

pub solve_once : Once 7 f.sortlib_solve.Kinds.ps f.sortlib_solve.Kinds.r f.sortlib_solve.Reads.Post
solve_once κs a o o' p q i =
    (one p.outcome q.outcome i, (_, (_, (_, (_, (_, (one p.work_at_exit q.work_at_exit i, (one p.sort_list_at_exit q.sort_list_at_exit i, (one p.errors_at_exit q.errors_at_exit i, _)))))))))

pub solve_asks_nothing : (κs : Lfts 7) (a : Dens κs f.sortlib_solve.Kinds.ps) → f.sortlib_solve.Reads.Asked κs a
solve_asks_nothing κs a = tt

pub type_error_once : Once 1 f.sortlib_type_error.Kinds.ps f.sortlib_type_error.Kinds.r f.sortlib_type_error.Reads.Post
type_error_once κs a o o' p q i = (one p q i, (_, (_, (_, _))))

pub type_error_asks_nothing : (κs : Lfts 1) (a : Dens κs f.sortlib_type_error.Kinds.ps) → f.sortlib_type_error.Reads.Asked κs a
type_error_asks_nothing κs a = tt

pub outcome_type_error_once : Once 0 f.sortlib_outcome_type_error.Kinds.ps f.sortlib_outcome_type_error.Kinds.r f.sortlib_outcome_type_error.Reads.Post
outcome_type_error_once κs a o o' p q i = (one p q i, (_, _))

pub outcome_type_error_asks_nothing : (κs : Lfts 0) (a : Dens κs f.sortlib_outcome_type_error.Kinds.ps) → f.sortlib_outcome_type_error.Reads.Asked κs a
outcome_type_error_asks_nothing κs a = tt

pub add_query_once : Once 10 f.sortlib_add_query.Kinds.ps f.sortlib_add_query.Kinds.r f.sortlib_add_query.Reads.Post
add_query_once κs a o o' p q i =
    (one p.answer q.answer i, (_, (_, (_, (_, (_, (_, (_, (_, (one p.lists.records' q.lists.records' i, (one p.lists.side' q.lists.side' i, (one p.lists.tops' q.lists.tops' i, (one p.lists.range' q.lists.range' i, _)))))))))))))

pub add_query_asks_nothing : (κs : Lfts 10) (a : Dens κs f.sortlib_add_query.Kinds.ps) → f.sortlib_add_query.Reads.Asked κs a
add_query_asks_nothing κs a = tt

pub add_actions_once : Once 10 f.sortlib_add_actions.Kinds.ps f.sortlib_add_actions.Kinds.r f.sortlib_add_actions.Reads.Post
add_actions_once κs a o o' p q i =
    (one p.left.answer q.left.answer i, (_, (_, (_, (_, (_, (one p.terms' q.terms' i, (_, (_, (one p.left.lists.records' q.left.lists.records' i, (one p.left.lists.side' q.left.lists.side' i, (one p.left.lists.tops' q.left.lists.tops' i, (one p.left.lists.range' q.left.lists.range' i, _)))))))))))))

pub add_actions_asks_nothing : (κs : Lfts 10) (a : Dens κs f.sortlib_add_actions.Kinds.ps) → f.sortlib_add_actions.Reads.Asked κs a
add_actions_asks_nothing κs a = tt

pub assign_local_once : Once 5 f.sortlib_assign_local.Kinds.ps f.sortlib_assign_local.Kinds.r f.sortlib_assign_local.Reads.Post
assign_local_once κs a o o' p q i =
    (one p.answer q.answer i, (_, (_, (_, (_, (_, (_, (one p.records' q.records' i, (one p.tops' q.tops' i, (one p.range' q.range' i, _))))))))))

pub assign_local_asks_nothing : (κs : Lfts 5) (a : Dens κs f.sortlib_assign_local.Kinds.ps) → f.sortlib_assign_local.Reads.Asked κs a
assign_local_asks_nothing κs a = tt

pub grounded_check_once : Once 6 f.sortlib_grounded_check.Kinds.ps f.sortlib_grounded_check.Kinds.r f.sortlib_grounded_check.Reads.Post
grounded_check_once κs a o o' p q i =
    (one p.outcome q.outcome i, (_, (_, (_, (_, (_, (one p.work_at_exit q.work_at_exit i, (one p.sort_list_at_exit q.sort_list_at_exit i, (one p.errors_at_exit q.errors_at_exit i, _)))))))))

pub grounded_check_asks_nothing : (κs : Lfts 6) (a : Dens κs f.sortlib_grounded_check.Kinds.ps) → f.sortlib_grounded_check.Reads.Asked κs a
grounded_check_asks_nothing κs a = tt

pub text_once : Once 2 f.sortlib_text.Kinds.ps f.sortlib_text.Kinds.r f.sortlib_text.Reads.Post
text_once κs a o o' p q i = (one p.0 q.0 i, (_, (one p.1 q.1 i, _)))

pub text_asks_nothing : (κs : Lfts 2) (a : Dens κs f.sortlib_text.Kinds.ps) → f.sortlib_text.Reads.Asked κs a
text_asks_nothing κs a = tt
