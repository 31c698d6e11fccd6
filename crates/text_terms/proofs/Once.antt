-- No second outcome: for the same arguments, any two outcomes that meet a function's contract are equal. Naming leaves the
-- cells of `numbers` open that are no term's, and all lists where the terms are too many: of it, that the count is the only one.
use mathlib.Core.Path.{◌≡◌}
use contract.Lifetimes.{Lfts}
use denote.Triple.Clauses.{at_exit}
use borrow.Fn.Kinds.{Dens, ended_of}
use Rattle.definition.proofs.Laws.Once.{Left, Once, one}
use Rattle.text_terms.proofs as f
use Rattle.text_terms.proofs.terms.name_line.Kinds.{ps, r}
use Rattle.text_terms.proofs.terms.name_line.Reads.{Post}

pub is_silent_once : Once 0 f.shape.Way.is_silent.Kinds.ps f.shape.Way.is_silent.Kinds.r f.shape.Way.is_silent.Reads.Post
is_silent_once κs a o o' p q i = (one p q i, _)

pub is_local_once : Once 0 f.shape.Way.is_local.Kinds.ps f.shape.Way.is_local.Kinds.r f.shape.Way.is_local.Reads.Post
is_local_once κs a o o' p q i = (one p q i, _)

pub sort_word_once : Once 0 f.shape.Way.sort_word.Kinds.ps f.shape.Way.sort_word.Kinds.r f.shape.Way.sort_word.Reads.Post
sort_word_once κs a o o' p q i = (one p q i, _)

pub shape_of_once : Once 0 f.shape.shape_of.Kinds.ps f.shape.shape_of.Kinds.r f.shape.shape_of.Reads.Post
shape_of_once κs a o o' p q i = (one p q i, _)

pub call_of_once : Once 3 f.call.call_of.Kinds.ps f.call.call_of.Kinds.r f.call.call_of.Reads.Post
call_of_once κs a o o' p q i = (one p q i, _)

pub number_of_once : Once 2 f.call.number_of.Kinds.ps f.call.number_of.Kinds.r f.call.number_of.Reads.Post
number_of_once κs a o o' p q i = (one p q i, _)

pub call_cells_once : Once 0 f.call.call_cells.Kinds.ps f.call.call_cells.Kinds.r f.call.call_cells.Reads.Post
call_cells_once κs a o o' p q i = (one p q i, _)

pub lent_by_once : Once 0 f.call.lent_by.Kinds.ps f.call.lent_by.Kinds.r f.call.lent_by.Reads.Post
lent_by_once κs a o o' p q i = (one p q i, _)

pub counts_by_once : Once 0 f.call.counts_by.Kinds.ps f.call.counts_by.Kinds.r f.call.counts_by.Reads.Post
counts_by_once κs a o o' p q i = (one p q i, _)

pub numbers_by_once : Once 0 f.call.numbers_by.Kinds.ps f.call.numbers_by.Kinds.r f.call.numbers_by.Reads.Post
numbers_by_once κs a o o' p q i = (one p q i, _)

pub name_line_counts_once : (κs : Lfts 5) (a : Dens κs ps) (o o' : Left 5 ps r κs a) → Post κs a o.0 (at_exit (ended_of 5 ps r) κs a o.1)
    → Post κs a o'.0 (at_exit (ended_of 5 ps r) κs a o'.1) → o.0 ≡ o'.0
name_line_counts_once κs a o o' p q = one p.named'.counted q.named'.counted
