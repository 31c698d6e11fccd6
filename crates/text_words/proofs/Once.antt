-- No second outcome: for the same arguments, any two outcomes that meet a function's contract are equal. An outcome is the
-- result together with what every lent `&mut` list holds at exit. `between` and `at` hand out a part of the text: their
-- contract gives its bytes, not where it lies.
use Rattle.definition.proofs.Laws.Once.{Once, one}
use Rattle.text_words.proofs as f

pub same_once : Once 2 f.names.same.Kinds.ps f.names.same.Kinds.r f.names.same.Reads.Post
same_once κs a o o' p q i = (one p q i, _)

pub find_byte_once : Once 1 f.names.find_byte.Kinds.ps f.names.find_byte.Kinds.r f.names.find_byte.Reads.Post
find_byte_once κs a o o' p q i = (one p q i, _)

pub is_absent_once : Once 1 f.names.is_absent.Kinds.ps f.names.is_absent.Kinds.r f.names.is_absent.Reads.Post
is_absent_once κs a o o' p q i = (one p q i, _)

pub is_name_once : Once 1 f.names.is_name.Kinds.ps f.names.is_name.Kinds.r f.names.is_name.Reads.Post
is_name_once κs a o o' p q i = (one p q i, _)

pub is_variable_once : Once 1 f.names.is_variable.Kinds.ps f.names.is_variable.Kinds.r f.names.is_variable.Reads.Post
is_variable_once κs a o o' p q i = (one p q i, _)

pub is_term_once : Once 1 f.names.is_term.Kinds.ps f.names.is_term.Kinds.r f.names.is_term.Reads.Post
is_term_once κs a o o' p q i = (one p q i, _)

pub number_below_once : Once 1 f.names.number_below.Kinds.ps f.names.number_below.Kinds.r f.names.number_below.Reads.Post
number_below_once κs a o o' p q i = (one p q i, _)

pub find_once : Once 2 f.parts.Parts.find.Kinds.ps f.parts.Parts.find.Kinds.r f.parts.Parts.find.Reads.Post
find_once κs a o o' p q i = (one p q i, _)

pub put_part_once : Once 1 f.parts.put_part.Kinds.ps f.parts.put_part.Kinds.r f.parts.put_part.Reads.Post
put_part_once κs a o o' p q i = (_, (one p q i, _))

pub split_words_once : Once 2 f.parts.split_words.Kinds.ps f.parts.split_words.Kinds.r f.parts.split_words.Reads.Post
split_words_once κs a o o' p q i = (one p.0 q.0 i, (_, (_, (one p.1 q.1 i, _))))

pub put_once : Once 2 f.put.put.Kinds.ps f.put.put.Kinds.r f.put.put.Reads.Post
put_once κs a o o' p q i = (one p.ends q.ends i, (one p.holds q.holds i, _))

pub put_number_once : Once 1 f.put.put_number.Kinds.ps f.put.put_number.Kinds.r f.put.put_number.Reads.Post
put_number_once κs a o o' p q i = (one p.ends q.ends i, (one p.holds q.holds i, _))
