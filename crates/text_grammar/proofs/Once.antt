-- No second outcome: for the same arguments, any two outcomes that meet a function's contract are equal. An outcome is the
-- result together with what every lent `&mut` list holds at exit.
use Rattle.definition.proofs.Laws.Once.{Once, one}
use Rattle.text_grammar.proofs as f

pub form_of_once : Once 1 f.forms.form_of.Kinds.ps f.forms.form_of.Kinds.r f.forms.form_of.Reads.Post
form_of_once κs a o o' p q i = (one p q i, _)
