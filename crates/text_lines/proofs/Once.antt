-- No second answer: for the same text, any two answers that meet the contract of `read_text` are equal. Of the lists the
-- contract says what they spell, not their cells: names are parts of the text, and scratch cells hold anything.
use mathlib.Core.Path.{◌≡◌}
use contract.Lifetimes.{Lfts}
use denote.Triple.Clauses.{at_exit}
use borrow.Fn.Kinds.{Dens, ended_of}
use Rattle.definition.proofs.Laws.Once.{Left, one}
use Rattle.text_lines.specs.Lists.{store_in}
use Rattle.text_lines.specs.Laws.Ending.{one_answer}
use Rattle.text_lines.proofs.read_text.Kinds.{ps, r}
use Rattle.text_lines.proofs.read_text.Reads.{Post, Asked}

pub read_text_once : (κs : Lfts 3) (a : Dens κs ps) (o o' : Left 3 ps r κs a) → Post κs a o.0 (at_exit (ended_of 3 ps r) κs a o.1)
    → Post κs a o'.0 (at_exit (ended_of 3 ps r) κs a o'.1) → o.0 ≡ o'.0
read_text_once κs a o o' p q =
    one_answer a.0.now o.0 o'.0 (store_in o.1.1.0 o.1.1.1.0) (store_in o'.1.1.0 o'.1.1.1.0) o.1.1.1.0.work o.1.1.0.sort_list o.1.1.0.errors o'.1.1.1.0.work o'.1.1.0.sort_list o'.1.1.0.errors p.1.1 q.1.1 (one p.0 q.0)

-- nothing is asked of a caller
pub read_text_asks_nothing : (κs : Lfts 3) (a : Dens κs ps) → Asked κs a
read_text_asks_nothing κs a = tt
