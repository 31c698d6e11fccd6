-- `name_word` meets its contract: the word is there, or one too many, or new.
use mathlib.Core.Path.{◌≡◌}
use Rattle.text_words.specs.Parts.{part_at, parts_of, find}
use Rattle.text_terms.specs.Laws.Naming.{word_known, word_over, word_new}
use Rattle.text_terms.proofs.terms.name_word.Goals.{After-find-number}
use Rattle.text_terms.proofs.terms.name_word.Goals as goal

looked : (f : After-find-number) → let a = f.args in f.find-number.result ≡ find (part_at a.line.text.now a.line.table.now a.i) (parts_of a.line.text.now a.term_names.now a.k)
looked f = rw f.between.ensures at f.find-number.ensures

pub returns-then-number-k : goal.returns-then-number-k
returns-then-number-k c = word_known c.args.term_names.now c.args.k c.find-number.result (looked (goal.at.returns-then-number-k c).After-find-number) c.put.ensures c.requires.room.1.1.0 c.if-number-k.true

pub returns-then-k-ge-MAX_TERMS : goal.returns-then-k-ge-MAX_TERMS
returns-then-k-ge-MAX_TERMS c = word_over c.args.term_names.now c.args.k c.find-number.result (looked (goal.at.returns-then-k-ge-MAX_TERMS c).After-find-number) c.put.ensures c.requires.room.1.1.0 c.if-k-ge-MAX_TERMS.true c.if-number-k.false

pub returns : goal.returns
returns c = word_new c.args.term_names.now c.args.k c.find-number.result (looked (goal.at.returns c).After-find-number) c.put.ensures _ c.if-k-ge-MAX_TERMS.false c.if-number-k.false c.requires.room.1.1.1 c.add_term.ensures.term_names_after c.add_term.ensures.terms_after
