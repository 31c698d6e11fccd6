-- `name_line` meets its contract: the words named first, then the others.
use Rattle.text_terms.specs.Laws.Line.{line_named, line_full}
use Rattle.text_terms.proofs.terms.name_line.Goals as goal

pub returns-then-k-gt-MAX_TERMS : goal.returns-then-k-gt-MAX_TERMS
returns-then-k-gt-MAX_TERMS c = line_full c.requires.shaped c.name_range-k.ensures c.if-k-gt-MAX_TERMS.true

pub returns : goal.returns
returns c = line_named c.requires.shaped c.name_range-k.ensures c.if-k-gt-MAX_TERMS.false c.name_range-k.auto.numbers c.name_range.ensures
