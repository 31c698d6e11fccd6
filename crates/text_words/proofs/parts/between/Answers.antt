-- `between` meets its contract: where the part lies, against the text's end.
use Rattle.text_words.specs.Laws.Parts.{between_behind, between_over, between_none}
use Rattle.text_words.proofs.parts.between.Goals as goal

pub returns-then-s-start : goal.returns-then-s-start
returns-then-s-start c = between_behind _ _ _ c.if-s-start.true

pub returns-then-s-end : goal.returns-then-s-end
returns-then-s-end c = between_over _ _ _ c.if-s-end.true

pub returns-then-end-start : goal.returns-then-end-start
returns-then-end-start c = between_none _ _ _ c.if-end-start.true
