-- `read_text` meets its contract: the text is too long, or its lines are read and what they leave is solved.
use native.Mathlib.Omega.{arith}
use mathlib.Core.Path.{◌∙◌}
use Rattle.text_lines.specs.Laws.Ending.{long_ends, text_read, zeroes, cleared}
use Rattle.text_lines.proofs.read_text.Goals as goal

pub returns-then-text-gt-MAX_BYTES-clause-errors_after : goal.returns-then-text-gt-MAX_BYTES-clause-errors_after
returns-then-text-gt-MAX_BYTES-clause-errors_after c = long_ends _ _ _ _ c.if-text-gt-MAX_BYTES.true (rw c.number.ensures at c.refused_by.ensures)

pub returns-clause-errors_after : goal.returns-clause-errors_after
returns-clause-errors_after c =
    let l = c.read_lines-lines in
    (text_read c.args.text.now _ l.new.printed l.new.lists c.finish.result c.finish.new.printed c.finish.new.lists l.result
    (cleared c.args.text.now _ (c.fill.ensures.after (λ y e. e) ∙ zeroes {k = 2560} (omega arith)) (c.fill-2.ensures.after (λ y e. e) ∙ zeroes {k = 2048} (omega arith)) (c.fill-3.ensures.after (λ y e. e) ∙ zeroes {k = 256} (omega arith)) (c.fill-4.ensures.after (λ y e. e) ∙ zeroes {k = 512} (omega arith)) (c.fill-5.ensures.after (λ y e. e) ∙ zeroes {k = 4096} (omega arith)) (c.fill-6.ensures.after (λ y e. e) ∙ zeroes {k = 2048} (omega arith)) (c.fill-7.ensures.after (λ y e. e) ∙ zeroes {k = 512} (omega arith)) (c.fill-8.ensures.after (λ y e. e) ∙ zeroes {k = 512} (omega arith)))
    c.if-text-gt-MAX_BYTES.false l.ensures c.finish.ensures).0
