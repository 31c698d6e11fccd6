-- `digits_of` meets its contract: the digits of what is left, and those that are there, are all the digits.
use Rattle.std.proofs.Common.{◌≡◌, drop, ap, sym, ◌∙◌, arith}
use Rattle.text_words.specs.Laws.Put.{digit_last, digit_next, digits_done}
use Rattle.text_words.proofs.put.digits_of.Goals as goal

pub returns-then-left-eq0-clause-digits_after : goal.returns-then-left-eq0-clause-digits_after
returns-then-left-eq0-clause-digits_after c =
    digit_last c.loop-i.digits c.loop-i.left c.loop-i.i c.loop-i-test.true (omega arith) c.if-left-eq0.true ∙ c.loop-i.invariant

pub loop-i-preserved : goal.loop-i-preserved
loop-i-preserved c = digit_next c.loop-i.digits c.loop-i.left c.loop-i.i c.loop-i-test.true (omega arith) c.if-left-eq0.false ∙ c.loop-i.invariant

pub returns-clause-digits_after : goal.returns-clause-digits_after
returns-clause-digits_after c =
    let w = c.loop-i in
    let none : w.i ≡ 0 = omega arith in
    ap (λ i. drop i w.digits) (sym none) ∙ digits_done w.digits w.left w.i c.loop-i-test.false ∙ w.invariant
