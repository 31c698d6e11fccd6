-- `number_below` meets its contract: the digits left, behind those that are worth `value`, are worth what all are.
use Rattle.std.proofs.Common.{◌≡◌, true, get_or, min, ap, sym, ◌∙◌, rules, tests, arith}
use Rattle.definition.proofs.Laws.Left.{drop_step, drop_end, all_step, all_stop, all_end}
use Rattle.definition.specs.Lists.{all}
use Rattle.text_words.specs.Bytes.{is_digit}
use Rattle.text_words.specs.Names.{digits_from}
use Rattle.text_words.specs.Laws.Walk.{digits_next, digits_end}
use Rattle.text_words.specs.Laws.Names.{number_empty, number_long, number_other, number_digits, none_below, some_below, most_next, most_four, digit_bounds}
use Rattle.text_words.proofs.names.number_below.Goals.{then-is_empty-via-then-is_empty, then-is_empty-via-else-is_empty+then-w-gt-MOST_DIGITS, Else-not-is_ascii_digit}
use Rattle.text_words.proofs.names.number_below.Goals as goal

digit_at : (c : Else-not-is_ascii_digit) → is_digit (get_or c.args.w.now c.loop-b.b-index 0) ≡ true
digit_at c = search rules

pub returns-then-is_empty : goal.returns-then-is_empty
returns-then-is_empty c =
    none_below _ _ (elim c.then-is_empty.branch [ then-is_empty-via-then-is_empty w ↦ number_empty _ _ (search (rules, tests)) | then-is_empty-via-else-is_empty+then-w-gt-MOST_DIGITS w ↦ number_long _ _ w.if-w-gt-MOST_DIGITS.true ])

pub returns-then-not-is_ascii_digit : goal.returns-then-not-is_ascii_digit
returns-then-not-is_ascii_digit c =
    none_below _ _ (number_other _ _ (sym c.loop-b.invariant.tested ∙ all_stop is_digit _ _ _ (drop_step _ c.loop-b.b-index c.loop-b-test.true) (search rules)))

pub overflow_mul-value : goal.overflow_mul-value
overflow_mul-value c = omega (arith, most_four c.loop-b.b-index (omega arith), c.loop-b.invariant.small)

pub overflow_add-value : goal.overflow_add-value
overflow_add-value c = omega (arith, most_four c.loop-b.b-index (omega arith), c.loop-b.invariant.small)

pub loop-b-preserved : goal.loop-b-preserved
loop-b-preserved c = record {
  small = omega (arith, most_next c.loop-b.b-index, digit_bounds (get_or c.args.w.now c.loop-b.b-index 0) (digit_at (goal.at.loop-b-preserved c).Else-not-is_ascii_digit), c.from.ensures, c.loop-b.invariant.small);
  tested = all_step is_digit _ _ _ (drop_step _ c.loop-b.b-index c.loop-b-test.true) (digit_at (goal.at.loop-b-preserved c).Else-not-is_ascii_digit) ∙ c.loop-b.invariant.tested;
  worth = rw c.from.ensures (sym (digits_next _ c.loop-b.b-index c.loop-b-test.true c.loop-b.value) ∙ c.loop-b.invariant.worth);
}

pub returns : goal.returns
returns c =
    let w = c.args.w.now in
    let worth : c.loop-b.value ≡ digits_from 0 w = sym (digits_end c.loop-b.value w c.loop-b.b-index c.loop-b-test.false) ∙ c.loop-b.invariant.worth in
    let digits : all is_digit w ≡ true = sym c.loop-b.invariant.tested ∙ all_end is_digit _ (drop_end w c.loop-b.b-index c.loop-b-test.false) in
    c.then_some.ensures ∙ some_below _ w c.loop-b.value (number_digits c.args.bound w (search (rules, tests)) c.if-w-gt-MOST_DIGITS.false digits ∙ ap (λ v. min v c.args.bound) (sym worth))
