-- `read_lines` meets its contract: the lines from here on give what all give from the start.
use native.Mathlib.Omega.{arith}
use mathlib.Core.Path.{refl}
use Rattle.std.proofs.Common.{◌≡◌, rules, Err}
use Rattle.text_lines.specs.Laws.Run.{reading_starts, end_inside, line_readable, reading_turn, reading_refused, reading_ends}
use Rattle.text_lines.proofs.run.read_lines.Goals as goal

pub loop-at-init : goal.loop-at-init
loop-at-init c = reading_starts c.none-numbers.ensures

pub overflow_add-place : goal.overflow_add-place
overflow_add-place c = omega (arith, c.loop-at.invariant.place≤, c.loop-at.invariant.at≤, c.requires)

pub read_line-requires : goal.read_line-requires
read_line-requires c = line_readable c.loop-at.invariant c.loop-at-test.true c.find_byte-end.ensures c.requires

pub returns-in_err-numbers : goal.returns-in_err-numbers
returns-in_err-numbers c =
    let r = c.in_err-numbers in
    let h : c.from_residual.result ≡ Err r.field-0.0 = search rules in
    rw h (reading_refused c.loop-at.invariant c.loop-at-test.true c.find_byte-end.ensures refl r.ensures)

pub overflow_add-at : goal.overflow_add-at
overflow_add-at c = omega (arith, end_inside c.loop-at.invariant c.loop-at-test.true c.find_byte-end.ensures, c.requires)

pub loop-at-smaller : goal.loop-at-smaller
loop-at-smaller c = omega (arith, c.find_byte-end.ensures, end_inside c.loop-at.invariant c.loop-at-test.true c.find_byte-end.ensures)

pub loop-at-preserved : goal.loop-at-preserved
loop-at-preserved c = reading_turn c.loop-at.invariant c.loop-at-test.true c.find_byte-end.ensures refl c.in_ok-numbers.ensures

pub returns : goal.returns
returns c = reading_ends c.loop-at.invariant c.loop-at-test.false
