-- `first_open` meets its contract: what is found from i on is what is found from the start.
use mathlib.Core.Path.{◌∙◌}
use native.Mathlib.Nat.{sub-zero}
use native.Mathlib.Omega.{arith}
use Rattle.solver.proofs.Opening.{open_here, open_later, open_none}
use Rattle.solver.proofs.finish.first_open.Goals as goal

pub loop-i-init : goal.loop-i-init
loop-i-init c = λ p f er es. rw sub-zero

pub offset_bounds-sorts-term : goal.offset_bounds-sorts-term
offset_bounds-sorts-term c = omega (arith, c.requires.range_below c.loop-i.i (omega arith))

pub bounds-sorts-term : goal.bounds-sorts-term
bounds-sorts-term c = c.requires.range_below c.loop-i.i (omega arith)

pub returns-then-sorts-term-eq0 : goal.returns-then-sorts-term-eq0
returns-then-sorts-term-eq0 c =
    λ p f er es.
    open_here _ _ c.loop-i.i _ (omega arith) c.if-sorts-term-eq0.true p f er es
    ∙ c.loop-i.invariant p f er es

pub loop-i-preserved : goal.loop-i-preserved
loop-i-preserved c = λ p f er es. open_later _ _ _ _ (omega arith) c.if-sorts-term-eq0.false p f er es ∙ c.loop-i.invariant p f er es

pub returns : goal.returns
returns c = λ p f er es. open_none p f c.loop-i.i _ (omega arith) ∙ c.loop-i.invariant p f er es
