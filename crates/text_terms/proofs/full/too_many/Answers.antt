-- `too_many` meets its contract, a test at a time.
use borrow.Author.Tests.{eq-eqb, ne_eqb}
use mathlib.Core.Path.{sym, ◌∙◌}
use Rattle.text_terms.specs.Call.{too_many_on}
use Rattle.text_terms.proofs.full.too_many.Goals.{else-kind-eq-SET-via-then-kind-eq-SET+else-is_constructor, else-kind-eq-SET-via-else-kind-eq-SET}
use Rattle.text_terms.proofs.full.too_many.Goals as goal

pub returns-then-not-headed : goal.returns-then-not-headed
unfolding too_many_on
returns-then-not-headed c = rw c.if-not-headed.true

pub returns-then-is_constructor : goal.returns-then-is_constructor
unfolding too_many_on
returns-then-is_constructor c = rw (c.if-not-headed.false, eq-eqb c.args.kind 1 c.if-kind-eq-SET.true, sym c.is_constructor.ensures ∙ c.if-is_constructor.true)

pub returns : goal.returns
unfolding too_many_on
returns c =
    elim c.else-kind-eq-SET.branch [
      | else-kind-eq-SET-via-then-kind-eq-SET+else-is_constructor w ↦ rw (c.if-not-headed.false, eq-eqb c.args.kind 1 w.if-kind-eq-SET.true, sym w.is_constructor.ensures ∙ w.if-is_constructor.false) c.head_or_room.ensures
      | else-kind-eq-SET-via-else-kind-eq-SET w ↦ rw (c.if-not-headed.false, ne_eqb c.args.kind 1 w.if-kind-eq-SET.false) c.head_or_room.ensures
    ]
