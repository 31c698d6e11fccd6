-- What has entered is what the atoms passed mention.
use mathlib.Core.Path.{◌≡◌}
use native.Mathlib.Omega.{arith}
use Rattle.definition.specs.Lists.{from, joined}
use Rattle.grounded_body.specs.Parts.{seen}
use Rattle.grounded_body.proofs.Entering.{enters_none, turn_room, turn_entered}
use Rattle.grounded_body.proofs.range.enter_all.Goals as goal

pub loop-atom-init : goal.loop-atom-init
unfolding from joined
loop-atom-init c = enters_none c.args.body.place 0 c.args.range.now c.args.marks.now

pub enter-n-requires : goal.enter-n-requires
enter-n-requires c =
    turn_room (seen c.args.body) c.loop-atom.atom c.arguments_of.result.now c.loop-atom-test.true c.arguments_of.ensures
    c.loop-atom.n c.args.range.now c.args.marks.now c.loop-atom.range c.loop-atom.marks c.loop-atom.invariant c.requires

pub loop-atom-preserved : goal.loop-atom-preserved
loop-atom-preserved c =
    turn_entered (seen c.args.body) c.loop-atom.atom c.arguments_of.result.now c.loop-atom-test.true c.arguments_of.ensures
    c.loop-atom.n c.args.range.now c.args.marks.now c.loop-atom.range c.loop-atom.marks c.loop-atom.invariant
    c.enter-n.result _ _ (record { count = c.enter-n.ensures.value; cells = c.enter-n.ensures.range_after; marks = c.enter-n.ensures.marks_after })

pub returns : goal.returns
returns c = let e : c.loop-atom.atom ≡ c.args.body.counts.atoms = omega arith in rw e at c.loop-atom.invariant
