-- What is laid is what the atoms passed give.
use mathlib.Core.Path.{◌≡◌}
use native.Mathlib.Omega.{arith}
use Rattle.definition.specs.Lists.{from}
use Rattle.grounded_body.specs.Body.{given}
use Rattle.grounded_body.specs.Layout.{constraints}
use Rattle.grounded_body.specs.Parts.{seen, none_laid}
use Rattle.grounded_body.proofs.Laying.{lays_none, turn_fits, turn_laid}
use Rattle.grounded_body.proofs.lay.lay.Goals as goal

pub loop-number-init : goal.loop-number-init
unfolding from given
loop-number-init c = lays_none c.args.body.place none_laid c.args.records.now c.args.side.now c.args.tops.now

pub put_atom-laid-requires : goal.put_atom-laid-requires
put_atom-laid-requires c =
    turn_fits (seen c.args.body) c.loop-number.number c.atom.result.kind c.atom.result.arguments.now c.loop-number-test.true c.atom.ensures.kind c.atom.ensures.arguments
    c.loop-number.laid c.args.records.now c.args.side.now c.args.tops.now c.loop-number.records c.loop-number.side c.loop-number.tops c.loop-number.invariant c.requires

pub loop-number-preserved : goal.loop-number-preserved
loop-number-preserved c =
    turn_laid (seen c.args.body) c.loop-number.number c.atom.result.kind c.atom.result.arguments.now c.loop-number-test.true c.atom.ensures.kind c.atom.ensures.arguments
    c.loop-number.laid c.args.records.now c.args.side.now c.args.tops.now c.loop-number.records c.loop-number.side c.loop-number.tops c.loop-number.invariant
    _ _ _ _ c.put_atom-laid.ensures

pub returns : goal.returns
unfolding constraints
returns c = let e : c.loop-number.number ≡ c.args.body.counts.atoms = omega arith in rw e at c.loop-number.invariant
