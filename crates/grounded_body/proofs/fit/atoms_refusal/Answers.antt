-- What is left of the atoms is refused as all of them are, from the records and the side cells that stand before.
use mathlib.Core.Path.{sym, ap, ◌∙◌}
use native.Mathlib.Omega.{arith}
use lib.ListN.{length}
use Rattle.grounded_body.specs.Kinds.{atom_number}
use Rattle.grounded_body.specs.Parts.{seen}
use Rattle.grounded_body.proofs.Fitting.{records_few, side_few, turn_shape, turn_over, turn_next, refusal_end}
use Rattle.grounded_body.proofs.fit.atoms_refusal.Goals as goal

pub returns-then-not-shape_fits : goal.returns-then-not-shape_fits
returns-then-not-shape_fits c =
    turn_shape (seen c.args.body) c.loop-number.number c.atom-atom.result.kind c.atom-atom.result.arguments.now c.loop-number-test.true c.atom-atom.ensures.kind c.atom-atom.ensures.arguments
    c.loop-number.records c.loop-number.side c.loop-number.invariant.left (sym c.shape_fits.ensures ∙ c.if-not-shape_fits.true)

pub overflow_add-records : goal.overflow_add-records
overflow_add-records c =
    omega (
      arith,
      c.records_added-records.ensures,
      records_few c.args.body.terms.now (atom_number c.atom-atom.result.kind) c.atom-atom.result.arguments.now,
      ap length c.atom-atom.ensures.arguments,
      c.requires.few c.loop-number.number c.loop-number-test.true,
    )

pub overflow_add-side : goal.overflow_add-side
overflow_add-side c =
    omega (
      arith,
      side_few c.atom-atom.result.kind c.side_added-side.result c.atom-atom.result.arguments.now c.side_added-side.ensures,
      ap length c.atom-atom.ensures.arguments,
      c.requires.few c.loop-number.number c.loop-number-test.true,
    )

pub returns-then-records-gt-MAX_RECORDS : goal.returns-then-records-gt-MAX_RECORDS
returns-then-records-gt-MAX_RECORDS c =
    turn_over (seen c.args.body) c.loop-number.number c.atom-atom.result.kind c.atom-atom.result.arguments.now c.loop-number-test.true c.atom-atom.ensures.kind c.atom-atom.ensures.arguments
    c.loop-number.records c.loop-number.side c.loop-number.invariant.left (sym c.shape_fits.ensures ∙ c.if-not-shape_fits.false)
    c.records_added-records.result c.side_added-side.result c.records_added-records.ensures c.side_added-side.ensures c.then-records-gt-MAX_RECORDS.either

pub loop-number-preserved : goal.loop-number-preserved
loop-number-preserved c = record {
  records_few = omega arith;
  side_few = omega arith;
  left =
      turn_next (seen c.args.body) c.loop-number.number c.atom-atom.result.kind c.atom-atom.result.arguments.now c.loop-number-test.true c.atom-atom.ensures.kind c.atom-atom.ensures.arguments
      c.loop-number.records c.loop-number.side c.loop-number.invariant.left (sym c.shape_fits.ensures ∙ c.if-not-shape_fits.false)
      c.records_added-records.result c.side_added-side.result c.records_added-records.ensures c.side_added-side.ensures (omega arith) (omega arith);
}

pub returns : goal.returns
returns c =
    refusal_end (seen c.args.body) c.loop-number.records c.loop-number.side c.loop-number.number c.args.body.counts.atoms (omega arith) ∙ c.loop-number.invariant.left
