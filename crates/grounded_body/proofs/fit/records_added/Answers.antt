-- What each kind adds.
use native.Mathlib.Omega.{arith}
use Rattle.grounded_body.proofs.Fitting.{constants_few, function_records, primitive_records, equality_records}
use Rattle.grounded_body.proofs.fit.records_added.Goals as goal

pub overflow_add-result : goal.overflow_add-result
overflow_add-result c = omega (arith, constants_few c.args.body.terms.now c.args.atom.arguments.now, c.count_constants.ensures, c.well_formed)

pub overflow_add-result-in-Equality : goal.overflow_add-result-in-Equality
overflow_add-result-in-Equality c =
    omega (arith, constants_few c.args.body.terms.now c.args.atom.arguments.now, c.count_constants-in-Equality.ensures, c.well_formed)

pub returns-in-Function : goal.returns-in-Function
returns-in-Function c = rw c.in-Function.is (function_records c.args.body.terms.now c.args.atom.arguments.now)

pub returns-in-Primitive : goal.returns-in-Primitive
returns-in-Primitive c = rw (c.in-Primitive.is, c.count_constants.ensures) (primitive_records c.args.body.terms.now c.args.atom.arguments.now)

pub returns-in-Equality : goal.returns-in-Equality
returns-in-Equality c = rw (c.in-Equality.is, c.count_constants-in-Equality.ensures) (equality_records c.args.body.terms.now c.args.atom.arguments.now)
