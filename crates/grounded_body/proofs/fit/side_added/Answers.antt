-- A primitive adds its inputs.
use mathlib.Core.Logic.{inl, inr}
use Rattle.grounded_body.proofs.Fitting.{side_function, side_primitive, side_equality}
use Rattle.grounded_body.proofs.fit.side_added.Goals as goal

pub returns-in-Primitive : goal.returns-in-Primitive
returns-in-Primitive c = rw (c.in-Primitive.is, c.saturating_sub.ensures) (side_primitive c.args.atom.arguments.now)

pub returns-in-Function : goal.returns-in-Function
returns-in-Function c =
    elim c.in-Function.is [ inl e ↦ rw e (side_function c.args.atom.arguments.now) | inr e ↦ rw e (side_equality c.args.atom.arguments.now) ]
