-- Each kind lays what it gives: its own constraint, then what it assigns.
use mathlib.Core.List.{[]}
use native.Mathlib.Omega.{arith}
use lib.ListN.{length}
use Rattle.grounded_body.proofs.Laying.{lays_append, lays_eq, given_function, given_primitive, given_equality, one_at_least, two_exactly, room_less, room_follows, room_same}
use Rattle.grounded_body.proofs.lay.put_atom.Goals.{in-Function, in-Primitive, in-Equality}
use Rattle.grounded_body.proofs.lay.put_atom.Goals as goal

pub put_implies-laid-requires : goal.put_implies-laid-requires
put_implies-laid-requires c = (
  room_less c.args.at _ (length c.args.atom.arguments.now) (omega arith) c.requires.room,
  one_at_least (length c.args.atom.arguments.now) (rw c.in-Primitive.is at c.requires.shape),
)

pub bounds-own-0 : goal.bounds-own-0
bounds-own-0 c = omega (arith, two_exactly (length c.args.atom.arguments.now) (rw c.in-Equality.is at c.requires.shape))

pub bounds-own-1 : goal.bounds-own-1
bounds-own-1 c = omega (arith, two_exactly (length c.args.atom.arguments.now) (rw c.in-Equality.is at c.requires.shape))

pub put_assigns-requires : goal.put_assigns-requires
put_assigns-requires c =
    let n = length c.args.atom.arguments.now in
    elim c.match-atom.branch [
      | in-Function w ↦ rw w.laid-is (room_less c.args.at _ n (omega arith) c.requires.room)
      | in-Primitive w ↦ rw w.laid-is (room_follows _ _ _ c.args.atom.arguments.now _ _ _ _ _ _ w.put_implies-laid.ensures c.requires.room)
      | in-Equality w ↦ rw w.laid-is (room_same _ _ _ _ _ n _ _ _ _ _ _ (lays_eq _ _ _ _ _ _ _ _ _ w.put_top-laid.ensures []) c.requires.room)
    ]

pub returns : goal.returns
returns c =
    let a = c.args in
    let rest = c.put_assigns.ensures c.match-atom.side in
    elim c.match-atom.branch [
      | in-Function w ↦
          rw (w.in-Function.is, w.side-is, given_function a.body.terms.now a.atom.arguments.now)
          (rw (w.records-is, w.side-is, w.tops-is, w.laid-is, w.in-Function.is) at rest)
      | in-Primitive w ↦
          rw (w.in-Primitive.is, w.side-is, given_primitive a.body.terms.now a.atom.arguments.now)
          (lays_append _ _ _ _ _ _ _ _ _ _ _ _ _ _ _ w.put_implies-laid.ensures (rw (w.records-is, w.side-is, w.tops-is, w.laid-is, w.in-Primitive.is) at rest))
      | in-Equality w ↦
          rw (w.in-Equality.is, w.side-is, given_equality a.body.terms.now a.atom.arguments.now)
          (lays_append _ _ _ _ _ _ _ _ _ _ _ _ _ _ _ (lays_eq _ _ _ _ _ _ _ _ _ w.put_top-laid.ensures a.side.now)
          (rw (w.records-is, w.side-is, w.tops-is, w.laid-is, w.in-Equality.is) at rest))
    ]
