-- What is laid is the Assigns of the arguments passed.
use mathlib.Core.Path.{sym, ◌∙◌}
use mathlib.Core.List.{[]}
use native.Mathlib.Omega.{arith}
use lib.ListN.{length, take, get_or, length-take}
use lib.Seq.{take_all}
use Rattle.grounded_body.specs.Body.{assigns}
use Rattle.grounded_body.specs.Kinds.{atom_number}
use Rattle.grounded_body.specs.Parts.{assigned_by}
use Rattle.grounded_body.proofs.Laying.{lays_none, lays_one_more, room_behind, nothing_assigned, assigned_more, assigned_less, assigned_few}
use Rattle.grounded_body.proofs.lay.put_assigns.Goals.{then-is_assigned, else-is_assigned}
use Rattle.grounded_body.proofs.lay.put_assigns.Goals as goal

pub loop-term-init : goal.loop-term-init
unfolding assigns
loop-term-init c =
    λ S. rw (nothing_assigned (atom_number c.args.atom.kind) c.args.body.terms.now) (lays_none c.args.body.place c.args.at c.args.records.now S c.args.tops.now)

pub put_top-laid-requires : goal.put_top-laid-requires
put_top-laid-requires c =
    let a = c.args in
    let l = c.loop-term in
    let ts = assigned_by (atom_number a.atom.kind) a.body.terms.now (take l.term-index a.atom.arguments.now) in
    room_behind a.body.place (length a.atom.arguments.now) a.at l.laid ts a.records.now [] a.tops.now l.records [] l.tops (l.invariant []) c.requires
    (omega (arith, assigned_few (atom_number a.atom.kind) a.body.terms.now (take l.term-index a.atom.arguments.now), length-take l.term-index a.atom.arguments.now))

pub loop-term-preserved : goal.loop-term-preserved
loop-term-preserved c =
    let a = c.args in
    let l = c.loop-term in
    let ts = assigned_by (atom_number a.atom.kind) a.body.terms.now (take l.term-index a.atom.arguments.now) in
    let t = get_or a.atom.arguments.now l.term-index 0 in
    elim c.if-is_assigned.branch [
      | then-is_assigned w ↦
          rw (w.records-is, w.tops-is, w.laid-is)
          (lays_one_more a.body.place a.at l.laid _ ts _ t a.records.now a.tops.now l.records l.tops _ _
          (assigned_more (atom_number a.atom.kind) a.body.terms.now a.atom.arguments.now l.term-index c.loop-term-test.true (sym c.is_assigned.ensures ∙ w.if-is_assigned.true)) l.invariant w.put_top-laid.ensures)
      | else-is_assigned w ↦
          rw (
            w.records-is,
            w.tops-is,
            w.laid-is,
            assigned_less (atom_number a.atom.kind) a.body.terms.now a.atom.arguments.now l.term-index c.loop-term-test.true (sym c.is_assigned.ensures ∙ w.if-is_assigned.false),
          ) l.invariant
    ]

pub returns : goal.returns
returns c = let e = take_all c.loop-term.term-index c.args.atom.arguments.now (omega arith) in λ S. rw e at (c.loop-term.invariant S)
