-- `ask_atom` meets its contract, by the kind that was read.
use Rattle.rule_steps.specs.Laws.Reading.{atom_asked, asked_atom, asked_equality}
use Rattle.rule_steps.proofs.ask.ask_atom.Goals as goal

pub returns-in-Applies : goal.returns-in-Applies
returns-in-Applies c =
    let a = c.args in
    rw (atom_asked _ _ _ _ _ c.atom_at.ensures c.unwrap_or.ensures, c.in-Applies.is)
    (asked_atom a.args.now a.bound.now _ _ a.own.now c.requires _ _ c.put_all.ensures c.put_all-2.ensures (rw c.head_of.ensures at c.applied.ensures))

pub returns-in-Equality : goal.returns-in-Equality
returns-in-Equality c =
    let a = c.args in
    rw (atom_asked _ _ _ _ _ c.atom_at.ensures c.unwrap_or.ensures, c.in-Equality.is)
    (asked_equality a.args.now a.bound.now _ _ a.own.now c.requires _ c.put_all.ensures c.put_all-2.ensures c.cell.ensures c.cell-in-Equality.ensures (rw c.equal.ensures))
