-- The two records, the inputs and the entry are the constraint's.
use mathlib.Core.Path.{refl}
use Rattle.grounded_body.proofs.Laying.{lays_follows}
use Rattle.grounded_body.proofs.lay.put_implies.Goals as goal

pub returns : goal.returns
returns c =
    let a = c.args in
    lays_follows a.place _ a.at a.arguments.now a.records.now c.put_record.new.records a.side.now a.tops.now c.put_all.new.list c.put_all-2.new.list c.put.new.list refl
    (rw c.number.ensures at c.put_record.ensures) (rw c.number-2.ensures at c.put_all.ensures) c.put_all-2.ensures c.put.ensures
