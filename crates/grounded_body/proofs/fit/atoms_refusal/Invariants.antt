-- What is left of the atoms is refused as all of them are, from the records and the side cells that stand before.
use Prim.Native.Nat.{◌≤◌, ◌-◌}
use mathlib.Core.Path.{◌≡◌}
use Rattle.definition.specs.Lists.{from}
use Rattle.grounded_body.specs.Check.{atoms_refusal}
use Rattle.grounded_body.specs.Parts.{seen}
use Rattle.grounded_body.proofs.fit.atoms_refusal.Given as goal

abbrev pub invariant-loop-number : goal.invariant-loop-number
invariant-loop-number l = record {
  records_few : l.records ≤ 512;
  side_few : l.side ≤ 2048;
  left : atoms_refusal (seen l.body) l.records l.side (from l.number (l.body.counts.atoms - l.number)) ≡ atoms_refusal (seen l.body) 0 0 (from 0 l.body.counts.atoms);
}
