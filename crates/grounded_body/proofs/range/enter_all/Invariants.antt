-- What has entered is what the atoms passed mention.
use Rattle.definition.specs.Lists.{from}
use Rattle.grounded_body.specs.Body.{mentioned}
use Rattle.grounded_body.specs.Parts.{seen, Enters}
use Rattle.grounded_body.proofs.range.enter_all.Given as goal

abbrev pub invariant-loop-atom : goal.invariant-loop-atom
invariant-loop-atom l = Enters l.body.place (mentioned (seen l.body) (from 0 l.atom)) 0 l.initial.range l.initial.marks l.n l.range l.marks
