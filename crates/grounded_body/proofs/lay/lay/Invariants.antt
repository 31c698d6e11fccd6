-- What is laid is what the atoms passed give.
use Rattle.definition.specs.Lists.{from}
use Rattle.grounded_body.specs.Body.{given}
use Rattle.grounded_body.specs.Parts.{seen, Lays, none_laid}
use Rattle.grounded_body.proofs.lay.lay.Given as goal

abbrev pub invariant-loop-number : goal.invariant-loop-number
invariant-loop-number l =
    Lays l.body.place none_laid (given (seen l.body) (from 0 l.number)) l.initial.records l.initial.side l.initial.tops l.laid l.records l.side l.tops
