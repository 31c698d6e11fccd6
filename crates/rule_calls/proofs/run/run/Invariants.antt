-- `run` meets its contract: what is left from here gives what all give from the start.
use Rattle.rule_steps.specs.Step.{seen_tables, seen_source, state}
use Rattle.rule_calls.specs.Left.{Going}
use Rattle.rule_calls.proofs.run.run.Given as goal

abbrev pub invariant-loop-i : goal.invariant-loop-i
invariant-loop-i l =
    Going (seen_tables l.tables l.terms) l.lengths (seen_source l.listed l.tables)
    (state l.fn.counts l.initial.records l.initial.side l.initial.tops l.initial.range l.initial.marks) (state l.reached l.records l.side l.tops l.range l.marks) l.i l.tables.lent.calls
