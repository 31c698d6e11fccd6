-- `laid_fixed` meets its contract: what is left from here gives what all give from the start.
use Rattle.std.proofs.Common.{rules, arith, add-zero, sym, ◌∙◌}
use Rattle.rule_signatures.specs.Turns.{fixed_not, fixed_end, fixed_count, fixed_turn, laid_turn}
use Rattle.rule_signatures.proofs.given.laid_fixed.Goals as goal
use Rattle.rule_signatures.proofs.given.laid_fixed.Goals.{in-Some, in_default}

pub loop-term-init : goal.loop-term-init
loop-term-init c = record { few = search rules; laid = rw add-zero; counted = search rules }

pub loop-term-preserved : goal.loop-term-preserved
loop-term-preserved c =
    let a = c.args in
    let w = c.loop-term in
    let i = w.term-index in
    let h = c.loop-term-test.true in
    elim c.match-known_sort.branch [
      | in-Some b ↦
          let s = b.in-Some.sort in
          let e = sym c.known_sort.ensures ∙ b.in-Some.is in
          let laid = laid_turn a.statement.origin w.records b.put_assign.new.records a.n i a.statement.args.now a.scope.terms.now a.scope.globals.now w.count s h e b.put_assign.ensures in
          let counted = fixed_turn a.statement.origin w.records w.records a.n i a.statement.args.now a.scope.terms.now a.scope.globals.now w.count s h e in
          rw (b.records-is, b.count-is) (record { few = omega (arith, w.invariant.few); laid = laid ∙ w.invariant.laid; counted = counted ∙ w.invariant.counted })
      | in_default b ↦
          let e = sym c.known_sort.ensures ∙ b.in_default.is in
          let f = fixed_not a.statement.origin w.records w.records a.n i a.statement.args.now a.scope.terms.now a.scope.globals.now w.count h e in
          rw (b.records-is, b.count-is) (record { few = omega (arith, w.invariant.few); laid = rw f at w.invariant.laid; counted = rw f at w.invariant.counted })
    ]

pub returns : goal.returns
returns c =
    let a = c.args in
    let w = c.loop-term in
    let i = w.term-index in
    let h = c.loop-term-test.false in
    record {
      laid = record {
        records = fixed_end a.statement.origin a.records.now w.records a.n i a.statement.args.now a.scope.terms.now a.scope.globals.now w.count h w.invariant.laid;
        count = fixed_count a.statement.origin a.records.now w.records a.n i a.statement.args.now a.scope.terms.now a.scope.globals.now w.count h w.invariant.counted;
      };
      upper_bound = search rules;
    }
