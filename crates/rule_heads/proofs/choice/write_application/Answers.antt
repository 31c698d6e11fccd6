-- `write_application` meets its contract: by the number of alternatives.
use Rattle.std.proofs.Common.{arith}
use Rattle.rule_signatures.specs.Gives.{fixed}
use Rattle.rule_heads.specs.Turns.{written_plain, laid_more, head_none, head_one, head_more}
use Rattle.rule_heads.proofs.choice.write_application.Goals as goal

pub returns-in-empty : goal.returns-in-empty
returns-in-empty c = let a = c.args in rw (head_none a.found.signatures.now a.found.signature_sorts.now a.statement.args.now (fixed a.scope.terms.now a.scope.globals.now a.statement.args.now) a.found.numbers.now (omega arith)) (written_plain _ _ _ _ _ _ _ _ _ _ c.laid_fixed-count.ensures.laid c.end_plain.ensures)

pub returns-in-len1 : goal.returns-in-len1
returns-in-len1 c = let a = c.args in rw (head_one a.found.signatures.now a.found.signature_sorts.now a.statement.args.now (fixed a.scope.terms.now a.scope.globals.now a.statement.args.now) a.found.numbers.now (omega arith)) (written_plain _ _ _ _ _ _ _ _ _ _ (laid_more _ _ _ _ _ _ _ _ _ c.laid_fixed-count.ensures.laid (rw c.read_signature-signature.ensures at c.laid-more.ensures.laid)) c.end_plain-in-len1.ensures)

pub returns-in_default : goal.returns-in_default
returns-in_default c = let a = c.args in rw (head_more a.found.signatures.now a.found.signature_sorts.now a.statement.args.now (fixed a.scope.terms.now a.scope.globals.now a.statement.args.now) a.found.numbers.now (λ e. omega arith) (λ e. omega arith)) (c.write_choice.ensures _ _ c.laid_fixed-count.ensures.laid)
