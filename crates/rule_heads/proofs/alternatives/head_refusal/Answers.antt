-- `head_refusal` meets its contract.
use Rattle.std.proofs.Common.{rules, sym}
use Rattle.rule_heads.specs.Laws.{refusal_none, refusal_some}
use Rattle.rule_heads.proofs.alternatives.head_refusal.Goals as goal

pub returns-then-is_empty : goal.returns-then-is_empty
returns-then-is_empty c = let a = c.args in sym (refusal_none a.signatures.now a.found.now (search rules))

pub returns-then-some_empty : goal.returns-then-some_empty
returns-then-some_empty c = let a = c.args in rw (refusal_some a.signatures.now a.found.now (search rules), ← c.some_empty.ensures, c.if-some_empty.true)

pub returns : goal.returns
returns c = let a = c.args in rw (refusal_some a.signatures.now a.found.now (search rules), ← c.some_empty.ensures, c.if-some_empty.false)
