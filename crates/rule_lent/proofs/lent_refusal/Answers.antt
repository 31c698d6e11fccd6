-- The tests of the tables read the counts of the problem alone.
use Rattle.std.proofs.Common.{rules}
use Rattle.rule_lent.proofs.Whole.{refusal_apart}
use Rattle.rule_lent.proofs.lent_refusal.Goals as goal

pub returns : goal.returns
returns c = rw (refusal_apart _ _ _ _, ← c.tables_counted-held.ensures) (c.refused_by.ensures _ (λ r p. search rules))
