-- `is_empty` meets its contract.
use Rattle.std.proofs.Common.{◌∙◌}
use Rattle.rule_signatures.specs.Gives.{empty}
use Rattle.rule_signatures.specs.Cases.{zero_is}
use Rattle.rule_signatures.proofs.given.is_empty.Goals as goal

pub returns-in-Simple : goal.returns-in-Simple
unfolding empty
returns-in-Simple c = rw c.in-Simple.is

pub returns-in-AllEqual : goal.returns-in-AllEqual
unfolding empty
returns-in-AllEqual c = rw c.in-AllEqual.is (c.eq.ensures ∙ zero_is c.in-AllEqual.a.length)
