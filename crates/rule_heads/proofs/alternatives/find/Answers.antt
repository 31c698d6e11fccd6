-- `find` meets its contract.
use mathlib.Core.Path.{sym, ◌∙◌}
use Rattle.rule_heads.specs.Laws.{first_is, first_not, find_is, find_not}
use Rattle.rule_heads.proofs.alternatives.find.Goals as goal

pub returns-in-Some : goal.returns-in-Some
returns-in-Some c = let a = c.args in find_is a.signatures.now a.declared a.head a.context a.found.now _ _ _ _ (first_is a.signatures.now a.declared a.head _ (sym c.in-Some.is ∙ c.first_function.ensures)) c.put.ensures c.add_permitted.ensures.0 c.add_permitted.ensures.1

pub returns-in-None : goal.returns-in-None
returns-in-None c = let a = c.args in find_not a.signatures.now a.declared a.head a.context a.found.now a.found.now _ _ (first_not a.signatures.now a.declared a.head (sym c.in-None.is ∙ c.first_function.ensures)) c.add_permitted-in-None.ensures.0 c.add_permitted-in-None.ensures.1
