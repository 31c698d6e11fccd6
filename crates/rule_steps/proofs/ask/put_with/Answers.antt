-- `put_with` meets its contract.
use Rattle.std.proofs.Common.{rules}
use Rattle.rule_steps.specs.Laws.Reading.{put_with}
use Rattle.rule_steps.proofs.ask.put_with.Goals as goal

pub returns : goal.returns
returns c = let a = c.args in (put_with a.args.now _ _ a.own.now a.last c.put_all.ensures c.put.ensures, search rules)
