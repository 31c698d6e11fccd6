-- `write_choice` meets its contract.
use mathlib.Core.Path.{refl}
use Rattle.rule_heads.specs.Turns.{written_choice}
use Rattle.rule_heads.proofs.choice.write_choice.Goals as goal

pub returns : goal.returns
returns c = λ before first h. written_choice _ _ _ _ _ _ _ _ _ _ _ _ _ _ _ _ h c.lay_xor-after.ensures refl refl c.put_numbers.ensures c.put.ensures refl refl refl
