-- `number_below` meets its contract: the digits left, behind those that are worth `value`, are worth what all are.
use Rattle.std.proofs.Common.{◌≡◌, ◌≤◌, drop}
use Rattle.definition.specs.Lists.{all}
use Rattle.text_words.specs.Bytes.{is_digit}
use Rattle.text_words.specs.Names.{digits_from}
use Rattle.text_words.specs.Laws.Names.{most}
use Rattle.text_words.proofs.names.number_below.Given as goal

abbrev pub invariant-loop-b : goal.invariant-loop-b
invariant-loop-b l = record {
  small : l.value ≤ most l.b-index;
  tested : all is_digit (drop l.b-index l.w) ≡ all is_digit l.w;
  worth : digits_from l.value (drop l.b-index l.w) ≡ digits_from 0 l.w;
}
