-- `digits_of` meets its contract: the digits of what is left, and those that are there, are all the digits.
use Rattle.std.proofs.Common.{◌≡◌, ◌++◌, drop}
use Rattle.text_words.specs.Put.{decimal_within, decimal}
use Rattle.text_words.proofs.put.digits_of.Given as goal

abbrev pub invariant-loop-i : goal.invariant-loop-i
invariant-loop-i l = decimal_within l.i l.left ++ drop l.i l.digits ≡ decimal l.n
