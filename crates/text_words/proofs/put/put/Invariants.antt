-- `put` meets its contract: what is left from byte i on, put behind the i bytes that are there, gives what all gives.
use Prim.Native.Nat.{◌+◌}
use mathlib.Core.Path.{◌≡◌}
use lib.ListN.{length, drop}
use Rattle.std.proofs.lemmas.List.Edits.{sets}
use Rattle.text_words.proofs.put.put.Given as goal

abbrev pub invariant-loop-i : goal.invariant-loop-i
invariant-loop-i l = (length l.out ≡ length l.initial.out) × (sets l.out (l.at + l.i) (drop l.i l.bytes) ≡ sets l.initial.out l.at l.bytes)
