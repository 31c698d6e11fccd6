-- The words up to i are named.
use Prim.Native.Nat.{◌≤◌}
use mathlib.Core.Path.{◌≡◌}
use lib.ListN.{length}
use Rattle.text_terms.specs.Named.{RangeNamed}
use Rattle.text_terms.proofs.terms.name_range.Given as goal

abbrev pub invariant-loop-i : goal.invariant-loop-i
invariant-loop-i l =
    (l.named ≤ 256) × (length l.term_names ≡ length l.initial.term_names) × (length l.terms ≡ length l.initial.terms) × (length l.numbers ≡ length l.initial.numbers)
    × RangeNamed l.line l.fn.words.start l.i l.declared l.k l.initial.term_names l.initial.terms l.initial.numbers l.named l.term_names l.terms l.numbers
