-- The marks passed are kinds.
use Prim.Native.Nat.{ℕ, ◌*◌, ◌<◌}
use mathlib.Core.Path.{◌≡◌}
use lib.ListN.{get_or}
use Rattle.grounded_body.proofs.range.mark_constants.Given as goal

abbrev pub invariant-loop-term : goal.invariant-loop-term
invariant-loop-term l = (t : ℕ) → t < l.term → get_or l.marks t 0 ≡ get_or l.terms (t * 2) 0
