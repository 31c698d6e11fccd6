-- Up to i the names are empty.
use mathlib.Core.Path.{◌≡◌}
use lib.ListN.{length}
use Rattle.text_terms.specs.Named.{Unnamed}
use Rattle.text_terms.proofs.terms.name_fresh.Given as goal

abbrev pub invariant-loop-i : goal.invariant-loop-i
invariant-loop-i l = (length l.term_names ≡ length l.initial.term_names) × Unnamed l.initial.term_names l.from l.i l.term_names
