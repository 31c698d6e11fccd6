-- What is laid is the Assigns of the arguments passed.
use Prim.Native.Nat.{ℕ}
use mathlib.Core.List.{List}
use lib.ListN.{take}
use Rattle.grounded_body.specs.Body.{assigns}
use Rattle.grounded_body.specs.Kinds.{atom_number}
use Rattle.grounded_body.specs.Parts.{Lays, assigned_by}
use Rattle.grounded_body.proofs.lay.put_assigns.Given as goal

abbrev pub invariant-loop-term : goal.invariant-loop-term
invariant-loop-term l =
    (S : List ℕ)
    → Lays l.body.place l.initial.laid (assigns (assigned_by (atom_number l.atom.kind) l.body.terms.now (take l.term-index l.atom.arguments.now))) l.initial.records S l.initial.tops l.laid l.records S l.tops
