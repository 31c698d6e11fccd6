-- grounded_check: its refusals, and what it leaves.
use Rattle.std.specs.Prelude.{ℕ, zero, suc, ◌+◌, ◌*◌, Bool, cond, ◌&&◌, List, [], ◌∷◌, eqb, leb, ltb, length}
use Rattle.definition.specs.declared.Outcome.{Outcome}
use Rattle.definition.specs.Sizes.{max_terms, max_side, max_records, entry_cells}
use Rattle.definition.specs.Lists.{from, all}
use Rattle.definition.specs.Problem.{part}
use Rattle.definition.specs.Refusal.{unless, first_given, room_refusal}
use Rattle.definition.specs.Buffers.{Exit, exit, filled}
use Rattle.grounded_body.specs.Body.{Body, atom_cells, term_cells, kind_at, start_at, count_at, arguments_at, term_kind, given_at}
use Rattle.grounded_body.specs.Layout.{records_in, side_in, grounded_problem}

-- the arguments of all atoms together are at most as many as a side list takes
abbrev pub max_arguments : ℕ
max_arguments = max_side

-- 1: no count exceeds its largest size or its list
unfoldable pub sizes_fit : Body → Bool
sizes_fit b =
    leb b.term_count max_terms && leb (b.term_count * term_cells) (length b.terms)
    && (leb b.argument_count max_arguments && leb b.argument_count (length b.arguments))
    && leb (b.atom_count * atom_cells) (length b.atoms)

-- 2: kinds of atoms and terms, parts of the argument list, arguments
abbrev pub atom_fits : Body → ℕ → Bool
atom_fits b a = leb (kind_at b a) 2 && leb (start_at b a + count_at b a) b.argument_count

unfoldable pub body_fits : Body → Bool
body_fits b =
    all (atom_fits b) (from 0 b.atom_count)
    && all (λ t. ltb t b.term_count) (part b.arguments 0 b.argument_count)
    && all (λ t. leb (term_kind b.terms t) 2) (from 0 b.term_count)

-- 7: no arguments, or an equality without exactly two
unfoldable pub shape_fits : ℕ → ℕ → Bool
shape_fits zero n = leb 1 n
shape_fits (suc zero) n = leb 1 n
shape_fits (suc (suc k)) n = eqb n 2

-- 7 and 10, atom by atom: the records and the cells of the side list that stand before an atom, with what it adds. Its
-- top-level entries are no more than its records, and a range never exceeds the terms
unfoldable pub atoms_refusal : Body → ℕ → ℕ → List ℕ → ℕ
atoms_refusal b n s [] = 0
atoms_refusal b n s (a ∷ as') =
    unless (shape_fits (kind_at b a) (length (arguments_at b a))) 7
    (unless (leb (n + records_in (given_at b a)) max_records && leb (s + length (side_in (given_at b a))) max_side) 10
    (atoms_refusal b (n + records_in (given_at b a)) (s + length (side_in (given_at b a))) as'))

-- the first refusal that is given, 0 where none is; for 5 and 6 the records are taken as 512
unfoldable pub grounded_refusal : Body → ℕ → ℕ → ℕ → ℕ
grounded_refusal b work sort_list errors =
    unless (sizes_fit b) 1
    (unless (body_fits b) 2
    (first_given (room_refusal b.term_count max_records work sort_list errors) (atoms_refusal b 0 0 (from 0 b.atom_count))))

-- Ungrounded
abbrev pub ungrounded : ℕ
ungrounded = 40

-- UnconstrainedVar becomes Ungrounded, of the same variable and place
unfoldable pub named : Outcome → Outcome
named o = record { number = cond (eqb o.number 31) ungrounded o.number; passes = o.passes; term = o.term; place = o.place }

-- a refusal changes nothing; else the buffers are as solve leaves them, and the first 512 entries of the error list zeroes
unfoldable pub checked_on : Exit → List ℕ → List ℕ → List ℕ → ℕ → Exit
checked_on e work sort_list errors (suc n) =
    record { outcome = record { number = suc n; passes = 0; term = 0; place = 0 }; work = work; sort_list = sort_list; errors = errors }
checked_on e work sort_list errors zero =
    record { outcome = named e.outcome; work = e.work; sort_list = e.sort_list; errors = filled (max_records * entry_cells) [] errors }

unfoldable pub grounded_exit : Body → List ℕ → List ℕ → List ℕ → Exit
grounded_exit b work sort_list errors =
    checked_on (exit (grounded_problem b) work sort_list errors) work sort_list errors (grounded_refusal b (length work) (length sort_list) (length errors))
