-- The test of the counts, with lists divided.
use Prim.Native.Nat.{ℕ, ◌*◌, ◌/◌, ◌<◌}
use native.Mathlib.Nat.{le-div_iff_mul-le, div-lt_iff_lt-mul}
use mathlib.Core.Path.{◌≡◌}
use mathlib.Core.Bool.{◌&&◌}
use mathlib.Core.List.{List}
use native.Mathlib.Omega.{arith}
use lib.Dec.{leb}
use lib.ListN.{length}
use Rattle.solve_records.proofs.Bools.{leb_same}
use Rattle.rule_signatures.specs.Tables.{signature_cells}
use Rattle.rule_lent.specs.Call.{call_cells}
use Rattle.rule_lent.specs.Fit.{Lending, max_signatures, max_signature_sorts, max_globals, max_arguments, terms_counted, tables_counted}

-- so many entries fit a list where they are no more than it has
pub divided : (n width l : ℕ) → 0 < width → leb (n * width) l ≡ leb n (l / width)
divided n width l h = leb_same (n * width) l n (l / width) (le-div_iff_mul-le h).1 (div-lt_iff_lt-mul h).1

pub terms_divided : (n : ℕ) (l : List ℕ) → terms_counted n l ≡ leb n (length l / 2)
terms_divided n l = divided n 2 (length l) (omega arith)

pub tables_divided : (d : Lending) → tables_counted d ≡
    (leb d.lent.signatures max_signatures && leb d.lent.signatures (length d.signatures / signature_cells)
    && (leb d.lent.signature_sorts max_signature_sorts && leb d.lent.signature_sorts (length d.signature_sorts))
    && (leb d.lent.globals max_globals && leb d.lent.globals (length d.globals))
    && (leb d.lent.arguments max_arguments && leb d.lent.arguments (length d.arguments))
    && leb d.lent.calls (length d.calls / call_cells)
    && terms_counted d.problem.counts.terms d.terms)
unfolding tables_counted
tables_divided d =
    rw (divided d.lent.signatures signature_cells (length d.signatures) (omega arith), divided d.lent.calls call_cells (length d.calls) (omega arith))
