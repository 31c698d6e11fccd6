-- The rows put and those that are left give all. There are 770 rows at most, each no longer than the line.
use Rattle.std.proofs.Common.{◌≡◌, ◌≤◌, length}
use Rattle.out_text.specs.Shows.{Rest}
use Rattle.out_text.proofs.put_rows.Given as goal

abbrev pub invariant-loop-k : goal.invariant-loop-k
invariant-loop-k l = record {
  long : length l.line ≡ 98404;
  few : l.rows ≤ 770;
  rest : Rest l.shown.text.now l.initial.out l.rows l.k l.at l.out;
}
