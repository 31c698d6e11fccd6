-- What was written and the rows that are left have all bytes of the output.
use Rattle.std.proofs.Common.{◌≡◌, ◌≤◌, length}
use Rattle.out_text.specs.Shows.{Counted}
use Rattle.out_write.proofs.write_rows.Given as goal

abbrev pub invariant-loop-k : goal.invariant-loop-k
invariant-loop-k g l = record {
  long : length l.line ≡ 98404;
  few : l.rows ≤ 770;
  counted : Counted l.shown.text.now l.rows l.k l.bytes;
}
