use Rattle.std.proofs.Common.{ℕ, ◌+◌, ◌≤◌, ◌≡◌, ◌∙◌, ap, arith, refl, List, length, take, length-take-le}
use Rattle.std.specs.Prelude.{Ok, Err}
use Rattle.text_definition.specs.Run.{text_end}
use Rattle.text_definition.specs.Rows.{row_of}
use Rattle.out_rows.specs.declared.Shown.{Shown}
use Rattle.out_rows.specs.Shown.{shown}
use Rattle.out_rows.specs.Room.{fitted}
use Rattle.out_rows.specs.Laws.{rows_most}
use Rattle.out_text.specs.Shows.{ShowsText, counted_none, counted_end}
use Rattle.out_write.specs.Laws.{row_failed, row_whole}
use Rattle.out_write.proofs.write_rows.Goals as goal

-- what is handed to be written is row k
row_is : (w : Shown) (line line' : List ℕ) (n k : ℕ) → ShowsText w → length line ≡ 98404 → length line' ≡ length line → n ≤ length line → n ≡ 0 + length (fitted w.text.now (length line) (shown w) k)
    → length (take n line') ≡ length (row_of (text_end w.text.now) k)
row_is w line line' n k shows long same short ends =
    let counted : n ≡ length (fitted w.text.now (length line) (shown w) k) = omega (arith, ends) in
    length-take-le n line' (omega arith) ∙ counted ∙ ap length (shows.rows (length line) k (omega arith))

pub loop-k-init : goal.loop-k-init
loop-k-init g c = record {
  long = refl;
  few = omega (arith, rows_most c.args.shown.ended, c.row_count-rows.ensures);
  counted = counted_none c.args.shown.text.now c.row_count-rows.result (c.row_count-rows.ensures ∙ c.requires.count);
}

pub returns-in-Err : goal.returns-in-Err
returns-in-Err g c =
    let put = c.put_row-n in
    let is = row_is c.args.shown c.loop-k.line put.new.line put.result c.loop-k.k c.requires c.loop-k.invariant.long put.auto.line put.ensures.upper_bound put.ensures.put.ends in
    omega (arith, row_failed c.args.shown.text.now c.row_count-rows.result c.loop-k.k c.loop-k.bytes _ (Err c.in-Err.broken) c.loop-k.invariant.counted c.loop-k-test.true is c.in-Err.ensures refl c.behind.result c.behind.ensures)

pub loop-k-preserved : goal.loop-k-preserved
loop-k-preserved g c =
    let put = c.put_row-n in
    let is = row_is c.args.shown c.loop-k.line put.new.line put.result c.loop-k.k c.requires c.loop-k.invariant.long put.auto.line put.ensures.upper_bound put.ensures.put.ends in record {
      long = put.auto.line ∙ c.loop-k.invariant.long;
      few = c.loop-k.invariant.few;
      counted = row_whole c.args.shown.text.now c.row_count-rows.result c.loop-k.k c.loop-k.bytes _ (Ok c.in-Ok.row) c.loop-k.invariant.counted c.loop-k-test.true is
          (omega (arith, length-take-le put.result put.new.line (omega (arith, put.auto.line, put.ensures.upper_bound)), put.ensures.upper_bound, c.loop-k.invariant.long))
          c.in-Ok.ensures
          refl;
    }

pub returns : goal.returns
returns g c = counted_end c.loop-k.invariant.counted (omega arith)
