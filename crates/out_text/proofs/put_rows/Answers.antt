-- The rows put and those that are left give all.
use Rattle.std.proofs.Common.{◌∙◌, arith, length, refl}
use Rattle.out_rows.specs.Laws.{rows_most}
use Rattle.out_text.specs.Shows.{rest_all, rest_next, rest_end}
use Rattle.out_text.proofs.put_rows.Goals as goal

pub loop-k-init : goal.loop-k-init
loop-k-init c = record {
  long = refl;
  few = omega (arith, rows_most c.args.shown.ended, c.row_count-rows.ensures);
  rest = rest_all c.args.shown.text.now c.args.out.now c.row_count-rows.result (c.row_count-rows.ensures ∙ c.requires.count);
}

pub loop-k-preserved : goal.loop-k-preserved
loop-k-preserved c =
    let put = c.put_row-n in
    let l = c.loop-k in record {
      long = put.auto.line ∙ l.invariant.long;
      few = l.invariant.few;
      rest = rest_next _ _ _ l.k l.at l.out l.line put.new.line _ put.result _ _
          l.invariant.rest c.loop-k-test.true (c.requires.rows (length l.line) l.k (omega (arith, l.invariant.long))) l.invariant.long put.ensures.put put.ensures.upper_bound c.put_fitting-at.auto.out c.put_fitting-at.ensures;
    }

pub returns : goal.returns
returns c = rest_end c.loop-k.invariant.rest (omega arith)
