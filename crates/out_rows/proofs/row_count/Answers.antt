-- `row_count` meets its contract.
use Rattle.std.proofs.Common.{sym}
use Rattle.out_rows.specs.Laws.{rows_refused, rows_many_terms, rows_many_records, rows_counted}
use Rattle.out_rows.proofs.row_count.Goals as goal
use Rattle.out_rows.proofs.row_count.Goals.{then-terms-gt-MOST_TERMS-via-then-terms-gt-MOST_TERMS, then-terms-gt-MOST_TERMS-via-else-terms-gt-MOST_TERMS+then-records-gt-MOST_RECORDS}

pub returns-then-ended-ne0 : goal.returns-then-ended-ne0
returns-then-ended-ne0 c = sym (rows_refused c.args.ended c.if-ended-ne0.true)

pub returns-then-terms-gt-MOST_TERMS : goal.returns-then-terms-gt-MOST_TERMS
returns-then-terms-gt-MOST_TERMS c =
    let r = c.args.ended in
    elim c.then-terms-gt-MOST_TERMS.branch [
      | then-terms-gt-MOST_TERMS-via-then-terms-gt-MOST_TERMS w ↦ sym (rows_many_terms r c.if-ended-ne0.false w.if-terms-gt-MOST_TERMS.true)
      | then-terms-gt-MOST_TERMS-via-else-terms-gt-MOST_TERMS+then-records-gt-MOST_RECORDS w
          ↦ sym (rows_many_records r c.if-ended-ne0.false w.if-terms-gt-MOST_TERMS.false w.if-records-gt-MOST_RECORDS.true)
    ]

pub returns : goal.returns
returns c = sym (rows_counted c.args.ended c.if-ended-ne0.false c.if-terms-gt-MOST_TERMS.false c.if-records-gt-MOST_RECORDS.false)
