-- `name_fresh` meets its contract: up to i the names are empty.
use native.Mathlib.Omega.{arith}
use mathlib.Core.Path.{◌∙◌}
use Rattle.text_terms.specs.Laws.Naming.{unnamed_more}
use Rattle.text_terms.proofs.terms.name_fresh.Goals as goal

pub loop-i-preserved : goal.loop-i-preserved
loop-i-preserved c =
    let a = c.args in
    let l = c.loop-i in (
      c.put_part.auto.table ∙ l.invariant.0,
      unnamed_more a.term_names.now l.term_names _ a.from l.i (omega arith) (omega arith) l.invariant.1 c.put_part.ensures,
    )
