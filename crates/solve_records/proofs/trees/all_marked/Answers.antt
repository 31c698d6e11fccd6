-- Each record's mark is tested.
use Rattle.std.proofs.Common.{◌∙◌, arith, rules, tests, eqb, get_or, ℕ}
use Rattle.std.proofs.lemmas.Iterator.{YieldsList-from_range}
use Rattle.std.proofs.lemmas.Iterator.Search.{all_from_yields_List}
use Rattle.definition.proofs.Laws.Chains.{all_from_made}
use Rattle.solve_records.proofs.trees.all_marked.Goals as goal

pub returns : goal.returns
returns c =
    let a = c.args in
    let marked = λ (k : ℕ). eqb (get_or a.marks.now k 0) 1 in
    all_from_yields_List marked _ _ _ c.all.ensures.ran (YieldsList-from_range 0 a.count a.count (cc) (omega arith)) (λ x b q k. search (rules, tests))
    ∙ all_from_made marked a.count
