-- From marks that are all 0, the two rounds of marking and the last test are the definition's test.
use Rattle.std.proofs.Common.{sym, ◌∙◌}
use Rattle.solve_records.specs.Lent.{seen}
use Rattle.solve_records.proofs.Named.{children_fail, entries_fail, marks_tell}
use Rattle.solve_records.proofs.trees.trees_fit.Goals.{then-mark_records, else-mark_records}
use Rattle.solve_records.proofs.trees.trees_fit.Goals as goal

pub returns-then-mark_list : goal.returns-then-mark_list
returns-then-mark_list c = elim c.if-mark_records.branch [
  | then-mark_records w ↦
      let first = rw w.if-mark_records.true at c.mark_records.ensures in
      let second = rw (sym w.value-is ∙ c.if-mark_list.true) at w.mark_list.ensures in
      c.all_marked.ensures ∙ rw w.marks-is (marks_tell (seen c.args.problem) _ first _ second)
  | else-mark_records w ↦ absurd (cc)
]

pub returns-else-mark_list : goal.returns-else-mark_list
returns-else-mark_list c = elim c.if-mark_records.branch [
  | then-mark_records w ↦
      let first = rw w.if-mark_records.true at c.mark_records.ensures in
      let second = rw (sym w.value-is ∙ c.if-mark_list.false) at w.mark_list.ensures in
      c.if-mark_list.false ∙ sym (entries_fail (seen c.args.problem) _ first second)
  | else-mark_records w ↦ c.if-mark_list.false ∙ sym (children_fail (seen c.args.problem) (rw w.if-mark_records.false at c.mark_records.ensures))
]
