-- `read_signature` meets its contract: by the signature's kind.
use Rattle.std.specs.Option.{MatchOption}
use Rattle.std.proofs.Common.{sym, ◌∙◌, rules, ◌≡◌}
use Rattle.rule_signatures.specs.Shapes.{with_common, with_length, with_output}
use Rattle.rule_signatures.specs.Laws.{simple_kind, all_equal_kind, reads_as, narrowed}
use Rattle.rule_signatures.proofs.table.read_signature.Goals as goal

pub returns-in-AllEqualPrimitive : goal.returns-in-AllEqualPrimitive
returns-in-AllEqualPrimitive c =
    let a = c.args in
    let x = c.new-bare.result in
    let y = c.map_or-some.result in
    let z = c.map_or-more.result in
    let w = c.map_or-all.result in
    let common : MatchOption c.optional-common.result (y ≡ x) (λ v. y ≡ with_common x v) = search rules in
    let len : MatchOption c.optional-length.result (z ≡ y) (λ v. z ≡ with_length y v) = search rules in
    let out : MatchOption c.optional-output.result (w ≡ z) (λ v. w ≡ with_output z v) = search rules in
    narrowed a.signatures.now a.number _ _ _ _ x y z w
    (rw c.kind_at.ensures at (all_equal_kind c.kind_at.result (sym c.from.ensures ∙ c.in-AllEqualPrimitive.is)))
    c.head_at-head.ensures
    (rw c.signature_cell.ensures at c.optional-common.ensures)
    (rw c.signature_cell-in-AllEqualPrimitive.ensures at c.optional-length.ensures)
    (rw c.signature_cell-in-AllEqualPrimitive-2.ensures at c.optional-output.ensures)
    c.new-bare.ensures common len out

pub returns : goal.returns
returns c = reads_as _ _ _ _ _ _ _ c.kind_at.ensures (simple_kind c.kind_at.result (λ e. c.in_default.not-AllEqualPrimitive (c.from.ensures ∙ e))) c.head_at-head.ensures c.signature_cell-start.ensures c.signature_cell-count.ensures c.new.ensures
