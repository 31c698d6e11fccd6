-- `add_permitted` meets its contract.
use Rattle.std.proofs.Common.{rules, arith, sym, ap, ◌∙◌}
use Rattle.std.proofs.Math.Nat.{sub-zero}
use lib.ListN.{length}
use Rattle.rule_heads.specs.Alternatives.{is_permitted}
use Rattle.rule_heads.specs.Laws.{keep_not, keep_end, keep_put, keep_counted}
use Rattle.rule_heads.proofs.alternatives.add_permitted.Goals as goal
use Rattle.rule_heads.proofs.alternatives.add_permitted.Goals.{then-is_permitted, else-is_permitted}

pub loop-number-init : goal.loop-number-init
loop-number-init c = record { few = search rules; added = rw sub-zero; counted = rw sub-zero }

pub loop-number-preserved : goal.loop-number-preserved
loop-number-preserved c =
    let a = c.args in
    let w = c.loop-number in
    let i = w.number in
    let t = c.loop-number-test.true in
    let p = is_permitted a.signatures.now a.head a.context in
    elim c.if-is_permitted.branch [
      | then-is_permitted b ↦
          let e = sym c.is_permitted.ensures ∙ b.if-is_permitted.true in
          rw (b.found-is, b.end-is) (record { few = omega (arith, w.invariant.few); added = keep_put p i a.declared w.found b.put.new.list w.end t e b.put.ensures ∙ w.invariant.added; counted = keep_counted p i a.declared w.end t e ∙ w.invariant.counted })
      | else-is_permitted b ↦
          let f = keep_not p i a.declared t (sym c.is_permitted.ensures ∙ b.if-is_permitted.false) in
          rw (b.found-is, b.end-is) (record { few = omega (arith, w.invariant.few); added = rw f at w.invariant.added; counted = rw f at w.invariant.counted })
    ]

pub returns : goal.returns
returns c =
    let a = c.args in
    let w = c.loop-number in
    let f = keep_end (is_permitted a.signatures.now a.head a.context) w.number a.declared c.loop-number-test.false in
    (rw f at w.invariant.added, omega (arith, ap length f, w.invariant.counted))
