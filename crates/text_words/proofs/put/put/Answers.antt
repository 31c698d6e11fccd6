-- `put` meets its contract: what is left from byte i on, put behind the i bytes that are there, gives what all gives.
use Rattle.std.proofs.Common.{refl, rules, sym, ◌∙◌, add-zero}
use Rattle.std.proofs.Math.ListN.{length-set}
use Rattle.text_words.specs.Laws.Put.{put_next, put_end}
use Rattle.text_words.proofs.put.put.Goals as goal

pub loop-i-init : goal.loop-i-init
loop-i-init c = (refl, rw add-zero refl)

pub loop-i-preserved : goal.loop-i-preserved
loop-i-preserved c =
    let a = c.args in
    let w = c.loop-i in (
      simp length-set (search rules),
      sym (put_next w.out a.at a.bytes.now w.i (search rules)) ∙ w.invariant.1,
    )

pub returns : goal.returns
returns c =
    let a = c.args in
    let w = c.loop-i in
    record { ends = refl; holds = sym (put_end w.out a.at a.bytes.now w.i (search rules)) ∙ w.invariant.1 }
