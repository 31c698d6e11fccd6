-- `split_words` meets its contract: what is left from byte i on, cut and written behind the n parts that are there, gives what
-- all gives from the start.
use Rattle.std.proofs.Common.{ℕ, ◌≡◌, ◌+◌, ◌*◌, [], ◌∷◌, List, length, ap, sym, ◌∙◌, arith}
use Rattle.std.proofs.lemmas.List.Edits.{sets}
use Rattle.text_words.specs.Laws.Parts.{count_cut, count_on, count_end, cut_here, cut_on, cut_end}
use Rattle.text_words.proofs.parts.split_words.Goals.{then-b-eq32, else-b-eq32}
use Rattle.text_words.proofs.parts.split_words.Goals as goal

pub loop-i-preserved : goal.loop-i-preserved
loop-i-preserved c =
    let line = c.args.line.now in
    let i = c.loop-i.i in
    let h = c.loop-i-test.true in
    elim c.if-b-eq32.branch [
      | then-b-eq32 w ↦ rw (w.n-is, w.start-is, w.table-is, w.put_part.ensures) (record {
        few = omega arith;
        cut = sym (cut_here 32 line i c.args.base c.loop-i.start c.loop-i.table c.loop-i.n h w.if-b-eq32.true) ∙ c.loop-i.invariant.cut;
        counted = omega (arith, count_cut 32 line i h w.if-b-eq32.true, c.loop-i.invariant.counted);
      })
      | else-b-eq32 w ↦ rw (w.n-is, w.start-is, w.table-is) (record {
        few = omega arith;
        cut = ap (λ (cells : List ℕ). sets c.loop-i.table (c.loop-i.n * 2) cells) (sym (cut_on 32 line i c.args.base c.loop-i.start h w.if-b-eq32.false)) ∙ c.loop-i.invariant.cut;
        counted = omega (arith, count_on 32 line i h w.if-b-eq32.false, c.loop-i.invariant.counted);
      })
    ]

pub returns : goal.returns
returns c =
    let a = c.args in
    let h = c.loop-i-test.false in
    let e : length a.line.now ≡ c.loop-i.i = omega arith in record {
      value = omega (arith, count_end 32 a.line.now c.loop-i.i h, c.loop-i.invariant.counted);
      table_after = c.put_part-2.ensures
          ∙ ap (λ (k : ℕ). sets c.loop-i.table (c.loop-i.n * 2) (c.loop-i.start ∷ (a.base + k) ∷ [])) e
          ∙ ap (λ (cells : List ℕ). sets c.loop-i.table (c.loop-i.n * 2) cells) (sym (cut_end 32 a.line.now c.loop-i.i a.base c.loop-i.start h))
          ∙ c.loop-i.invariant.cut;
    }
