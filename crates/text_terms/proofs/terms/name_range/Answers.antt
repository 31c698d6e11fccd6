-- `name_range` meets its contract: the words up to i are named.
use native.Mathlib.Omega.{arith}
use borrow.Author.Rules.{rules}
use mathlib.Core.Path.{◌≡◌, refl, ◌∙◌}
use Rattle.text_words.specs.Laws.Parts.{parts_count}
use Rattle.text_terms.specs.Laws.Naming.{range_start, range_more, range_full}
use Rattle.text_terms.proofs.terms.name_range.Goals as goal

pub loop-i-init : goal.loop-i-init
loop-i-init c =
    let a = c.args in
    (search rules, refl, refl, refl, range_start (parts_count a.line.text.now a.term_names.now 0 a.k) (search rules))

pub returns-then-named-gt-MAX_TERMS : goal.returns-then-named-gt-MAX_TERMS
returns-then-named-gt-MAX_TERMS c =
    let l = c.loop-i in
    range_full (range_more l.invariant.4 (omega arith) l.invariant.0 l.invariant.3 (omega arith) c.name_word-named.ensures) (omega arith) c.if-named-gt-MAX_TERMS.true (omega arith)

pub loop-i-preserved : goal.loop-i-preserved
loop-i-preserved c =
    let l = c.loop-i in (
      c.if-named-gt-MAX_TERMS.false,
      c.name_word-named.auto.term_names ∙ l.invariant.1,
      c.name_word-named.auto.terms ∙ l.invariant.2,
      c.name_word-named.auto.numbers ∙ l.invariant.3,
      range_more l.invariant.4 (omega arith) l.invariant.0 l.invariant.3 (omega arith) c.name_word-named.ensures,
    )

pub returns : goal.returns
returns c = rw (let e : c.args.words.end ≡ c.loop-i.i = omega (arith, c.loop-i.auto.i-end c.requires.start_le_end.0) in e) c.loop-i.invariant.4
