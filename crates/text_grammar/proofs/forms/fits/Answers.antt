-- `fits` meets its contract: a word is missing, or what the chain makes.
use Rattle.std.proofs.Common.{◌∙◌, sym, rules, tests, arith}
use Rattle.std.proofs.lemmas.Bool.{lt-leb}
use Rattle.std.proofs.lemmas.Iterator.{YieldsList-from_range}
use Rattle.std.proofs.lemmas.Iterator.Search.{all_from_yields_List}
use Rattle.text_words.specs.Parts.{part_at}
use Rattle.text_grammar.specs.Grammar.{spelt, kind_at}
use Rattle.text_grammar.specs.Laws.{fits_short, fits_long, pass_made}
use Rattle.text_grammar.proofs.forms.fits.Goals as goal

pub returns-then-pattern-line : goal.returns-then-pattern-line
returns-then-pattern-line c =
    let l = c.args.line in
    let r = c.pattern_of-pattern.result in
    all_from_yields_List (λ i. spelt c.args.f (kind_at r i) (part_at l.text.now l.table.now i)) _ _ _ c.all.ensures.ran (YieldsList-from_range 0 l.count l.count (cc) (omega arith)) (λ x b q k. search (rules, tests))
    ∙ pass_made (spelt c.args.f) r l.text.now l.table.now 0 l.count
    ∙ sym (fits_long c.args.f r l.text.now l.table.now l.count c.pattern_of-pattern.ensures c.if-pattern-line.true)

pub returns-else-pattern-line : goal.returns-else-pattern-line
returns-else-pattern-line c =
    let l = c.args.line in
    lt-leb _ _ c.if-pattern-line.false ∙ sym (fits_short c.args.f c.pattern_of-pattern.result l.text.now l.table.now l.count c.pattern_of-pattern.ensures c.if-pattern-line.false)
