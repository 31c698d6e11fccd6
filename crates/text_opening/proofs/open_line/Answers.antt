-- `open_line` meets its contract: its words, its verdict, what it declares.
use Rattle.std.proofs.Common.{◌≡◌, length, ap, ◌∙◌}
use Rattle.std.proofs.lemmas.List.Edits.{sets}
use Rattle.text_words.specs.Bytes.{space}
use Rattle.text_words.specs.Parts.{split, cuts, between}
use Rattle.text_declare.specs.Forms.{order_of}
use Rattle.text_opening.specs.Opening.{verdict_from}
use Rattle.text_opening.specs.Laws.{count_fits, declare_ready, opened_so}
use Rattle.text_opening.proofs.open_line.Goals.{After-split_words-count}
use Rattle.text_opening.proofs.open_line.Goals as goal

-- how many words it has, and where they are left
its_count : (c : After-split_words-count) → c.split_words-count.result ≡ length (split space (between c.args.text.now c.args.start c.args.end))
its_count c = rw c.between.ensures at c.split_words-count.ensures.value

its_words : (c : After-split_words-count) → c.split_words-count.new.table ≡ sets c.args.words.now 0 (cuts space c.args.start (between c.args.text.now c.args.start c.args.end))
its_words c = rw c.between.ensures at c.split_words-count.ensures.table_after

pub judge-requires-clause-line : goal.judge-requires-clause-line
judge-requires-clause-line c = let w = (goal.at.judge-requires-clause-line c).After-split_words-count in count_fits c.requires (its_count w) (its_words w)

pub declare_line-step-requires : goal.declare_line-step-requires
declare_line-step-requires c =
    let w = (goal.at.declare_line-step-requires c).After-split_words-count in
    rw c.begun-form.ensures.step (declare_ready c.requires (its_count w) (its_words w) (verdict_from c.judge.result))

pub returns : goal.returns
returns c =
    let w = (goal.at.returns c).After-split_words-count in
    let d = c.declare_line-step in
    rw c.begun-form.ensures.form
    (opened_so (its_count w) (its_words w) c.judge.ensures (c.order_of.ensures ∙ ap order_of c.begun-form.ensures.form) (rw c.begun-form.ensures.step at d.ensures.value) (rw c.begun-form.ensures.step at d.ensures.globals_after))
