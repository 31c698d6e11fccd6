-- `say_line` meets its contract: the laws of Said at each way out, by the shape of the line.
use native.Mathlib.Omega.{arith}
use mathlib.Core.Path.{sym, ◌∙◌}
use Rattle.std.proofs.Common.{ap}
use Rattle.std.proofs.lemmas.Result.{err_from_is_err_and}
use Rattle.definition.specs.Numbers.{refused}
use Rattle.text_calls.specs.Line.{store_of}
use Rattle.text_calls.specs.Laws.Shape.{shaped_there, ends_line}
use Rattle.text_calls.specs.Laws.Said.{Heard, Replied, said_silent, said_full, few, said_refused, said_terms, said_added}
use Rattle.text_calls.proofs.say_line.Goals.{After-hear-heard}
use Rattle.text_calls.proofs.say_line.Goals as goal

-- the terms are named
abbrev heard : (c : After-hear-heard) → let a = c.args in Heard a.line.text.now a.declared.numbers (store_of a.declared a.term_names.now a.terms.now a.records.now a.side.now a.tops.now a.range.now) a.line.table.now a.line.count c.shape_of-shape.result a.place c.hear-heard.result.named c.hear-heard.new.term_names c.hear-heard.new.terms c.hear-heard.new.numbers (refused c.hear-heard.result.full)
heard c = record {
  numbers = c.args.numbers.now;
  call = c.hear-heard.result.call;
  shaped = shaped_there c.args.f c.args.line.count c.shape_of-shape.ensures c.requires.count_value;
  speaking = sym c.is_silent.ensures ∙ c.if-is_silent.false;
  room = c.requires.speaks.scratch;
  length' = c.hear-heard.auto.numbers;
  line = c.hear-heard.ensures.line;
  call' = c.hear-heard.ensures.call';
  full' = c.hear-heard.ensures.full';
}

pub returns-then-is_silent : goal.returns-then-is_silent
returns-then-is_silent c =
    let a = c.args in
    let t = store_of a.declared a.term_names.now a.terms.now a.records.now a.side.now a.tops.now a.range.now in
    ends_line a.f a.line.count c.shape_of-shape.ensures c.requires.count_value a.line.text.now a.line.table.now a.place a.declared.numbers t t _ (said_silent c.shape_of-shape.result.way c.shape_of-shape.result a.line.text.now a.line.table.now a.line.count a.declared.numbers t a.place c.requires.speaks.within (sym c.is_silent.ensures ∙ c.if-is_silent.true))

pub hear-heard-requires : goal.hear-heard-requires
hear-heard-requires c =
    let a = c.args in
    let p = c.requires.speaks in
    record {
      shaped = shaped_there a.f a.line.count c.shape_of-shape.ensures c.requires.count_value;
      words' = p.words≤;
      heads' = omega (arith, p.sized.tabled.head_names', p.within.heads≤);
      room = (omega (arith, p.sized.tabled.sort_names', p.within.sorts≤), (omega (arith, p.sized.tabled.global_names', p.within.globals≤), (p.within.terms≤, omega (arith, p.sized.term_names'))));
      context< = p.context<;
      heads≤ = p.within.heads≤;
    }

pub returns-in_err-heard : goal.returns-in_err-heard
returns-in_err-heard c =
    let a = c.args in
    let p = err_from_is_err_and c.from_residual.result c.from_residual.ensures.1 in
    rw (p.1, p.2) (ends_line a.f a.line.count c.shape_of-shape.ensures c.requires.count_value a.line.text.now a.line.table.now a.place a.declared.numbers (store_of a.declared a.term_names.now a.terms.now a.records.now a.side.now a.tops.now a.range.now) (store_of a.declared c.hear-heard.new.term_names c.hear-heard.new.terms a.records.now a.side.now a.tops.now a.range.now) _ (said_full (heard (goal.at.returns-in_err-heard c).After-hear-heard) _ _ (ap refused c.in_err-heard.was)))

pub ask-done-requires : goal.ask-done-requires
ask-done-requires c = few (heard (goal.at.ask-done-requires c).After-hear-heard) (ap refused c.in_ok-heard.was)

pub returns-in_err-counts : goal.returns-in_err-counts
returns-in_err-counts c =
    let a = c.args in
    let h = heard (goal.at.returns-in_err-counts c).After-hear-heard in
    -- and its call is answered
    let r : Replied h c.ask-done.new.terms c.ask-done.new.records c.ask-done.new.side c.ask-done.new.tops c.ask-done.new.range c.ask-done.result =
    record { sort = c.hear-heard.result.sort; sort' = c.hear-heard.ensures.sort'; asked = c.ask-done.ensures } in
    let p = err_from_is_err_and c.from_residual-in_err-counts.result c.from_residual-in_err-counts.ensures.1 in
    rw (p.1, p.2) (ends_line a.f a.line.count c.shape_of-shape.ensures c.requires.count_value a.line.text.now a.line.table.now a.place a.declared.numbers (store_of a.declared a.term_names.now a.terms.now a.records.now a.side.now a.tops.now a.range.now) (store_of a.declared c.hear-heard.new.term_names c.ask-done.new.terms c.ask-done.new.records c.ask-done.new.side c.ask-done.new.tops c.ask-done.new.range) _ (said_refused h (ap refused c.in_ok-heard.was) r _ _ (sym c.in_err-counts.ensures)))

pub name_fresh-requires : goal.name_fresh-requires
name_fresh-requires c =
    let h = heard (goal.at.name_fresh-requires c).After-hear-heard in
    -- and its call is answered
    let r : Replied h c.ask-done.new.terms c.ask-done.new.records c.ask-done.new.side c.ask-done.new.tops c.ask-done.new.range c.ask-done.result =
    record { sort = c.hear-heard.result.sort; sort' = c.hear-heard.ensures.sort'; asked = c.ask-done.ensures } in
    let t = said_terms h (ap refused c.in_ok-heard.was) r (sym c.in_ok-counts.ensures) in
    (t.0, t.1, omega (arith, c.requires.speaks.sized.term_names', c.hear-heard.auto.term_names))

pub returns : goal.returns
returns c =
    let a = c.args in
    let h = heard (goal.at.returns c).After-hear-heard in
    -- and its call is answered
    let r : Replied h c.ask-done.new.terms c.ask-done.new.records c.ask-done.new.side c.ask-done.new.tops c.ask-done.new.range c.ask-done.result =
    record { sort = c.hear-heard.result.sort; sort' = c.hear-heard.ensures.sort'; asked = c.ask-done.ensures } in
    rw c.numbers_by.ensures
    (ends_line a.f a.line.count c.shape_of-shape.ensures c.requires.count_value a.line.text.now a.line.table.now a.place a.declared.numbers (store_of a.declared a.term_names.now a.terms.now a.records.now a.side.now a.tops.now a.range.now) (store_of a.declared c.name_fresh.new.term_names c.ask-done.new.terms c.ask-done.new.records c.ask-done.new.side c.ask-done.new.tops c.ask-done.new.range) _ (said_added h (ap refused c.in_ok-heard.was) r (sym c.in_ok-counts.ensures) c.name_fresh.new.term_names c.requires.speaks.within c.name_fresh.ensures))
