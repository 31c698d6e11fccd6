-- `line` meets its contract: it is opened, and then what it says is said.
use native.Mathlib.Omega.{arith}
use Rattle.text_opening.specs.Opening.{Opens}
use Rattle.text_definition.specs.Store.{Sized}
use Rattle.text_lines.specs.Lists.{store_in}
use Rattle.text_lines.specs.Laws.Taking.{opens_store, speaks, line_taken}
use Rattle.text_lines.proofs.line.line.Goals.{After-open_line-opened}
use Rattle.text_lines.proofs.line.line.Goals as goal

-- the lists have their sizes
abbrev sized : (c : After-open_line-opened) → Sized (store_in c.args.printed.now c.args.lists.now)
sized c = record {
  tabled = record { sort_names' = omega arith; global_names' = omega arith; head_names' = omega arith; signatures' = omega arith };
  term_names' = omega arith;
  signature_sorts' = omega arith;
  globals' = omega arith;
  terms' = omega arith;
  records' = omega arith;
  side' = omega arith;
  tops' = omega arith;
  range' = omega arith;
}

-- of all lists
opened : (c : After-open_line-opened) → let a = c.args in let p = a.printed.now in let l = a.lists.now in let o = c.open_line-opened in Opens a.text.now a.start a.end a.n l.words (store_in p l) o.result.form o.result.count o.result.step o.new.words (store_in (record { sort_names = o.new.sort_names; head_names = o.new.head_names; term_names = p.term_names; sort_list = p.sort_list; errors = p.errors }) (record { global_names = o.new.global_names; signatures = o.new.signatures; signature_sorts = o.new.signature_sorts; globals = o.new.globals; terms = l.terms; records = l.records; side = l.side; tops = l.tops; range = l.range; words = o.new.words; numbers = l.numbers; work = l.work }))
opened c =
    let l = c.args.lists.now in
    opens_store c.open_line-opened.ensures c.args.printed.now.term_names l.terms l.records l.side l.tops l.range

pub open_line-opened-requires : goal.open_line-opened-requires
open_line-opened-requires c =
    record {
      ordered = c.requires.ordered;
      inside = c.requires.inside;
      short = c.requires.short;
      words' = omega arith;
      tabled = record { sort_names' = omega arith; global_names' = omega arith; head_names' = omega arith; signatures' = omega arith };
      within = c.requires.within;
    }

pub say_line-said-requires : goal.say_line-said-requires
say_line-said-requires c =
    let told = speaks c.requires (sized (goal.at.say_line-said-requires c).After-open_line-opened) (omega arith) (opened (goal.at.say_line-said-requires c).After-open_line-opened) (omega arith) in
    record { count_value = told.0; speaks = told.1 }

pub returns : goal.returns
returns c =
    line_taken c.requires (sized (goal.at.returns c).After-open_line-opened) (omega arith) (opened (goal.at.returns c).After-open_line-opened) c.args.place c.say_line-said.result _ c.say_line-said.ensures c.joined.ensures
