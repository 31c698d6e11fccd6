-- `known_term` meets its contract: behind `=`, what stands before the `:`.
use Rattle.std.proofs.Common.{sym, ◌∙◌, rules, tests}
use Rattle.text_words.specs.Laws.Names.{sort_part_lem}
use Rattle.text_known.specs.Laws.{known_literal}
use Rattle.text_known.proofs.known_term.Goals as goal

pub returns-in-61 : goal.returns-in-61
returns-in-61 c =
    (rw (c.between.ensures, sort_part_lem _ c.find_byte.result c.find_byte.ensures) at c.is_in-in-61.ensures)
    ∙ sym (known_literal _ _ c.args.w.now (search (rules, tests)))
