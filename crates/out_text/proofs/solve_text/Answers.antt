-- `solve_text` meets its contract: the lists that `read_text` leaves show the text's output.
use Rattle.text_lines.specs.Lists.{store_in}
use Rattle.out_text.specs.Shows.{shows_text}
use Rattle.out_text.proofs.solve_text.Goals as goal

pub returns : goal.returns
returns c =
    let printed = c.read_text.new.printed in
    let lists = c.read_text.new.lists in
    shows_text c.args.text.now c.read_text.result (store_in printed lists) lists.work printed.sort_list printed.errors c.read_text.ensures.errors_after
