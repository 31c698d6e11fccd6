-- Where marks are kinds, what enters are the variables.
use Rattle.grounded_body.specs.Parts.{seen}
use Rattle.grounded_body.proofs.Entering.{range_room_lem, range_filled}
use Rattle.grounded_body.proofs.range.fill.Goals as goal

pub enter_all-requires : goal.enter_all-requires
enter_all-requires c = range_room_lem (seen c.args.body) c.requires c.mark_constants.new.marks c.mark_constants.auto.marks c.mark_constants.ensures

pub returns : goal.returns
returns c =
    range_filled (seen c.args.body) c.requires c.mark_constants.new.marks c.mark_constants.auto.marks c.mark_constants.ensures
    c.args.range.now _ _ c.enter_all.result c.enter_all.ensures
