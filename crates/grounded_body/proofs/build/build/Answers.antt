-- Laid and filled, the lists are those of the body's problem.
use Rattle.grounded_body.specs.Parts.{seen}
use Rattle.grounded_body.proofs.Building.{built}
use Rattle.grounded_body.proofs.build.build.Goals as goal

pub returns : goal.returns
returns c =
    built (seen c.args.body) c.requires.accepted _ _ _ _ _ _ _ _ c.requires.buffers c.lay-laid.result c.fill-entries.result c.lay-laid.ensures c.fill-entries.ensures
