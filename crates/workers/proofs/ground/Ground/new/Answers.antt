use Rattle.workers.proofs.Grounding.{can_ask}
use Rattle.workers.proofs.ground.Ground.new.Goals as goal

pub condition_of-requires : goal.condition_of-requires
condition_of-requires c = can_ask c.args.subject.now c.args.graphs.now c.first.ensures.formed c.requires
