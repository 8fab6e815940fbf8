use Rattle.workers.proofs.Stepping.{ground_of}
use Rattle.workers.proofs.alone.decide.Goals as goal

pub try_alignments-requires-clause-ground : goal.try_alignments-requires-clause-ground
try_alignments-requires-clause-ground c =
    ground_of c.args.subject.now c.args.graphs.now c.new-ground.result c.new-ground.ensures.made c.new-ground.ensures.limit
