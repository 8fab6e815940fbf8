use Rattle.workers.proofs.Searching.{refused_for_memory}
use Rattle.workers.proofs.search.couple.Goals as goal

pub for_memory-requires : goal.for_memory-requires
for_memory-requires c =
    refused_for_memory c.args.graphs.now.first c.args.graphs.now.second c.args.product.now c.args.family c.args.proofs c.in-Err.why
    c.requires.linear c.requires.checks c.in-Err.ensures
