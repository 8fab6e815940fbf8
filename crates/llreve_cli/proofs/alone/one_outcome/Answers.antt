use Rattle.llreve_cli.proofs.OneOutcome.{outcome_once}
use Rattle.llreve_cli.proofs.alone.one_outcome.Goals as goal

pub returns : goal.returns
returns c = outcome_once
