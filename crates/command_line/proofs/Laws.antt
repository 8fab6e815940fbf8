-- The public law (`one_command` of src/words.rt) with its proof: what the proofs of other crates may cite.
use Rattle.command_line.specs.CommandLine.{IsOneCommand}
use Rattle.command_line.proofs.Whole.{one_command_only}

pub one_command : IsOneCommand
one_command = one_command_only
