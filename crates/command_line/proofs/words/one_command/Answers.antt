use Rattle.command_line.proofs.Whole.{one_command_only}
use Rattle.command_line.proofs.words.one_command.Goals as goal

pub returns : goal.returns
returns c = one_command_only
