use Rattle.std.proofs.Common.{◌∙◌}
use Rattle.command_line.proofs.Values.{parsed_value}
use Rattle.command_line.proofs.kind.value.Goals as goal

pub returns : goal.returns
returns c = c.ok.ensures.value ∙ parsed_value c.args.word.now c.parse.result c.parse.ensures.value.0
