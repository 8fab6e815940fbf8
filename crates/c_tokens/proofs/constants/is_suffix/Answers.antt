use Rattle.c_tokens.specs.Constants.{is_suffix}
use Rattle.c_tokens.specs.Tables.{suffixes}
use Rattle.c_tokens.proofs.constants.is_suffix.Goals as goal

pub returns : goal.returns
unfolding is_suffix suffixes
returns c = c.is_among.ensures
