use Rattle.std.proofs.Common.{sym}
use Rattle.c_tokens.proofs.GapLaws.{line-some, Stands-other_ok, IsWithin-other_ok}
use Rattle.c_tokens.proofs.found.found_at.Goals as goal

pub returns-in-Line-clause-within : goal.returns-in-Line-clause-within
returns-in-Line-clause-within c =
    (rw c.line_len.ensures.len (line-some c.args.text.now c.requires.some (c.opening_of.ensures.line c.in-Line.is)), c.line_len.ensures.within)

pub returns-in-Other-clause-found : goal.returns-in-Other-clause-found
returns-in-Other-clause-found c =
    Stands-other_ok c.args.front c.args.text.now c.lexeme_found.result c.requires.some (sym c.in-Other.ensures.opening) c.lexeme_found.ensures

pub returns-in-Other-clause-within : goal.returns-in-Other-clause-within
returns-in-Other-clause-within c = IsWithin-other_ok c.args.text.now c.lexeme_found.result c.requires.some c.lexeme_found.ensures
