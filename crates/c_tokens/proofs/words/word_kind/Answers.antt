use Rattle.c_tokens.proofs.WordText.{words-utf8}
use Rattle.c_tokens.proofs.words.word_kind.Goals as goal

pub unreachable-requires : goal.unreachable-requires
unreachable-requires c = c.in_default-from_utf8.ensures.cases.0 (words-utf8 c.args.word.now c.requires)
