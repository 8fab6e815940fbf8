use Rattle.c_tokens.specs.Bytes.{is_word_byte}
use Rattle.c_tokens.proofs.ConstantLaws.{prefix-passes}
use Rattle.c_tokens.proofs.found.lexeme_found.Goals as goal

pub word_found-requires : goal.word_found-requires
word_found-requires c = rw c.word_len.ensures.len (prefix-passes is_word_byte c.args.text.now)
