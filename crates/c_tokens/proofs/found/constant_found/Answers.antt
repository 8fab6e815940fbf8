use Rattle.std.proofs.Common.{◌∙◌, sym}
use Rattle.c_tokens.specs.Constants.{constant_of}
use Rattle.c_tokens.proofs.FoundLaws.{constant_found-is}
use Rattle.c_tokens.proofs.found.constant_found.Goals as goal

pub returns : goal.returns
returns c =
    constant_found-is c.args.text.now c.split_at.result.0.now c.split_at.result.1.now c.word_len-len.result c.value_found.result
    c.word_len-len.ensures.len c.split_at.ensures.front c.split_at.ensures.back (sym c.has_point.ensures ∙ c.if-has_point.false)
    (c.value_found.ensures (constant_of c.split_at.result.0.now) c.constant_of.ensures)
