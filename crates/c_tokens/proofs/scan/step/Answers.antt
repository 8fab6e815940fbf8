use Rattle.c_tokens.proofs.Ascii.{Unsupported-utf8}
use Rattle.c_tokens.proofs.scan.step.Goals as goal

pub unsupported-requires : goal.unsupported-requires
unsupported-requires c =
    Unsupported-utf8 c.args.place.front c.args.rest.now c.in_ok-len.field-0 c.in-Unsupported.len c.in_ok-len.ensures.found c.in-Unsupported.is
