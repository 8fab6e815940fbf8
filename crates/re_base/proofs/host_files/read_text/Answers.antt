use Rattle.std.proofs.Common.{arith}
use Rattle.re_base.proofs.Known.{IsWhole-take}
use Rattle.re_base.proofs.host_files.read_text.Goals as goal

pub returns-in-Ok-2-clause-whole : goal.returns-in-Ok-2-clause-whole
returns-in-Ok-2-clause-whole g c =
    let known = g.F.Read.remaining c.take.result.inner in
    let limit = c.take.result.limit in
    let given = c.in-Ok-2.ensures.bytes in
    rw (← c.take.ensures.inner) (
    IsWhole-take known limit c.new-bytes.result.items c.read_to_end.new.buf.items c.new-bytes.ensures.items given (omega (arith, c.take.ensures.limit))
    )
