use Rattle.std.proofs.Common.{◌<◌, ◌+◌, ◌*◌, ◌-◌, ◌/◌, ◌%◌, length, arith, length-append}
use Rattle.pool_core.proofs.Paging.{pairs_in, length_full, page_holds, last_holds}
use Rattle.pool_core.proofs.pages.Pages.get.Goals as goal

pub bounds-as_slice-at : goal.bounds-as_slice-at
bounds-as_slice-at c =
    let within : c.args.at < length (pairs_in c.self.inside.full) + length c.self.inside.last =
    rw (← c.self.view_is, length-append) at c.requires in
    rw c.as_slice-else-page-len.ensures
    (omega (arith, c.len.ensures, c.len-else-page-len.ensures, c.if-page-len.false, length_full c.self.inside.full c.self.invariant.0))

pub returns-then-page-len : goal.returns-then-page-len
returns-then-page-len c =
    let found = rw c.as_slice.ensures at c.index-as_slice-page.is in
    rw (← c.self.view_is) (page_holds c.self.inside.full c.self.inside.last c.args.at (c.args.at / 32) (c.args.at % 32) _ _ c.self.invariant.0
    (omega arith) (omega (arith, c.len.ensures, c.if-page-len.true)) (omega arith) found c.pair.ensures)

pub returns-else-page-len : goal.returns-else-page-len
returns-else-page-len c =
    let within : c.args.at < length (pairs_in c.self.inside.full) + length c.self.inside.last =
    rw (← c.self.view_is, length-append) at c.requires in
    let found = rw c.as_slice-else-page-len.ensures at c.index-as_slice-at.is in
    rw (← c.self.view_is) (last_holds c.self.inside.full c.self.inside.last c.args.at (c.args.at - c.len-else-page-len.result * 32) _ c.self.invariant.0
    (omega (arith, c.len.ensures, c.len-else-page-len.ensures, c.if-page-len.false))
    (omega (arith, c.len.ensures, c.len-else-page-len.ensures, c.if-page-len.false, length_full c.self.inside.full c.self.invariant.0)) found)
