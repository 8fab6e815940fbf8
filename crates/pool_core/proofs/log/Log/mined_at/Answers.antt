use Rattle.std.proofs.Common.{get_or, None}
use Rattle.pool_core.specs.History.{has_mined}
use Rattle.pool_core.specs.Tables.{Logged}
use Rattle.pool_core.proofs.Places.{some_of, within_of}
use Rattle.pool_core.proofs.Tables.{two_place}
use Rattle.pool_core.proofs.log.Log.mined_at.Goals as goal

pub returns-clause-some : goal.returns-clause-some
returns-clause-some c =
    let before = c.self.inside in
    let log : Logged = record { samples = before.samples; items = before.items.items } in
    let now = c.args.self.now in
    let place = two_place has_mined before.at_mined c.as_slice.result.now log now c.slot_of.result c.args.prefix c.args.alignment
    c.self.invariant.3.mined_told c.self.view_is c.as_slice.ensures c.slot_of.ensures.slot c.requires c.slot_of.ensures.named in
    some_of (has_mined c.args.prefix c.args.alignment) now.items (get_or c.as_slice.result.now c.slot_of.result None) place

pub returns-clause-within : goal.returns-clause-within
returns-clause-within c =
    let before = c.self.inside in
    let log : Logged = record { samples = before.samples; items = before.items.items } in
    let now = c.args.self.now in
    let place = two_place has_mined before.at_mined c.as_slice.result.now log now c.slot_of.result c.args.prefix c.args.alignment
    c.self.invariant.3.mined_told c.self.view_is c.as_slice.ensures c.slot_of.ensures.slot c.requires c.slot_of.ensures.named in
    within_of (has_mined c.args.prefix c.args.alignment) now.items (get_or c.as_slice.result.now c.slot_of.result None) place
