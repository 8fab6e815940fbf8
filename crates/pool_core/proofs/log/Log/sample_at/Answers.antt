use Rattle.std.proofs.Common.{get_or, None}
use Rattle.pool_core.specs.History.{has_index}
use Rattle.pool_core.specs.Tables.{Logged}
use Rattle.pool_core.proofs.Places.{some_of, within_of}
use Rattle.pool_core.proofs.Tables.{sample_place}
use Rattle.pool_core.proofs.log.Log.sample_at.Goals as goal

pub returns-clause-some : goal.returns-clause-some
returns-clause-some c =
    let before = c.self.inside in
    let log : Logged = record { samples = before.samples; items = before.items.items } in
    let now = c.args.self.now in
    let place = sample_place before.at_samples c.as_slice.result.now log now c.args.index
    c.self.invariant.3.samples_told c.self.view_is c.as_slice.ensures c.requires in
    some_of (has_index c.args.index) now.items (get_or c.as_slice.result.now c.args.index None) place

pub returns-clause-within : goal.returns-clause-within
returns-clause-within c =
    let before = c.self.inside in
    let log : Logged = record { samples = before.samples; items = before.items.items } in
    let now = c.args.self.now in
    let place = sample_place before.at_samples c.as_slice.result.now log now c.args.index
    c.self.invariant.3.samples_told c.self.view_is c.as_slice.ensures c.requires in
    within_of (has_index c.args.index) now.items (get_or c.as_slice.result.now c.args.index None) place
