use Rattle.std.proofs.Common.{List, length, ◌-◌, ap, ◌∙◌}
use Rattle.std.specs.Prelude.{slice_get}
use Rattle.pool_core.specs.declared.item.Item.{Item}
use Rattle.pool_core.specs.History.{verdict_of}
use Rattle.pool_core.specs.Plays.{State}
use Rattle.pool_core.proofs.Pooling.{last_one}
use Rattle.pool_core.proofs.pool.Pool.verdict.Goals as goal

pub returns-in-Some : goal.returns-in-Some
returns-in-Some c =
    c.verdict_in.ensures
    ∙ last_one c.self.inside.subject c.self.inside.log.items c.in-Some.item.now c.self.invariant.legal
    (c.in-Some.ensures.value ∙ ap (λ (xs : List Item). slice_get xs (length xs - 1)) c.items.ensures.items)
    ∙ ap (λ (s : State). verdict_of s.items) c.self.view_is
