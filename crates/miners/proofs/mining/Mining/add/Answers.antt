use Rattle.miners.proofs.Gathering.{added_pair}
use Rattle.miners.proofs.mining.Mining.add.Goals as goal

pub returns-clause-ok : goal.returns-clause-ok
returns-clause-ok c =
    rw (← c.self.view_is) (added_pair c.self.inside.constants c.self.inside.params c.self.inside.alignment c.self.inside.nodes.items
    c.in_ok-made.made.items c.strike_kept.new.nodes.items c.args.pair.now c.in_ok-walk.walk c.in_ok-walk.ensures
    (λ constants. rw (c.as_slice.ensures.value, c.as_slice-2.ensures) at (c.in_ok-made.ensures constants))
    (λ constants. rw (c.in_ok-append.ensures.items, c.as_slice-3.ensures) at (c.strike_kept.ensures constants)))
