-- The map changes at this name alone.
use Rattle.std.proofs.Common.{Some, None}
use Rattle.std.proofs.lemmas.Map.Text.{hash_map_updates_text}
use Rattle.c_check.proofs.table.give_back.Goals as goal

pub returns-in-Some-get_mut : goal.returns-in-Some-get_mut
returns-in-Some-get_mut c =
    λ other. rw c.in-Some.is
    (hash_map_updates_text c.args.name.now c.args.newest.now (c.get_mut.follows.lender c.in-Some.hidden) (Some c.in-Some.hidden)
    ((c.get_mut.follows.holds c.in-Some.hidden).3 c.requires) other)

pub returns-in-None : goal.returns-in-None
returns-in-None c = λ other. rw c.in-None.is (hash_map_updates_text c.args.name.now c.args.newest.now c.remove.new.self None c.remove.ensures.updates other)
