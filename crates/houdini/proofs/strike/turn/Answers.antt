use Rattle.std.proofs.Common.{sym, ◌∙◌}
use Rattle.houdini.proofs.Turning.{found_first, turn_is}
use Rattle.houdini.proofs.strike.turn.Goals as goal

pub returns-clause-found : goal.returns-clause-found
returns-clause-found c =
    c.is_found-here.ensures
    ∙ sym (found_first c.args.node.now c.args.found c.args.entries.now c.remove-entry.result c.remove-entry.ensures.item)

pub returns-clause-entries : goal.returns-clause-entries
returns-clause-entries c =
    turn_is c.args.node.now c.args.at c.args.found c.args.entries.now c.remove-entry.result c.remove-entry.new.self c.turned.result c.push.new.self
    c.remove-entry.ensures.item c.remove-entry.ensures.rest c.turned.ensures c.in_ok-push.ensures.ok
