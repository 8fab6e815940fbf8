use Rattle.flow_graph.proofs.Noted.{scopes_are}
use Rattle.flow_graph.proofs.scopes.scopes_of.Goals as goal

pub returns : goal.returns
returns c =
    scopes_are c.args.func.now c.body.ensures.formed c.in_ok-parameters.parameters.items c.as_slice.result.now c.body.result.now c.new-scopes.result.entries
    c.note.new.scopes.entries c.in_ok-parameters.ensures c.as_slice.ensures.value c.body.ensures.body c.new-scopes.ensures.empty c.in_ok-note.ensures
