use Rattle.std.proofs.Common.{◌<◌, length, arith, sym, ◌∙◌}
use Rattle.std.proofs.lemmas.Grind.{get_or_default_zero}
use Rattle.flow_graph.proofs.Noted.{declared_once, declared_twice}
use Rattle.flow_graph.proofs.scopes.declare.Goals as goal
use Rattle.flow_graph.proofs.scopes.declare.Goals.{then-place-len-via-then-place-len, then-place-len-via-else-place-len+then-index-x}

pub returns-in_ok-insert : goal.returns-in_ok-insert
returns-in_ok-insert c =
    declared_once c.args.x c.place_of-place.result c.args.in_scope.now.items c.as_slice.result.now c.insert.new.self.items c.as_slice.ensures.value
    c.place_of-place.ensures.place
    (elim c.then-place-len.branch [
      | then-place-len-via-then-place-len w ↦ λ below is. absurd (omega (arith, below, w.if-place-len.true, c.len.ensures))
      | then-place-len-via-else-place-len+then-index-x w ↦ λ below is. w.if-index-x.true (w.index.ensures ∙ get_or_default_zero _ _ _ below ∙ is)
    ])
    c.in_ok-insert.ensures.items

pub returns-else-index-x : goal.returns-else-index-x
returns-else-index-x c =
    declared_twice c.args.x c.place_of-place.result c.args.in_scope.now.items c.as_slice.result.now c.as_slice.ensures.value
    c.place_of-place.ensures.place within (sym (get_or_default_zero _ _ _ within) ∙ sym c.index.ensures ∙ c.if-index-x.false)
  where
    within : c.place_of-place.result < length c.args.in_scope.now.items
    within = omega (arith, c.if-place-len.false, c.len.ensures, c.place_of-place.ensures.within, c.as_slice.ensures.len)
