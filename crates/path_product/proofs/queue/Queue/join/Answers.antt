use Rattle.std.proofs.Common.{rules, ◌≡◌, ◌++◌, ◌∷◌, []}
use Rattle.path_product.proofs.Nodes.{same_with}
use Rattle.path_product.proofs.queue.Queue.join.Goals as goal

pub invariant_of-self-2 : goal.invariant_of-self-2
invariant_of-self-2 c =
    let all : c.push.new.self.items ≡ c.self.inside.order.items ++ c.args.node ∷ [] = search rules in
    same_with c.self.inside.met.keys c.insert.new.met.keys c.self.inside.order.items c.push.new.self.items c.args.node c.self.invariant
    c.in_ok-insert.ensures.ok all
