use Rattle.std.proofs.Common.{◌≡◌, ◌∙◌, length, vec_len, arith}
use Rattle.std.proofs.lemmas.List.Elements.{All-pop}
use Rattle.flow_graph.specs.FlowGraph.{HasPlace}
use Rattle.path_product.specs.Starts.{places_from}
use Rattle.path_product.proofs.StartsMade.{without_exit, all_go_on}
use Rattle.path_product.proofs.starts.places_from.Goals as goal

pub returns-clause-go_on : goal.returns-clause-go_on
returns-clause-go_on c =
    let count : vec_len c.in_ok-places.places ≡ length c.in_ok-places.places.items = omega arith in
    let items : c.pop.new.self.items ≡ places_from c.args.graph.now =
    c.pop.ensures.rest ∙ without_exit c.args.graph.now _ c.in_ok-places.places.items c.in_ok-places.ensures.places count in
    let has = All-pop (HasPlace c.args.graph.now) c.in_ok-places.places.items c.pop.new.self.items c.pop.result c.pop.ensures.items
    c.in_ok-places.ensures.each in
    all_go_on c.args.graph.now c.pop.new.self.items items has.0
