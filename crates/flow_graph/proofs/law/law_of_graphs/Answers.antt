use Rattle.flow_graph.proofs.OneGraph.{graph_is_one}
use Rattle.flow_graph.proofs.law.law_of_graphs.Goals as goal

pub returns : goal.returns
returns c = record { one = graph_is_one }
