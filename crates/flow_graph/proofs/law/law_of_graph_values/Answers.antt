use Rattle.flow_graph.proofs.Meeting.{map_of_listed}
use Rattle.flow_graph.proofs.law.law_of_graph_values.Goals as goal

pub returns : goal.returns
returns g c = map_of_listed _ _
