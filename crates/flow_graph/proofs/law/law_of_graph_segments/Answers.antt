use Rattle.flow_graph.proofs.Meeting.{graph_segment_is_determined, graph_segment_exists, graph_segment_fits, entry_has_parameters}
use Rattle.flow_graph.proofs.law.law_of_graph_segments.Goals as goal

pub returns : goal.returns
returns c = record {
  determined = graph_segment_is_determined;
  exists = graph_segment_exists;
  fits = graph_segment_fits;
  entry = entry_has_parameters;
}
