-- The public laws (src/law.rt), each with its proof: what the proofs of other crates may cite.
use Rattle.flow_graph.specs.Laws.{GraphIsOne, GraphSegmentIsDetermined, GraphSegmentExists, GraphSegmentFits, EntryHasParameters, MapOfListed}
use Rattle.flow_graph.proofs.OneGraph as one_graph
use Rattle.flow_graph.proofs.Meeting as meeting

pub graph_is_one : GraphIsOne
graph_is_one = one_graph.graph_is_one

pub graph_segment_is_determined : GraphSegmentIsDetermined
graph_segment_is_determined = meeting.graph_segment_is_determined

pub graph_segment_exists : GraphSegmentExists
graph_segment_exists = meeting.graph_segment_exists

pub graph_segment_fits : GraphSegmentFits
graph_segment_fits = meeting.graph_segment_fits

pub entry_has_parameters : EntryHasParameters
entry_has_parameters = meeting.entry_has_parameters

pub map_of_listed : (A B : Type 0) → MapOfListed A B
map_of_listed = meeting.map_of_listed
