use Rattle.c_reader.proofs.Laws.{unit-one}
use Rattle.c_reader.proofs.unit.one_tree.Goals as goal

pub returns : goal.returns
returns c = unit-one
