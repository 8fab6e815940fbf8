use Rattle.c_ast.specs.Function.{Function}
use Rattle.c_source.specs.Reads.{Reads, IsRefusal}
use Rattle.c_source.proofs.Functions.{determined}
use Rattle.c_source.proofs.Answering.{only_made, only_refusal}
use Rattle.c_source.proofs.function.read_function.Goals as goal

pub returns-clause-only : goal.returns-clause-only
returns-clause-only c =
    only_made Function (Reads c.args.text.now) (IsRefusal c.args.text.now) (determined c.args.text.now) c.reading.result
    c.reading.ensures.read c.reading.ensures.refused

pub returns-clause-only_fault : goal.returns-clause-only_fault
returns-clause-only_fault c =
    only_refusal Function (Reads c.args.text.now) (IsRefusal c.args.text.now) (determined c.args.text.now) c.reading.result
    c.reading.ensures.read c.reading.ensures.refused
