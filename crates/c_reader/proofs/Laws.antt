-- The statements of the public laws, for the proofs of other crates.
use Rattle.c_reader.specs.Expressions.{HasOneExpression}
use Rattle.c_reader.specs.Units.{HasOneTree}
use Rattle.c_reader.proofs.UnitCompleteness.{unit-one as files-one}
use Rattle.c_reader.proofs.WholeExpressions.{whole-one}

-- `one_tree`: tokens spell one list of functions at most.
pub unit-one : HasOneTree
unit-one = files-one

-- `one_expression`: tokens spell one expression at most.
pub expression-one : HasOneExpression
expression-one = whole-one
