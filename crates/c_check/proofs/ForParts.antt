-- The parts of a `for` head, by their shape.
use Rattle.std.proofs.Common.{ℕ, List}
use Rattle.c_ast.specs.RawTree as raw
use Rattle.c_ast.specs.RawTree.{RawExpression, RawDeclared, RawStatements}
use Rattle.c_ast.specs.RawShape.{IsForStart, IsForStep}

-- The first part is left out, a declaration or an assignment.
pub data ForStart : RawStatements → Type 0 where
  no_start : ForStart raw.Nil
  declares_start : (declarators : List RawDeclared) → ForStart (raw.Declare declarators raw.Nil)
  assigns_start : (name : List ℕ) (line : ℕ) (expr : RawExpression) → ForStart (raw.Assign name line expr raw.Nil)

-- The third part is left out or an assignment.
pub data ForStep : RawStatements → Type 0 where
  no_step : ForStep raw.Nil
  assigns_step : (name : List ℕ) (line : ℕ) (expr : RawExpression) → ForStep (raw.Assign name line expr raw.Nil)

pub for_step : (step : RawStatements) → IsForStep step → ForStep step
for_step raw.Nil shaped = no_step
for_step (raw.Assign name line expr raw.Nil) shaped = assigns_step name line expr
for_step (raw.Declare _ _) shaped = absurd shaped
for_step (raw.Assign _ _ _ (raw.Declare _ _)) shaped = absurd shaped
for_step (raw.Assign _ _ _ (raw.Assign _ _ _ _)) shaped = absurd shaped
for_step (raw.Assign _ _ _ (raw.If _ _ _)) shaped = absurd shaped
for_step (raw.Assign _ _ _ (raw.IfElse _ _ _ _)) shaped = absurd shaped
for_step (raw.Assign _ _ _ (raw.While _ _ _)) shaped = absurd shaped
for_step (raw.Assign _ _ _ (raw.Do _ _ _)) shaped = absurd shaped
for_step (raw.Assign _ _ _ (raw.For _ _ _ _ _)) shaped = absurd shaped
for_step (raw.Assign _ _ _ (raw.Break _ _)) shaped = absurd shaped
for_step (raw.Assign _ _ _ (raw.Continue _ _)) shaped = absurd shaped
for_step (raw.Assign _ _ _ (raw.Return _ _)) shaped = absurd shaped
for_step (raw.Assign _ _ _ (raw.Mark _ _)) shaped = absurd shaped
for_step (raw.Assign _ _ _ (raw.Block _ _)) shaped = absurd shaped
for_step (raw.Assign _ _ _ (raw.Empty _)) shaped = absurd shaped
for_step (raw.If _ _ _) shaped = absurd shaped
for_step (raw.IfElse _ _ _ _) shaped = absurd shaped
for_step (raw.While _ _ _) shaped = absurd shaped
for_step (raw.Do _ _ _) shaped = absurd shaped
for_step (raw.For _ _ _ _ _) shaped = absurd shaped
for_step (raw.Break _ _) shaped = absurd shaped
for_step (raw.Continue _ _) shaped = absurd shaped
for_step (raw.Return _ _) shaped = absurd shaped
for_step (raw.Mark _ _) shaped = absurd shaped
for_step (raw.Block _ _) shaped = absurd shaped
for_step (raw.Empty _) shaped = absurd shaped

pub for_start : (start : RawStatements) → IsForStart start → ForStart start
for_start raw.Nil shaped = no_start
for_start (raw.Declare declarators raw.Nil) shaped = declares_start declarators
for_start (raw.Assign name line expr raw.Nil) shaped = assigns_start name line expr
for_start (raw.Declare _ (raw.Declare _ _)) shaped = absurd shaped
for_start (raw.Declare _ (raw.Assign _ _ _ _)) shaped = absurd shaped
for_start (raw.Declare _ (raw.If _ _ _)) shaped = absurd shaped
for_start (raw.Declare _ (raw.IfElse _ _ _ _)) shaped = absurd shaped
for_start (raw.Declare _ (raw.While _ _ _)) shaped = absurd shaped
for_start (raw.Declare _ (raw.Do _ _ _)) shaped = absurd shaped
for_start (raw.Declare _ (raw.For _ _ _ _ _)) shaped = absurd shaped
for_start (raw.Declare _ (raw.Break _ _)) shaped = absurd shaped
for_start (raw.Declare _ (raw.Continue _ _)) shaped = absurd shaped
for_start (raw.Declare _ (raw.Return _ _)) shaped = absurd shaped
for_start (raw.Declare _ (raw.Mark _ _)) shaped = absurd shaped
for_start (raw.Declare _ (raw.Block _ _)) shaped = absurd shaped
for_start (raw.Declare _ (raw.Empty _)) shaped = absurd shaped
for_start (raw.Assign _ _ _ (raw.Declare _ _)) shaped = absurd shaped
for_start (raw.Assign _ _ _ (raw.Assign _ _ _ _)) shaped = absurd shaped
for_start (raw.Assign _ _ _ (raw.If _ _ _)) shaped = absurd shaped
for_start (raw.Assign _ _ _ (raw.IfElse _ _ _ _)) shaped = absurd shaped
for_start (raw.Assign _ _ _ (raw.While _ _ _)) shaped = absurd shaped
for_start (raw.Assign _ _ _ (raw.Do _ _ _)) shaped = absurd shaped
for_start (raw.Assign _ _ _ (raw.For _ _ _ _ _)) shaped = absurd shaped
for_start (raw.Assign _ _ _ (raw.Break _ _)) shaped = absurd shaped
for_start (raw.Assign _ _ _ (raw.Continue _ _)) shaped = absurd shaped
for_start (raw.Assign _ _ _ (raw.Return _ _)) shaped = absurd shaped
for_start (raw.Assign _ _ _ (raw.Mark _ _)) shaped = absurd shaped
for_start (raw.Assign _ _ _ (raw.Block _ _)) shaped = absurd shaped
for_start (raw.Assign _ _ _ (raw.Empty _)) shaped = absurd shaped
for_start (raw.If _ _ _) shaped = absurd shaped
for_start (raw.IfElse _ _ _ _) shaped = absurd shaped
for_start (raw.While _ _ _) shaped = absurd shaped
for_start (raw.Do _ _ _) shaped = absurd shaped
for_start (raw.For _ _ _ _ _) shaped = absurd shaped
for_start (raw.Break _ _) shaped = absurd shaped
for_start (raw.Continue _ _) shaped = absurd shaped
for_start (raw.Return _ _) shaped = absurd shaped
for_start (raw.Mark _ _) shaped = absurd shaped
for_start (raw.Block _ _) shaped = absurd shaped
for_start (raw.Empty _) shaped = absurd shaped
