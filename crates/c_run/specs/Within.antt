-- Which statements and works can be run where n variables have values.
use Rattle.std.specs.Prelude.{ℕ, ◌<◌, [], ◌∷◌}
use Rattle.c_ast.specs.Tree.{Statements, Nil, Set, If, Loop, Break, Continue, Return, Mark, Block}
use Rattle.c_ast.specs.Value.{CanEvaluate}
use Rattle.c_ast.specs.Step.{LoopParts, Item, Run, Test, Cond, Tail, Work}

-- The statements set and read the first n variables alone, and divide by constants.
abbrev pub AreWithin : ℕ → Statements → Type 0
AreWithin n Nil = Unit {0}
AreWithin n (Set x e others) = (x < n) × CanEvaluate n e × AreWithin n others
AreWithin n (If e a b others) = CanEvaluate n e × AreWithin n a × AreWithin n b × AreWithin n others
AreWithin n (Loop mark cond body step test_first others) =
    CanEvaluate n cond × AreWithin n body × AreWithin n step × AreWithin n others
AreWithin n (Break others) = AreWithin n others
AreWithin n (Continue others) = AreWithin n others
AreWithin n (Return e others) = CanEvaluate n e × AreWithin n others
AreWithin n (Mark mark others) = AreWithin n others
AreWithin n (Block a others) = AreWithin n a × AreWithin n others

-- So do a loop's condition, its body and what follows it.
pub record IsLoopWithin (n : ℕ) (loop : LoopParts) : Type 0 where
  pub cond : CanEvaluate n loop.cond
  pub body : AreWithin n loop.body
  pub step : AreWithin n loop.step

-- So does an item.
abbrev pub IsItemWithin : ℕ → Item → Type 0
IsItemWithin n (Run scope stmts) = AreWithin n stmts
IsItemWithin n (Test scope loop) = IsLoopWithin n loop
IsItemWithin n (Cond scope loop) = IsLoopWithin n loop
IsItemWithin n (Tail scope loop) = IsLoopWithin n loop

-- So does each item of the work.
abbrev pub IsWorkWithin : ℕ → Work → Type 0
IsWorkWithin n [] = Unit {0}
IsWorkWithin n (item ∷ work) = IsItemWithin n item × IsWorkWithin n work
