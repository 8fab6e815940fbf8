-- The work that the interpreter's items stand for. They have no scopes, so those of their work are empty.
use Rattle.std.specs.Prelude.{◌≡◌, ℕ, true, false, List, [], ◌∷◌, Option, Some, None, ℤ}
use Rattle.c_run.specs.declared.interpreter.Parts.{Parts}
use Rattle.c_run.specs.declared.interpreter.Item.{Item}
use Rattle.c_run.specs.declared.interpreter.Item.TheVariants as item
use Rattle.c_run.specs.declared.interpreter.Next.{Next}
use Rattle.c_run.specs.declared.interpreter.Next.TheVariants as next
use Rattle.c_ast.specs.Tree.{Expression}
use Rattle.c_ast.specs.View.{expression_of, statements_of}
use Rattle.c_ast.specs.FitsRun.{evaluates_fitting}
use Rattle.c_ast.specs.Step as run
use Rattle.c_ast.specs.Step.{LoopParts, Run, Test, Cond, Tail, Work, past_tail, to_tail, step, evaluated}

-- The loop that a turn's parts stand for.
abbrev pub loop_of : Parts → LoopParts
loop_of parts = record {
  mark = parts.mark;
  cond = expression_of parts.cond.now;
  body = statements_of parts.body.now;
  step = statements_of parts.step.now;
}

-- The item that an item of the interpreter stands for.
abbrev pub item_of : Item → run.Item
item_of (item.Run stmts) = Run [] (statements_of stmts.now)
item_of (item.Test parts) = Test [] (loop_of parts)
item_of (item.Cond parts) = Cond [] (loop_of parts)
item_of (item.Tail parts) = Tail [] (loop_of parts)

-- The work that a list of items stands for.
abbrev pub work_of : List Item → Work
work_of [] = []
work_of (first ∷ others) = item_of first ∷ work_of others

-- An item without its scope.
abbrev pub bare_item : run.Item → run.Item
bare_item (Run scope stmts) = Run [] stmts
bare_item (Test scope loop) = Test [] loop
bare_item (Cond scope loop) = Cond [] loop
bare_item (Tail scope loop) = Tail [] loop

-- Work without its scopes.
abbrev pub bare : Work → Work
bare [] = []
bare (first ∷ others) = bare_item first ∷ bare others

-- What comes of a step, without the scopes of its work.
abbrev pub bare_next : run.Next → run.Next
bare_next (run.Goes work env) = run.Goes (bare work) env
bare_next (run.Passes mark work env) = run.Passes mark (bare work) env
bare_next (run.Ends value) = run.Ends value

-- The interpreter's step from one work and environment to the next is the run's, scopes aside, or meets a wide value.
abbrev pub TakesStep : Work → List ℤ → Next → Work → List ℤ → Type 0
TakesStep old env next.Goes new env' =
    (evaluates_fitting (evaluated old) env ≡ true) × (bare_next (step old env) ≡ run.Goes new env')
TakesStep old env (next.Passes mark) new env' =
    (evaluates_fitting (evaluated old) env ≡ true) × (bare_next (step old env) ≡ run.Passes mark new env')
TakesStep old env (next.Ends value) new env' =
    (evaluates_fitting (evaluated old) env ≡ true) × (bare_next (step old env) ≡ run.Ends value)
TakesStep old env next.Wide new env' = evaluates_fitting (evaluated old) env ≡ false

-- The tail at which a `continue` goes on, in front of what is behind it.
abbrev pub with_tail : Option Parts → Work → Work
with_tail None work = work
with_tail (Some parts) work = Tail [] (loop_of parts) ∷ work

-- The work is cut through its first tail, which is told.
pub record Cuts (old : Work) (tail : Option Parts) (new : Work) : Type 0 where
  pub past : past_tail old ≡ new
  pub to : to_tail old ≡ with_tail tail new

-- What the test of a loop comes to: its mark is passed, where it has one.
abbrev pub IsTested : Option ℕ → Next → Type 0
IsTested None next.Goes = Unit {0}
IsTested (Some mark) (next.Passes passed) = passed ≡ mark
IsTested _ _ = ⊥
