-- What variables out of scope hold makes no difference to a step.
use Rattle.std.specs.Prelude.{◌≡◌, ℕ, true, List, [], ◌∷◌, length, ℤ, pos, slice_index_or}
use Rattle.c_ast.specs.Tree.{Statements, Nil, Set, If, Loop, Break, Continue, Return, Mark, Block, Program}
use Rattle.c_ast.specs.Step.{Scope, is_in, LoopParts, Item, Run, Test, Cond, Tail, Work, item_scope, scope_of, Next, Goes, Passes, Ends, step}
use Rattle.c_ast.specs.Segment.{Follows}
use Rattle.c_ast.specs.Formed.{IsOver}
use Rattle.c_ast.specs.Ahead.{IsAhead}

-- Two environments of n variables agree on the variables in scope.
pub record Agree (n : ℕ) (scope : Scope) (a b : List ℤ) : Type 0 where
  pub left : length a ≡ n
  pub right : length b ≡ n
  pub agree : (x : ℕ) → is_in scope x ≡ true → slice_index_or a x (pos 0) ≡ slice_index_or b x (pos 0)

-- What is in the first scope is in the second.
pub record Within (inner outer : Scope) : Type 0 where
  pub by : (x : ℕ) → is_in inner x ≡ true → is_in outer x ≡ true

-- Each expression of the statements is over the variables in scope.
abbrev pub ReadsInScope : Scope → Statements → Type 0
ReadsInScope scope Nil = Unit {0}
ReadsInScope scope (Set x e others) = IsOver scope e × ReadsInScope (x ∷ scope) others
ReadsInScope scope (If e a b others) =
    IsOver scope e × ReadsInScope scope a × ReadsInScope scope b × ReadsInScope scope others
ReadsInScope scope (Loop mark cond body step test_first others) =
    IsOver scope cond × ReadsInScope scope body × ReadsInScope scope step × ReadsInScope scope others
ReadsInScope scope (Break others) = ReadsInScope scope others
ReadsInScope scope (Continue others) = ReadsInScope scope others
ReadsInScope scope (Return e others) = IsOver scope e × ReadsInScope scope others
ReadsInScope scope (Mark mark others) = ReadsInScope scope others
ReadsInScope scope (Block a others) = ReadsInScope scope a × ReadsInScope scope others

-- The same of a loop's parts.
abbrev pub LoopReads : Scope → LoopParts → Type 0
LoopReads scope loop = IsOver scope loop.cond × ReadsInScope scope loop.body × ReadsInScope scope loop.step

-- The same of an item.
abbrev pub ItemReads : Item → Type 0
ItemReads (Run scope stmts) = ReadsInScope scope stmts
ItemReads (Test scope loop) = LoopReads scope loop
ItemReads (Cond scope loop) = LoopReads scope loop
ItemReads (Tail scope loop) = LoopReads scope loop

-- The scope of each item of the work lies within that of the one before, and that of the first within this one.
abbrev pub Nested : Scope → Work → Type 0
Nested scope [] = Unit {0}
Nested scope (item ∷ work) = Within (item_scope item) scope × ItemReads item × Nested (item_scope item) work

-- The work reads what is in scope alone, the environments agree on that, and the marks ahead are the function's.
pub record IsReady (f : Program) (scope : Scope) (work : Work) (a b : List ℤ) : Type 0 where
  pub nested : Nested scope work
  pub agree : Agree f.vars scope a b
  pub ahead : IsAhead f work

-- Both steps go on with one work, pass one mark of the function, or end with one result.
abbrev pub AreAlike : Program → Next → Next → Type 0
AreAlike f (Goes work a) (Goes other b) = (work ≡ other) × (scope : Scope) × IsReady f scope work a b
AreAlike f (Passes mark work a) (Passes own other b) =
    (mark ≡ own) × (work ≡ other) × IsReady f (scope_of work) work a b × Follows f mark work
AreAlike f (Ends u) (Ends v) = u ≡ v
AreAlike f (Goes work a) (Passes own other b) = ⊥
AreAlike f (Goes work a) (Ends v) = ⊥
AreAlike f (Passes mark work a) (Goes other b) = ⊥
AreAlike f (Passes mark work a) (Ends v) = ⊥
AreAlike f (Ends u) (Goes other b) = ⊥
AreAlike f (Ends u) (Passes own other b) = ⊥

-- One step from two environments that agree on the variables in scope does the same in both.
abbrev pub StepsAreAlike : Type 0
StepsAreAlike = (f : Program) (work : Work) (scope : Scope) (a b : List ℤ) → IsReady f scope work a b
    → AreAlike f (step work a) (step work b)
