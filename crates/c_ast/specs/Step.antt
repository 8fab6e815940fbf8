-- What a run does, a step at a time (ISO C11, 6.8). A configuration is a list of work and the values of all variables.
use Rattle.std.specs.Prelude.{ℕ, zero, suc, Bool, true, false, if◌then◌else◌, ◌==◌, ◌||◌, List, [], ◌∷◌, Option, Some, None, ℤ, pos, slice_set}
use Rattle.c_ast.specs.Tree.{Expression, Num, Statements, Nil, Set, If, Loop, Break, Continue, Return, Mark, Block, Program}
use Rattle.c_ast.specs.Value.{eval, is_nonzero}

-- The variables in scope, the newest first.
abbrev pub Scope : Type 0
Scope = List ℕ

-- Whether the variable is in scope.
abbrev pub is_in : Scope → ℕ → Bool
is_in [] x = false
is_in (y ∷ scope) x = y == x || is_in scope x

-- The variables below n, as parameters are: the last one is the newest.
abbrev pub first_variables : ℕ → Scope
first_variables zero = []
first_variables (suc n) = n ∷ first_variables n

-- The parts of a loop that a turn uses.
pub record LoopParts : Type 0 where
  pub mark : Option ℕ
  pub cond : Expression
  pub body : Statements
  pub step : Statements

-- What is left to do, each item with the variables in scope there: the rest of a list of statements, or a loop's
-- mark and condition, its condition alone, or what follows its body.
pub data Item : Type 0 where
  Run : Scope → Statements → Item
  Test : Scope → LoopParts → Item
  Cond : Scope → LoopParts → Item
  Tail : Scope → LoopParts → Item

-- What is left to do, item by item.
abbrev pub Work : Type 0
Work = List Item

-- The variables in scope where an item goes on.
abbrev pub item_scope : Item → Scope
item_scope (Run scope stmts) = scope
item_scope (Test scope loop) = scope
item_scope (Cond scope loop) = scope
item_scope (Tail scope loop) = scope

-- The variables in scope where the work goes on.
abbrev pub scope_of : Work → Scope
scope_of [] = []
scope_of (item ∷ work) = item_scope item

-- A step goes on, passes a mark, or ends the run with a result.
pub data Next : Type 0 where
  Goes : Work → List ℤ → Next
  Passes : ℕ → Work → List ℤ → Next
  Ends : ℤ → Next

-- The work behind the first tail, where a `break` goes on (6.8.6.3).
abbrev pub past_tail : Work → Work
past_tail [] = []
past_tail (Run scope stmts ∷ work) = past_tail work
past_tail (Test scope loop ∷ work) = past_tail work
past_tail (Cond scope loop ∷ work) = past_tail work
past_tail (Tail scope loop ∷ work) = work

-- The work from the first tail on, where a `continue` goes on (6.8.6.2).
abbrev pub to_tail : Work → Work
to_tail [] = []
to_tail (Run scope stmts ∷ work) = to_tail work
to_tail (Test scope loop ∷ work) = to_tail work
to_tail (Cond scope loop ∷ work) = to_tail work
to_tail (Tail scope loop ∷ work) = Tail scope loop ∷ work

-- What the test of a loop with this mark, or without one, comes to.
abbrev pub tested : Option ℕ → Work → List ℤ → Next
tested None work env = Goes work env
tested (Some mark) work env = Passes mark work env

-- The work with which a loop is entered (6.8.5): its test, or its body where the test comes last.
abbrev pub entered : Bool → Scope → LoopParts → Work → Work
entered true scope loop work = Test scope loop ∷ work
entered false scope loop work = Run scope loop.body ∷ Tail scope loop ∷ work

-- The work that follows a loop's condition: a turn where it holds, and nothing of the loop elsewhere.
abbrev pub turned : Bool → Scope → LoopParts → Work → Work
turned true scope loop work = Run scope loop.body ∷ Tail scope loop ∷ work
turned false scope loop work = work

-- The next step of a run: one case an item, and one a statement at the front of a list (6.8). Where no work is left,
-- the function falls off its end and returns 0.
abbrev pub step : Work → List ℤ → Next
step [] env = Ends (pos 0)
step (Run scope Nil ∷ work) env = Goes work env
step (Run scope (Set x e others) ∷ work) env = Goes (Run (x ∷ scope) others ∷ work) (slice_set env x (eval e env))
step (Run scope (If e a b others) ∷ work) env =
    Goes (Run scope (if is_nonzero (eval e env) then a else b) ∷ Run scope others ∷ work) env
step (Run scope (Loop mark cond body tail test_first others) ∷ work) env =
    Goes (entered test_first scope (record { mark = mark; cond = cond; body = body; step = tail })
    (Run scope others ∷ work)) env
step (Run scope (Break others) ∷ work) env = Goes (past_tail work) env
step (Run scope (Continue others) ∷ work) env = Goes (to_tail work) env
step (Run scope (Return e others) ∷ work) env = Ends (eval e env)
step (Run scope (Mark mark others) ∷ work) env = Passes mark (Run scope others ∷ work) env
step (Run scope (Block a others) ∷ work) env = Goes (Run scope a ∷ Run scope others ∷ work) env
step (Test scope loop ∷ work) env = tested loop.mark (Cond scope loop ∷ work) env
step (Cond scope loop ∷ work) env = Goes (turned (is_nonzero (eval loop.cond env)) scope loop work) env
step (Tail scope loop ∷ work) env = Goes (Run scope loop.step ∷ Test scope loop ∷ work) env

-- The expression that the next step evaluates. Where no work is left that is the constant 0, which is returned.
abbrev pub evaluated : Work → Option Expression
evaluated [] = Some (Num (pos 0))
evaluated (Run scope Nil ∷ work) = None
evaluated (Run scope (Set x e others) ∷ work) = Some e
evaluated (Run scope (If e a b others) ∷ work) = Some e
evaluated (Run scope (Loop mark cond body tail test_first others) ∷ work) = None
evaluated (Run scope (Break others) ∷ work) = None
evaluated (Run scope (Continue others) ∷ work) = None
evaluated (Run scope (Return e others) ∷ work) = Some e
evaluated (Run scope (Mark mark others) ∷ work) = None
evaluated (Run scope (Block a others) ∷ work) = None
evaluated (Test scope loop ∷ work) = None
evaluated (Cond scope loop ∷ work) = Some loop.cond
evaluated (Tail scope loop ∷ work) = None

-- The work with which a run begins.
abbrev pub start : Program → Work
start f = Run (first_variables f.params) f.body ∷ []

-- ---- the values of the variables in scope. They are integers in a run, and may be anything else, as linear forms are.

-- The value in front of the others, where the test holds.
abbrev pub with_value : {A : Type 0} → Bool → A → List A → List A
with_value true value values = value ∷ values
with_value false value values = values

-- Those of the environment's values whose variables are in scope, by rising number. The first value is that of variable
-- i.
abbrev pub values_from : {A : Type 0} → Scope → ℕ → List A → List A
values_from scope i [] = []
values_from scope i (value ∷ env) = with_value (is_in scope i) value (values_from scope (suc i) env)

-- The values of the variables in scope, by rising number.
abbrev pub values_in : {A : Type 0} → Scope → List A → List A
values_in scope env = values_from scope 0 env

-- The next value where the variable is in scope, and the first argument where it is not or no value is left; then the
-- others.
abbrev pub spread_one : {A : Type 0} → A → Bool → List A → (List A → List A) → List A
spread_one absent true [] others = absent ∷ others []
spread_one absent true (value ∷ values) others = value ∷ others values
spread_one absent false values others = absent ∷ others values

-- The same for n variables from i on.
abbrev pub spread_from : {A : Type 0} → A → Scope → ℕ → ℕ → List A → List A
spread_from absent scope i zero values = []
spread_from absent scope i (suc n) values =
    spread_one absent (is_in scope i) values (spread_from absent scope (suc i) n)

-- The environment of n variables in which those in scope have these values, by rising number, and all others the first
-- argument.
abbrev pub spread_with : {A : Type 0} → A → Scope → ℕ → List A → List A
spread_with absent scope n values = spread_from absent scope 0 n values

-- The environment of a run in which the variables in scope have these values, by rising number, and all others 0.
abbrev pub spread : Scope → ℕ → List ℤ → List ℤ
spread scope n values = spread_with (pos 0) scope n values

-- ---- what is seen of a run

-- What an observer sees of at most n steps. `holds` judges the expression that a step evaluates, and `failed` is seen
-- where it does not hold; `pass` is told how many marks were passed before, the mark and the values in scope there,
-- and what is seen after it; `done` is told the result.
module _ {R : Type 0} (holds : Option Expression → List ℤ → Bool) (failed : Option R)
    (pass : ℕ → ℕ → List ℤ → Option R → Option R) (done : ℤ → R) where
  -- The same of what a step comes to, where the first argument tells what is seen after it.
  abbrev pub seen_next : (ℕ → Work → List ℤ → Option R) → ℕ → Next → Option R
  seen_next others marks (Goes work env) = others marks work env
  seen_next others marks (Passes mark work env) =
      pass marks mark (values_in (scope_of work) env) (others (suc marks) work env)
  seen_next others marks (Ends value) = Some (done value)

  abbrev pub seen : ℕ → ℕ → Work → List ℤ → Option R
  seen zero marks work env = None
  seen (suc n) marks work env = if holds (evaluated work) env then seen_next (seen n) marks (step work env) else failed
