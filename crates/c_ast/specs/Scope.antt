-- The variables in scope at a place.
use Rattle.std.specs.Prelude.{◌≡◌, ℕ, zero, suc, Bool, true, false, ◌==◌, List, [], ◌∷◌, ◌++◌, Option, Some, None}
use Rattle.std.specs.Option.{option_or}
use Rattle.c_ast.specs.declared.place.Place.{Place}
use Rattle.c_ast.specs.Tree.{Statements, Nil, Set, If, Loop, Break, Continue, Return, Mark, Block, Program}
use Rattle.c_ast.specs.Step.{Scope, is_in, first_variables, Work, scope_of}
use Rattle.c_ast.specs.Segment.{GoesOnFrom}
use Rattle.c_ast.specs.Formed.{is_mark}

-- The place is the entry or one of the function's marks.
pub record IsPlace (f : Program) (place : Place) : Type 0 where
  pub work : Work
  pub from : GoesOnFrom f place work

-- The variable in front of the others, where the test holds.
abbrev pub with_variable : Bool → ℕ → List ℕ → List ℕ
with_variable true x variables = x ∷ variables
with_variable false x variables = variables

-- Those of n variables from x on that are in scope, by rising number.
abbrev pub variables_from : Scope → ℕ → ℕ → List ℕ
variables_from scope x zero = []
variables_from scope x (suc n) = with_variable (is_in scope x) x (variables_from scope (suc x) n)

-- Those of n variables that are in scope, by rising number.
abbrev pub variables_in : Scope → ℕ → List ℕ
variables_in scope n = variables_from scope 0 n

-- These are all variables in scope where a run goes on from the place, by rising number.
abbrev pub AreInScope : Program → Place → List ℕ → Type 0
AreInScope f place variables = (work : Work) → GoesOnFrom f place work → variables ≡ variables_in (scope_of work) f.vars

-- ---- the way to a mark

-- A variable that is set in front of the mark, where the mark is found: it is the oldest of them.
abbrev pub with_set : ℕ → Option Scope → Option Scope
with_set x None = None
with_set x (Some scope) = Some (scope ++ x ∷ [])

-- Nothing is set in front of a mark that is found here.
abbrev pub none_before : Bool → Option Scope
none_before true = Some []
none_before false = None

-- The variables that are set in the lists around the mark, in front of it, the newest first; none where it does not
-- stand in the statements.
abbrev pub set_before : ℕ → Statements → Option Scope
set_before mark Nil = None
set_before mark (Set x e others) = with_set x (set_before mark others)
set_before mark (If e a b others) =
    option_or (set_before mark a) (option_or (set_before mark b) (set_before mark others))
set_before mark (Loop own cond body step test_first others) =
    option_or (none_before (is_mark own mark))
    (option_or (set_before mark body) (option_or (set_before mark step) (set_before mark others)))
set_before mark (Break others) = set_before mark others
set_before mark (Continue others) = set_before mark others
set_before mark (Return e others) = set_before mark others
set_before mark (Mark own others) = option_or (none_before (own == mark)) (set_before mark others)
set_before mark (Block a others) = option_or (set_before mark a) (set_before mark others)

-- What is set before the mark in these statements, put in front of others.
pub record SetsBefore (mark : ℕ) (front : Statements → Statements) (behind found : Option Scope) : Type 0 where
  pub by : (others : Statements) → behind ≡ set_before mark others → found ≡ set_before mark (front others)

-- The parameters and these are in scope where a run goes on from the place.
abbrev pub IsSetBefore : Program → Place → Scope → Type 0
IsSetBefore f place found = (work : Work) → GoesOnFrom f place work → scope_of work ≡ found ++ first_variables f.params
