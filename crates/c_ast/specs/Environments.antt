-- Laws of environments and of the variables in scope.
use Rattle.std.specs.Prelude.{◌≡◌, ℕ, ◌<◌, ◌≤◌, ◌∷◌, Bool, true, nat_lt, List, length, ℤ, pos, map, slice_index_or}
use Rattle.c_ast.specs.Tree.{Expression}
use Rattle.c_ast.specs.Value.{CanEvaluate}
use Rattle.c_ast.specs.Step.{Scope, is_in, first_variables, values_in, spread_with, spread, Work, Next, Goes, Passes, Ends, step}
use Rattle.c_ast.specs.Formed.{IsOver, IsSet}
use Rattle.c_ast.specs.Scope.{variables_in}

-- The variables in scope are among the first n.
pub record IsBelow (n : ℕ) (scope : Scope) : Type 0 where
  pub by : (x : ℕ) → is_in scope x ≡ true → x < n

-- An environment has a value for each variable.
abbrev pub SpreadHasLength : Type 0
SpreadHasLength = (scope : Scope) (n : ℕ) (values : List ℤ) → length (spread scope n values) ≡ n

-- A function of the values of an environment is that environment of the function's values.
abbrev pub MapOfSpread : (A B : Type 0) → Type 0
MapOfSpread A B = (g : A → B) (absent : A) (scope : Scope) (n : ℕ) (values : List A)
    → map g (spread_with absent scope n values) ≡ spread_with (g absent) scope n (map g values)

-- So it is of the values in scope.
abbrev pub MapOfValues : (A B : Type 0) → Type 0
MapOfValues A B = (g : A → B) (scope : Scope) (env : List A) → map g (values_in scope env) ≡ values_in scope (map g env)

-- The values of the variables in scope are those of the variables that are listed.
abbrev pub ValuesAreListed : Type 0
ValuesAreListed = (scope : Scope) (env : List ℤ)
    → map (λ x. slice_index_or env x (pos 0)) (variables_in scope (length env)) ≡ values_in scope env

-- Each variable that is listed is among the first n.
abbrev pub ListedAreBelow : Type 0
ListedAreBelow = (scope : Scope) (n i default : ℕ) → i < length (variables_in scope n)
    → slice_index_or (variables_in scope n) i default < n

-- The first n variables are those below n.
abbrev pub FirstVariablesAreBelow : Type 0
FirstVariablesAreBelow = (n x : ℕ) → is_in (first_variables n) x ≡ nat_lt x n

-- Parameters are among the variables.
abbrev pub ParametersAreBelow : Type 0
ParametersAreBelow = (params n : ℕ) → params ≤ n → IsBelow n (first_variables params)

-- A variable that takes a value is in scope from then on, and others stay.
abbrev pub SetStaysBelow : Type 0
SetStaysBelow = (n x : ℕ) (scope : Scope) → x < n → IsBelow n scope → IsBelow n (x ∷ scope)

-- An expression over the variables in scope can be evaluated.
abbrev pub OverCanEvaluate : Type 0
OverCanEvaluate = (e : Expression) (n : ℕ) (scope : Scope) → IsBelow n scope → IsOver scope e → CanEvaluate n e

-- So can one that a variable takes the value of.
abbrev pub SetCanEvaluate : Type 0
SetCanEvaluate =
    (known : Bool) (e : Expression) (n : ℕ) (scope : Scope) → IsBelow n scope → IsSet known scope e → CanEvaluate n e

-- The environment of what comes of a step has n values.
abbrev pub HasLength : ℕ → Next → Type 0
HasLength n (Goes work env) = length env ≡ n
HasLength n (Passes mark work env) = length env ≡ n
HasLength n (Ends value) = Unit {0}

-- A step keeps the number of values.
abbrev pub StepKeepsLength : Type 0
StepKeepsLength = (n : ℕ) (work : Work) (env : List ℤ) → length env ≡ n → HasLength n (step work env)
