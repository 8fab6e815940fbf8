-- What a function returns.
use Rattle.std.specs.Prelude.{◌≡◌, ℕ, Bool, true, List, length, Option, Some, None, ℤ}
use Rattle.c_ast.specs.Tree.{Expression, Program}
use Rattle.c_ast.specs.Condition.{Meets}
use Rattle.c_ast.specs.Step.{Work, first_variables, start, spread, seen}

-- The test that each expression passes.
abbrev pub always : Option Expression → List ℤ → Bool
always expression env = true

-- What is seen at a mark is what is seen after it.
abbrev pub no_mark : ℕ → ℕ → List ℤ → Option ℤ → Option ℤ
no_mark marks mark values result = result

-- The result is told as it is.
abbrev pub as_it_is : ℤ → ℤ
as_it_is value = value

-- The result, where at most n steps end the run.
abbrev pub result_within : ℕ → Work → List ℤ → Option ℤ
result_within n = seen always None no_mark as_it_is n 0

-- Where the parameters have these values and all other variables are 0, some number of steps ends with this value.
pub record Returns (f : Program) (inputs : List ℤ) (value : ℤ) : Type 0 where
  pub steps : ℕ
  pub ends : result_within steps (start f) (spread (first_variables f.params) f.vars inputs) ≡ Some value

-- No inputs that meet the condition, as many as there are parameters, make the two functions return differently.
abbrev pub NeverDiffer : Program → Program → Expression → Type 0
NeverDiffer f g condition =
    (inputs : List ℤ) (v w : ℤ) → length inputs ≡ f.params → Meets condition inputs → Returns f inputs v
    → Returns g inputs w → v ≡ w
