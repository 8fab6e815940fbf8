-- Whether a run returns after few marks, with values below 2^100 in size; where it does not, what is met first.
use Rattle.std.specs.Prelude.{◌≡◌, ℕ, if◌then◌else◌, nat_lt, List, Option, Some, ℤ}
use Rattle.c_ast.specs.declared.trace.Outcome.{Outcome}
use Rattle.c_ast.specs.declared.trace.Outcome.TheVariants as outcome
use Rattle.c_ast.specs.Tree.{Program}
use Rattle.c_ast.specs.Step.{first_variables, start, spread, seen}
use Rattle.c_ast.specs.FitsRun.{evaluates_fitting}
use Rattle.c_ast.specs.Outcome.{at_event, returned}

-- The events of at most `limit` marks; at the next one the run is cut off.
abbrev pub at_most : ℕ → ℕ → ℕ → List ℤ → Option Outcome → Option Outcome
at_most limit marks mark values later =
    if nat_lt marks limit then at_event marks mark values later else Some outcome.CutOff

-- Where the parameters have these values and all other variables are 0, some number of steps has this outcome: the
-- trace, `CutOff` at mark number `limit + 1`, or `Wide` at the first value of 2^100 or more in size, whichever comes
-- first.
pub record IsJudged (f : Program) (inputs : List ℤ) (limit : ℕ) (o : Outcome) : Type 0 where
  pub steps : ℕ
  pub is : seen evaluates_fitting (Some outcome.Wide) (at_most limit) returned steps 0 (start f)
      (spread (first_variables f.params) f.vars inputs) ≡ Some o
