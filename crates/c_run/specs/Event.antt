-- The event of passing a mark.
use Rattle.std.specs.Prelude.{◌≡◌, ℕ, List, ℤ}
use Rattle.c_ast.specs.declared.trace.Event.{Event}
use Rattle.c_ast.specs.Tree.{Program}
use Rattle.c_ast.specs.Step.{Work, scope_of, values_in}
use Rattle.c_ast.specs.Segment.{Follows}

-- The event of passing the mark with this environment: the values of the variables in scope right after the mark.
pub record IsEvent (f : Program) (mark : ℕ) (env : List ℤ) (event : Event) : Type 0 where
  pub mark_is : event.mark ≡ mark
  pub values_are : (work : Work) → Follows f mark work → event.values ≡ values_in (scope_of work) env
