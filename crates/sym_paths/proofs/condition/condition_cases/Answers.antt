use Rattle.std.proofs.Common.{◌+◌, ◌∙◌, [], List, reverse, ap, sym}
use Rattle.std.specs.Prelude.{Result, Ok}
use Rattle.c_ast.specs.View.{expression_of}
use Rattle.lin_terms.specs.declared.row.Row.{Row}
use Rattle.sym_paths.specs.declared.limit.PathLimit.{PathLimit}
use Rattle.sym_paths.specs.declared.task.Subject.TheVariants as subject
use Rattle.sym_paths.specs.Condition.{rows_alone, condition_cases}
use Rattle.sym_paths.specs.Arrivals.{graph_of}
use Rattle.sym_paths.specs.Waiting.{searched_from}
use Rattle.sym_paths.proofs.Conditions.{law_of_conditions}
use Rattle.sym_paths.proofs.Holding.{limit_of_rows}
use Rattle.sym_paths.proofs.condition.condition_cases.Goals as goal

pub returns-in-Err-clause-limit : goal.returns-in-Err-clause-limit
returns-in-Err-clause-limit c =
    limit_of_rows (searched_from (c.args.arity + 16) (graph_of (subject.Condition c.args.arity)) [] (reverse c.in_ok-work.work.items) [])
    (condition_cases c.args.arity (expression_of c.args.condition.now)) c.in-Err.limit c.in_ok-work.ensures.same c.in-Err.ensures.limit

pub returns-in_ok-found-in-Ok-clause-exact : goal.returns-in_ok-found-in-Ok-clause-exact
returns-in_ok-found-in-Ok-clause-exact c =
    law_of_conditions c.args.arity (expression_of c.args.condition.now) c.requires.condition c.in_ok-found-in-Ok.found.items
    (sym c.in_ok-work.ensures.same ∙ ap rows_alone c.in-Ok.ensures.cases
    ∙ ap (λ (rows : List (List Row)). let made : Result (List (List Row)) PathLimit = Ok rows in made) (sym c.in_ok-found-in-Ok.ensures))
