use Rattle.std.proofs.Common.{rules, ◌∙◌, ap, to_z-of_z, FitsSigned}
use Rattle.std.specs.Int.{w128}
use Rattle.c_ast.specs.FitsRun.{fits_run, only_if}
use Rattle.c_ast.proofs.Choosing.{fitting_value-Cond}
use Rattle.c_ast.proofs.value.+value_of.Goals as goal

pub returns-in_ok-second-in-Cond-clause-value : goal.returns-in_ok-second-in-Cond-clause-value
returns-in_ok-second-in-Cond-clause-value t c =
    let test-fits : FitsSigned w128 c.in_ok-test-in-Cond.test = search rules in
    let first-fits : FitsSigned w128 c.in_ok-first-in-Cond.first = search rules in
    let second-fits : FitsSigned w128 c.in_ok-second-in-Cond.second = search rules in
    let choice-fits : FitsSigned w128 c.choice.result = search rules in
    let chosen = simp to_z-of_z at c.choice.ensures in
    let fitting = simp to_z-of_z at c.fitting-in-Cond.ensures in
    fitting_value-Cond _ _ _ _ c.args.environment.now _ _ _ _ c.in-Cond.is
    (rw c.get-in-Cond.ensures at c.in_ok-test-in-Cond.ensures.value)
    (rw c.get-in-Cond-2.ensures at c.in_ok-first-in-Cond.ensures.value)
    (rw c.get-in-Cond-3.ensures at c.in_ok-second-in-Cond.ensures.value)
    (fitting ∙ ap (λ z. only_if (fits_run z) z) chosen)
