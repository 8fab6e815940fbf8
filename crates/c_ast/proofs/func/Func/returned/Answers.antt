use Rattle.c_ast.proofs.Returning.{Returns-Return, returned_below, IfSome-from_cases}
use Rattle.c_ast.proofs.func.Func.returned.Goals as goal

pub returns-clause-variables : goal.returns-clause-variables
returns-clause-variables c =
    IfSome-from_cases c.one_return.result _ _ _ c.one_return.ensures.returns (λ e one. returned_below c.args.self.now e.now c.one_return.ensures.formed one)

pub returns-clause-value : goal.returns-clause-value
returns-clause-value c =
    IfSome-from_cases c.one_return.result _ _ _ c.one_return.ensures.returns (λ e one. Returns-Return c.args.self.now e.now c.one_return.ensures.formed one)
