use Rattle.c_ast.specs.declared.expr.Expr.{Expr}
use Rattle.c_source.specs.ReadsCondition.{ReadsCondition, IsConditionRefusal}
use Rattle.c_source.proofs.Conditions.{determined}
use Rattle.c_source.proofs.Answering.{only_made, only_refusal}
use Rattle.c_source.proofs.condition.read_condition.Goals as goal

pub returns-clause-only : goal.returns-clause-only
returns-clause-only c =
    only_made Expr (ReadsCondition c.args.func.now c.args.text.now) (IsConditionRefusal c.args.func.now c.args.text.now)
    (determined c.args.func.now c.args.text.now) c.condition.result c.condition.ensures.read c.condition.ensures.refused

pub returns-clause-only_fault : goal.returns-clause-only_fault
returns-clause-only_fault c =
    only_refusal Expr (ReadsCondition c.args.func.now c.args.text.now) (IsConditionRefusal c.args.func.now c.args.text.now)
    (determined c.args.func.now c.args.text.now) c.condition.result c.condition.ensures.read c.condition.ensures.refused
