use Rattle.std.proofs.lemmas.Result.{IfOk-weaker}
use Rattle.report.proofs.Scopes.{in_scope}
use Rattle.report.proofs.family.variables_at.Goals as goal

pub returns : goal.returns
returns c =
    IfOk-weaker c.scope.result _ _
    (λ variables are. in_scope c.args.func.now c.body.ensures.formed c.args.place variables.items c.requires are)
    c.scope.ensures
