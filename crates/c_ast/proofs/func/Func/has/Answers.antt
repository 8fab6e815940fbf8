use Rattle.std.proofs.Common.{ℕ, ◌∙◌, ap, nat_lt}
use Rattle.c_ast.proofs.InScope.{has_then, has_else}
use Rattle.c_ast.proofs.func.Func.has.Goals as goal

pub returns-then-is_in : goal.returns-then-is_in
returns-then-is_in c = has_then c.args.before.now c.args.self.now.params c.args.x c.is_in.result c.is_in.ensures c.if-is_in.true

pub returns-else-is_in : goal.returns-else-is_in
returns-else-is_in c = ap (λ (n : ℕ). nat_lt c.args.x n) c.params.ensures
    ∙ has_else c.args.before.now c.args.self.now.params c.args.x c.is_in.result c.is_in.ensures c.if-is_in.false
