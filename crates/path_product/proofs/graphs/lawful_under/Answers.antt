use Rattle.std.proofs.lemmas.Result.{IfOk-weaker}
use Rattle.c_ast.specs.View.{expression_of}
use Rattle.path_product.proofs.Laws.{law_of_products}
use Rattle.path_product.proofs.graphs.lawful_under.Goals as goal

pub returns-clause-is : goal.returns-clause-is
returns-clause-is c =
    IfOk-weaker c.made_under.result _ _ (λ product made.
    law_of_products c.args.first.now c.args.second.now (expression_of c.args.condition.now) c.args.alignment product c.op.ensures.formed
    c.op-2.ensures.formed c.requires c.counts.ensures.named made) c.made_under.ensures.product
