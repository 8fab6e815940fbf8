use Rattle.std.proofs.Common.{rules}
use Rattle.std.proofs.lemmas.Result.{IfOk-weaker}
use Rattle.workers.specs.Ground.{Cases, cases, AreCasesOf}
use Rattle.workers.proofs.Grounding.{condition_fits, is_product_of}
use Rattle.workers.proofs.ground.Ground.product.Goals as goal

pub product_over-requires-clause-condition : goal.product_over-requires-clause-condition
product_over-requires-clause-condition c =
    let made : Cases = cases c.as_slice.result.now c.starts.result.now c.starts-2.result.now in
    let are : AreCasesOf c.args.subject.now c.args.graphs.now made = search rules in
    condition_fits c.args.subject.now c.args.graphs.now made c.first.ensures.formed c.requires.graphs c.op.ensures.formed are

pub returns-clause-product : goal.returns-clause-product
returns-clause-product c =
    let made : Cases = cases c.as_slice.result.now c.starts.result.now c.starts-2.result.now in
    let are : AreCasesOf c.args.subject.now c.args.graphs.now made = search rules in
    IfOk-weaker c.product_over.result _ _ (λ product is.
    is_product_of c.args.subject.now c.args.graphs.now c.requires.graphs made are c.args.alignment product c.first.ensures.formed c.op.ensures.formed
    c.op-2.ensures.formed c.counts.ensures.named is) c.product_over.ensures.product
