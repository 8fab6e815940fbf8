use Rattle.std.proofs.Common.{Result, subst}
use Rattle.path_product.specs.declared.limit.ProductLimit.{ProductLimit}
use Rattle.workers.specs.Alone.{IsGroundOf}
use Rattle.workers.specs.Ground.{Cases}
use Rattle.workers.proofs.Stepping.{limited_is_tried, limit_here}
use Rattle.workers.proofs.alone.find.Goals as goal

pub returns-in-Err : goal.returns-in-Err
returns-in-Err c =
    let limited = subst (λ (made : Result Cases ProductLimit). IsGroundOf c.args.subject.now c.args.graphs.now made) c.in-Err.is c.requires.ground in
    let met = limit_here c.args.subject.now c.args.alignment c.in-Err.limit c.counts.ensures.named limited in
    record {
      found = λ indexes pairs at mined.
          limited_is_tried c.args.subject.now c.args.alignment c.in-Err.limit c.limited.result c.limited.ensures met pairs;
    }
