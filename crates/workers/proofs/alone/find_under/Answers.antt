use Rattle.workers.proofs.Stepping.{limited_is_tried}
use Rattle.workers.proofs.alone.find_under.Goals as goal

pub returns-in-Err : goal.returns-in-Err
returns-in-Err c = record {
  found = λ indexes pairs at mined.
      limited_is_tried c.args.subject.now c.args.alignment c.in-Err.limit c.limited.result c.limited.ensures c.in-Err.ensures.limit pairs;
}
