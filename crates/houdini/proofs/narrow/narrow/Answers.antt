use Rattle.std.proofs.Common.{arith, ap, ◌∙◌, ◌<◌, length, count_by}
use Rattle.std.proofs.lemmas.List.Sums.{count_by-le-length}
use Rattle.horn_clauses.specs.declared.family.Family.{Family}
use Rattle.houdini.specs.Striking.{count_atoms}
use Rattle.houdini.proofs.Cutting.{struck_falls, waiting_falls}
use Rattle.houdini.proofs.Strikes.{narrows_itself}
use Rattle.houdini.proofs.Turns.{turn_narrows, turn_can}
use Rattle.houdini.proofs.narrow.narrow.Goals as goal

pub loop-number-init : goal.loop-number-init
loop-number-init g c = record {
  narrows = narrows_itself c.args.product.now c.args.family;
  can = c.requires;
  clauses = c.in_ok-waiting.ensures.len;
  points = c.in_ok-points.ensures;
  later = omega arith;
}

pub loop-number-preserved : goal.loop-number-preserved
loop-number-preserved g c =
    let inside : c.in-Some.number < length c.as_slice-clauses.result.now = omega (arith, c.in-Some.ensures.within, c.loop-number.invariant.clauses) in
    record {
      narrows = turn_narrows c.args.product.now c.args.family c.loop-number.left c.in_ok-family.family c.as_slice-clauses.result.now c.in-Some.number
          c.index-clauses-number.result c.as_slice-clauses.ensures inside c.index-clauses-number.is c.in_ok-family.ensures.strikes
          c.loop-number.invariant.narrows;
      can = turn_can c.args.product.now c.args.family c.loop-number.left c.in_ok-family.family c.as_slice-clauses.result.now c.in-Some.number
          c.index-clauses-number.result c.as_slice-clauses.ensures inside c.index-clauses-number.is c.in_ok-family.ensures.strikes
          c.loop-number.invariant.can;
      clauses = c.take.ensures.len ∙ c.loop-number.invariant.clauses;
      points = c.loop-number.invariant.points;
      later = omega (arith, c.loop-number.invariant.later, c.narrow_clause.ensures.later);
    }

pub loop-number-smaller : goal.loop-number-smaller
loop-number-smaller g c =
    waiting_falls (count_atoms c.in_ok-family.family.nodes) (count_atoms c.loop-number.left.nodes) (length c.as_slice-clauses.result.now)
    (count_by (λ waits. waits) c.take.new.waiting.items) (count_by (λ waits. waits) c.loop-number.waiting.items)
    (ap (λ (family : Family). count_atoms family.nodes) (c.in_ok-family.ensures.same c.if-struck.false)) c.in-Some.ensures.fewer

pub loop-number-preserved-then-struck : goal.loop-number-preserved-then-struck
loop-number-preserved-then-struck g c =
    let inside : c.in-Some.number < length c.as_slice-clauses.result.now = omega (arith, c.in-Some.ensures.within, c.loop-number.invariant.clauses) in
    record {
      narrows = turn_narrows c.args.product.now c.args.family c.loop-number.left c.in_ok-family.family c.as_slice-clauses.result.now c.in-Some.number
          c.index-clauses-number.result c.as_slice-clauses.ensures inside c.index-clauses-number.is c.in_ok-family.ensures.strikes
          c.loop-number.invariant.narrows;
      can = turn_can c.args.product.now c.args.family c.loop-number.left c.in_ok-family.family c.as_slice-clauses.result.now c.in-Some.number
          c.index-clauses-number.result c.as_slice-clauses.ensures inside c.index-clauses-number.is c.in_ok-family.ensures.strikes
          c.loop-number.invariant.can;
      clauses = c.wake.ensures ∙ (c.take.ensures.len ∙ c.loop-number.invariant.clauses);
      points = c.loop-number.invariant.points;
      later = omega (arith, c.loop-number.invariant.later, c.narrow_clause.ensures.later);
    }

pub loop-number-smaller-then-struck : goal.loop-number-smaller-then-struck
loop-number-smaller-then-struck g c =
    struck_falls (count_atoms c.in_ok-family.family.nodes) (count_atoms c.loop-number.left.nodes) (length c.as_slice-clauses.result.now)
    (count_by (λ waits. waits) c.wake.new.waiting.items) (count_by (λ waits. waits) c.loop-number.waiting.items)
    (c.in_ok-family.ensures.fewer c.if-struck.true)
    (omega (
      arith,
      count_by-le-length (λ waits. waits) c.wake.new.waiting.items,
      c.wake.new.waiting.ok.0,
      c.wake.ensures,
      c.take.ensures.len,
      c.loop-number.invariant.clauses,
    ))
