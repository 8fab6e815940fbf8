use Rattle.std.proofs.Common.{arith}
use Rattle.houdini.proofs.Within.{can_check_within}
use Rattle.houdini.proofs.Strikes.{narrows_on}
use Rattle.houdini.proofs.Ends.{none_is_linear, proved_is_greatest, struck_is, ends_at_limit}
use Rattle.houdini.proofs.search.greatest.Goals as goal

pub loop-alloc-init : goal.loop-alloc-init
loop-alloc-init g c = record { narrows = c.in_ok-left.ensures.narrows; later = omega (arith, c.narrow.ensures.later) }

pub take_round-requires : goal.take_round-requires
take_round-requires g c =
    can_check_within c.args.product.now c.loop-alloc.left c.args.candidates c.loop-alloc.invariant.narrows.within c.requires

pub returns-in-Proved-clause-answers : goal.returns-in-Proved-clause-answers
returns-in-Proved-clause-answers g c =
    proved_is_greatest c.args.product.now c.args.candidates c.loop-alloc.left c.count_at_entries-at_entries.result c.args.cap _ c.in-Proved.family
    c.in-Proved.proofs c.count_at_entries-at_entries.ensures c.loop-alloc.invariant.narrows (c.may_couple.ensures.0 c.loop-alloc-test.true)
    c.in_ok-family.ensures.answers c.in-Proved.is

pub returns-in-Limited-clause-answers : goal.returns-in-Limited-clause-answers
returns-in-Limited-clause-answers g c =
    ends_at_limit c.args.product.now c.args.candidates c.loop-alloc.left c.count_at_entries-at_entries.result c.args.cap _ c.in-Limited.obligation
    c.in-Limited.left c.in-Limited.limit c.count_at_entries-at_entries.ensures c.loop-alloc.invariant.narrows
    (c.may_couple.ensures.0 c.loop-alloc-test.true) c.in_ok-family.ensures.answers c.in-Limited.is

pub loop-alloc-preserved : goal.loop-alloc-preserved
loop-alloc-preserved g c = record {
  narrows = narrows_on c.args.product.now c.args.candidates c.loop-alloc.left c.in-Struck.fewer c.loop-alloc.invariant.narrows
      (struck_is c.args.product.now c.loop-alloc.left c.args.cap _ c.in-Struck.fewer c.in_ok-family.ensures.answers c.in-Struck.is).narrows;
  later = omega (arith, c.loop-alloc.invariant.later, c.take_round.ensures.later);
}

pub returns-clause-answers : goal.returns-clause-answers
returns-clause-answers g c =
    none_is_linear c.args.product.now c.args.candidates c.loop-alloc.left c.count_at_entries-at_entries.result c.count_at_entries-at_entries.ensures
    c.loop-alloc.invariant.narrows (λ couples. let says = c.may_couple.ensures.1 couples in let never = c.loop-alloc-test.false in absurd cc)
