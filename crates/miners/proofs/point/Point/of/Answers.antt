use Rattle.std.proofs.Common.{◌≡◌, ◌∙◌, ◌++◌, ◌<◌, length, length-set, rules, arith, sym, subst, FitsSigned, to_z, of_z}
use Rattle.std.specs.Int.{w128}
use Rattle.std.proofs.lemmas.Int.{to_z-of_z}
use Rattle.std.proofs.lemmas.List.Elements.{All-set}
use Rattle.c_ast.specs.FitsRun.{FitsRun}
use Rattle.miners.specs.Kept.{value_within}
use Rattle.miners.proofs.Sums.{made_more, made_whole}
use Rattle.miners.proofs.point.Point.of.Goals as goal

pub loop-place-preserved : goal.loop-place-preserved
loop-place-preserved c =
    let fits : FitsSigned w128 c.value_at.result.now = search rules in
    let is : to_z w128 (of_z w128 c.value_at.result.now) ≡ c.value_at.result.now = simp to_z-of_z in
    let below : c.loop-place.place < length c.loop-place.values = omega (arith, c.loop-place-test.true, c.loop-place.invariant.size) in
    record {
      size = length-set c.loop-place.values c.loop-place.place _ ∙ c.loop-place.invariant.size;
      made = made_more (value_within c.args.width (c.args.first.now ++ c.args.second.now)) c.loop-place.values c.loop-place.place
          c.value_at.result.now _ below c.value_at.ensures.value is c.loop-place.invariant.made;
      fits = All-set FitsRun c.loop-place.values c.loop-place.place _ (subst FitsRun (sym is) c.value_at.ensures.fits) c.loop-place.invariant.fits;
    }

pub returns : goal.returns
returns c =
    made_whole c.args.width c.loop-place.place c.loop-place.values (c.args.first.now ++ c.args.second.now) c.requires.narrow
    c.loop-place.invariant.size (omega (arith, c.loop-place-test.false)) c.loop-place.invariant.made
