use Rattle.std.proofs.Common.{ℕ, ◌<◌, ◌^◌, arith, rules, to_z, to_z-of_z, get_or, pos, FitsSigned, ap, ◌∙◌}
use Rattle.std.specs.Int.{w128}
use Rattle.std.specs.Prelude.{ℤ, ◌*ℤ◌, unsigned_abs}
use Rattle.lin_terms.proofs.Sizes.{sum_back, summed, grown}
use Rattle.lin_terms.proofs.point.dot.Goals as goal

pub loop-i-preserved : goal.loop-i-preserved
loop-i-preserved c =
    let i : ℕ = c.loop-i.i in
    let sum : ℤ = to_z w128 c.loop-i.sum-bits in
    let product : ℤ = c.term-sum.result in
    let room : unsigned_abs sum < 2 ^ 126 = omega (arith, c.loop-i.invariant.bound, c.requires.few) in
    let fits : FitsSigned w128 c.number_at.result = search rules in
    let made = (simp to_z-of_z at c.term-sum.ensures.value) ∙ ap (λ (z : ℤ). get_or c.args.entries.now i (pos 0) *ℤ z) c.number_at.ensures in
    rw (sum_back sum product room (omega (arith, c.term-sum.ensures.small))) (record {
      so_far = summed c.args.entries.now c.args.numbers.now i sum product _ (omega arith) made c.loop-i.invariant.so_far;
      bound = grown i (2 ^ 116) sum product c.loop-i.invariant.bound (omega (arith, c.term-sum.ensures.small));
    })
