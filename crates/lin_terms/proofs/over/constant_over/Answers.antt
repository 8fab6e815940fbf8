use Rattle.std.proofs.Common.{ℕ, ◌<◌, ◌^◌, arith, to_z, get_or, pos, ap, sym, ◌∙◌}
use Rattle.std.specs.Int.{w128}
use Rattle.std.specs.Prelude.{ℤ, ◌*ℤ◌, unsigned_abs}
use Rattle.lin_terms.specs.declared.form.Form.{Form}
use Rattle.lin_terms.proofs.Sizes.{sum_back, mapped_summed, grown}
use Rattle.lin_terms.proofs.over.constant_over.Goals as goal

pub loop-i-preserved : goal.loop-i-preserved
loop-i-preserved c =
    let i : ℕ = c.loop-i.i in
    let sum : ℤ = to_z w128 c.loop-i.sum-bits in
    let product : ℤ = c.term-sum.result in
    let room : unsigned_abs sum < 2 ^ 126 = omega (arith, c.loop-i.invariant.bound, c.requires.few) in
    let made = c.term-sum.ensures.value ∙ ap (λ (form : Form). get_or c.args.coefs.now i (pos 0) *ℤ form.constant) (sym c.index-at-i.is) in
    rw (sum_back sum product room (omega (arith, c.term-sum.ensures.small))) (record {
      so_far = mapped_summed (λ (form : Form). form.constant) c.args.coefs.now c.args.at.now i c.index-at-i.result sum product _
          (omega arith) (omega (arith, c.requires.enough)) c.index-at-i.is made c.loop-i.invariant.so_far;
      bound = grown i (2 ^ 113) sum product c.loop-i.invariant.bound c.term-sum.ensures.small;
    })
