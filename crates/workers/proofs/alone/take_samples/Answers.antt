use Rattle.std.proofs.Common.{◌≡◌, ℕ, suc, false, ap, subst, arith}
use Rattle.c_ast.specs.Bounds.{Bounds}
use Rattle.workers.specs.Alone.{IsSampledTo}
use Rattle.workers.proofs.Sampling.{all_sampled}
use Rattle.workers.proofs.Stepping.{goes_on}
use Rattle.workers.proofs.alone.take_samples.Goals as goal

pub loop-index-preserved : goal.loop-index-preserved
loop-index-preserved c =
    let subject = c.args.subject.now in
    let items = c.take_sample.new.pool.items in
    let none : c.in_ok-take_sample.field-0 ≡ false = cc in
    let sampled = goes_on c.in_ok-take_sample.field-0 subject items (IsSampledTo subject items (suc c.loop-index.index)) none
    c.in_ok-take_sample.ensures.goes in
    (c.in_ok-take_sample.ensures.own, subst (λ (n : ℕ). IsSampledTo subject items n) (omega arith) sampled)

pub returns-clause-goes : goal.returns-clause-goes
returns-clause-goes c =
    let subject = c.args.subject.now in
    let samples = ap (λ (b : Bounds). b.samples) c.settings.ensures in
    let all : c.loop-index.index ≡ subject.settings.samples =
    omega (arith, c.loop-index-test.false, c.loop-index.auto.index-end, c.samples-samples.ensures.number, samples) in
    all_sampled subject c.loop-index.pool.items (subst (λ (n : ℕ). IsSampledTo subject c.loop-index.pool.items n) all c.loop-index.invariant.1)
