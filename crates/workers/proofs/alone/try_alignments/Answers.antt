use Rattle.std.proofs.Common.{◌≡◌, ℕ, suc, false, subst, arith}
use Rattle.workers.specs.Alone.{IsTriedTo}
use Rattle.workers.proofs.Stepping.{goes_on}
use Rattle.workers.proofs.alone.try_alignments.Goals as goal

pub loop-k-preserved : goal.loop-k-preserved
loop-k-preserved c =
    let subject = c.args.subject.now in
    let items = c.try_alignment.new.pool.items in
    let none : c.in_ok-try_alignment.field-0 ≡ false = cc in
    let tried = goes_on c.in_ok-try_alignment.field-0 subject items (IsTriedTo subject items (suc c.alignment_after-alignment.result)) none
    c.in_ok-try_alignment.ensures.goes in (
      c.in_ok-try_alignment.ensures.own,
      subst (λ (n : ℕ). IsTriedTo subject items n) (omega (arith, c.alignment_after-alignment.ensures)) tried,
    )

pub returns-clause-goes : goal.returns-clause-goes
returns-clause-goes c =
    subst (λ (n : ℕ). IsTriedTo c.args.subject.now c.loop-k.pool.items n) (omega (arith, c.loop-k-test.false, c.loop-k.auto.k-end))
    c.loop-k.invariant.1
