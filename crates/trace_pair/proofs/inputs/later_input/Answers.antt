use Rattle.std.proofs.Common.{ℕ, ◌-◌, ◌+◌, sym, ap, ◌∙◌, arith, rules, FitsSigned, to_z-of_z}
use Rattle.std.specs.Int.{w128}
use Rattle.rand_pcg.specs.Lcg.{Lcg}
use Rattle.trace_pair.proofs.Words.{one_word_more}
use Rattle.trace_pair.proofs.inputs.later_input.Goals as goal

pub loop-parameter-preserved : goal.loop-parameter-preserved
loop-parameter-preserved c =
    let word = ap (λ (p : ℕ × Lcg). p.0) c.next_word.ensures in
    let generator = ap (λ (p : ℕ × Lcg). p.1) c.next_word.ensures in
    let before = c.loop-parameter.values.items in
    let more = one_word_more (c.args.arity - c.loop-parameter._parameter) (c.args.arity - (c.loop-parameter._parameter + 1)) c.loop-parameter.generator before
    (omega arith) in
    let fits : FitsSigned w128 c.word_value.result = search (rules, c.word_value.type_inv) in
    rw (c.in_ok-push.ensures.items, generator) (simp to_z-of_z (rw (c.word_value.ensures, word) (sym more ∙ c.loop-parameter.invariant)))
