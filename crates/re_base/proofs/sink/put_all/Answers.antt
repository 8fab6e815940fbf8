use Rattle.std.proofs.Common.{take, drop, sym, rules}
use Rattle.std.proofs.lemmas.List.{take-append-drop}
use Rattle.std.proofs.lemmas.Result.{err_from_is_err_and}
use Rattle.std.proofs.KnownBytes.{Appends-kept}
use Rattle.re_base.proofs.Known.{Appends-more}
use Rattle.re_base.proofs.sink.put_all.Goals as goal

pub returns-in_err-done-clause-part : goal.returns-in_err-done-clause-part
returns-in_err-done-clause-part g c =
    let refused = err_from_is_err_and c.from_residual.result c.from_residual.ensures.1 in
    rw refused.1 (
      take c.loop-done.done c.args.text.now,
      drop c.loop-done.done c.args.text.now,
      sym (take-append-drop c.loop-done.done c.args.text.now),
      Appends-kept _ _ _ _ c.loop-done.invariant.written c.in_err-done.ensures.bytes,
    )

pub loop-done-preserved : goal.loop-done-preserved
loop-done-preserved g c = record {
  within = search rules;
  written =
      let invariant = c.loop-done.invariant in
      Appends-more _ _ _ c.args.text.now c.loop-done.done c.in_ok-done.field-0 invariant.within invariant.written c.in_ok-done.ensures.bytes;
  later = search rules;
}
