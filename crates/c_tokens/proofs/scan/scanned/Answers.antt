use Rattle.std.proofs.Common.{length, drop, arith, refl, ◌≤◌}
use Rattle.std.proofs.lemmas.Result.{err_from_is_err_and}
use Rattle.std.proofs.lemmas.List.{length-drop, length-take}
use Rattle.c_tokens.specs.Tokens.{IsFault}
use Rattle.c_tokens.proofs.FollowLaws.{place_behind-moves, step-moves, step-fault, handed_on, follow-end, follow-more}
use Rattle.c_tokens.proofs.scan.scanned.Goals as goal

pub returns-in_err-token-clause-fault : goal.returns-in_err-token-clause-fault
returns-in_err-token-clause-fault c =
    let p = err_from_is_err_and c.from_residual.result c.from_residual.ensures.1 in
    handed_on (IsFault c.args.text.now) c.from_residual.result p.0 c.in_err-token.field-0.0 p.1 p.2
    (step-fault c.args.text.now _ c.loop-at.at c.loop-at.place c.loop-at.tokens.items c.in_err-token.field-0.0 c.split_at.ensures.back c.loop-at.invariant.place
    c.loop-at-test.true c.in_err-token.ensures c.loop-at.invariant.so_far)

pub loop-at-preserved : goal.loop-at-preserved
loop-at-preserved c =
    let moves = step-moves c.args.text.now c.split_at.result.1.now c.loop-at.at c.loop-at.place c.in_ok-token.token c.in_ok-token.len
    c.split_at.ensures.back c.loop-at.invariant.place c.loop-at-test.true c.in_ok-token.ensures in
    let few : c.in_ok-token.len ≤ length (drop c.loop-at.at c.args.text.now) = moves.within in
    let left = length-drop c.loop-at.at c.args.text.now in
    record {
      within = omega (arith, few, left);
      column = c.after_bytes-place.ensures.column;
      small = omega (arith, c.after_bytes-place.ensures.small, c.loop-at.invariant.small, length-take c.in_ok-token.len c.split_at.result.1.now);
      place = place_behind-moves c.args.text.now _ _ c.loop-at.at c.in_ok-token.len c.loop-at.place c.after_bytes-place.result
          c.split_at.ensures.back refl c.loop-at.invariant.place c.after_bytes-place.ensures.value;
      so_far = follow-more c.args.text.now c.loop-at.at c.in_ok-token.len c.loop-at.tokens.items c.push_some.new.tokens.items
          c.in_ok-token.token c.in_ok-push_some.ensures moves c.loop-at.invariant.so_far;
    }

pub returns-clause-tokens : goal.returns-clause-tokens
returns-clause-tokens c =
    follow-end c.args.text.now c.loop-at.at c.loop-at.tokens.items (omega (arith, c.loop-at.invariant.within)) c.loop-at.invariant.so_far
