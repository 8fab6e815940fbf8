use Rattle.std.proofs.Common.{◌≡◌, ◌<◌, false, sym, subst}
use Rattle.walks.specs.declared.position.Position.{Position}
use Rattle.walks.specs.Walk.{is_at_exits}
use Rattle.walks.proofs.Reaching.{ahead, less_ahead, left_after_move, together_after_move}
use Rattle.walks.proofs.moving.positions.Goals as goal

pub loop-alignment-smaller : goal.loop-alignment-smaller
loop-alignment-smaller c =
    let pair = c.args.pair.now in
    let at = c.loop-alignment.position in
    let before : is_at_exits pair at ≡ false = cc in
    let less = less_ahead c.args.alignment c.next-position.ensures.named pair at before in
    subst (λ (z : Position). ahead pair z < ahead pair at) (sym c.next-position.ensures.next) less

pub loop-alignment-preserved : goal.loop-alignment-preserved
loop-alignment-preserved c =
    let pair = c.args.pair.now in
    let at = c.loop-alignment.position in
    let before : is_at_exits pair at ≡ false = cc in
    record {
      left = left_after_move c.args.alignment pair c.loop-alignment.made.items c.push.new.self.items at c.next-position.result
          c.next-position.ensures.named before c.next-position.ensures.next c.in_ok-push.ensures.items c.loop-alignment.invariant.left;
      together = together_after_move c.args.alignment pair at c.next-position.result c.next-position.ensures.next c.loop-alignment.invariant.together;
    }
