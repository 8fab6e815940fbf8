use Rattle.std.proofs.Common.{subst, sym, ap, ◌∙◌, map}
use Rattle.std.specs.Option.{option_copied}
use Rattle.flow_graph.specs.Stops.{AreKnown, joined}
use Rattle.flow_graph.proofs.Stopping.{known_first, known_later, joined_more}
use Rattle.flow_graph.proofs.stop.join.Goals as goal

pub loop-mark-init : goal.loop-mark-init
loop-mark-init c =
    let all = c.into_iter-mark-iterator.ensures.into_iter_gives in
    record {
      known = subst (AreKnown c.args.nexts.now) (sym all.0) c.requires;
      joined = rw c.new-stops.ensures.items (ap (map (joined c.args.nexts.now)) all.0);
    }

pub unwrap-next-requires : goal.unwrap-next-requires
unwrap-next-requires c =
    known_first c.args.nexts.now c.loop-mark.mark-iterator c.next.new.self (c.in-Some.mark, c.in-Some.scope) c.get.result c.in-Some.ensures.steps
    c.loop-mark.invariant.known c.get.ensures.value

pub loop-mark-preserved : goal.loop-mark-preserved
loop-mark-preserved c =
    record {
      known = known_later c.args.nexts.now c.loop-mark.mark-iterator c.next.new.self (c.in-Some.mark, c.in-Some.scope) c.in-Some.ensures.steps
          c.loop-mark.invariant.known;
      joined = joined_more c.args.nexts.now c.loop-mark.stops.items c.push.new.self.items _ c.loop-mark.mark-iterator c.next.new.self
          (c.in-Some.mark, c.in-Some.scope) c.unwrap-next.result.now c.loop-mark.invariant.joined c.in-Some.ensures.steps
          (sym c.get.ensures.value ∙ ap option_copied c.unwrap-next.ensures) c.in_ok-push.ensures.items;
    }
