use Rattle.std.proofs.Common.{◌≡◌, ◌+◌, ◌-◌, ◌≤◌, false, length, sym, ap, ◌∙◌, arith}
use Rattle.c_ast.specs.declared.place.Place.{Place}
use Rattle.walks.specs.Side.{leaves_mark, place_at}
use Rattle.walks.proofs.Taking.{taken_goes_on}
use Rattle.walks.proofs.side.take.Goals as goal

pub loop-left-preserved : goal.loop-left-preserved
loop-left-preserved c =
    let trace = c.args.trace.now in
    let at = c.loop-left.at in
    let inside : at ≤ length trace.events = omega (arith, ap length c.as_slice-events.ensures) in
    let stays : leaves_mark (place_at trace at) (place_at trace (at + 1)) ≡ false =
    ap (λ (z : Place). leaves_mark z (place_at trace (at + 1))) (sym c.place_at.ensures)
    ∙ ap (λ (z : Place). leaves_mark c.place_at.result z) (sym c.place_at-in-loop-left.ensures) ∙ sym c.leaves_mark.ensures ∙ c.if-leaves_mark.false in
    taken_goes_on trace c.loop-left.left (c.loop-left.left - 1) at (at + 1) (omega (arith, c.loop-left-test.true)) (omega arith) inside stays
    ∙ c.loop-left.invariant
