use Rattle.std.proofs.Common.{◌≡◌, ◌<◌, List, length, get_or, sym, ap, ◌∙◌, subst}
use Rattle.c_ast.specs.declared.place.Place.TheVariants as place
use Rattle.c_ast.specs.declared.trace.Event.{Event}
use Rattle.c_ast.specs.Function.{program_of}
use Rattle.c_ast.specs.Scope.{IsPlace}
use Rattle.llreve_cli.proofs.Marks.{passed_place}
use Rattle.llreve_cli.proofs.tests.runs.scopes.Goals as goal

pub scope-requires : goal.scope-requires
scope-requires c =
    let events = c.in-Returned.trace.events in
    let below : c.loop-event.event-index < length events =
    subst (λ (list : List Event). c.loop-event.event-index < length list) c.as_slice-event-items.ensures c.loop-event-test.true in
    let here : c.event-item.result ≡ get_or events c.loop-event.event-index c.event-item.result =
    c.event-item.is ∙ ap (λ (list : List Event). get_or list c.loop-event.event-index c.event-item.result) c.as_slice-event-items.ensures in
    subst (λ (event : Event). IsPlace (program_of c.args.func.now) (place.Mark event.mark)) (sym here)
    (passed_place (program_of c.args.func.now) c.body.ensures.formed c.args.inputs.now 2000 c.in-Returned.trace
    (sym c.in_ok-trace.ensures ∙ c.in-Returned.is) c.loop-event.event-index c.event-item.result below)
