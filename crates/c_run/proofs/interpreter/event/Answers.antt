use Rattle.std.proofs.Common.{ℕ, ◌<◌, slice_index_or, subst, sym}
use Rattle.c_ast.specs.declared.place.Place.TheVariants as place
use Rattle.c_ast.specs.Function.{program_of}
use Rattle.c_run.proofs.Events.{in_scope-below, event_is}
use Rattle.c_run.proofs.interpreter.event.Goals as goal

pub bounds-environment-x : goal.bounds-environment-x
bounds-environment-x c =
    subst (λ (n : ℕ). slice_index_or c.deref-x-items.result.now c.loop-x.x-index 0 < n) (sym c.requires.variables)
    (in_scope-below (program_of c.args.func.now)
    (place.Mark c.args.mark) c.in_ok-variables.variables.items c.deref-x-items.result.now c.requires.place.work c.requires.place.from c.in_ok-variables.ensures
    c.deref-x-items.ensures.value
    c.loop-x.x-index c.loop-x-test.true)

pub returns : goal.returns
returns c =
    event_is (program_of c.args.func.now) c.args.mark c.args.environment.now c.in_ok-variables.variables.items c.deref-x-items.result.now c.loop-x.x-index
    c.loop-x.values c.requires.variables c.in_ok-variables.ensures
    c.deref-x-items.ensures.value c.loop-x-test.false c.loop-x.invariant
