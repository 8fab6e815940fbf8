-- Each turn of the loop is one step of the run.
use Rattle.std.proofs.Common.{length, ap, sym, ◌∙◌, subst, arith, rules, FitsSigned, to_z-of_z}
use Rattle.std.specs.Int.{w128}
use Rattle.c_ast.specs.Step.{first_variables, spread}
use Rattle.graph_run.proofs.Running.{Runs, begins, step_ready, goes, goes_nearer, has_place, not_ended, passes, passes_nearer, ends, ends_fit, meets_wide}
use Rattle.graph_run.proofs.runs.run.Goals as goal

pub loop-next-init : goal.loop-next-init
loop-next-init c =
    let environment = c.as_mut_slice-environment.ensures.value ∙ c.in_ok-values.ensures
    ∙ ap (λ n. spread (first_variables (length c.args.input.now)) n c.args.input.now) c.vars.ensures in
    subst (λ events. Runs c.args.graph.now c.args.input.now c.args.marks c.args.marks events c.after-node.result c.as_mut_slice-environment.result.now)
    (sym c.new-events.ensures)
    (begins c.args.graph.now c.args.input.now c.as_mut_slice-environment.result.now c.args.marks c.after-node.result c.requires.arity c.requires.fits
    environment c.after-node.ensures.node c.after-node.ensures.below)

pub step-requires : goal.step-requires
step-requires c = step_ready c.op.ensures.formed c.loop-next.invariant c.op.ensures.op

pub loop-next-smaller-in-Goes : goal.loop-next-smaller-in-Goes
loop-next-smaller-in-Goes c = goes_nearer c.op.ensures.formed c.loop-next.invariant c.op.ensures.op c.step.new.environment c.in-Goes.is c.step.ensures

pub loop-next-preserved-in-Goes : goal.loop-next-preserved-in-Goes
loop-next-preserved-in-Goes c = goes c.op.ensures.formed c.loop-next.invariant c.op.ensures.op c.step.new.environment c.in-Goes.is c.step.ensures

pub returns-then-left-eq0 : goal.returns-then-left-eq0
returns-then-left-eq0 c = not_ended c.op.ensures.formed c.loop-next.invariant c.op.ensures.op c.step.new.environment c.in-Passes.is c.step.ensures
    c.if-left-eq0.true

pub event-requires-clause-place : goal.event-requires-clause-place
event-requires-clause-place c = has_place c.op.ensures.formed c.loop-next.invariant c.op.ensures.op c.step.new.environment c.in-Passes.is c.step.ensures

pub loop-next-smaller : goal.loop-next-smaller
loop-next-smaller c = passes_nearer c.op.ensures.formed c.loop-next.invariant c.op.ensures.op c.step.new.environment c.in-Passes.is c.step.ensures (omega arith)
    c.in_ok-event-in-Passes.ensures

pub loop-next-preserved : goal.loop-next-preserved
loop-next-preserved c =
    rw c.in_ok-push-in-Passes.ensures.ok (passes c.op.ensures.formed c.loop-next.invariant c.op.ensures.op c.step.new.environment c.in-Passes.is c.step.ensures
    (omega arith) c.in_ok-event-in-Passes.ensures)

pub returns-in-Ends : goal.returns-in-Ends
returns-in-Ends c =
    let fits : FitsSigned w128 c.in-Ends.result = search rules in
    rw (to_z-of_z fits) (
      ends c.op.ensures.formed c.loop-next.invariant c.op.ensures.op c.step.new.environment c.in-Ends.is c.step.ensures,
      ends_fit c.op.ensures.formed c.loop-next.invariant c.op.ensures.op c.step.new.environment c.in-Ends.is c.step.ensures,
    )

pub returns-in-Wide : goal.returns-in-Wide
returns-in-Wide c = meets_wide c.op.ensures.formed c.loop-next.invariant c.op.ensures.op c.step.new.environment c.in-Wide.is c.step.ensures
