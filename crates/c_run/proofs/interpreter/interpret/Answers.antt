-- The loop takes one step of the run after another.
use Rattle.std.proofs.Common.{◌≡◌, ◌-◌, ◌+◌, ◌∷◌, [], length, arith, ap, ◌∙◌, subst, rules, FitsSigned, to_z-of_z}
use Rattle.std.specs.Int.{w128}
use Rattle.c_run.specs.declared.interpreter.Next.{Next}
use Rattle.c_ast.specs.Step.{Run, first_variables, spread}
use Rattle.c_ast.specs.View.{statements_of}
use Rattle.c_run.specs.Shown.{work_of, TakesStep}
use Rattle.c_ast.specs.Function.{program_of}
use Rattle.c_ast.specs.Outcome.{outcome_within}
use Rattle.c_run.proofs.Interpreting.{begins, step_within, goes, passes, passed_place, passed_on, ends, meets_wide}
use Rattle.c_run.proofs.interpreter.interpret.Goals as goal
use Rattle.c_run.proofs.interpreter.interpret.Goals.{in-Goes, in-Passes+in_ok-event-in-Passes+in_ok-push-in-Passes}

pub loop-taken-init : goal.loop-taken-init
loop-taken-init c =
    let f = program_of c.args.func.now in
    let environment : c.as_mut_slice-environment.result.now ≡ spread (first_variables c.args.func.now.params) (length c.args.func.now.vars) c.args.inputs.now =
    c.as_mut_slice-environment.ensures.value ∙ c.in_ok-values.ensures
    ∙ ap (λ n. spread (first_variables n) (length c.vars.result.now) c.args.inputs.now) c.requires
    ∙ ap (λ vs. spread (first_variables c.args.func.now.params) (length vs) c.args.inputs.now) c.vars.ensures in
    let work : work_of c.put.new.work.items ≡ Run [] (statements_of c.args.func.now.body) ∷ [] =
    c.in_ok-put.ensures ∙ ap (λ b. Run [] (statements_of b) ∷ work_of c.new-work.result.items) c.body-body.ensures.body
    ∙ ap (λ l. Run [] (statements_of c.args.func.now.body) ∷ work_of l) c.new-work.ensures.items in
    rw c.new-events.ensures
    (begins f c.body-body.ensures.formed c.args.inputs.now c.args.steps (c.args.steps - 0) c.put.new.work.items c.as_mut_slice-environment.result.now
    (omega arith) work environment)

pub step-requires : goal.step-requires
step-requires c =
    step_within (program_of c.args.func.now) (outcome_within c.args.steps (program_of c.args.func.now) c.args.inputs.now)
    (c.args.steps - c.loop-taken._taken) c.loop-taken.events c.loop-taken.work.items
    c.loop-taken.environment c.loop-taken.invariant

pub event-requires-clause-place : goal.event-requires-clause-place
event-requires-clause-place c =
    let f = program_of c.args.func.now in
    let o = outcome_within c.args.steps f c.args.inputs.now in
    let left = c.args.steps - (c.loop-taken._taken + 1) in
    let takes = subst (λ (n : Next). TakesStep (work_of c.loop-taken.work.items) c.loop-taken.environment n
    (work_of c.step.new.work.items) c.step.new.environment) c.in-Passes.is c.in_ok-step.ensures in
    passed_place f o left c.loop-taken.events c.in-Passes.mark c.step.new.work.items c.step.new.environment
    (passes f o (c.args.steps - c.loop-taken._taken) left c.loop-taken.events c.in-Passes.mark c.loop-taken.work.items c.step.new.work.items
    c.loop-taken.environment c.step.new.environment (omega arith) c.loop-taken.invariant takes)

pub returns-in-Ends : goal.returns-in-Ends
returns-in-Ends c =
    let f = program_of c.args.func.now in
    let o = outcome_within c.args.steps f c.args.inputs.now in
    let fits : FitsSigned w128 c.in-Ends.result = search rules in
    let takes = subst (λ (n : Next). TakesStep (work_of c.loop-taken.work.items) c.loop-taken.environment n
    (work_of c.step.new.work.items) c.step.new.environment) c.in-Ends.is c.in_ok-step.ensures in
    rw (to_z-of_z fits)
    (ends f o (c.args.steps - c.loop-taken._taken)
    (c.args.steps - (c.loop-taken._taken + 1)) c.loop-taken.events c.in-Ends.result c.loop-taken.work.items
    (work_of c.step.new.work.items) c.loop-taken.environment
    c.step.new.environment (omega arith) c.loop-taken.invariant takes)

pub returns-in-Wide : goal.returns-in-Wide
returns-in-Wide c =
    let f = program_of c.args.func.now in
    let o = outcome_within c.args.steps f c.args.inputs.now in
    let takes = subst (λ (n : Next). TakesStep (work_of c.loop-taken.work.items) c.loop-taken.environment n
    (work_of c.step.new.work.items) c.step.new.environment) c.in-Wide.is c.in_ok-step.ensures in
    meets_wide f o (c.args.steps - c.loop-taken._taken)
    (c.args.steps - (c.loop-taken._taken + 1)) c.loop-taken.events c.loop-taken.work.items (work_of c.step.new.work.items) c.loop-taken.environment
    c.step.new.environment (omega arith) c.loop-taken.invariant takes

pub loop-taken-preserved : goal.loop-taken-preserved
loop-taken-preserved c =
    let f = program_of c.args.func.now in
    let o = outcome_within c.args.steps f c.args.inputs.now in
    let left = c.args.steps - (c.loop-taken._taken + 1) in
    elim c.match-branch-4.branch [
      | in-Goes w ↦
          let takes = subst (λ (n : Next). TakesStep (work_of c.loop-taken.work.items) c.loop-taken.environment n
          (work_of c.step.new.work.items) c.step.new.environment) w.in-Goes.is c.in_ok-step.ensures in
          rw w.events-is
          (goes f o (c.args.steps - c.loop-taken._taken) left c.loop-taken.events c.loop-taken.work.items c.step.new.work.items c.loop-taken.environment
          c.step.new.environment (omega arith) c.loop-taken.invariant takes)
      | in-Passes+in_ok-event-in-Passes+in_ok-push-in-Passes w ↦
          let takes = subst (λ (n : Next). TakesStep (work_of c.loop-taken.work.items) c.loop-taken.environment n
          (work_of c.step.new.work.items) c.step.new.environment) w.in-Passes.is c.in_ok-step.ensures in
          let passed = passes f o (c.args.steps - c.loop-taken._taken) left c.loop-taken.events w.in-Passes.mark c.loop-taken.work.items c.step.new.work.items
          c.loop-taken.environment c.step.new.environment (omega arith) c.loop-taken.invariant takes in
          let events = w.events-is ∙ w.in_ok-push-in-Passes.ensures.ok in
          rw events (passed_on f o left c.loop-taken.events w.in-Passes.mark c.step.new.work.items c.step.new.environment w.in_ok-event-in-Passes.event passed
          w.in_ok-event-in-Passes.ensures)
    ]
