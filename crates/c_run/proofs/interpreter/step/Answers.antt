-- Each kind of item takes the run's step.
use Rattle.std.proofs.Common.{true, false, to_z-of_z, FitsSigned, rules, refl, sym, ◌∙◌}
use Rattle.std.specs.Int.{w128}
use Rattle.c_run.specs.declared.interpreter.Item.TheVariants as item
use Rattle.c_run.specs.Shown.{loop_of, work_of}
use Rattle.c_run.proofs.Steps.{front_of, takes-Test, takes-Cond, takes-Tail}
use Rattle.c_run.proofs.interpreter.step.Goals as goal

pub returns-in_ok-put-in-Test : goal.returns-in_ok-put-in-Test
returns-in_ok-put-in-Test c =
    let is = front_of c.args.work.now.items c.pop_front.new.self.items c.in-Some.item (item.Test c.in-Test.parts) c.in-Some.ensures.items c.in-Test.is in
    takes-Test (work_of c.args.work.now.items) c.pop_front.new.self.items c.put.new.work.items
    (loop_of c.in-Test.parts) c.in-Test.parts.mark c.args.environment.now c.tested.result is refl c.tested.ensures c.in_ok-put-in-Test.ensures

pub returns-in_ok-turn-in-Cond : goal.returns-in_ok-turn-in-Cond
returns-in_ok-turn-in-Cond c =
    let fits : FitsSigned w128 c.in-Some-value_of.value = search rules in
    let is = front_of c.args.work.now.items c.pop_front.new.self.items c.in-Some.item (item.Cond c.in-Cond.parts) c.in-Some.ensures.items c.in-Cond.is in
    let decides = simp to_z-of_z at c.is_nonzero.ensures in
    takes-Cond (work_of c.args.work.now.items) c.pop_front.new.self.items c.turn.new.work.items c.in-Cond.parts c.args.environment.now c.in-Some-value_of.value
    true is c.in-Some-value_of.ensures.value
    (sym decides ∙ c.if-is_nonzero.true) c.in_ok-turn-in-Cond.ensures

pub returns-else-is_nonzero : goal.returns-else-is_nonzero
returns-else-is_nonzero c =
    let fits : FitsSigned w128 c.in-Some-value_of.value = search rules in
    let is = front_of c.args.work.now.items c.pop_front.new.self.items c.in-Some.item (item.Cond c.in-Cond.parts) c.in-Some.ensures.items c.in-Cond.is in
    let decides = simp to_z-of_z at c.is_nonzero.ensures in
    takes-Cond (work_of c.args.work.now.items) c.pop_front.new.self.items c.pop_front.new.self.items c.in-Cond.parts c.args.environment.now
    c.in-Some-value_of.value false is c.in-Some-value_of.ensures.value
    (sym decides ∙ c.if-is_nonzero.false) refl

pub returns-in_ok-put-in-Tail-2 : goal.returns-in_ok-put-in-Tail-2
returns-in_ok-put-in-Tail-2 c =
    let is = front_of c.args.work.now.items c.pop_front.new.self.items c.in-Some.item (item.Tail c.in-Tail.parts) c.in-Some.ensures.items c.in-Tail.is in
    takes-Tail (work_of c.args.work.now.items) c.pop_front.new.self.items c.put-in-Tail.new.work.items c.put-in-Tail-2.new.work.items c.in-Tail.parts
    c.args.environment.now is
    c.in_ok-put-in-Tail.ensures c.in_ok-put-in-Tail-2.ensures
