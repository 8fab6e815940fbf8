-- The answer is the function's, or the first fault.
use Rattle.std.proofs.Common.{◌≤◌, length, arith, ap, ◌∙◌}
use Rattle.c_ast.specs.RawView.{raw_function_of}
use Rattle.c_ast.specs.View.{statements_of}
use Rattle.c_ast.specs.Function.{function}
use Rattle.c_check.proofs.Checking.{is_function}
use Rattle.c_check.proofs.Answering.{checked_by, many_by, refused_by, few_parameters, refuses}
use Rattle.c_check.proofs.unit.check_function.Goals as goal
use Rattle.c_check.proofs.unit.check_function.Goals.{in-Some, in-None}

pub returns-in_err-found : goal.returns-in_err-found
returns-in_err-found c =
    refuses (raw_function_of c.args.func.now) c.in_err-found.field-0.0 c.from_residual.result _ c.from_residual.ensures.0 c.from_residual.ensures.1
    (λ other is. is)
    (refused_by c.args.alloc (raw_function_of c.args.func.now) c.in_err-found.field-0.0 c.requires.shaped c.in_err-found.ensures)

pub overflow_cast-len : goal.overflow_cast-len
overflow_cast-len c =
    let func = raw_function_of c.args.func.now in
    let few : length c.in_ok-found.found.vars ≤ 64 = omega (arith, c.len-count.ensures, c.if-count-gt-VARIABLES.false) in
    let parameters = few_parameters c.args.alloc func c.in_ok-found.found.vars (statements_of c.in_ok-found.found.body) c.requires.shaped
    c.in_ok-found.ensures few in
    omega (arith, c.len.ensures, parameters)

pub new-requires : goal.new-requires
new-requires c =
    let func = raw_function_of c.args.func.now in
    let few : length c.in_ok-found.found.vars ≤ 64 = omega (arith, c.len-count.ensures, c.if-count-gt-VARIABLES.false) in
    let made = function c.in_ok-name.name c.len.result c.in_ok-vars.vars.items c.in_ok-body.body.items in
    is_function func made
    (checked_by c.args.alloc func c.in_ok-found.found.vars (statements_of c.in_ok-found.found.body) made c.requires.shaped c.in_ok-found.ensures few
    c.in_ok-name.ensures c.len.ensures c.in_ok-vars.ensures.same (ap statements_of c.in_ok-body.ensures.same)) c.requires.shaped

pub returns : goal.returns
returns c =
    let func = raw_function_of c.args.func.now in
    let few : length c.in_ok-found.found.vars ≤ 64 = omega (arith, c.len-count.ensures, c.if-count-gt-VARIABLES.false) in
    let made = function c.in_ok-name.name c.len.result c.in_ok-vars.vars.items c.in_ok-body.body.items in
    rw c.new.ensures
    (checked_by c.args.alloc func c.in_ok-found.found.vars (statements_of c.in_ok-found.found.body) made c.requires.shaped c.in_ok-found.ensures few
    c.in_ok-name.ensures c.len.ensures c.in_ok-vars.ensures.same (ap statements_of c.in_ok-body.ensures.same))

pub returns-then-count-gt-VARIABLES : goal.returns-then-count-gt-VARIABLES
returns-then-count-gt-VARIABLES c =
    let func = raw_function_of c.args.func.now in
    elim c.match-many.branch [
      | in-Some w ↦ rw w.result-is
          (many_by c.args.alloc func c.in_ok-found.found.vars (statements_of c.in_ok-found.found.body) w.in-Some.count c.requires.shaped c.in_ok-found.ensures
          (omega (arith, c.len-count.ensures, c.if-count-gt-VARIABLES.true)) (w.in-Some.ensures ∙ c.len-count.ensures))
      | in-None w ↦ rw w.result-is tt
    ]
