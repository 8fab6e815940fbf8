use Rattle.std.proofs.Common.{ap, sym, ◌∙◌, length}
use Rattle.std.specs.Prelude.{Option}
use Rattle.c_ast.specs.View.{expression_of}
use Rattle.flow_graph.specs.declared.op.Op.TheVariants as op
use Rattle.flow_graph.specs.Operation.{Operation, operation_of}
use Rattle.flow_graph.specs.FlowGraph.{operation_at}
use Rattle.sym_paths.specs.Walk.{gives}
use Rattle.sym_paths.specs.Machine.{Move, entered_by}
use Rattle.sym_paths.proofs.Advancing.{set_fits, branch_fits, mark_is_known, operation_is}
use Rattle.sym_paths.proofs.node.begun.Goals as goal

pub returns-in-Set-clause-step : goal.returns-in-Set-clause-step
returns-in-Set-clause-step c state =
    ap (λ (m : Move). gives m state) (c.in_ok-step-in-Set.ensures.step c.args.room c.args.graph.now)
    ∙ sym (ap (λ (o : Option Operation). entered_by c.args.room c.args.graph.now c.args.left o c.args.forms.items state)
    (operation_is c.args.graph.now c.args.node c.op.result.now (op.Set c.in-Set.var c.in-Set.value c.in-Set.next) c.op.ensures.op c.in-Set.is))

pub returns-in-Set-clause-sound : goal.returns-in-Set-clause-sound
returns-in-Set-clause-sound c =
    let fits = set_fits (operation_at c.args.graph.now) (length c.args.graph.now.ops) c.args.graph.now.vars c.args.node c.in-Set.var
    (expression_of c.in-Set.value) c.in-Set.next
    (c.op.ensures.formed.fit c.args.node (operation_of (op.Set c.in-Set.var c.in-Set.value c.in-Set.next))
    (operation_is c.args.graph.now c.args.node c.op.result.now (op.Set c.in-Set.var c.in-Set.value c.in-Set.next) c.op.ensures.op c.in-Set.is)) in
    c.in_ok-step-in-Set.ensures.sound c.args.room c.args.graph.now fits.0 fits.1 c.requires.forms

pub returns-in-Branch-clause-step : goal.returns-in-Branch-clause-step
returns-in-Branch-clause-step c state =
    ap (λ (m : Move). gives m state) (c.in_ok-step-in-Branch.ensures.step c.args.room c.args.graph.now)
    ∙ sym (ap (λ (o : Option Operation). entered_by c.args.room c.args.graph.now c.args.left o c.args.forms.items state)
    (operation_is c.args.graph.now c.args.node c.op.result.now (op.Branch c.in-Branch.cond c.in-Branch.yes c.in-Branch.no) c.op.ensures.op c.in-Branch.is))

pub returns-in-Branch-clause-sound : goal.returns-in-Branch-clause-sound
returns-in-Branch-clause-sound c =
    let fits = branch_fits (operation_at c.args.graph.now) (length c.args.graph.now.ops) c.args.graph.now.vars c.args.node
    (expression_of c.in-Branch.cond) c.in-Branch.yes c.in-Branch.no
    (c.op.ensures.formed.fit c.args.node (operation_of (op.Branch c.in-Branch.cond c.in-Branch.yes c.in-Branch.no))
    (operation_is c.args.graph.now c.args.node c.op.result.now (op.Branch c.in-Branch.cond c.in-Branch.yes c.in-Branch.no) c.op.ensures.op c.in-Branch.is)) in
    c.in_ok-step-in-Branch.ensures.sound c.args.room c.args.graph.now fits.0 fits.1 c.requires.forms

pub at_mark-requires : goal.at_mark-requires
at_mark-requires c =
    mark_is_known c.args.graph.now c.args.node c.in-Mark.mark c.in-Mark.next c.op.ensures.formed
    (operation_is c.args.graph.now c.args.node c.op.result.now (op.Mark c.in-Mark.mark c.in-Mark.next) c.op.ensures.op c.in-Mark.is)

pub returns-clause-step : goal.returns-clause-step
returns-clause-step c state =
    ap (λ (m : Move). gives m state) (c.in_ok-step-in-Return.ensures.step c.args.room c.args.graph.now)
    ∙ sym (ap (λ (o : Option Operation). entered_by c.args.room c.args.graph.now c.args.left o c.args.forms.items state)
    (operation_is c.args.graph.now c.args.node c.op.result.now (op.Return c.in-Return.value) c.op.ensures.op c.in-Return.is))

pub returns-clause-sound : goal.returns-clause-sound
returns-clause-sound c =
    c.in_ok-step-in-Return.ensures.sound c.args.room c.args.graph.now
    (c.op.ensures.formed.fit c.args.node (operation_of (op.Return c.in-Return.value))
    (operation_is c.args.graph.now c.args.node c.op.result.now (op.Return c.in-Return.value) c.op.ensures.op c.in-Return.is)) tt c.requires.forms
