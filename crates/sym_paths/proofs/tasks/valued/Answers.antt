use Rattle.std.proofs.Common.{rules, to_z-of_z, FitsSigned, refl, ap, sym, subst, map, ◌∙◌, List, [], ◌∷◌}
use Rattle.std.specs.Prelude.{pos, slice_index_or}
use Rattle.std.specs.Int.{w64}
use Rattle.c_ast.specs.declared.expr.Expr.{Expr}
use Rattle.c_ast.specs.Tree.{Un, Bin, Cond}
use Rattle.c_ast.specs.View.{expression_of}
use Rattle.c_ast.specs.Value.{CanEvaluate}
use Rattle.lin_terms.specs.declared.form.Form.{Form}
use Rattle.lin_terms.specs.Form.{constant_form}
use Rattle.sym_paths.specs.declared.task.Entry.{Entry}
use Rattle.sym_paths.specs.Machine.{Value, Unary, Choose, operator_tasks, todo}
use Rattle.sym_paths.specs.Arrivals.{fresh, made_of, entry_of, pending_of}
use Rattle.sym_paths.proofs.Advancing.{case_of, task_then, constant_advanced, value_advanced, variable_has_room, one_is_sound}
use Rattle.sym_paths.proofs.Advancing.{tree_num, tree_var, tree_un, tree_bin, tree_cond}
use Rattle.sym_paths.proofs.tasks.valued.Goals as goal

pub returns-in_ok-moves-in-Num-clause-moves : goal.returns-in_ok-moves-in-Num-clause-moves
returns-in_ok-moves-in-Num-clause-moves c graph =
    let fits : FitsSigned w64 c.in-Num.value = search rules in
    constant_advanced c.args.room graph (pending_of c.args.pending) c.in-Num.value (expression_of c.args.expr.now) (fresh c.args.columns)
    (map made_of c.in_ok-made-in-Num.made.items) (map entry_of c.in_ok-moves-in-Num.moves.items)
    (ap expression_of c.in-Num.is ∙ tree_num c.in-Num.value) (simp to_z-of_z at c.in_ok-made-in-Num.ensures.made)
    (c.in_ok-moves-in-Num.ensures.moves c.args.room graph)

pub returns-in_ok-moves-in-Num-clause-sound : goal.returns-in_ok-moves-in-Num-clause-sound
returns-in_ok-moves-in-Num-clause-sound c graph under can =
    c.in_ok-moves-in-Num.ensures.sound c.args.room graph under c.in_ok-made-in-Num.ensures.room

pub returns-in_ok-moves-in-Var-clause-moves : goal.returns-in_ok-moves-in-Var-clause-moves
returns-in_ok-moves-in-Var-clause-moves c graph =
    let p = pending_of c.args.pending in
    value_advanced c.args.room graph p (pending_of c.in_ok-next-in-Var.next) (expression_of c.args.expr.now) _
    (todo [] (slice_index_or p.forms c.in-Var.x (constant_form c.args.room (pos 0)) ∷ p.stack)) (fresh c.args.columns)
    (map entry_of c.in_ok-moves-in-Var.moves.items) (ap expression_of c.in-Var.is ∙ tree_var c.in-Var.x) refl
    (c.in_ok-next-in-Var.ensures.case c.args.room graph ∙ ap (λ (f : Form). case_of c.args.room graph p (todo [] (f ∷ p.stack)))
    (c.in_ok-form-in-Var.ensures ∙ ap (λ (fs : List Form). slice_index_or fs c.in-Var.x
    (constant_form c.args.room (pos 0))) c.as_slice.ensures.value)) (ap (λ (moves : List Entry). map entry_of moves) c.in_ok-moves-in-Var.ensures)

pub returns-in_ok-moves-in-Var-clause-sound : goal.returns-in_ok-moves-in-Var-clause-sound
returns-in_ok-moves-in-Var-clause-sound c graph under can =
    one_is_sound c.args.room graph _ c.in_ok-moves-in-Var.moves.items c.in_ok-moves-in-Var.ensures
    (c.in_ok-next-in-Var.ensures.sound c.args.room graph under
    (variable_has_room c.args.room c.in-Var.x c.in_ok-form-in-Var.form c.args.pending.forms.items under.forms
    (c.in_ok-form-in-Var.ensures ∙ ap (λ (fs : List Form). slice_index_or fs c.in-Var.x (constant_form c.args.room (pos 0))) c.as_slice.ensures.value)))

pub returns-in_ok-moves-in-Un-clause-moves : goal.returns-in_ok-moves-in-Un-clause-moves
returns-in_ok-moves-in-Un-clause-moves c graph =
    let p = pending_of c.args.pending in
    value_advanced c.args.room graph p (pending_of c.in_ok-next-in-Un.next) (expression_of c.args.expr.now) _
    (todo (Value (expression_of c.get.result.now) ∷ Unary c.in-Un.op ∷ []) p.stack) (fresh c.args.columns)
    (map entry_of c.in_ok-moves-in-Un.moves.items) (ap expression_of c.in-Un.is ∙ tree_un c.in-Un.op c.in-Un.operand ∙ ap
    (λ (e : Expr). Un c.in-Un.op (expression_of e)) (sym c.get.ensures)) refl
    (task_then c.args.room graph p (pending_of c.in_ok-behind-in-Un.behind) (pending_of c.in_ok-next-in-Un.next) (Value (expression_of c.get.result.now))
    (Unary c.in-Un.op ∷ []) p.stack (c.in_ok-behind-in-Un.ensures.case c.args.room graph) (c.in_ok-next-in-Un.ensures.case c.args.room graph))
    (ap (λ (moves : List Entry). map entry_of moves) c.in_ok-moves-in-Un.ensures)

pub returns-in_ok-moves-in-Un-clause-sound : goal.returns-in_ok-moves-in-Un-clause-sound
returns-in_ok-moves-in-Un-clause-sound c graph under can =
    one_is_sound c.args.room graph _ c.in_ok-moves-in-Un.moves.items c.in_ok-moves-in-Un.ensures
    (c.in_ok-next-in-Un.ensures.sound c.args.room graph (c.in_ok-behind-in-Un.ensures.sound c.args.room graph under tt)
    (subst (CanEvaluate graph.vars) (ap expression_of c.in-Un.is ∙ tree_un c.in-Un.op c.in-Un.operand ∙ ap
    (λ (e : Expr). Un c.in-Un.op (expression_of e)) (sym c.get.ensures)) can))

pub returns-in_ok-moves-in-Bin-clause-moves : goal.returns-in_ok-moves-in-Bin-clause-moves
returns-in_ok-moves-in-Bin-clause-moves c graph =
    let p = pending_of c.args.pending in
    value_advanced c.args.room graph p (pending_of c.in_ok-next-in-Bin.next) (expression_of c.args.expr.now) _
    (todo (operator_tasks c.in-Bin.op (expression_of c.get-in-Bin-2.result.now) (expression_of c.get-in-Bin.result.now)) p.stack) (fresh c.args.columns)
    (map entry_of c.in_ok-moves-in-Bin.moves.items) (ap expression_of c.in-Bin.is ∙ tree_bin c.in-Bin.op c.in-Bin.left c.in-Bin.right
    ∙ ap (λ (e : Expr). Bin c.in-Bin.op (expression_of e) (expression_of c.in-Bin.right)) (sym c.get-in-Bin-2.ensures)
    ∙ ap (λ (e : Expr). Bin c.in-Bin.op (expression_of c.get-in-Bin-2.result.now) (expression_of e)) (sym c.get-in-Bin.ensures)) refl
    (c.in_ok-next-in-Bin.ensures.case c.args.room graph ∙ c.in_ok-behind-in-Bin.ensures.case c.args.room graph
    (expression_of c.get-in-Bin-2.result.now)) (ap (λ (moves : List Entry). map entry_of moves) c.in_ok-moves-in-Bin.ensures)

pub returns-in_ok-moves-in-Bin-clause-sound : goal.returns-in_ok-moves-in-Bin-clause-sound
returns-in_ok-moves-in-Bin-clause-sound c graph under can =
    let parts = subst (CanEvaluate graph.vars) (ap expression_of c.in-Bin.is ∙ tree_bin c.in-Bin.op c.in-Bin.left c.in-Bin.right
    ∙ ap (λ (e : Expr). Bin c.in-Bin.op (expression_of e) (expression_of c.in-Bin.right)) (sym c.get-in-Bin-2.ensures)
    ∙ ap (λ (e : Expr). Bin c.in-Bin.op (expression_of c.get-in-Bin-2.result.now) (expression_of e)) (sym c.get-in-Bin.ensures)) can in
    one_is_sound c.args.room graph _ c.in_ok-moves-in-Bin.moves.items c.in_ok-moves-in-Bin.ensures
    (c.in_ok-next-in-Bin.ensures.sound c.args.room graph (c.in_ok-behind-in-Bin.ensures.sound c.args.room graph under parts.1 parts.2) parts.0)

pub returns-in_ok-moves-in-Cond-clause-moves : goal.returns-in_ok-moves-in-Cond-clause-moves
returns-in_ok-moves-in-Cond-clause-moves c graph =
    let p = pending_of c.args.pending in
    value_advanced c.args.room graph p (pending_of c.in_ok-next-in-Cond.next) (expression_of c.args.expr.now) _
    (todo (Value (expression_of c.get-in-Cond-3.result.now) ∷ Choose (expression_of c.get-in-Cond.result.now)
    (expression_of c.get-in-Cond-2.result.now) ∷ []) p.stack) (fresh c.args.columns)
    (map entry_of c.in_ok-moves-in-Cond.moves.items) (ap expression_of c.in-Cond.is ∙ tree_cond c.in-Cond.test c.in-Cond.first c.in-Cond.second
    ∙ ap (λ (e : Expr). Cond (expression_of e) (expression_of c.in-Cond.first) (expression_of c.in-Cond.second)) (sym c.get-in-Cond-3.ensures)
    ∙ ap (λ (e : Expr). Cond (expression_of c.get-in-Cond-3.result.now) (expression_of e) (expression_of c.in-Cond.second)) (sym c.get-in-Cond.ensures)
    ∙ ap (λ (e : Expr). Cond (expression_of c.get-in-Cond-3.result.now) (expression_of c.get-in-Cond.result.now) (expression_of e))
    (sym c.get-in-Cond-2.ensures)) refl
    (task_then c.args.room graph p (pending_of c.in_ok-behind-in-Cond.behind) (pending_of c.in_ok-next-in-Cond.next)
    (Value (expression_of c.get-in-Cond-3.result.now))
    (Choose (expression_of c.get-in-Cond.result.now) (expression_of c.get-in-Cond-2.result.now) ∷ []) p.stack
    (c.in_ok-behind-in-Cond.ensures.case c.args.room graph) (c.in_ok-next-in-Cond.ensures.case c.args.room graph))
    (ap (λ (moves : List Entry). map entry_of moves) c.in_ok-moves-in-Cond.ensures)

pub returns-in_ok-moves-in-Cond-clause-sound : goal.returns-in_ok-moves-in-Cond-clause-sound
returns-in_ok-moves-in-Cond-clause-sound c graph under can =
    let parts = subst (CanEvaluate graph.vars) (ap expression_of c.in-Cond.is ∙ tree_cond c.in-Cond.test c.in-Cond.first c.in-Cond.second
    ∙ ap (λ (e : Expr). Cond (expression_of e) (expression_of c.in-Cond.first) (expression_of c.in-Cond.second)) (sym c.get-in-Cond-3.ensures)
    ∙ ap (λ (e : Expr). Cond (expression_of c.get-in-Cond-3.result.now) (expression_of e) (expression_of c.in-Cond.second)) (sym c.get-in-Cond.ensures)
    ∙ ap (λ (e : Expr). Cond (expression_of c.get-in-Cond-3.result.now) (expression_of c.get-in-Cond.result.now) (expression_of e))
    (sym c.get-in-Cond-2.ensures)) can in
    one_is_sound c.args.room graph _ c.in_ok-moves-in-Cond.moves.items c.in_ok-moves-in-Cond.ensures
    (c.in_ok-next-in-Cond.ensures.sound c.args.room graph (c.in_ok-behind-in-Cond.ensures.sound c.args.room graph under (parts.1, parts.2)) parts.0)
