use Rattle.std.proofs.Common.{◌++◌, ◌∙◌, List, [], ◌∷◌, ℕ, reverse, ap, subst, OnOk}
use Rattle.std.specs.Prelude.{Result, Ok, Err}
use Rattle.lin_terms.specs.declared.form.Form.{Form}
use Rattle.lin_terms.specs.declared.row.Row.{Row}
use Rattle.sym_paths.specs.declared.task.Entry.TheVariants as entry
use Rattle.sym_paths.specs.declared.task.Move.{Move}
use Rattle.sym_paths.specs.Cases.{completed}
use Rattle.sym_paths.specs.Arrivals.{graph_of, path_of, pending_of}
use Rattle.sym_paths.specs.Waiting.{Comes}
use Rattle.sym_paths.proofs.Waiting.{ends_on, goes_on}
use Rattle.sym_paths.proofs.search.step.Goals as goal

on_ok : {T E : Type 0} {P Q : Type 0} (r : Result T E) → (P → Q) → OnOk r P → OnOk r Q
on_ok (Ok x) f p = f p
on_ok (Err x) f p = p

pub returns-in-Ends-clause-goes : goal.returns-in-Ends-clause-goes
returns-in-Ends-clause-goes c =
    let is = c.in-Arrives.is ∙ ap (λ (step : Move). entry.Arrives c.in-Arrives.own c.in-Arrives.columns step) c.in-Ends.is in
    on_ok c.end.result (λ joined.
    ends_on c.args.room (graph_of c.args.subject) c.args.rows.now c.args.next (reverse c.args.work.now.items) c.args.cases.now.items c.requires.can
    c.in-Arrives.own c.in-Arrives.columns c.in-Ends.to c.in-Ends.forms c.keep.new.rows c.end.new.cases.items is c.in_ok-keep-in-Arrives.ensures joined.0
    (joined.1
    ∙ ap (λ (rs : List Row). c.args.cases.now.items ++ completed (path_of rs c.in-Arrives.columns c.in-Ends.to c.as_slice-in-Ends.result.now) ∷ [])
    c.as_slice.ensures
    ∙ ap (λ (fs : List Form). c.args.cases.now.items ++ completed (path_of c.keep.new.rows c.in-Arrives.columns c.in-Ends.to fs) ∷ [])
    c.as_slice-in-Ends.ensures.value))
    c.end.ensures.joined

pub returns-in_ok-go-in-Goes-clause-goes : goal.returns-in_ok-go-in-Goes-clause-goes
returns-in_ok-go-in-Goes-clause-goes c =
    let is = c.in-Arrives.is ∙ ap (λ (step : Move). entry.Arrives c.in-Arrives.own c.in-Arrives.columns step) c.in-Goes.is in
    goes_on c.args.room (graph_of c.args.subject) c.args.rows.now c.args.next (reverse c.args.work.now.items) c.args.cases.now.items c.requires.can
    c.in-Arrives.own c.in-Arrives.columns c.in-Goes.pending c.keep.new.rows (reverse c.go.new.work.items) is c.in_ok-keep-in-Arrives.ensures
    (subst (λ (n : ℕ). Comes c.args.room (graph_of c.args.subject) n (pending_of c.in-Goes.pending) c.in-Arrives.columns
    (reverse c.args.work.now.items) (reverse c.go.new.work.items)) c.len-count.ensures c.in_ok-go-in-Goes.ensures)
