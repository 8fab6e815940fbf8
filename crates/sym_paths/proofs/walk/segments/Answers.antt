use Rattle.std.proofs.Common.{◌≡◌, ◌∙◌, List, ℕ, length, ap, sym, IfOk, arith}
use Rattle.std.specs.Prelude.{Result, Ok, Err}
use Rattle.flow_graph.specs.FlowGraph.{variables_at}
use Rattle.sym_paths.proofs.Beginning.{few_in_scope}
use Rattle.sym_paths.proofs.Cases.{law_of_cases}
use Rattle.sym_paths.proofs.walk.segments.Goals as goal

if_ok : {T E : Type 0} {P Q : T → Type 0} (r : Result T E) → ((x : T) → P x → Q x) → IfOk r P → IfOk r Q
if_ok (Ok x) f p = f x p
if_ok (Err x) f p = p

pub begun-requires-clause-few : goal.begun-requires-clause-few
begun-requires-clause-few c =
    let few = few_in_scope c.args.graph.now c.op.ensures.formed c.args.place c.requires in
    let count : c.len-room.result ≡ length (variables_at c.args.graph.now c.args.place) =
    c.len-room.ensures ∙ sym c.as_slice.ensures.len ∙ ap (λ (xs : List ℕ). length xs) (c.as_slice.ensures.value ∙ c.in_ok-variables.ensures.listed) in
    omega (arith, few, count)

pub search-requires-clause-few : goal.search-requires-clause-few
search-requires-clause-few c =
    let few = few_in_scope c.args.graph.now c.op.ensures.formed c.args.place c.requires in
    let count : c.len-room.result ≡ length (variables_at c.args.graph.now c.args.place) =
    c.len-room.ensures ∙ sym c.as_slice.ensures.len ∙ ap (λ (xs : List ℕ). length xs) (c.as_slice.ensures.value ∙ c.in_ok-variables.ensures.listed) in
    omega (arith, few, count)

pub returns-clause-exact : goal.returns-clause-exact
returns-clause-exact c =
    if_ok c.search.result
    (λ cases made. law_of_cases c.args.graph.now c.op.ensures.formed c.args.place c.requires cases.items (sym c.in_ok-work.ensures.same ∙ made))
    c.search.ensures.cases
