use Rattle.std.proofs.Common.{◌≡◌, ◌∙◌, ℕ, List, All, sym, ap, subst}
use Rattle.std.specs.Prelude.{Ok}
use Rattle.c_ast.specs.View.{expression_of}
use Rattle.c_ast.specs.declared.place.Place.TheVariants as place
use Rattle.lin_terms.specs.declared.row.Row.{Row}
use Rattle.sym_paths.specs.Condition.{condition_cases}
use Rattle.sym_paths.specs.Fits.{FitsInputs}
use Rattle.path_product.specs.declared.starts.Start.{Start}
use Rattle.path_product.specs.Starts.{starts_of, width_in}
use Rattle.path_product.proofs.GraphProducts.{condition_fits}
use Rattle.path_product.proofs.graphs.made_under.Goals as goal

pub product_over-requires-clause-condition : goal.product_over-requires-clause-condition
product_over-requires-clause-condition c =
    let graph = c.args.first.now in
    let cases_are : condition_cases c.args.first.now.params (expression_of c.args.condition.now) ≡ Ok c.in-Ok.cases.items =
    ap (λ (n : ℕ). condition_cases n (expression_of c.args.condition.now)) (sym c.params.ensures) ∙ c.in-Ok.ensures.cases in
    let starts_are : starts_of c.args.first.now ≡ Ok c.starts.result.now =
    c.in-Ok-of.ensures.made ∙ ap (λ (starts : List Start). Ok starts) (sym c.starts.ensures.starts) in
    subst (λ (cases : List (List Row)). All (FitsInputs (width_in c.starts.result.now place.Entry)) cases) (sym c.as_slice.ensures.value)
    (condition_fits graph c.op.ensures.formed (expression_of c.args.condition.now) c.requires c.in-Ok.cases.items cases_are c.starts.result.now starts_are)
