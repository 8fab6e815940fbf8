use Rattle.std.proofs.Common.{◌≡◌, ◌∙◌, ◌-◌, ℕ, false, map, sym, subst, arith}
use Rattle.std.specs.Prelude.{Ok}
use Rattle.std.proofs.lemmas.Result.{err_from_is_err_and}
use Rattle.c_ast.specs.declared.place.Place.TheVariants as place
use Rattle.c_ast.specs.Place.{is_same_place}
use Rattle.path_product.specs.Coded.{by_first, gathered, path_of_side, IsLimit}
use Rattle.path_product.proofs.SideWalks.{first_gathered, first_stops, case_fits_there, few_there}
use Rattle.path_product.proofs.side.side_cases.Goals as goal

pub first_case-requires-clause-case : goal.first_case-requires-clause-case
first_case-requires-clause-case c =
    let elsewhere : is_same_place c.args.place place.Exit ≡ false = sym c.is_same_place.ensures ∙ c.if-is_same_place.false in
    case_fits_there c.args.starts.now c.requires c.args.place elsewhere c.cases_in-case-items.result.now c.cases_in-case-items.ensures
    c.loop-case.case-index c.case-item.result c.loop-case-test.true c.case-item.is c.width_in-width.result c.width_in-width.ensures

pub first_case-requires-clause-few : goal.first_case-requires-clause-few
first_case-requires-clause-few c =
    let few = few_there c.args.starts.now c.requires c.args.place in
    omega (arith, c.width_in-width.ensures, few)

pub loop-case-preserved : goal.loop-case-preserved
loop-case-preserved c =
    let gathered = subst (λ (n : ℕ). gathered c.loop-case.paths.items (by_first c.args.starts.now n (c.args.count - 1) c.args.place c.case-item.result)
    ≡ Ok (map path_of_side c.first_case.new.paths.items)) c.width_in-width.ensures c.in_ok-first_case.ensures.joined in
    first_gathered c.args.starts.now c.args.count c.args.place c.loop-case.case-index c.loop-case.paths.items c.loop-case.invariant
    c.cases_in-case-items.result.now c.cases_in-case-items.ensures c.case-item.result c.loop-case-test.true c.case-item.is c.first_case.new.paths.items gathered

pub returns-in_err-first_case-clause-limit : goal.returns-in_err-first_case-clause-limit
returns-in_err-first_case-clause-limit c =
    let failed = err_from_is_err_and c.from_residual-in_err-first_case.result c.from_residual-in_err-first_case.ensures.1 in
    let elsewhere : is_same_place c.args.place place.Exit ≡ false = sym c.is_same_place.ensures ∙ c.if-is_same_place.false in
    let limit = subst (λ (n : ℕ). IsLimit (gathered c.loop-case.paths.items
    (by_first c.args.starts.now n (c.args.count - 1) c.args.place c.case-item.result)) c.in_err-first_case.field-0.0)
    c.width_in-width.ensures c.in_err-first_case.ensures.limit in
    rw (failed.1, failed.2)
    (first_stops c.args.starts.now c.args.count c.args.place c.loop-case.case-index c.loop-case.paths.items c.loop-case.invariant
    c.cases_in-case-items.result.now c.cases_in-case-items.ensures c.case-item.result c.loop-case-test.true c.case-item.is c.if-count-eq0.false elsewhere
    c.in_err-first_case.field-0.0 limit)
