use Rattle.std.proofs.Common.{◌≡◌, ◌∙◌, false, length, sym, ap, arith}
use Rattle.std.specs.Prelude.{Some, Option}
use Rattle.std.proofs.lemmas.Result.{err_from_is_err_and}
use Rattle.c_ast.specs.declared.place.Place.TheVariants as place
use Rattle.c_ast.specs.Place.{is_same_place}
use Rattle.path_product.specs.declared.compose.Reached.{Reached}
use Rattle.path_product.specs.Compose.{case_over}
use Rattle.path_product.specs.Sides.{goes_on, goes_on_or_stays, side_from}
use Rattle.path_product.specs.Coded.{state_of, came}
use Rattle.path_product.proofs.SideWalks.{case_stops, taken_is, next_gathered, next_stops, all_gathered, case_fits_there, few_there}
use Rattle.path_product.proofs.side.Walk.+walk.Goals as goal

pub take_case-returns-in_err-case_over-clause-limit : goal.take_case-returns-in_err-case_over-clause-limit
take_case-returns-in_err-case_over-clause-limit t c =
    let failed = err_from_is_err_and c.from_residual.result c.from_residual.ensures.1 in
    rw (failed.1, failed.2)
    (case_stops c.args.paths.now.items (case_over c.args.self.now.most c.args.at.now.forms c.args.case.now (state_of c.args.rows.now c.args.at.now.columns))
    (λ next after. goes_on_or_stays (goes_on c.args.at.now.place next.place)
    (side_from c.args.self.now.starts.now c.args.self.now.most c.args.count) next after)
    c.in_err-case_over.field-0.0 (rw c.as_slice-forms.ensures at c.in_err-case_over.ensures.limit))

pub take_case-returns-in_err-walk_on-in-Some-clause-limit : goal.take_case-returns-in_err-walk_on-in-Some-clause-limit
take_case-returns-in_err-walk_on-in-Some-clause-limit t c =
    let failed = err_from_is_err_and c.from_residual-in_err-walk_on-in-Some.result c.from_residual-in_err-walk_on-in-Some.ensures.1 in
    let is : case_over c.args.self.now.most c.args.at.now.forms c.args.case.now (state_of c.args.rows.now c.args.at.now.columns)
    ≡ came c.case_over.new.rows (Some c.in-Some.next) =
    (rw c.as_slice-forms.ensures at c.in_ok-case_over.ensures.walk)
    ∙ ap (λ (found : Option Reached). came c.case_over.new.rows found) c.in-Some.is in
    rw (
      failed.1,
      failed.2,
      taken_is c.args.self.now.starts.now c.args.self.now.most c.args.count c.left_after-left.result c.args.at.now.place _ c.case_over.new.rows
          c.in-Some.next is c.left_after-left.ensures.left,
    ) c.in_err-walk_on-in-Some.ensures.limit

pub walk_on-take_case-requires : goal.walk_on-take_case-requires
walk_on-take_case-requires t c =
    let elsewhere : is_same_place c.args.at.place place.Exit ≡ false = sym c.is_same_place.ensures ∙ c.if-is_same_place.false in
    let width = c.requires.at.many in
    let few = few_there c.args.self.now.starts.now c.requires.starts c.args.at.place in
    let fits = case_fits_there c.args.self.now.starts.now c.requires.starts c.args.at.place elsewhere c.cases_in-case-items.result.now
    c.cases_in-case-items.ensures c.loop-case.case-index c.case-item.result c.loop-case-test.true c.case-item.is (length c.args.at.forms)
    c.requires.at.many in
    (omega (arith, c.decreases), (c.requires.starts, (c.requires.at, (fits, (c.requires.few, omega (arith, width, few))))))

pub walk_on-loop-case-preserved : goal.walk_on-loop-case-preserved
walk_on-loop-case-preserved t c = record {
  rows = c.in_ok-take_case.ensures.kept ∙ c.loop-case.invariant.rows;
  all = next_gathered c.args.self.now.starts.now c.args.self.now.most c.args.count c.args.at c.args.rows.now c.args.paths.now.items c.loop-case.case-index
      c.loop-case.paths.items c.loop-case.invariant.all c.cases_in-case-items.result.now c.cases_in-case-items.ensures c.case-item.result
      c.loop-case-test.true c.case-item.is c.loop-case.rows c.loop-case.invariant.rows c.take_case.new.paths.items c.in_ok-take_case.ensures.joined;
}

pub walk_on-returns-in_err-take_case-clause-limit : goal.walk_on-returns-in_err-take_case-clause-limit
walk_on-returns-in_err-take_case-clause-limit t c =
    let failed = err_from_is_err_and c.from_residual.result c.from_residual.ensures.1 in
    let elsewhere : is_same_place c.args.at.place place.Exit ≡ false = sym c.is_same_place.ensures ∙ c.if-is_same_place.false in
    rw (failed.1, failed.2)
    (next_stops c.args.self.now.starts.now c.args.self.now.most c.args.count c.args.at c.args.rows.now c.args.paths.now.items c.loop-case.case-index
    c.loop-case.paths.items c.loop-case.invariant.all c.cases_in-case-items.result.now c.cases_in-case-items.ensures c.case-item.result
    c.loop-case-test.true c.case-item.is c.loop-case.rows c.loop-case.invariant.rows c.if-count-eq0.false elsewhere c.in_err-take_case.field-0.0
    c.in_err-take_case.ensures.limit)

pub walk_on-returns-clause-joined : goal.walk_on-returns-clause-joined
walk_on-returns-clause-joined t c =
    let elsewhere : is_same_place c.args.at.place place.Exit ≡ false = sym c.is_same_place.ensures ∙ c.if-is_same_place.false in
    all_gathered c.args.self.now.starts.now c.args.self.now.most c.args.count c.args.at c.args.rows.now c.args.paths.now.items c.loop-case.case-index
    c.loop-case.paths.items c.loop-case.invariant.all c.cases_in-case-items.result.now c.cases_in-case-items.ensures (omega arith)
    c.if-count-eq0.false elsewhere
