use Rattle.std.proofs.Common.{◌≡◌, ◌+◌, arith, rules, FitsSigned, w64, to_z-of_z, Some, ap, subst, ◌∙◌}
use Rattle.std.specs.Prelude.{if◌then◌else◌}
use Rattle.std.proofs.lemmas.Result.{IfOk-weaker}
use Rattle.lin_terms.specs.declared.form.Form.{Form}
use Rattle.lin_terms.specs.Form.{difference_of, multiple_of}
use Rattle.lin_terms.specs.Makes.{fitting}
use Rattle.sym_paths.specs.Walk.{gives, onward}
use Rattle.sym_paths.specs.Rows.{made}
use Rattle.sym_paths.specs.Symbolic.{Parts, two_ways}
use Rattle.sym_paths.specs.Arrivals.{fresh}
use Rattle.sym_paths.proofs.Joining.{divisor_fits, whole_made}
use Rattle.sym_paths.proofs.division.part_by_unknown.Goals as goal

pub part_beside-requires-clause-divisor : goal.part_beside-requires-clause-divisor
part_beside-requires-clause-divisor c =
    let fits : FitsSigned w64 c.args.divisor.now = search rules in
    let whole : fitting (multiple_of c.args.divisor.now c.in_ok-unknown.unknown) ≡ Some c.in-Ok.whole = simp to_z-of_z at c.in-Ok.ensures.made in
    divisor_fits c.args.room c.args.columns c.args.divisor.now c.in-Ok.whole c.requires.next
    (subst (λ (u : Form). fitting (multiple_of c.args.divisor.now u) ≡ Some c.in-Ok.whole) c.in_ok-unknown.ensures.made whole)

pub returns-in-Ok-clause-exact : goal.returns-in-Ok-clause-exact
returns-in-Ok-clause-exact c =
    let fits : FitsSigned w64 c.args.divisor.now = search rules in
    let whole : fitting (multiple_of c.args.divisor.now c.in_ok-unknown.unknown) ≡ Some c.in-Ok.whole = simp to_z-of_z at c.in-Ok.ensures.made in
    IfOk-weaker c.part_beside.result _ _ (λ all said.
    said
    ∙ ap (λ (u : Form). onward (onward (made (difference_of c.args.dividend.now c.in-Ok.whole) (fresh (c.args.columns + 1)))
    (λ left last. two_ways c.args.divisor.now c.args.dividend.now u left last))
    (λ both last. gives (if c.args.wants_left then both.rest else both.quotient) last)) c.in_ok-unknown.ensures.made
    ∙ whole_made c.args.divisor.now c.args.dividend.now
    (λ (both : Parts). if c.args.wants_left then both.rest else both.quotient) c.args.room c.args.columns
    (c.args.columns + 1) (omega arith) c.in-Ok.whole
    (subst (λ (u : Form). fitting (multiple_of c.args.divisor.now u) ≡ Some c.in-Ok.whole) c.in_ok-unknown.ensures.made whole))
    c.part_beside.ensures.exact
