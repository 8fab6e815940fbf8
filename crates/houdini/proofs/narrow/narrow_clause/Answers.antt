use Rattle.std.proofs.Common.{sym, subst, ap, ◌∙◌, ◌≡◌, ◌<◌, true, List, Bool}
use Rattle.std.specs.List.{list_any}
use Rattle.horn_clauses.specs.declared.family.Family.{Family}
use Rattle.houdini.specs.Cut.{cut}
use Rattle.houdini.specs.Striking.{Strikes, count_atoms}
use Rattle.houdini.proofs.Cutting.{cut_strikes_open, cut_is_fewer, strikes_nothing}
use Rattle.houdini.proofs.narrow.narrow_clause.Goals as goal

pub returns-then-not-has_mark-clause-strikes : goal.returns-then-not-has_mark-clause-strikes
returns-then-not-has_mark-clause-strikes g c = strikes_nothing c.args.family c.args.clause.now

pub returns-clause-strikes : goal.returns-clause-strikes
returns-clause-strikes g c =
    let is : c.in_ok-left.left ≡ cut c.args.family c.args.clause.now.to c.in_ok-marks.marks.items =
    c.in_ok-left.ensures ∙ ap (λ (marks : List Bool). cut c.args.family c.args.clause.now.to marks) c.as_slice-open.ensures.value in
    subst (λ (left : Family). Strikes c.args.clause.now c.args.family left) (sym is)
    (cut_strikes_open c.args.family c.args.clause.now c.in_ok-marks.marks.items c.in_ok-marks.ensures.marks)

pub returns-clause-fewer : goal.returns-clause-fewer
returns-clause-fewer g c =
    let is : c.in_ok-left.left ≡ cut c.args.family c.args.clause.now.to c.in_ok-marks.marks.items =
    c.in_ok-left.ensures ∙ ap (λ (marks : List Bool). cut c.args.family c.args.clause.now.to marks) c.as_slice-open.ensures.value in
    let any : list_any (λ mark. mark) c.in_ok-marks.marks.items ≡ true =
    ap (λ (marks : List Bool). list_any (λ mark. mark) marks) (sym c.as_slice-open.ensures.value) ∙ (sym c.has_mark.ensures ∙ c.if-not-has_mark.false) in
    λ _. subst (λ (left : Family). count_atoms left.nodes < count_atoms c.args.family.nodes) (sym is)
    (cut_is_fewer c.args.family c.args.clause.now c.in_ok-marks.marks.items c.in_ok-marks.ensures.marks any)
