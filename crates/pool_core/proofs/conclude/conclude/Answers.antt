use Rattle.std.proofs.Common.{rules, ◌≡◌, ℕ, false, inr, sym, subst, Err}
use Rattle.std.specs.List.{list_any}
use Rattle.pool_core.specs.declared.refused.Missing.TheVariants as missing
use Rattle.pool_core.specs.History.{has_tried, IsOpen, HaveEqualResults}
use Rattle.pool_core.specs.Plays.{State, HaveSamples, AreAllTried, AnswersConclusion}
use Rattle.pool_core.proofs.conclude.conclude.Goals as goal

pub returns-in-Some-first_difference : goal.returns-in-Some-first_difference
returns-in-Some-first_difference c = λ subject same.
    let items = c.args.log.now.items in
    let undecided : IsOpen items = search rules in
    let have : HaveSamples items c.args.log.now.samples = search rules in
    ((undecided, subst (HaveSamples items) (sym same) have), search rules)

pub returns-in-Some-missing_alignment : goal.returns-in-Some-missing_alignment
returns-in-Some-missing_alignment c = λ subject same.
    let items = c.args.log.now.items in
    let undecided : IsOpen items = search rules in
    let have : HaveSamples items c.args.log.now.samples = search rules in
    let equal : HaveEqualResults items = search rules in
    let is = c.in-Some-missing_alignment.ensures in (
      (undecided, subst (HaveSamples items) (sym same) have),
      equal,
      is.0,
      is.1,
      subst (λ (n : ℕ). list_any (has_tried n c.in-Some-missing_alignment.number) items ≡ false) c.requires.all is.2,
    )

pub returns-in_err-samples : goal.returns-in_err-samples
returns-in_err-samples c = λ subject same.
    let items = c.args.log.now.items in
    let state : State = record { subject = subject; items = items } in
    let undecided : IsOpen items = search rules in
    let have : HaveSamples items c.args.log.now.samples = search rules in
    let equal : HaveEqualResults items = search rules in
    let tried : AreAllTried items 13 = search rules in
    let is : c.from_residual-in_err-samples.result ≡ Err missing.Memory = search rules in
    subst (AnswersConclusion state) (sym is) (inr ((undecided, subst (HaveSamples items) (sym same) have), equal, tried))

pub returns-in_err-alignments : goal.returns-in_err-alignments
returns-in_err-alignments c = λ subject same.
    let items = c.args.log.now.items in
    let state : State = record { subject = subject; items = items } in
    let undecided : IsOpen items = search rules in
    let have : HaveSamples items c.args.log.now.samples = search rules in
    let equal : HaveEqualResults items = search rules in
    let tried : AreAllTried items 13 = search rules in
    let is : c.from_residual-in_err-alignments.result ≡ Err missing.Memory = search rules in
    subst (AnswersConclusion state) (sym is) (inr ((undecided, subst (HaveSamples items) (sym same) have), equal, tried))
