-- A search is complete where no obligation meets a limit, and there is one greatest linear family.
use Rattle.std.proofs.Common.{◌≡◌, ℕ, ◌<◌, refl, subst, length}
use Rattle.std.specs.Prelude.{Err, IsOk, Result, All}
use Rattle.std.proofs.lemmas.Option.{slice_get_within, get_or_from_slice_get}
use Rattle.elimination.specs.declared.answer.Answer.{Answer}
use Rattle.elimination.specs.declared.answer.Limit.{Limit}
use Rattle.elimination.specs.Eliminated.{eliminated}
use Rattle.horn_clauses.specs.declared.clause.Product.{Product}
use Rattle.horn_clauses.specs.declared.family.Family.{Family}
use Rattle.horn_clauses.specs.Obligations.{Obligation, rows_of, obligations_of}
use Rattle.houdini.specs.declared.search.Outcome.TheVariants as outcome
use Rattle.houdini.specs.Answers.{MeetsLimit}
use Rattle.houdini.specs.Laws.{SearchesAreComplete, GreatestIsOne}
use Rattle.houdini.proofs.Within.{within_each_other}

abbrev refused : Limit → Result Answer Limit
refused limit = Err limit

not_ok : (limit : Limit) → IsOk (refused limit) → ⊥
not_ok limit ok = absurd cc

-- a limit that is met is one that is not excluded
met_and_not : (product : Product) (left : Family) (most number : ℕ) (limit : Limit) → MeetsLimit product left most number limit
    → All (λ asked. IsOk (eliminated (rows_of left asked) most)) (obligations_of left product) → ⊥
met_and_not product left most number limit met none =
    let inside : number < length (obligations_of left product) =
    slice_get_within (obligations_of left product) number met.asked met.numbered in
    let is = get_or_from_slice_get (obligations_of left product) number met.asked met.asked met.numbered in
    let answered : IsOk (eliminated (rows_of left met.asked) most) =
    subst (λ (asked : Obligation). IsOk (eliminated (rows_of left asked) most)) is (none number met.asked inside) in
    let never : IsOk (refused limit) = subst (λ (answer : Result Answer Limit). IsOk answer) met.limited.meets answered in
    not_ok limit never

pub complete : SearchesAreComplete
complete product candidates cap (outcome.Kept family proofs) answers no_limit = (
  (λ keeps. (family, answers.linear), λ some. (family, (proofs, refl))),
  (λ is. absurd cc, λ none. absurd (none family answers.linear)),
)
complete product candidates cap outcome.NoCoupling answers no_limit = (
  (λ keeps. let is : outcome.NoCoupling ≡ outcome.Kept keeps.0 keeps.1.0 = keeps.1.1 in absurd cc, λ some. absurd (answers some.0 some.1)),
  (λ is. answers, λ none. refl),
)
complete product candidates cap (outcome.Limit number left limit) answers no_limit =
    absurd (met_and_not product left cap number limit answers.limited (no_limit left answers.within))

pub greatest_is_one : GreatestIsOne
greatest_is_one product candidates first second proofs others kept other =
    within_each_other first second (other.greatest first kept.linear) (kept.greatest second other.linear)
