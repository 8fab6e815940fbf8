-- Laws of searches. Each is a clause of a call that does nothing.
use Rattle.std.specs.Prelude.{◌≡◌, ◌↔◌, ℕ, IsOk, All}
use Rattle.elimination.specs.Eliminated.{eliminated}
use Rattle.horn_clauses.specs.declared.clause.Product.{Product}
use Rattle.horn_clauses.specs.declared.clause.Proofs.{Proofs}
use Rattle.horn_clauses.specs.declared.family.Family.{Family}
use Rattle.horn_clauses.specs.Obligations.{rows_of, obligations_of}
use Rattle.houdini.specs.declared.search.Outcome.{Outcome}
use Rattle.houdini.specs.declared.search.Outcome.TheVariants as outcome
use Rattle.houdini.specs.Within.{IsWithin}
use Rattle.houdini.specs.Linear.{IsLinearWithin}
use Rattle.houdini.specs.Answers.{IsGreatest, HasNoLinear, AnswersSearch}

-- No obligation of any family of the candidates meets a limit in elimination with this cap.
abbrev pub MeetsNoLimit : Product → Family → ℕ → Type 0
MeetsNoLimit product candidates cap = (family : Family) → IsWithin family candidates
    → All (λ obligation. IsOk (eliminated (rows_of family obligation) cap)) (obligations_of family product)

-- A linear family of the candidates.
abbrev pub SomeLinear : Product → Family → Type 0
SomeLinear product candidates = (family : Family) × IsLinearWithin product candidates family

-- Some family is kept.
abbrev pub KeepsSome : Outcome → Type 0
KeepsSome result = (family : Family) × ((proofs : Proofs) × (result ≡ outcome.Kept family proofs))

-- Where no obligation meets a limit, a family is kept exactly where one is linear, and else no coupling is answered.
abbrev pub SearchesAreComplete : Type 0
SearchesAreComplete = (product : Product) (candidates : Family) (cap : ℕ) (result : Outcome)
    → AnswersSearch product candidates cap result → MeetsNoLimit product candidates cap
    → (KeepsSome result ↔ SomeLinear product candidates)
    × ((result ≡ outcome.NoCoupling) ↔ HasNoLinear product candidates)

-- There is one greatest linear family.
abbrev pub GreatestIsOne : Type 0
GreatestIsOne = (product : Product) (candidates first second : Family) (proofs others : Proofs)
    → IsGreatest product candidates first proofs → IsGreatest product candidates second others → first ≡ second
