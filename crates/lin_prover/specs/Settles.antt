-- Which guesses settle rows, and what is answered then.
use Rattle.std.specs.Prelude.{◌≡◌, ℕ, ◌≤◌, ℤ, pos, ◌<ℤ◌, List, length, All, Result, Ok}
use Rattle.lin_terms.specs.declared.point.Point.{Point}
use Rattle.lin_terms.specs.declared.row.Row.{Row}
use Rattle.lin_terms.specs.Point.{CanJudge}
use Rattle.lin_terms.specs.Row.{Meets}
use Rattle.farkas_check.specs.Refutes.{Refutes, IsCheckable}
use Rattle.elimination.specs.declared.answer.Answer.{Answer}
use Rattle.elimination.specs.declared.answer.Answer.TheVariants.{Refuted, NotRefutable}
use Rattle.elimination.specs.declared.answer.Limit.{Limit}
use Rattle.elimination.specs.Eliminated.{most_rows, eliminated}
use Rattle.elimination.specs.Outcome.{IsAnswer}
use Rattle.simplex.specs.declared.guess.Guess.{Guess}
use Rattle.simplex.specs.declared.guess.Guess.TheVariants.{Multipliers, Nothing}
use Rattle.simplex.specs.declared.guess.Guess.TheVariants as guess

-- The row can be judged at the point, and holds there.
pub record IsMet (point : Point) (row : Row) : Type 0 where
  pub judged : CanJudge point row
  pub meets : Meets point.numbers point.denominator row

-- The point is one of the rows: its denominator is positive, and each row can be judged there and holds.
pub record IsPointOf (rows : List Row) (point : Point) : Type 0 where
  pub positive : pos 0 <ℤ point.denominator
  pub met : All (IsMet point) rows

-- The check may be asked of the multipliers, and says that they refute the rows.
pub record AreConfirmed (rows : List Row) (multipliers : List ℤ) : Type 0 where
  pub checkable : IsCheckable rows multipliers
  pub refutes : Refutes rows multipliers

-- There are at most 4,096 rows, and the point is one of theirs.
pub record IsConfirmed (rows : List Row) (point : Point) : Type 0 where
  pub many : length rows ≤ most_rows
  pub point_of : IsPointOf rows point

-- Where the guess is confirmed the result is this answer, and where it is not the result is what elimination answers.
pub record AnswersWhere (Confirmed : Type 0) (answer : Answer) (rows : List Row) (cap : ℕ)
    (result : Result Answer Limit) : Type 0 where
  pub confirmed : Confirmed → result ≡ Ok answer
  pub otherwise : ¬ Confirmed → IsAnswer (eliminated rows cap) result

-- What is answered of the rows where this is guessed: confirmed multipliers, or that there are none where a point is
-- confirmed, and else what elimination answers.
abbrev pub Settles : List Row → ℕ → Guess → Result Answer Limit → Type 0
Settles rows cap (Multipliers multipliers) result =
    AnswersWhere (AreConfirmed rows multipliers.items) (Refuted multipliers.items) rows cap result
Settles rows cap (guess.Point point) result = AnswersWhere (IsConfirmed rows point) NotRefutable rows cap result
Settles rows cap Nothing result = IsAnswer (eliminated rows cap) result
