-- Elimination of all columns of given rows, and what it answers (Fourier-Motzkin elimination with multipliers).
use Rattle.std.specs.Prelude.{ℕ, zero, suc, if◌then◌else◌, nat_le, pos, List, [], ◌∷◌, ◌++◌, length, replicate, Result, Ok, Err}
use Rattle.lin_terms.specs.declared.row.Row.{Row}
use Rattle.lin_terms.specs.Row.{columns_of}
use Rattle.elimination.specs.declared.answer.Answer.{Answer}
use Rattle.elimination.specs.declared.answer.Answer.TheVariants.{Refuted, NotRefutable}
use Rattle.elimination.specs.declared.answer.Limit.{Limit}
use Rattle.elimination.specs.declared.answer.Limit.TheVariants.{ManyRows}
use Rattle.elimination.specs.declared.answer.EarlyEnd.{EarlyEnd}
use Rattle.elimination.specs.declared.answer.EarlyEnd.TheVariants.{Contradiction, AtLimit}
use Rattle.elimination.specs.Combination.{Combination}
use Rattle.elimination.specs.Column.{projected}
use Rattle.elimination.specs.Joining.{list_of}

-- a given row: its own multiplier is 1, those of the rows before it and of the rows behind it are 0
abbrev pub given_row : ℕ → ℕ → Row → Combination
given_row before behind row = record {
  row = row;
  multipliers = replicate before (pos 0) ++ pos 1 ∷ replicate behind (pos 0);
}

-- each given row once, where `before` rows stand before these
abbrev pub initial : ℕ → List Row → List Combination
initial before [] = []
initial before (row ∷ rows) = given_row before (length rows) row ∷ initial (suc before) rows

-- the rows that are left where `left` columns are eliminated, from column j on
abbrev pub eliminate : ℕ → ℕ → ℕ → Result (List Combination) EarlyEnd → Result (List Combination) EarlyEnd
eliminate cap zero j rows = rows
eliminate cap (suc left) j (Err early) = Err early
eliminate cap (suc left) j (Ok rows) = eliminate cap left (suc j) (list_of cap (projected j rows))

-- Where no column is left and nothing has ended it early, the given rows are not refutable.
abbrev pub answer_of : Result (List Combination) EarlyEnd → Result Answer Limit
answer_of (Ok rows) = Ok NotRefutable
answer_of (Err (Contradiction multipliers)) = Ok (Refuted multipliers)
answer_of (Err (AtLimit limit)) = Err limit

-- the most rows that may be given
abbrev pub most_rows : ℕ
most_rows = 4096

-- what the elimination of all columns answers, with lists of at most `cap` rows
abbrev pub eliminated : List Row → ℕ → Result Answer Limit
eliminated rows cap =
    if nat_le (length rows) most_rows
    then answer_of (eliminate cap (columns_of rows) 0 (list_of cap (initial 0 rows)))
    else Err ManyRows
