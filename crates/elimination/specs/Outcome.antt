-- What calls that make a list of rows answer, and what they leave.
use Rattle.std.specs.Prelude.{◌≡◌, List, Result, Ok, Err, Vec}
use Rattle.std.specs.declared.alloc.Global.{Global}
use Rattle.elimination.specs.declared.answer.Answer.{Answer}
use Rattle.elimination.specs.declared.answer.Limit.{Limit}
use Rattle.elimination.specs.declared.answer.Limit.TheVariants.{WideRow, ManyRows, Memory}
use Rattle.elimination.specs.declared.answer.EarlyEnd.{EarlyEnd}
use Rattle.elimination.specs.declared.answer.EarlyEnd.TheVariants.{Contradiction, AtLimit}
use Rattle.elimination.specs.declared.joining.JoinedRows.{JoinedRows}
use Rattle.elimination.specs.Combination.{Combination}
use Rattle.elimination.specs.Joining.{joined_each}

-- What is wanted ends early so, unless memory runs out.
abbrev pub EndsEarly : Result (List Combination) EarlyEnd → EarlyEnd → Type 0
EndsEarly wanted (Contradiction multipliers) = wanted ≡ Err (Contradiction multipliers)
EndsEarly wanted (AtLimit WideRow) = wanted ≡ Err (AtLimit WideRow)
EndsEarly wanted (AtLimit ManyRows) = wanted ≡ Err (AtLimit ManyRows)
EndsEarly wanted (AtLimit Memory) = Unit {0}

-- The call leaves the list that is wanted, under the same cap, or ends early as is wanted.
abbrev pub Leaves : JoinedRows → Result (List Combination) EarlyEnd → JoinedRows → Result (Unit {0}) EarlyEnd → Type 0
Leaves old wanted new (Ok done) = (wanted ≡ Ok new.rows) × (new.cap ≡ old.cap)
Leaves old wanted new (Err early) = EndsEarly wanted early

-- The rows join the old list in order and leave the new one, or end it early.
abbrev pub Joins : JoinedRows → List Combination → JoinedRows → Result (Unit {0}) EarlyEnd → Type 0
Joins old rows new result = Leaves old (joined_each old.cap (Ok old.rows) rows) new result

-- The call answers the list that is wanted, or ends early as is wanted.
abbrev pub IsList : Result (List Combination) EarlyEnd → Result (Vec Combination Global) EarlyEnd → Type 0
IsList wanted (Ok made) = wanted ≡ Ok made.items
IsList wanted (Err early) = EndsEarly wanted early

-- The call goes on to the end where some list is wanted, or ends early as is wanted.
abbrev pub IsEnd : Result (List Combination) EarlyEnd → Result (Unit {0}) EarlyEnd → Type 0
IsEnd wanted (Ok done) = (last : List Combination) × (wanted ≡ Ok last)
IsEnd wanted (Err early) = EndsEarly wanted early

-- The call answers what is wanted, unless memory runs out.
abbrev pub IsAnswer : Result Answer Limit → Result Answer Limit → Type 0
IsAnswer wanted (Ok answer) = wanted ≡ Ok answer
IsAnswer wanted (Err WideRow) = wanted ≡ Err WideRow
IsAnswer wanted (Err ManyRows) = wanted ≡ Err ManyRows
IsAnswer wanted (Err Memory) = Unit {0}
