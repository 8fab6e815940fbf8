-- What words and files lead to.
use Rattle.report.specs.declared.fault.Fault.{Fault}
use Rattle.llreve_cli.specs.declared.judge.Finding.{Finding}

-- What is found of the two functions, or why there is no answer, which is never want of memory.
pub data Outcome : Type 0 where
  Found : Finding → Outcome
  Refused : Fault → Outcome
