-- What it means that there is no verdict.
use Rattle.report.specs.declared.fault.Fault.{Fault}
use Rattle.llreve_cli.specs.declared.judge.NoVerdict.{NoVerdict}
use Rattle.llreve_cli.specs.declared.judge.NoVerdict.TheVariants.{Refused, Memory}

-- Where something is refused, this holds of the fault. Nothing is said of want of memory.
abbrev pub IfRefused : (Fault → Type 0) → NoVerdict → Type 0
IfRefused holds (Refused fault) = holds fault
IfRefused holds Memory = Unit {0}
