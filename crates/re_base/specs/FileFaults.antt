-- Which answers of a read are faults of the file.
use Rattle.std.specs.Prelude.{ℕ, Result, Ok, Err}
use Rattle.re_base.specs.declared.files.FileFault.{FileFault}
use Rattle.re_base.specs.declared.files.FileFault.TheVariants.{Failed, TooLong, Memory}
use Rattle.re_base.specs.Causes.{raised}

-- the count of faults after an answer: one more where the read failed
abbrev pub faults_after : {T : Type 0} → ℕ → Result T FileFault → ℕ
faults_after faults (Ok value) = faults
faults_after faults (Err Failed) = raised faults
faults_after faults (Err TooLong) = faults
faults_after faults (Err Memory) = faults
