-- What the statuses say of the two functions that a call names, and what is exact.
use Rattle.std.specs.Prelude.{◌≡◌, ◌≢◌, ◌⊎◌, ℕ, List, Some, ℤ}
use Rattle.re_base.specs.Causes.{Rose}
use Rattle.c_ast.specs.Function.{program_of}
use Rattle.c_ast.specs.Returns.{Returns, NeverDiffer}
use Rattle.c_ast.specs.Condition.{Meets}
use Rattle.c_ast.specs.Comparison.{condition_of}
use Rattle.alignment.specs.Number.{IsAlignment}
use Rattle.command_line.specs.declared.words.Command.{Command}
use Rattle.command_line.specs.CommandLine.{IsCommand}
use Rattle.relation.specs.Coupled.{Coupling}
use Rattle.pool_core.specs.declared.verdict.Why.{Why}
use Rattle.pool_core.specs.declared.verdict.SampleWhy.{SampleWhy}
use Rattle.pool_core.specs.declared.verdict.Verdict.TheVariants.{Equivalent, Different, Unknown}
use Rattle.pool_core.specs.Justified.{ShowsEquivalence, ShowsDifference, DecidesNothing}
use Rattle.pool_core.specs.Kinds.{kind_of, IsHiddenFrom, NamesLimitAt, HasDifference, HasLinearFamily}
use Rattle.report.specs.declared.fault.Fault.{Fault}
use Rattle.report.specs.declared.fault.Fault.TheVariants.{Read}
use Rattle.workers.specs.Solved.{IsLeastDifference, IsLeastCoupling}
use Rattle.llreve_cli.specs.declared.judge.Finding.{Finding}
use Rattle.llreve_cli.specs.Outcome.{Outcome, Found, Refused}
use Rattle.llreve_cli.specs.Call.{Call}
use Rattle.llreve_cli.specs.Written.{fault_status, status_of, finding_text}
use Rattle.llreve_cli.specs.Leads.{AreComparable, subject_of, IsFindingOf, Leads}

-- ---- verdicts

-- The two functions are compared, and this is found: the verdict is justified, the history is legal, and its last item
-- posts the verdict, or that is concluded from it.
pub record AreCompared (call : Call) : Type 0 where
  pub comparable : AreComparable call
  pub finding : Finding
  pub is : IsFindingOf call comparable finding

-- What tells it.
abbrev pub text_of : {call : Call} → AreCompared call → List ℕ
text_of compared = finding_text compared.finding

-- A family couples the two functions, so no input that meets the condition makes them return differently. It is drawn
-- from candidates of the pairs with these indexes: of all pairs that the samples give, the greatest linear family under
-- the least alignment at which one was found.
pub record AreEquivalent (call : Call) : Type 0 where
  pub compared : AreCompared call
  pub coupled : Coupling
  pub indexes : List ℕ
  pub verdict : compared.finding.solved.verdict ≡ Equivalent coupled indexes
  pub shows : ShowsEquivalence (subject_of compared.comparable) coupled indexes
  pub least : IsLeastCoupling (subject_of compared.comparable) compared.finding.solved.history coupled indexes
  pub never_differ : NeverDiffer (program_of compared.comparable.functions.first)
      (program_of compared.comparable.functions.second) (condition_of (subject_of compared.comparable))

-- The two functions return differently on the input of the first sample that tells them apart, which meets the
-- condition.
pub record AreDifferent (call : Call) : Type 0 where
  pub compared : AreCompared call
  pub index : ℕ
  pub input : List ℤ
  pub first : ℤ
  pub second : ℤ
  pub verdict : compared.finding.solved.verdict ≡ Different index input first second
  pub shows : ShowsDifference (subject_of compared.comparable) index input first second
  pub least : IsLeastDifference (subject_of compared.comparable) index
  pub met : Meets (condition_of (subject_of compared.comparable)) input
  pub first_returns : Returns (program_of compared.comparable.functions.first) input first
  pub second_returns : Returns (program_of compared.comparable.functions.second) input second

-- What is said of each sample is so, and it decides nothing; and for each of the twelve alignments the reason is true
-- why no candidates of all pairs couple the two functions.
pub record AreUnknown (call : Call) : Type 0 where
  pub compared : AreCompared call
  pub samples : List SampleWhy
  pub alignments : List Why
  pub verdict : compared.finding.solved.verdict ≡ Unknown samples alignments
  pub nothing : DecidesNothing (subject_of compared.comparable) samples alignments

-- ---- refusals

-- The words, a text, the numbers of parameters or the condition are refused: of all refusals this is the first in the
-- order of judgement.
pub record AreRefused (call : Call) : Type 0 where
  pub fault : Fault
  pub leads : Leads call (Refused fault)
  pub no_read : fault_status fault ≢ 4

-- A file could not be read: of all refusals this is the first in the order of judgement.
pub record AreUnread (call : Call) : Type 0 where
  pub name : List ℕ
  pub failed : Rose (call.faults_before name) (call.faults_after name)
  pub leads : Leads call (Refused (Read name))

-- ---- completeness

-- Some sample tells the two functions apart.
pub record SampleDiffers (call : Call) : Type 0 where
  pub comparable : AreComparable call
  pub difference : HasDifference (subject_of comparable)

-- Under the alignment some family of candidates of all pairs is linear: it would couple the two functions.
pub record HasCoupling (call : Call) : Type 0 where
  pub comparable : AreComparable call
  pub alignment : ℕ
  pub named : IsAlignment alignment
  pub linear : HasLinearFamily (subject_of comparable) alignment

-- Nothing is known, and the reason at that alignment is a limit of an obligation.
pub record HidesCoupling {call : Call} (has : HasCoupling call) : Type 0 where
  pub unknown : AreUnknown call
  pub limited : NamesLimitAt has.alignment unknown.compared.finding.solved.verdict

-- The files tell the texts of both names.
pub record AreTold (call : Call) : Type 0 where
  pub first : (command : Command) → IsCommand call.words command
      → (told : List ℕ) × (call.text command.first ≡ Some told)
  pub second : (command : Command) → IsCommand call.words command
      → (told : List ℕ) × (call.text command.second ≡ Some told)

-- Both are one refusal; or verdicts on one comparison and of one kind, unless one of them is unknown and names a limit
-- of an obligation at the alignment of the other.
abbrev pub AreAlike : Outcome → Outcome → Type 0
AreAlike (Refused one) (Refused other) = one ≡ other
AreAlike (Found one) (Found other) =
    (one.subject ≡ other.subject)
    × ((kind_of one.solved.verdict ≡ kind_of other.solved.verdict)
    ⊎ (IsHiddenFrom one.solved.verdict other.solved.verdict ⊎ IsHiddenFrom other.solved.verdict one.solved.verdict))
AreAlike (Refused one) (Found other) = ⊥
AreAlike (Found one) (Refused other) = ⊥

-- What a call leads to whose texts are told is alike, apart from a failed read.
abbrev pub HasOneOutcome : Type 0
HasOneOutcome = (call : Call) (one other : Outcome) → AreTold call → Leads call one → Leads call other
    → status_of one ≢ 4 → status_of other ≢ 4 → AreAlike one other
