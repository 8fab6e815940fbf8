-- What the words and the files of a call lead to.
use Rattle.std.specs.Prelude.{◌≡◌, ◌≢◌, ℕ, ◌≤◌, Bool, List, length, codes, Option, Some, None}
use Rattle.re_base.specs.Causes.{Rose}
use Rattle.re_base.specs.Told.{IsWhole, IsLong, longest}
use Rattle.c_ast.specs.declared.expr.Expr.{Expr}
use Rattle.c_ast.specs.Function.{Function}
use Rattle.c_ast.specs.Comparison.{Comparison, IsComparison, comparison}
use Rattle.c_ast.specs.declared.subject.Arity.{Arity}
use Rattle.command_line.specs.declared.words.Command.{Command}
use Rattle.command_line.specs.CommandLine.{IsCommand}
use Rattle.command_line.specs.Refused.{AreNoCommandLine}
use Rattle.report.specs.declared.fault.Fault.{Fault}
use Rattle.report.specs.declared.fault.Fault.TheVariants as fault
use Rattle.c_source.specs.declared.fault.TextFault.{TextFault}
use Rattle.c_source.specs.declared.fault.TextFault.TheVariants as refusal
use Rattle.c_source.specs.Reads.{Reads, IsRefusal}
use Rattle.c_source.specs.ReadsCondition.{ReadsCondition, IsConditionRefusal}
use Rattle.workers.specs.Solved.{IsSolvedAlone}
use Rattle.llreve_cli.specs.declared.judge.Finding.{Finding}
use Rattle.llreve_cli.specs.Outcome.{Outcome, Found, Refused}
use Rattle.llreve_cli.specs.Call.{Call}

-- These bytes were read: they are the told text, where one is told, and not too long.
pub record IsRead (told : Option (List ℕ)) (bytes : List ℕ) : Type 0 where
  pub whole : IsWhole told bytes
  pub short : length bytes ≤ longest

-- The words are a command line, and both files that it names were read.
pub record AreRead (call : Call) : Type 0 where
  pub command : Command
  pub commands : IsCommand call.words command
  pub first_text : List ℕ
  pub second_text : List ℕ
  pub first_read : IsRead (call.text command.first) first_text
  pub second_read : IsRead (call.text command.second) second_text

-- Both texts are functions.
pub record AreFunctions (call : Call) : Type 0 where
  pub files : AreRead call
  pub first : Function
  pub second : Function
  pub first_parsed : Reads files.first_text first
  pub second_parsed : Reads files.second_text second

-- The condition is the one that the text is read as, or none where no text is given.
abbrev pub IsGivenCondition : Function → Option (List ℕ) → Option Expr → Type 0
IsGivenCondition func None None = Unit {0}
IsGivenCondition func (Some text) (Some condition) = ReadsCondition func text condition
IsGivenCondition func None (Some condition) = ⊥
IsGivenCondition func (Some text) None = ⊥

-- Both texts are functions of as many parameters, and the text of the option `--pre`, where it stands, is a condition
-- on these.
pub record AreComparable (call : Call) : Type 0 where
  pub functions : AreFunctions call
  pub arity : functions.first.params ≡ functions.second.params
  pub condition : Option Expr
  pub given : IsGivenCondition functions.first functions.files.command.condition condition

-- The functions, with the settings of the words and the condition that they spell.
abbrev pub subject_of : {call : Call} → AreComparable call → Comparison
subject_of comparable =
    comparison comparable.functions.first comparable.functions.second comparable.functions.files.command.settings
    comparable.condition

-- The finding is one on this comparison, by one worker alone, and its history is to be told or not.
pub record IsFindingOn (subject : Comparison) (with_history : Bool) (finding : Finding) : Type 0 where
  pub formed : IsComparison subject
  pub own : finding.subject ≡ subject
  pub asked : finding.with_history ≡ with_history
  pub solved : IsSolvedAlone subject finding.solved

-- So it is with the two functions, and the words ask for its history or do not.
abbrev pub IsFindingOf : (call : Call) → AreComparable call → Finding → Type 0
IsFindingOf call comparable finding =
    IsFindingOn (subject_of comparable) comparable.functions.files.command.history finding

-- The numbers of parameters of two functions.
abbrev pub arities : Function → Function → Arity
arities f g = record { first = f.params; second = g.params }

-- The fault says why the file with this name was not read: `text` tells the texts of the names, and `before` and
-- `after` count how often reads of each name had failed.
abbrev pub RefusesRead : (List ℕ → Option (List ℕ)) → (before after : List ℕ → ℕ) → List ℕ → Fault → Type 0
RefusesRead text before after name (fault.Read named) = (named ≡ name) × Rose (before name) (after name)
RefusesRead text before after name (fault.TooLong named) = (named ≡ name) × IsLong (text name)
RefusesRead text before after name _ = ⊥

-- The same of a file that the call was to read.
abbrev pub IsUnread : Call → List ℕ → Fault → Type 0
IsUnread call name why = RefusesRead call.text call.faults_before call.faults_after name why

-- The fault says, under this name, why a text is refused.
abbrev pub RefusesBy : List ℕ → (TextFault → Type 0) → Fault → Type 0
RefusesBy name IsRefused (fault.Token named inner) = (named ≡ name) × IsRefused (refusal.Token inner)
RefusesBy name IsRefused (fault.Reader named inner) = (named ≡ name) × IsRefused (refusal.Reader inner)
RefusesBy name IsRefused (fault.Check named inner) = (named ≡ name) × IsRefused (refusal.Check inner)
RefusesBy name IsRefused _ = ⊥

-- The fault says why the text of the file with this name is no function.
abbrev pub RefusesText : List ℕ → List ℕ → Fault → Type 0
RefusesText name text = RefusesBy name (IsRefusal text)

-- The fault says, under the option's name, why its text is no condition on the function's inputs.
abbrev pub RefusesCondition : Function → List ℕ → Fault → Type 0
RefusesCondition func text = RefusesBy (codes "--pre") (IsConditionRefusal func text)

-- The same of the option, where it stands.
abbrev pub RefusesGiven : Function → Option (List ℕ) → Fault → Type 0
RefusesGiven func None why = ⊥
RefusesGiven func (Some text) why = RefusesCondition func text why

-- One case an outcome, in the order in which they are judged: each case says that none before it holds.
pub data Leads (call : Call) : Outcome → Type 0 where
  no_command : AreNoCommandLine call.words → Leads call (Refused fault.Usage)
  first_unread : (command : Command) (why : Fault) → IsCommand call.words command → IsUnread call command.first why
      → Leads call (Refused why)
  second_unread : (command : Command) (bytes : List ℕ) (why : Fault) → IsCommand call.words command
      → IsRead (call.text command.first) bytes → IsUnread call command.second why → Leads call (Refused why)
  first_refused : (files : AreRead call) (why : Fault) → RefusesText files.command.first files.first_text why
      → Leads call (Refused why)
  second_refused : (files : AreRead call) (first : Function) (why : Fault) → Reads files.first_text first
      → RefusesText files.command.second files.second_text why → Leads call (Refused why)
  other_arity : (functions : AreFunctions call) → functions.first.params ≢ functions.second.params
      → Leads call (Refused (fault.Arity (arities functions.first functions.second)))
  condition_refused : (functions : AreFunctions call) (why : Fault)
      → functions.first.params ≡ functions.second.params
      → RefusesGiven functions.first functions.files.command.condition why → Leads call (Refused why)
  compared : (comparable : AreComparable call) (finding : Finding) → IsFindingOf call comparable finding
      → Leads call (Found finding)
