-- What words that were read say.
use Rattle.std.specs.Prelude.{◌≡◌, bytes_eq, ℕ, Bool, true, if◌then◌else◌, List, Option, Some, None, codes}
use Rattle.c_ast.specs.Bounds.{Bounds, AreBounds}
use Rattle.command_line.specs.declared.setting.Setting.{Setting}
use Rattle.command_line.specs.declared.setting.Setting.TheVariants.{Workers, Samples, Marks, Rows, Seed}
use Rattle.command_line.specs.declared.given.Given.{Given}
use Rattle.command_line.specs.declared.given.Operands.{Operands}
use Rattle.command_line.specs.declared.given.Operands.TheVariants as names
use Rattle.command_line.specs.declared.reading.Reading.{Reading}
use Rattle.command_line.specs.declared.reading.Expects.{Expects}
use Rattle.command_line.specs.declared.reading.Expects.TheVariants.{Word, Value, Operand}
use Rattle.command_line.specs.declared.words.Command.{Command}
use Rattle.command_line.specs.CommandLine.{default_of, AreWorkers}
use Rattle.command_line.specs.Read.{number_of}

-- The number that was given, or else the default.
abbrev pub chosen : Setting → Option ℕ → ℕ
chosen setting None = default_of setting
chosen setting (Some number) = number

-- The option's number.
abbrev pub chosen_of : Setting → Given → ℕ
chosen_of setting given = chosen setting (number_of setting given)

-- Each option has a number in its range, and these are four of them.
pub record SaysNumbers (given : Given) (numbers : Bounds) : Type 0 where
  pub workers : AreWorkers (chosen_of Workers given)
  pub samples : chosen_of Samples given ≡ numbers.samples
  pub marks : chosen_of Marks given ≡ numbers.marks
  pub rows : chosen_of Rows given ≡ numbers.rows
  pub seed : chosen_of Seed given ≡ numbers.seed
  pub within : AreBounds numbers

-- The command of two files, the first of which is not `make`.
abbrev pub command_of : Bounds → Option (List ℕ) → Bool → Operands → Option Command
command_of numbers condition history names.None = None
command_of numbers condition history (names.First first) = None
command_of numbers condition history (names.Both first second) =
    if bytes_eq first (codes "make") then None
    else Some (record { settings = numbers; condition = condition; history = history; first = first; second = second })

-- `--alone` stood, each option has a number in its range, and two files were named, the first of which is not `make`.
pub record Says (given : Given) (command : Command) : Type 0 where
  pub alone : given.alone ≡ true
  pub numbers : SaysNumbers given command.settings
  pub files : command_of command.settings given.condition given.history given.operands ≡ Some command

-- The last word was no option that lacks its value.
abbrev pub IsEnd : Expects → Type 0
IsEnd Word = Unit {0}
IsEnd (Value option) = ⊥
IsEnd Operand = Unit {0}

-- What the words that were read say, where no value is awaited.
pub record Ends (now : Reading) (command : Command) : Type 0 where
  pub end : IsEnd now.expects
  pub says : Says now.given command
