-- Why words are no command line.
use Rattle.std.specs.Prelude.{ℕ, List}
use Rattle.command_line.specs.declared.words.Command.{Command}
use Rattle.command_line.specs.declared.words.NoCommand.{NoCommand}
use Rattle.command_line.specs.declared.words.NoCommand.TheVariants.{Usage, Memory}
use Rattle.command_line.specs.CommandLine.{IsCommand}

-- The words are no command line.
abbrev pub AreNoCommandLine : List (List ℕ) → Type 0
AreNoCommandLine words = (command : Command) → ¬ IsCommand words command

-- Nothing is said of want of memory.
abbrev pub IsNoCommand : List (List ℕ) → NoCommand → Type 0
IsNoCommand words Usage = AreNoCommandLine words
IsNoCommand words Memory = Unit {0}
