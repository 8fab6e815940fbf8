-- What the judgement and its parts answer.
use Rattle.std.specs.Prelude.{◌≡◌, ◌≢◌, ℕ, List, Option, Result, Ok, Err}
use Rattle.c_ast.specs.declared.expr.Expr.{Expr}
use Rattle.c_ast.specs.Function.{Function}
use Rattle.c_ast.specs.Comparison.{Comparison, comparison}
use Rattle.command_line.specs.declared.words.Command.{Command}
use Rattle.command_line.specs.Refused.{AreNoCommandLine}
use Rattle.report.specs.declared.fault.Fault.{Fault}
use Rattle.report.specs.declared.fault.Fault.TheVariants as fault
use Rattle.llreve_cli.specs.declared.judge.Finding.{Finding}
use Rattle.llreve_cli.specs.declared.judge.NoVerdict.{NoVerdict}
use Rattle.llreve_cli.specs.declared.judge.NoVerdict.TheVariants as no_verdict
use Rattle.llreve_cli.specs.Outcome.{Found, Refused}
use Rattle.llreve_cli.specs.Call.{Call}
use Rattle.llreve_cli.specs.Leads.{Leads, arities, IsGivenCondition, RefusesGiven}

-- The fault says that the words are no command line.
abbrev pub RefusesWords : List (List ℕ) → Fault → Type 0
RefusesWords words fault.Usage = AreNoCommandLine words
RefusesWords words _ = ⊥

-- The subject of both functions under a command: they have as many parameters, and the condition is the one that is
-- given.
pub record IsSubject (f g : Function) (command : Command) (subject : Comparison) : Type 0 where
  pub arity : f.params ≡ g.params
  pub condition : Option Expr
  pub given : IsGivenCondition f command.condition condition
  pub same : subject ≡ comparison f g command.settings condition

-- The fault says why there is no subject: other numbers of parameters, or else what is wrong with the condition's text.
abbrev pub RefusesSubject : Function → Function → Option (List ℕ) → Fault → Type 0
RefusesSubject f g text (fault.Arity arity) = (arity ≡ arities f g) × (f.params ≢ g.params)
RefusesSubject f g text why = (f.params ≡ g.params) × RefusesGiven f text why

-- The answer is the outcome that the call leads to, unless memory ran out.
abbrev pub Judges : Call → Result Finding NoVerdict → Type 0
Judges call (Ok finding) = Leads call (Found finding)
Judges call (Err (no_verdict.Refused fault)) = Leads call (Refused fault)
Judges call (Err no_verdict.Memory) = Unit {0}
