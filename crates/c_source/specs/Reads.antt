-- Which function a text is read as, and why it is read as none.
use Rattle.std.specs.Prelude.{◌≡◌, ◌≢◌, ℕ, ◌<◌, ◌≤◌, List}
use Rattle.c_ast.specs.Function.{Function}
use Rattle.c_ast.specs.RawTree.{RawFunction}
use Rattle.c_tokens.specs.declared.token.Token.{Token}
use Rattle.c_tokens.specs.Tokens.{AreTokens, IsFirstFault}
use Rattle.c_reader.specs.Depth.{IsDeep, unit_depth}
use Rattle.c_reader.specs.Units.{SpellsUnit}
use Rattle.c_check.specs.declared.fault.CheckFault.{CheckFault}
use Rattle.c_check.specs.declared.fault.CheckFault.TheVariants as check
use Rattle.c_check.specs.Checked.{Checks, IsCheckFault}
use Rattle.c_source.specs.declared.fault.TextFault.{TextFault}
use Rattle.c_source.specs.declared.fault.TextFault.TheVariants as refusal
use Rattle.c_source.specs.TextFaults.{IsNoWant}
use Rattle.c_source.specs.Unread.{IsUnread}

-- The tokens of the text spell these functions: no more than 200 brackets are open at once, and the tree has at most
-- 400 levels.
pub record Parses (text : List ℕ) (unit : List RawFunction) : Type 0 where
  pub tokens : List Token
  pub are : AreTokens text tokens
  pub nested : ¬ IsDeep tokens
  pub spells : SpellsUnit tokens unit
  pub shallow : unit_depth unit ≤ 400

-- The text is read as the function: its tokens spell one function, which resolves to this one.
pub record Reads (text : List ℕ) (made : Function) : Type 0 where
  pub unit : List RawFunction
  pub parses : Parses text unit
  pub checks : Checks unit made

-- The tokens spell no functions with a tree of at most 400 levels.
abbrev pub SpellNoUnit : List Token → Type 0
SpellNoUnit tokens = (unit : List RawFunction) → SpellsUnit tokens unit → 400 < unit_depth unit

-- The functions of the text are refused for this reason.
pub record IsUnchecked (text : List ℕ) (fault : CheckFault) : Type 0 where
  pub unit : List RawFunction
  pub parses : Parses text unit
  pub reason : IsCheckFault unit fault
  pub no_want : fault ≢ check.Memory

-- This is why the text is read as no function: its first faulty place, or else what is wrong with its tokens, or else
-- the first rule that is broken.
abbrev pub IsRefusal : List ℕ → TextFault → Type 0
IsRefusal text (refusal.Token fault) = IsFirstFault text fault
IsRefusal text (refusal.Reader fault) = IsUnread SpellNoUnit text fault
IsRefusal text (refusal.Check fault) = IsUnchecked text fault
IsRefusal text refusal.Memory = ⊥

-- The fault is a refusal, or memory ran out.
abbrev pub IsTextFault : List ℕ → TextFault → Type 0
IsTextFault text refusal.Memory = Unit {0}
IsTextFault text fault = IsRefusal text fault

-- ---- laws

-- A text is read as one function at most.
abbrev pub HasOneReading : Type 0
HasOneReading = (text : List ℕ) (f g : Function) → Reads text f → Reads text g → f ≡ g

-- A text is refused for one reason at most.
abbrev pub HasOneRefusal : Type 0
HasOneRefusal = (text : List ℕ) (one other : TextFault) → IsRefusal text one → IsRefusal text other → one ≡ other

-- A text that is read as a function is not refused.
abbrev pub ReadIsNotRefused : Type 0
ReadIsNotRefused = (text : List ℕ) (made : Function) (fault : TextFault) → Reads text made → ¬ IsRefusal text fault

-- A refusal is not want of memory.
abbrev pub RefusalIsNoWant : Type 0
RefusalIsNoWant = (text : List ℕ) (fault : TextFault) → IsRefusal text fault → IsNoWant fault
