-- Which function a file stands for, and why it stands for none.
use Rattle.std.specs.Prelude.{◌≡◌, ◌<◌, ◌≤◌, List, [], ◌∷◌, ◌++◌, length, map, Option, Some, None}
use Rattle.c_ast.specs.RawTree.{RawFunction}
use Rattle.c_ast.specs.declared.func.Var.{Var}
use Rattle.c_ast.specs.Function.{Function}
use Rattle.c_ast.specs.View.{statements_of}
use Rattle.c_check.specs.declared.fault.CheckFault.{CheckFault}
use Rattle.c_check.specs.declared.fault.CheckFault.TheVariants as fault
use Rattle.c_check.specs.Contents.{declared_in}
use Rattle.c_check.specs.Resolves.{Bindings, Counts, with_declared, Resolves}
use Rattle.c_check.specs.Occurrences.{plain, occurrences_of}
use Rattle.c_check.specs.Faults.{first_fault}

-- the parameters, and what the body declares
abbrev pub variables_of : RawFunction → List Var
variables_of func = func.params ++ declared_in func.body

-- the first fault of a function, if it has one
abbrev pub fault_in : RawFunction → Option CheckFault
fault_in func = first_fault [] (occurrences_of func)

-- the parameters in scope
abbrev pub parameters_of : RawFunction → Bindings
parameters_of func = with_declared (map plain func.params) 0 []

-- the parameters stand before the body, and no loop
abbrev pub before_body : RawFunction → Counts
before_body func = record { vars = length func.params; loops = 0 }

-- The function of the file is this one, and no rule is broken in it.
pub record IsChecked (func : RawFunction) (made : Function) : Type 0 where
  pub faultless : fault_in func ≡ None
  pub few : length (variables_of func) ≤ 64
  pub name : made.name ≡ func.name
  pub params : made.params ≡ length func.params
  pub vars : made.vars ≡ variables_of func
  pub body : Resolves (parameters_of func) (before_body func) func.body (statements_of made.body)

-- The file holds this function alone.
abbrev pub HoldsOne : List RawFunction → RawFunction → Type 0
HoldsOne unit func = unit ≡ func ∷ []

-- Why the file stands for no function, in the order of judgement. Want of memory says nothing.
abbrev pub IsCheckFault : List RawFunction → CheckFault → Type 0
IsCheckFault unit fault.NoFunction = unit ≡ []
IsCheckFault unit (fault.ManyFunctions n) = (2 ≤ n) × (length unit ≡ n)
IsCheckFault unit (fault.ManyVariables n) =
    (func : RawFunction) × HoldsOne unit func × (fault_in func ≡ None) × (length (variables_of func) ≡ n) × (64 < n)
IsCheckFault unit fault.Memory = Unit {0}
IsCheckFault unit first = (func : RawFunction) × HoldsOne unit func × (fault_in func ≡ Some first)

-- The file stands for the function.
abbrev pub Checks : List RawFunction → Function → Type 0
Checks unit made = (func : RawFunction) × HoldsOne unit func × IsChecked func made

-- A file stands for one function at most.
abbrev pub IsSameFunction : Type 0
IsSameFunction =
    (unit : List RawFunction) (first second : Function) → Checks unit first → Checks unit second → first ≡ second
