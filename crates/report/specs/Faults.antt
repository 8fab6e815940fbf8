-- The texts of faults.
use Rattle.std.specs.Prelude.{◌≢◌, ℕ, List, [], ◌++◌, codes, decimal}
use Rattle.c_tokens.specs.declared.fault.TokenFault.{TokenFault}
use Rattle.c_tokens.specs.declared.fault.TokenFault.TheVariants as tokens
use Rattle.c_reader.specs.declared.fault.ReadFault.{ReadFault}
use Rattle.c_reader.specs.declared.fault.ReadFault.TheVariants as read
use Rattle.c_check.specs.declared.fault.CheckFault.{CheckFault}
use Rattle.c_check.specs.declared.fault.CheckFault.TheVariants as check
use Rattle.report.specs.declared.fault.Fault.{Fault}
use Rattle.report.specs.declared.fault.Fault.TheVariants.{Usage, Read, TooLong, Token, Reader, Check, Arity}

-- A fault that this one holds is not want of memory.
abbrev pub IsKept : Fault → Type 0
IsKept (Token name fault) = fault ≢ tokens.Memory
IsKept (Reader name fault) = fault ≢ read.Memory
IsKept (Check name fault) = fault ≢ check.Memory
IsKept _ = Unit {0}

-- A line about a file.
abbrev pub about : List ℕ → List ℕ → List ℕ
about name what = codes "llreve: " ++ name ++ what ++ codes "\n"

-- The line of a faulty place in a text: the file, the line and the column come first.
abbrev pub token_text : List ℕ → TokenFault → List ℕ
token_text name (tokens.NoToken line column) =
    codes "llreve: " ++ name ++ codes ":" ++ decimal line ++ codes ":" ++ decimal column ++ codes ": no token\n"
token_text name (tokens.Unsupported word line column) =
    codes "llreve: " ++ name ++ codes ":" ++ decimal line ++ codes ":" ++ decimal column ++ codes ": unsupported "
    ++ word ++ codes "\n"
token_text name (tokens.LiteralRange line column) =
    codes "llreve: " ++ name ++ codes ":" ++ decimal line ++ codes ":" ++ decimal column
    ++ codes ": literal out of range\n"
token_text name tokens.Memory = []

-- The line of a text that is not in the grammar, or that is nested too deep.
abbrev pub reader_text : List ℕ → ReadFault → List ℕ
reader_text name read.Deep = about name (codes ": nested too deep")
reader_text name read.Grammar = about name (codes ": not in the grammar")
reader_text name read.Memory = []

-- The line of a broken rule on functions, names, loops and marks.
abbrev pub check_text : List ℕ → CheckFault → List ℕ
check_text name check.NoFunction = about name (codes ": no function")
check_text name (check.ManyFunctions count) =
    codes "llreve: " ++ name ++ codes ": " ++ decimal count ++ codes " functions\n"
check_text name (check.Undeclared word line) =
    codes "llreve: " ++ name ++ codes ":" ++ decimal line ++ codes ": undeclared " ++ word ++ codes "\n"
check_text name (check.Twice word line) =
    codes "llreve: " ++ name ++ codes ":" ++ decimal line ++ codes ": declared twice " ++ word ++ codes "\n"
check_text name (check.Outside line) =
    codes "llreve: " ++ name ++ codes ":" ++ decimal line ++ codes ": outside a loop\n"
check_text name (check.MarkRange mark) =
    codes "llreve: " ++ name ++ codes ": mark " ++ decimal mark ++ codes " out of range\n"
check_text name (check.MarkTwice mark) = codes "llreve: " ++ name ++ codes ": mark " ++ decimal mark ++ codes " twice\n"
check_text name (check.Divisor line) =
    codes "llreve: " ++ name ++ codes ":" ++ decimal line ++ codes ": divisor not a nonzero constant\n"
check_text name (check.ManyVariables count) =
    codes "llreve: " ++ name ++ codes ": " ++ decimal count ++ codes " variables\n"
check_text name check.Memory = []

-- The line of two functions with these numbers of parameters.
abbrev pub arity_text : ℕ → ℕ → List ℕ
arity_text first second = codes "llreve: arity " ++ decimal first ++ codes " and " ++ decimal second ++ codes "\n"

-- The line that tells the fault.
abbrev pub fault_text : Fault → List ℕ
fault_text Usage = codes "llreve: usage: llreve [options] FIRST SECOND\n"
fault_text (Read name) = about name (codes ": cannot be read")
fault_text (TooLong name) = about name (codes ": over 65536 bytes")
fault_text (Token name fault) = token_text name fault
fault_text (Reader name fault) = reader_text name fault
fault_text (Check name fault) = check_text name fault
fault_text (Arity arity) = arity_text arity.first arity.second
