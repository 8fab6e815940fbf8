-- The first fault of a function in the order of its source.
use Rattle.std.specs.Prelude.{ℕ, Bool, if◌then◌else◌, nat_lt, ◌==◌, List, [], ◌∷◌, Option, Some, None, bytes_eq}
use Rattle.std.specs.List.{list_any}
use Rattle.std.specs.Option.{option_or}
use Rattle.c_check.specs.declared.fault.CheckFault.{CheckFault}
use Rattle.c_check.specs.declared.fault.CheckFault.TheVariants as fault
use Rattle.c_check.specs.Occurrences.{Names, Occurrence, Use, Division, Declaration, Jump, Marked}
use Rattle.c_check.specs.Resolves.{first_automatic}

-- whether the name is among these
abbrev pub holds_name : Names → List ℕ → Bool
holds_name names name = list_any (λ other. bytes_eq name other) names

-- whether the mark is among these
abbrev pub holds_mark : List ℕ → ℕ → Bool
holds_mark marks mark = list_any (λ other. other == mark) marks

-- the fault of an occurrence behind these marks, if it is one
abbrev pub fault_of : List ℕ → Occurrence → Option CheckFault
fault_of marks (Use scope name line) = if holds_name scope name then None else Some (fault.Undeclared name line)
fault_of marks (Division None line) = Some (fault.Divisor line)
fault_of marks (Division (Some divisor) line) = None
fault_of marks (Declaration block name line) = if holds_name block name then Some (fault.Twice name line) else None
fault_of marks (Jump in_loop line) = if in_loop then None else Some (fault.Outside line)
fault_of marks (Marked mark) =
    if nat_lt mark first_automatic then (if holds_mark marks mark then Some (fault.MarkTwice mark) else None)
    else Some (fault.MarkRange mark)

-- the marks behind an occurrence, the last one first
abbrev pub with_mark : List ℕ → Occurrence → List ℕ
with_mark marks (Marked mark) = mark ∷ marks
with_mark marks _ = marks

-- the first fault behind these marks, if there is one
abbrev pub first_fault : List ℕ → List Occurrence → Option CheckFault
first_fault marks [] = None
first_fault marks (occurrence ∷ occurrences) =
    option_or (fault_of marks occurrence) (first_fault (with_mark marks occurrence) occurrences)
