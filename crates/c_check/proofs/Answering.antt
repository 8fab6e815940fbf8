-- Which answer comes where.
use Rattle.std.proofs.Common.{◌≡◌, ℕ, ◌<◌, ◌≤◌, Bool, true, false, nat_lt, List, [], ◌∷◌, length, Option, Some, None, Result, Ok, Err, refl, sym, ap, ◌∙◌, subst, arith, append-nil, length-append, get_or}
use Rattle.std.specs.Option.{option_or}
use Rattle.std.specs.Prelude.{MatchResult, IsErr, IsErrAnd}
use Rattle.std.proofs.lemmas.Bool.{false≢true}
use Rattle.std.specs.declared.alloc.Global.{Global}
use Rattle.c_ast.specs.declared.func.Var.{Var}
use Rattle.c_ast.specs.RawTree.{RawFunction}
use Rattle.c_ast.specs.RawShape.{IsShaped}
use Rattle.c_ast.specs.Tree.{Statements}
use Rattle.c_ast.specs.View.{statements_of}
use Rattle.c_ast.specs.Function.{Function}
use Rattle.c_check.specs.declared.fault.CheckFault.{CheckFault}
use Rattle.c_check.specs.declared.fault.CheckFault.TheVariants as fault
use Rattle.c_check.specs.Contents.{declared_in}
use Rattle.c_check.specs.Resolves.{first_automatic, Resolves}
use Rattle.c_check.specs.Occurrences.{Occurrence, Use, Division, Declaration, Jump, Marked, occurrences_of}
use Rattle.c_check.specs.Faults.{holds_name, holds_mark, fault_of, with_mark, first_fault}
use Rattle.c_check.specs.Checked.{fault_in, parameters_of, before_body, IsChecked, IsCheckFault}
use Rattle.c_check.specs.Resolving.{made, function_at, HasParts, Fails}
use Rattle.c_check.proofs.Meeting.{Meets}
use Rattle.c_check.proofs.Checking.{MakesFunction, function_meets}

-- a fault of a place in the source
abbrev IsPlaceFault : Option CheckFault → Type 0
IsPlaceFault None = Unit {0}
IsPlaceFault (Some fault.NoFunction) = ⊥
IsPlaceFault (Some (fault.ManyFunctions n)) = ⊥
IsPlaceFault (Some (fault.ManyVariables n)) = ⊥
IsPlaceFault (Some fault.Memory) = ⊥
IsPlaceFault (Some _) = Unit {0}

one_place : (known : List ℕ) (occurrence : Occurrence) → IsPlaceFault (fault_of known occurrence)
one_place known (Use scope name line) = by (holds_name scope name) refl
  where
    by : (holds : Bool) → holds_name scope name ≡ holds → IsPlaceFault (fault_of known (Use scope name line))
    by true is = rw is tt
    by false is = rw is tt
one_place known (Declaration block name line) = by (holds_name block name) refl
  where
    by : (holds : Bool) → holds_name block name ≡ holds → IsPlaceFault (fault_of known (Declaration block name line))
    by true is = rw is tt
    by false is = rw is tt
one_place known (Division None line) = tt
one_place known (Division (Some divisor) line) = tt
one_place known (Jump true line) = tt
one_place known (Jump false line) = tt
one_place known (Marked mark) = by (nat_lt mark first_automatic) refl (holds_mark known mark) refl
  where
    by : (left : Bool) → nat_lt mark first_automatic ≡ left → (holds : Bool) → holds_mark known mark ≡ holds → IsPlaceFault (fault_of known (Marked mark))
    by true small true held = rw (small, held) tt
    by true small false held = rw (small, held) tt
    by false small holds held = rw small tt

either_place : (one two : Option CheckFault) → IsPlaceFault one → IsPlaceFault two → IsPlaceFault (option_or one two)
either_place None two first second = second
either_place (Some _) two first second = first

first_place : (known : List ℕ) (here : List Occurrence) → IsPlaceFault (first_fault known here)
first_place known [] = tt
first_place known (occurrence ∷ here) =
    either_place (fault_of known occurrence) (first_fault (with_mark known occurrence) here) (one_place known occurrence)
    (first_place (with_mark known occurrence) here)

-- what a step means, at its value
pub at_value : {A : Type 0} (means : A → Type 0) (known : List ℕ) (here : List Occurrence) (answer : Result A CheckFault) (value : A) → answer ≡ Ok value
    → Meets means known here answer → means value
at_value means known here answer value is meets = subst (Meets means known here) is meets

pub at_fault : {A : Type 0} (means : A → Type 0) (known : List ℕ) (here : List Occurrence) (answer : Result A CheckFault) (first : CheckFault)
    → answer ≡ Err first → Meets means known here answer → first_fault known here ≡ Some first
at_fault means known here answer first is meets = ap (first_fault known) (sym (append-nil here)) ∙ (subst (Meets means known here) is meets) []

-- the function was made
pub checked_by : (alloc : Global) (raw_func : RawFunction) (vars : List Var) (stmts : Statements) (func : Function) → IsShaped raw_func
    → HasParts (function_at alloc raw_func) vars stmts → length vars ≤ 64 → func.name ≡ raw_func.name
    → func.params ≡ length raw_func.params → func.vars ≡ vars → statements_of func.body ≡ stmts → IsChecked raw_func func
checked_by alloc raw_func vars stmts func shaped parts few name params same body =
    let makes = at_value (MakesFunction raw_func) [] (occurrences_of raw_func) (function_at alloc raw_func) (made parts.at stmts) parts.is
    (function_meets alloc raw_func shaped) in
    record {
      faultless = makes.faultless;
      few = subst (λ (some_vars : List Var). length some_vars ≤ 64) (parts.vars_are ∙ makes.vars) few;
      name = name;
      params = params;
      vars = same ∙ (parts.vars_are ∙ makes.vars);
      body = subst (λ (stmts : Statements). Resolves (parameters_of raw_func) (before_body raw_func) raw_func.body stmts) (sym body) makes.resolves;
    }

-- there are too many variables
pub many_by : (alloc : Global) (func : RawFunction) (vars : List Var) (stmts : Statements) (n : ℕ) → IsShaped func
    → HasParts (function_at alloc func) vars stmts → 64 < length vars → n ≡ length vars
    → IsCheckFault (func ∷ []) (fault.ManyVariables n)
many_by alloc func vars stmts n shaped parts many count =
    let makes = at_value (MakesFunction func) [] (occurrences_of func) (function_at alloc func) (made parts.at stmts) parts.is
    (function_meets alloc func shaped) in
    (func, refl, makes.faultless, ap length (sym (parts.vars_are ∙ makes.vars)) ∙ sym count, omega (arith, many, count))

-- a fault was met
pub refused_by : (alloc : Global) (func : RawFunction) (first : CheckFault) → IsShaped func → Fails (function_at alloc func) first
    → IsCheckFault (func ∷ []) first
refused_by alloc func first shaped fails = by first refl
  where
    found : (cause : CheckFault) → first ≡ cause → ¬ (cause ≡ fault.Memory) → fault_in func ≡ Some cause
    found cause is other = at_fault (MakesFunction func) [] (occurrences_of func) (function_at alloc func) first
        (fails.by (λ memory. other (sym is ∙ memory))) (function_meets alloc func shaped) ∙ ap Some is

    by : (cause : CheckFault) → first ≡ cause → IsCheckFault (func ∷ []) cause
    by fault.NoFunction is = absurd (subst IsPlaceFault (found fault.NoFunction is (λ memory. cc)) (first_place [] (occurrences_of func)))
    by (fault.ManyFunctions n) is = absurd (subst IsPlaceFault (found (fault.ManyFunctions n) is (λ memory. cc)) (first_place [] (occurrences_of func)))
    by (fault.Divisor line) is = (func, refl, found (fault.Divisor line) is (λ memory. cc))
    by (fault.Undeclared name line) is = (func, refl, found (fault.Undeclared name line) is (λ memory. cc))
    by (fault.Twice name line) is = (func, refl, found (fault.Twice name line) is (λ memory. cc))
    by (fault.Outside line) is = (func, refl, found (fault.Outside line) is (λ memory. cc))
    by (fault.MarkRange mark) is = (func, refl, found (fault.MarkRange mark) is (λ memory. cc))
    by (fault.MarkTwice mark) is = (func, refl, found (fault.MarkTwice mark) is (λ memory. cc))
    by (fault.ManyVariables n) is = absurd (subst IsPlaceFault (found (fault.ManyVariables n) is (λ memory. cc)) (first_place [] (occurrences_of func)))
    by fault.Memory is = tt

-- the parameters are among the variables
pub few_parameters : (alloc : Global) (func : RawFunction) (vars : List Var) (stmts : Statements) → IsShaped func
    → HasParts (function_at alloc func) vars stmts → length vars ≤ 64 → length func.params ≤ 64
few_parameters alloc func vars stmts shaped parts few =
    let makes = at_value (MakesFunction func) [] (occurrences_of func) (function_at alloc func) (made parts.at stmts) parts.is
    (function_meets alloc func shaped) in
    omega (arith, few, ap length (parts.vars_are ∙ makes.vars), length-append func.params (declared_in func.body))

-- a list of one element
pub one_of : {X : Type 0} (xs : List X) (x : X) → 1 ≤ length xs → length xs < 2 → x ≡ get_or xs 0 x → xs ≡ x ∷ []
one_of [] x some few is = absurd (omega (arith, some))
one_of (y ∷ []) x some few is = ap (λ z. z ∷ []) (sym is)
one_of (y ∷ z ∷ xs) x some few is = absurd (omega (arith, few))

-- a fault that `?` hands on
pub refuses : (raw_func : RawFunction) (first : CheckFault) (result : Result Function CheckFault) (gives : CheckFault → Type 0) → IsErr result
    → IsErrAnd result gives → ((other : CheckFault) → gives other → other ≡ first)
    → IsCheckFault (raw_func ∷ []) first → MatchResult result (IsChecked raw_func) (IsCheckFault (raw_func ∷ []))
refuses raw_func first (Ok func) gives failed given same refused = absurd (false≢true failed)
refuses raw_func first (Err other) gives failed given same refused = subst (IsCheckFault (raw_func ∷ [])) (sym (same other given)) refused
