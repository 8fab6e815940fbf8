-- What is met in a condition is what it stands for, or its first fault.
use Rattle.std.proofs.Common.{◌≡◌, ℕ, List, [], ◌∷◌, length, map, Some, None, Result, Ok, Err, refl, sym, ap, ◌∙◌, subst, arith, append-nil, length-append}
use Rattle.std.proofs.lemmas.List.{length-take-le}
use Rattle.std.specs.Prelude.{IfErr, IsErr, IsErrAnd}
use Rattle.std.specs.declared.alloc.Global.{Global}
use Rattle.c_ast.specs.declared.expr.Expr.{Expr}
use Rattle.c_ast.specs.declared.func.Var.{Var}
use Rattle.c_ast.specs.RawTree.{RawExpression}
use Rattle.c_ast.specs.RawShape.{HasNaturalConstants}
use Rattle.c_ast.specs.Tree.{Expression}
use Rattle.c_ast.specs.Step.{first_variables}
use Rattle.c_ast.specs.Formed.{IsOver}
use Rattle.c_ast.specs.Function.{Function, IsFunction}
use Rattle.c_check.specs.declared.fault.CheckFault.{CheckFault}
use Rattle.c_check.specs.declared.fault.CheckFault.TheVariants as fault
use Rattle.c_check.specs.declared.resolver.Resolver.{Resolver}
use Rattle.c_check.specs.Resolves.{Bindings, with_declared}
use Rattle.c_check.specs.Occurrences.{Names, with_names, in_expression, plain}
use Rattle.c_check.specs.Faults.{first_fault}
use Rattle.c_check.specs.Table.{names_of}
use Rattle.c_check.specs.Resolving.{scope_at, with_variable, with_variables, nothing_known, expression_in, Fails}
use Rattle.c_check.specs.Condition.{parameters, parameters_in_scope, fault_in_condition, IsCheckedCondition, IsConditionFault}
use Rattle.c_check.proofs.Meeting.{Meets, Means, expression_meets}
use Rattle.c_check.proofs.Forming.{Known, over}
use Rattle.c_check.proofs.Checking.{known_parameters, known_nothing, names_declared_plain}
use Rattle.c_check.proofs.Answering.{at_value, at_fault}

-- the scope behind variables that are added
scope_added : (vars : List Var) (at : Resolver) → scope_at (with_variables at vars) ≡ with_declared (map plain vars) (length at.vars) (scope_at at)
scope_added [] at = refl
scope_added (var ∷ vars) at =
    scope_added vars (with_variable at var)
    ∙ ap (λ (n : ℕ). with_declared (map plain vars) n (scope_at (with_variable at var))) (length-append at.vars (var ∷ []) ∙ omega arith)

-- the scope of a condition
pub scope_is : (alloc : Global) (func : Function) (at : Resolver) → at ≡ with_variables (nothing_known alloc) (parameters func)
    → scope_at at ≡ parameters_in_scope func
scope_is alloc func at is = ap scope_at is ∙ scope_added (parameters func) (nothing_known alloc)

condition_meets : (func : Function) (expr : RawExpression)
    → Meets (Means (parameters_in_scope func) [] expr) [] (in_expression (names_of (parameters_in_scope func)) expr)
    (expression_in (parameters_in_scope func) expr)
condition_meets func expr = expression_meets (parameters_in_scope func) [] expr

names_are : (func : Function) → names_of (parameters_in_scope func) ≡ with_names (map plain (parameters func)) []
names_are func = names_declared_plain (parameters func) 0 []

-- what was made is what the condition stands for
pub condition_checked : (func : Function) (expr : RawExpression) (scope : Bindings) (made : Expression) → scope ≡ parameters_in_scope func
    → expression_in scope expr ≡ Ok made → IsCheckedCondition func expr made
condition_checked func expr scope made same is =
    let here = in_expression (names_of (parameters_in_scope func)) expr in
    let answer = subst (λ (bindings : Bindings). expression_in bindings expr ≡ Ok made) same is in
    let means = at_value (Means (parameters_in_scope func) [] expr) [] here (expression_in (parameters_in_scope func) expr) made answer
    (condition_meets func expr) in
    let none : first_fault [] here ≡ None = ap (first_fault []) (sym (append-nil here)) ∙ means.passes.by [] in
    record {
      faultless = subst (λ (names : Names). first_fault [] (in_expression names expr) ≡ None) (names_are func) none;
      resolves = means.resolves;
    }

-- it is over the parameters
pub condition_formed : (func : Function) (expr : RawExpression) (made : Expression) → IsFunction func → HasNaturalConstants expr
    → IsCheckedCondition func expr made
    → IsOver (first_variables func.params) made
condition_formed func expr made formed natural checked =
    let count : length (parameters func) ≡ func.params = length-take-le func.params func.vars formed.parameters in
    let known : Known (parameters_in_scope func) (length (parameters func)) (first_variables (length (parameters func))) =
    subst (λ (n : ℕ). Known (parameters_in_scope func) n (first_variables n)) (omega arith) (known_parameters (parameters func) 0 [] known_nothing) in
    subst (λ (n : ℕ). IsOver (first_variables n) made) count
    (over (parameters_in_scope func) (length (parameters func)) (first_variables (length (parameters func))) expr made known checked.resolves natural)

-- a fault that was met is the condition's first
pub condition_refused : (func : Function) (expr : RawExpression) (scope : Bindings) (first : CheckFault) → scope ≡ parameters_in_scope func
    → Fails (expression_in scope expr) first → IsConditionFault func expr first
condition_refused func expr scope first same fails = by first refl
  where
    found : (cause : CheckFault) → first ≡ cause → ¬ (cause ≡ fault.Memory) → fault_in_condition func expr ≡ Some cause
    found cause is other =
        let here = in_expression (names_of (parameters_in_scope func)) expr in
        let answer = subst (λ (bindings : Bindings). expression_in bindings expr ≡ Err first) same (fails.by (λ memory. other (sym is ∙ memory))) in
        let fault_found = at_fault (Means (parameters_in_scope func) [] expr) [] here (expression_in (parameters_in_scope func) expr) first answer
        (condition_meets func expr) in
        subst (λ (names : Names). first_fault [] (in_expression names expr) ≡ Some cause) (names_are func) (fault_found ∙ ap Some is)

    by : (cause : CheckFault) → first ≡ cause → IsConditionFault func expr cause
    by fault.Memory is = tt
    by fault.NoFunction is = found fault.NoFunction is (λ memory. cc)
    by (fault.ManyFunctions n) is = found (fault.ManyFunctions n) is (λ memory. cc)
    by (fault.Undeclared name line) is = found (fault.Undeclared name line) is (λ memory. cc)
    by (fault.Twice name line) is = found (fault.Twice name line) is (λ memory. cc)
    by (fault.Outside line) is = found (fault.Outside line) is (λ memory. cc)
    by (fault.MarkRange mark) is = found (fault.MarkRange mark) is (λ memory. cc)
    by (fault.MarkTwice mark) is = found (fault.MarkTwice mark) is (λ memory. cc)
    by (fault.Divisor line) is = found (fault.Divisor line) is (λ memory. cc)
    by (fault.ManyVariables n) is = found (fault.ManyVariables n) is (λ memory. cc)

-- a fault that `?` hands on
pub refuses_condition : (func : Function) (expr : RawExpression) (first : CheckFault) (result : Result Expr CheckFault) (gives : CheckFault → Type 0)
    → IsErr result → IsErrAnd result gives → ((other : CheckFault) → gives other → other ≡ first) → IsConditionFault func expr first
    → IfErr result (IsConditionFault func expr)
refuses_condition func expr first (Ok made) gives failed given same refused = tt
refuses_condition func expr first (Err other) gives failed given same refused = subst (IsConditionFault func expr) (sym (same other given)) refused
