-- The variables in scope at a place are those that are set in front of it, and the parameters.
use Rattle.std.proofs.Common.{◌≡◌, ℕ, ◌⊎◌, inl, inr, ⊎_elim, List, [], ◌++◌, Option, Some, None, Bool, true, false, eqb, length, refl, sym, ap, ◌∙◌, append_assoc, ◌∷◌}
use Rattle.std.specs.Option.{option_or}
use Rattle.std.proofs.lemmas.Bool.{eqb-true, eqb-false}
use Rattle.c_ast.specs.declared.place.Place.{Place}
use Rattle.c_ast.specs.declared.place.Place.TheVariants as place
use Rattle.c_ast.specs.Tree.{Statements, Nil, Set, If, Loop, Break, Continue, Return, Mark, Block}
use Rattle.c_ast.specs.Step.{Scope, first_variables, Work, scope_of}
use Rattle.c_ast.specs.Segment.{StandsIn, GoesOnFrom}
use Rattle.c_ast.specs.Formed.{is_mark}
use Rattle.c_ast.specs.Function.{Function, IsFunction, program_of}
use Rattle.c_ast.specs.Scope.{IsPlace, variables_in, AreInScope, with_set, none_before, set_before}
use Rattle.c_ast.proofs.Laws.{work_is_determined}
use Rattle.report.specs.Families.{set_or_none, set_in_front, variables_at}

-- Where something is found, one of these works has it in front of the scope; where nothing is, there is no such work.
abbrev Finds : (Work → Type 0) → Scope → Option Scope → Type 0
Finds P scope None = (after : Work) → P after → ⊥
Finds P scope (Some before) = (after : Work) × P after × (scope_of after ≡ before ++ scope)

finds_or : (P Q : Work → Type 0) (scope : Scope) (first second : Option Scope) → Finds P scope first → Finds Q scope second
    → Finds (λ after. P after ⊎ Q after) scope (option_or first second)
finds_or P Q scope None None a b = λ after stands. ⊎_elim (a after) (b after) stands
finds_or P Q scope None (Some before) a b = (b.0, inr b.1, b.2)
finds_or P Q scope (Some before) second a b = (a.0, inl a.1, a.2)

finds_set : (P : Work → Type 0) (x : ℕ) (scope : Scope) (found : Option Scope) → Finds P (x ∷ scope) found → Finds P scope (with_set x found)
finds_set P x scope None a = a
finds_set P x scope (Some before) a = (a.0, a.1, a.2 ∙ sym (append_assoc before (x ∷ []) scope))

finds_here : (own mark : ℕ) (work : Work) (scope : Scope) (holds : Bool) → scope_of work ≡ scope → eqb own mark ≡ holds
    → Finds (λ after. (own ≡ mark) × (after ≡ work)) scope (none_before holds)
finds_here own mark work scope true same e = (work, (eqb-true own mark e, refl), same)
finds_here own mark work scope false same e = λ after is. eqb-false own mark e is.0

finds_loop : (own : Option ℕ) (mark : ℕ) (work : Work) (scope : Scope) → scope_of work ≡ scope
    → Finds (λ after. (own ≡ Some mark) × (after ≡ work)) scope (none_before (is_mark own mark))
finds_loop None mark work scope same = λ after is. let none = is.0 in cc
finds_loop (Some own) mark work scope same = on (eqb own mark) refl
  where
    on : (holds : Bool) → eqb own mark ≡ holds → Finds (λ after. (Some own ≡ Some mark) × (after ≡ work)) scope (none_before holds)
    on true e = (work, (ap Some (eqb-true own mark e), refl), same)
    on false e = λ after is. let one : own ≡ mark = (let some = is.0 in cc) in eqb-false own mark e one

finds : (stmts : Statements) (scope : Scope) (work : Work) (mark : ℕ) → Finds (StandsIn scope stmts work mark) scope (set_before mark stmts)
finds Nil scope work mark = λ after none. none
finds (Set x e others) scope work mark = finds_set _ x scope (set_before mark others) (finds others (x ∷ scope) work mark)
finds (If e a b others) scope work mark =
    finds_or _ _ scope (set_before mark a) _ (finds a scope _ mark) (finds_or _ _ scope (set_before mark b) _ (finds b scope _ mark)
    (finds others scope work mark))
finds (Loop own e body tail first others) scope work mark =
    finds_or _ _ scope (none_before (is_mark own mark)) _ (finds_loop own mark _ scope refl)
    (finds_or _ _ scope (set_before mark body) _ (finds body scope _ mark)
    (finds_or _ _ scope (set_before mark tail) _ (finds tail scope _ mark) (finds others scope work mark)))
finds (Break others) scope work mark = finds others scope work mark
finds (Continue others) scope work mark = finds others scope work mark
finds (Return e others) scope work mark = finds others scope work mark
finds (Mark own others) scope work mark =
    finds_or _ _ scope (none_before (eqb own mark)) _ (finds_here own mark _ scope (eqb own mark) refl refl) (finds others scope work mark)
finds (Block a others) scope work mark = finds_or _ _ scope (set_before mark a) _ (finds a scope _ mark) (finds others scope work mark)

-- The scope with which the run goes on from a mark, where it does.
scope_from : (P : Work → Type 0) (scope : Scope) (found : Option Scope) (work : Work) → Finds P scope found → P work
    → ((v w : Work) → P v → P w → v ≡ w) → scope_of work ≡ set_or_none found ++ scope
scope_from P scope None work finds goes once = absurd (finds work goes)
scope_from P scope (Some before) work finds goes once = ap scope_of (once work finds.0 goes finds.1) ∙ finds.2

scope_at : (f : Function) → IsFunction f → (p : Place) (work : Work) → GoesOnFrom (program_of f) p work
    → scope_of work ≡ set_in_front f p ++ first_variables f.params
scope_at f is place.Entry work goes = ap scope_of goes
scope_at f is (place.Mark mark) work goes =
    let body = (program_of f).body in
    scope_from (StandsIn (first_variables f.params) body [] mark) (first_variables f.params) (set_before mark body) work
    (finds body (first_variables f.params) [] mark) goes (work_is_determined (program_of f) is (place.Mark mark))
scope_at f is place.Exit work goes = absurd goes

-- What is in scope at a place of the function are these variables.
pub in_scope : (f : Function) → IsFunction f → (p : Place) (variables : List ℕ) → IsPlace (program_of f) p → AreInScope (program_of f) p variables
    → variables ≡ variables_at f p
in_scope f is p variables at are =
    are at.work at.from ∙ ap (λ (scope : Scope). variables_in scope (length f.vars)) (scope_at f is p at.work at.from)
