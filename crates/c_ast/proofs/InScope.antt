-- The variables that are set in front of a mark, with the parameters, are those in scope there.
use Rattle.std.proofs.Common.{◌≡◌, ℕ, zero, suc, ◌-◌, ◌<◌, ◌≤◌, Bool, true, false, ◌||◌, eqb, nat_lt, List, [], ◌∷◌, ◌++◌, Option, Some, None, IsSome, refl, sym, ap, ◌∙◌, subst, arith, append_assoc, append-nil}
use Rattle.std.specs.Option.{option_or}
use Rattle.std.proofs.lemmas.Bool.Decides.{nat_tests}
use Rattle.c_ast.specs.declared.place.Place.{Place}
use Rattle.c_ast.specs.declared.place.Place.TheVariants as place
use Rattle.c_ast.specs.Tree.{Statements, Nil, Set, If, Loop, Break, Continue, Return, Mark, Block, Program}
use Rattle.c_ast.specs.Step.{Scope, is_in, first_variables, Run, Work, scope_of}
use Rattle.c_ast.specs.Segment.{Follows, GoesOnFrom}
use Rattle.c_ast.specs.Formed.{is_mark, IsProgram}
use Rattle.c_ast.specs.Scope.{IsPlace, with_variable, variables_from, variables_in, AreInScope, with_set, none_before, set_before, IsSetBefore}
use Rattle.c_ast.proofs.Following.{or_else, work_if, work_after, stands_once}

-- ---- the walk that finds the work, and the one that finds what is set

-- both walks find the mark, and what is set is put in front of the scope; or neither does
abbrev Agrees : Scope → Option Work → Option Scope → Type 0
Agrees scope None None = Unit {0}
Agrees scope (Some work) (Some before) = scope_of work ≡ before ++ scope
Agrees scope None (Some before) = ⊥
Agrees scope (Some work) None = ⊥

agrees_or : (scope : Scope) (a b : Option Work) (first second : Option Scope) → Agrees scope a first → Agrees scope b second
    → Agrees scope (or_else a b) (option_or first second)
agrees_or scope None b None second agree_a agree_b = agree_b
agrees_or scope None b (Some before) second agree_a agree_b = absurd agree_a
agrees_or scope (Some work) b None second agree_a agree_b = absurd agree_a
agrees_or scope (Some work) b (Some before) second agree_a agree_b = agree_a

agrees_if : (scope : Scope) (holds : Bool) (work : Work) → scope_of work ≡ scope → Agrees scope (work_if holds work) (none_before holds)
agrees_if scope true work same = same
agrees_if scope false work same = tt

agrees_set : (x : ℕ) (scope : Scope) (a : Option Work) (found : Option Scope) → Agrees (x ∷ scope) a found → Agrees scope a (with_set x found)
agrees_set x scope None None agree = tt
agrees_set x scope None (Some before) agree = absurd agree
agrees_set x scope (Some work) None agree = absurd agree
agrees_set x scope (Some work) (Some before) agree = agree ∙ sym (append_assoc before (x ∷ []) scope)

agrees : (stmts : Statements) (scope : Scope) (work : Work) (mark : ℕ) → Agrees scope (work_after scope stmts work mark) (set_before mark stmts)
agrees Nil scope work mark = tt
agrees (Set x e others) scope work mark = agrees_set x scope _ _ (agrees others (x ∷ scope) work mark)
agrees (If e a b others) scope work mark = agrees_or scope _ _ _ _ (agrees a scope _ mark)
    (agrees_or scope _ _ _ _ (agrees b scope _ mark) (agrees others scope work mark))
agrees (Loop own e body tail first others) scope work mark =
    agrees_or scope _ _ _ _ (agrees_if scope (is_mark own mark) _ refl)
    (agrees_or scope _ _ _ _ (agrees body scope _ mark) (agrees_or scope _ _ _ _ (agrees tail scope _ mark) (agrees others scope work mark)))
agrees (Break others) scope work mark = agrees others scope work mark
agrees (Continue others) scope work mark = agrees others scope work mark
agrees (Return e others) scope work mark = agrees others scope work mark
agrees (Mark own others) scope work mark = agrees_or scope _ _ _ _ (agrees_if scope (eqb own mark) _ refl) (agrees others scope work mark)
agrees (Block a others) scope work mark = agrees_or scope _ _ _ _ (agrees a scope _ mark) (agrees others scope work mark)

-- what is set before a mark that the function has
pub record IsBefore (f : Program) (mark : ℕ) (work : Work) : Type 0 where
  pub before : Scope
  pub found : set_before mark f.body ≡ Some before
  pub scope : scope_of work ≡ before ++ first_variables f.params

found_before : (scope : Scope) (work : Work) (after : Option Work) (found : Option Scope) → after ≡ Some work → Agrees scope after found → (before : Scope)
    × (found ≡ Some before) × (scope_of work ≡ before ++ scope)
found_before scope work None found is agree = cc
found_before scope work (Some other) None is agree = absurd agree
found_before scope work (Some other) (Some before) is agree = let same : other ≡ work = cc in (before, refl, ap scope_of (sym same) ∙ agree)

pub is_before : (f : Program) → IsProgram f → (mark : ℕ) (work : Work) → Follows f mark work → IsBefore f mark work
is_before f is mark work follows =
    let b = found_before (first_variables f.params) work (work_after (first_variables f.params) f.body [] mark) (set_before mark f.body)
    (stands_once f.body (first_variables f.params) [] mark work (is.marked_once mark) follows) (agrees f.body (first_variables f.params) [] mark) in
    record { before = b.0; found = b.1; scope = b.2 }

pub before_some : (f : Program) → IsProgram f → (mark : ℕ) (p : Place) → p ≡ place.Mark mark → IsPlace f p → (found : Option Scope) → found
    ≡ set_before mark f.body → IsSome found
before_some f is mark p p_is is_place found found_is =
    let from = subst (λ (l : Place). GoesOnFrom f l is_place.work) p_is is_place.from in
    let b = is_before f is mark is_place.work from in
    rw (found_is, b.found)

pub set_before_mark : (f : Program) → IsProgram f → (mark : ℕ) (p : Place) → p ≡ place.Mark mark → (found : Scope) → Some found ≡ set_before mark f.body
    → IsSetBefore f p found
set_before_mark f is mark p p_is found found_is = λ work goes_on.
    let from = subst (λ (l : Place). GoesOnFrom f l work) p_is goes_on in
    let b = is_before f is mark work from in
    let same : found ≡ b.before = (let e : Some found ≡ Some b.before = found_is ∙ b.found in cc) in
    b.scope ∙ ap (λ (z : Scope). z ++ first_variables f.params) (sym same)

pub set_before_entry : (f : Program) (p : Place) → p ≡ place.Entry → IsSetBefore f p []
set_before_entry f p p_is = λ work goes_on.
    let from : work ≡ Run (first_variables f.params) f.body ∷ [] = subst (λ (l : Place). GoesOnFrom f l work) p_is goes_on in
    ap scope_of from

-- ---- variables by number

pub is_in-append : (a b : Scope) (x : ℕ) → is_in (a ++ b) x ≡ (is_in a x || is_in b x)
is_in-append [] b x = refl
is_in-append (y ∷ a) b x = ap (λ (t : Bool). eqb y x || t) (is_in-append a b x) ∙ assoc (eqb y x) (is_in a x) (is_in b x)
  where
    assoc : (p q r : Bool) → (p || (q || r)) ≡ ((p || q) || r)
    assoc true q r = refl
    assoc false q r = refl

pub is_in-first_variables : (n x : ℕ) → is_in (first_variables n) x ≡ nat_lt x n
is_in-first_variables zero x = grind (arith, nat_tests)
is_in-first_variables (suc n) x = on (eqb n x) refl (is_in-first_variables n x)
  where
    on : (t : Bool) → eqb n x ≡ t → is_in (first_variables n) x ≡ nat_lt x n → (eqb n x || is_in (first_variables n) x) ≡ nat_lt x (suc n)
    on true is others = rw is (grind (arith, nat_tests))
    on false is others = rw (is, others) (grind (arith, nat_tests))

pub has_then : (before : Scope) (n x : ℕ) (t : Bool) → t ≡ is_in before x → t ≡ true → t ≡ is_in (before ++ first_variables n) x
has_then before n x t given holds = rw (is_in-append before (first_variables n) x, ← given, holds)

pub has_else : (before : Scope) (n x : ℕ) (t : Bool) → t ≡ is_in before x → t ≡ false → nat_lt x n ≡ is_in (before ++ first_variables n) x
has_else before n x t given fails = rw (is_in-append before (first_variables n) x, ← given, fails) (sym (is_in-first_variables n x))

-- ---- one variable after another

-- what is listed so far, with those that are still to come
pub record ListsVariables (scope : Scope) (n x : ℕ) (variables : List ℕ) : Type 0 where
  pub is : variables ++ variables_from scope x (n - x) ≡ variables_in scope n

pub lists_none : (scope : Scope) (n : ℕ) → ListsVariables scope n 0 []
lists_none scope n = record { is = (let e : n - 0 ≡ n = omega arith in ap (variables_from scope 0) e) }

variables_from-next : (scope : Scope) (n x : ℕ) → x < n → variables_from scope x (n - x)
    ≡ with_variable (is_in scope x) x (variables_from scope (suc x) (n - suc x))
variables_from-next scope n x below = let e : n - x ≡ suc (n - suc x) = omega arith in ap (variables_from scope x) e

pub lists_one : (scope : Scope) (n x next : ℕ) (variables : List ℕ) → next ≡ suc x → x < n → is_in scope x ≡ true → ListsVariables scope n x variables
    → ListsVariables scope n next (variables ++ x ∷ [])
lists_one scope n x next variables next_is below holds lists =
    record {
      is = rw next_is (append_assoc variables (x ∷ []) (variables_from scope (suc x) (n - suc x))
          ∙ ap (λ (z : List ℕ). variables ++ z)
          (sym (variables_from-next scope n x below ∙ ap (λ (t : Bool). with_variable t x (variables_from scope (suc x) (n - suc x))) holds)) ∙ lists.is);
    }

pub lists_other : (scope : Scope) (n x next : ℕ) (variables : List ℕ) → next ≡ suc x → x < n → is_in scope x ≡ false → ListsVariables scope n x variables
    → ListsVariables scope n next variables
lists_other scope n x next variables next_is below fails lists =
    record {
      is = rw next_is (ap (λ (z : List ℕ). variables ++ z)
          (sym (variables_from-next scope n x below ∙ ap (λ (t : Bool). with_variable t x (variables_from scope (suc x) (n - suc x))) fails)) ∙ lists.is);
    }

pub lists_all : (f : Program) (p : Place) (before : Scope) (n x : ℕ) (variables : List ℕ) → n ≡ f.vars → n ≤ x → IsSetBefore f p before
    → ListsVariables (before ++ first_variables f.params) n x variables → AreInScope f p variables
lists_all f p before n x variables n_is over scope lists = λ work goes_on.
    let e : n - x ≡ 0 = omega arith in
    let done : variables ≡ variables_in (before ++ first_variables f.params) n = sym (append-nil variables)
    ∙ ap (λ (k : ℕ). variables ++ variables_from (before ++ first_variables f.params) x k) (sym e) ∙ lists.is in
    done ∙ ap (λ (k : ℕ). variables_in (before ++ first_variables f.params) k) n_is ∙ ap (λ (s : Scope). variables_in s f.vars) (sym (scope work goes_on))
