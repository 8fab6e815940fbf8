-- What a file without a fault stands for is a function, and there is one.
use Rattle.std.proofs.Common.{◌≡◌, ℕ, suc, ◌+◌, ◌<◌, ◌≤◌, Bool, true, false, ◌||◌, ◌==◌, nat_lt, List, [], ◌∷◌, ◌++◌, length, map, Option, Some, None, Result, Ok, Err, refl, sym, ap, ◌∙◌, subst, arith, pos, inl, inr, length-append, append-nil, append_assoc}
use Rattle.std.specs.Option.{option_or}
use Rattle.std.proofs.lemmas.Bool.{ltb-true, false≢true}
use Rattle.std.specs.declared.alloc.Global.{Global}
use Rattle.c_ast.specs.declared.func.Var.{Var}
use Rattle.c_ast.specs.RawTree as raw
use Rattle.c_ast.specs.RawTree.{RawExpression, RawCondition, RawStatements, RawFunction}
use Rattle.c_ast.specs.RawShape.{IsShaped}
use Rattle.c_ast.specs.Tree as tree
use Rattle.c_ast.specs.Tree.{Expression, Statements}
use Rattle.c_ast.specs.View.{statements_of}
use Rattle.c_ast.specs.Step.{first_variables}
use Rattle.c_ast.specs.Formed.{one_if, marks, declarations, AreFormed}
use Rattle.c_ast.specs.Function.{Function, function, IsFunction}
use Rattle.c_ast.proofs.Laws.{one_tree}
use Rattle.c_check.specs.declared.fault.CheckFault.{CheckFault}
use Rattle.c_check.specs.declared.fault.CheckFault.TheVariants as fault
use Rattle.c_check.specs.Contents.{declared_in}
use Rattle.c_check.specs.declared.divisor.Divisor.{Divisor}
use Rattle.c_check.specs.Divisors.{divided}
use Rattle.c_check.specs.Resolves.{Bindings, binding, ResolvesExpression, constant, variable, unary, binary, division, conditional, ResolvesCondition, left_out, stands, Counts, one_variable_more, one_loop_more, behind, loop_mark, named_mark, followed_by, scope_in_for, first_automatic, with_declared, Resolves, none, declared, declares, initialises, assigns, branches, chooses, while_loop, do_loop, for_loop, breaks, continues, returns, block, empty}
use Rattle.c_check.specs.Resolves as resolves
use Rattle.c_check.specs.Occurrences.{Names, Occurrence, Use, Division, Declaration, Jump, Marked, with_names, in_declarators, occurrences, plain, occurrences_of}
use Rattle.c_check.specs.Faults.{holds_mark, fault_of, first_fault}
use Rattle.c_check.specs.Checked.{variables_of, fault_in, parameters_of, before_body, IsChecked, IsSameFunction}
use Rattle.c_check.specs.declared.resolver.Resolver.{Resolver}
use Rattle.c_check.specs.Table.{names_of, block_names}
use Rattle.c_check.specs.Resolving.{scope_at, counts_at, with_variable, declared_at, Made, statements_at, parameters_at, nothing_known, function_at}
use Rattle.c_check.proofs.Meeting.{Meets, Passes, passes_nothing, passes_then, meets_behind, meets_then}
use Rattle.c_check.proofs.Making.{Makes, declared_meets, counts_as, statements_meet}
use Rattle.c_check.proofs.Forming.{Known, known_new, AreInside, inside_behind, formed}
use Rattle.c_check.proofs.Counting.{split_at, declared_once, number_is}
use Rattle.c_check.proofs.Naming.{named, named-append, marks_counted}

-- ---- lists without a fault

or_none : (one two : Option CheckFault) → option_or one two ≡ None → (one ≡ None) × (two ≡ None)
or_none None two is = (refl, is)
or_none (Some first) two is = absurd (some_none is)
  where
    some_none : Some first ≡ None → ⊥
    some_none same = cc

jump_inside : (in_loop : Bool) (line : ℕ) (known : List ℕ) → fault_of known (Jump in_loop line) ≡ None → in_loop ≡ true
jump_inside true line known is = refl
jump_inside false line known is = absurd (some_none is)
  where
    some_none : Some (fault.Outside line) ≡ None → ⊥
    some_none same = cc

inside_of : (known : List ℕ) (here : List Occurrence) → first_fault known here ≡ None → AreInside here
inside_of known [] is = tt
inside_of known (Use scope name line ∷ here) is = (tt, inside_of known here (or_none (fault_of known (Use scope name line)) (first_fault known here) is).1)
inside_of known (Division found line ∷ here) is = (tt, inside_of known here (or_none (fault_of known (Division found line)) (first_fault known here) is).1)
inside_of known (Declaration names name line ∷ here) is =
    (tt, inside_of known here (or_none (fault_of known (Declaration names name line)) (first_fault known here) is).1)
inside_of known (Jump in_loop line ∷ here) is =
    let both = or_none (fault_of known (Jump in_loop line)) (first_fault known here) is in
    (jump_inside in_loop line known both.0, inside_of known here both.1)
inside_of known (Marked mark ∷ here) is = (tt, inside_of (mark ∷ known) here (or_none (fault_of known (Marked mark)) (first_fault (mark ∷ known) here) is).1)

-- a mark that is named without a fault is small and new
mark_new : (known : List ℕ) (mark : ℕ) → fault_of known (Marked mark) ≡ None → (mark < first_automatic) × (holds_mark known mark ≡ false)
mark_new known mark is = by (nat_lt mark first_automatic) refl (holds_mark known mark) refl
  where
    some_none : (cause : CheckFault) → Some cause ≡ None → ⊥
    some_none cause same = cc

    by : (small : Bool) → nat_lt mark first_automatic ≡ small → (held : Bool) → holds_mark known mark ≡ held
        → (mark < first_automatic) × (holds_mark known mark ≡ false)
    by true small false held = (ltb-true mark first_automatic small, held)
    by true small true held = absurd (some_none (fault.MarkTwice mark) (rw (small, held) at is))
    by false small held is_held = absurd (some_none (fault.MarkRange mark) (rw small at is))

named_few : (m : ℕ) (known : List ℕ) (here : List Occurrence) → first_fault known here ≡ None → named m here + one_if (holds_mark known m) ≤ 1
named_few m known [] is = by (holds_mark known m)
  where
    by : (holds : Bool) → 0 + one_if holds ≤ 1
    by true = omega arith
    by false = omega arith
named_few m known (Use scope name line ∷ here) is = named_few m known here (or_none (fault_of known (Use scope name line)) (first_fault known here) is).1
named_few m known (Division found line ∷ here) is = named_few m known here (or_none (fault_of known (Division found line)) (first_fault known here) is).1
named_few m known (Declaration names name line ∷ here) is =
    named_few m known here (or_none (fault_of known (Declaration names name line)) (first_fault known here) is).1
named_few m known (Jump in_loop line ∷ here) is = named_few m known here (or_none (fault_of known (Jump in_loop line)) (first_fault known here) is).1
named_few m known (Marked mark ∷ here) is = by (mark == m) refl (named_few m (mark ∷ known) here both.1)
  where
    both : (fault_of known (Marked mark) ≡ None) × (first_fault (mark ∷ known) here ≡ None)
    both = or_none (fault_of known (Marked mark)) (first_fault (mark ∷ known) here) is

    by : (holds : Bool) → (mark == m) ≡ holds → named m here + one_if (mark == m || holds_mark known m) ≤ 1
        → (one_if (mark == m) + named m here) + one_if (holds_mark known m) ≤ 1
    by true same few =
        let new : holds_mark known m ≡ false = ap (holds_mark known) (number_is mark m same) ∙ (mark_new known mark both.0).1 in
        let few_here : named m here + one_if true ≤ 1 = rw same at few in
        rw (same, new) (omega (arith, few_here))
    by false other few =
        let few_here : named m here + one_if (holds_mark known m) ≤ 1 = rw other at few in
        rw other (omega (arith, few_here))

named_none : (m : ℕ) (known : List ℕ) (here : List Occurrence) → first_automatic ≤ m → first_fault known here ≡ None → named m here ≡ 0
named_none m known [] high is = refl
named_none m known (Use scope name line ∷ here) high is =
    named_none m known here high (or_none (fault_of known (Use scope name line)) (first_fault known here) is).1
named_none m known (Division found line ∷ here) high is =
    named_none m known here high (or_none (fault_of known (Division found line)) (first_fault known here) is).1
named_none m known (Declaration names name line ∷ here) high is =
    named_none m known here high (or_none (fault_of known (Declaration names name line)) (first_fault known here) is).1
named_none m known (Jump in_loop line ∷ here) high is =
    named_none m known here high (or_none (fault_of known (Jump in_loop line)) (first_fault known here) is).1
named_none m known (Marked mark ∷ here) high is =
    let both = or_none (fault_of known (Marked mark)) (first_fault (mark ∷ known) here) is in
    let less = (mark_new known mark both.0).0 in
    let other : (mark == m) ≡ false = search (arith, less, high) in
    rw other (omega (arith, named_none m (mark ∷ known) here high both.1))

-- ---- parameters

pub known_parameters : (params : List Var) (count : ℕ) (scope : Bindings) → Known scope count (first_variables count)
    → Known (with_declared (map plain params) count scope) (count + length params) (first_variables (count + length params))
known_parameters [] count scope is = subst (λ (n : ℕ). Known scope n (first_variables n)) (omega arith) is
known_parameters (param ∷ params) count scope is =
    subst (λ (n : ℕ). Known (with_declared (map plain params) (suc count) (binding param count ∷ scope)) n (first_variables n)) (omega arith)
    (known_parameters params (suc count) (binding param count ∷ scope) (known_new scope count param (first_variables count) is))

pub known_nothing : Known [] 0 []
known_nothing = record {
  is_known = λ name number found. absurd (nothing number found);
  below = λ name number found. absurd (nothing number found);
  new =
      λ x above. refl;
}
  where
    nothing : (number : ℕ) → None ≡ Some number → ⊥
    nothing number same = cc

-- ---- functions

-- the function of a file without a fault is well formed
pub is_function : (func : RawFunction) (made : Function) → IsChecked func made → IsShaped func → IsFunction made
is_function func made is shaped =
    let names = with_names (map plain func.params) [] in
    let front = in_declarators [] [] (map plain func.params) in
    let here = occurrences names names false func.body in
    let known : Known (parameters_of func) (length func.params) (first_variables (length func.params)) =
    subst (λ (n : ℕ). Known (parameters_of func) n (first_variables n)) (omega arith) (known_parameters func.params 0 [] known_nothing) in
    let inside = inside_behind front here (inside_of [] (front ++ here) is.faultless) in
    let all = length-append func.params (declared_in func.body) in
    let vars : length made.vars ≡ length (variables_of func) = ap length is.vars in
    record {
      few = omega (arith, vars, is.few);
      parameters = omega (arith, vars, all, is.params);
      formed = subst (λ (p : ℕ). AreFormed (length made.vars) (first_variables p) false (statements_of made.body)) (sym is.params)
          (formed (length made.vars) names names false (parameters_of func) (before_body func) func.body (statements_of made.body)
          (first_variables (length func.params)) is.body shaped inside (omega (arith, vars, all)) known);
      declared_once = λ x. subst (λ (p : ℕ). declarations x (first_variables p) (statements_of made.body) ≤ 1) (sym is.params)
          (declared_once x (parameters_of func) (before_body func) func.body (statements_of made.body) (first_variables (length func.params)) is.body shaped
          known).few;
      marked_once = λ m. marked m;
    }
  where
    marked : (m : ℕ) → marks m (statements_of made.body) ≤ 1
    marked m =
        let names = with_names (map plain func.params) [] in
        let front = in_declarators [] [] (map plain func.params) in
        let here = occurrences names names false func.body in
        let counted = marks_counted m names names false (parameters_of func) (before_body func) func.body (statements_of made.body) is.body in
        elim (split_at m first_automatic) [
          | inl low ↦ omega (arith, counted.is, counted.once.below (omega (arith, low)), named_few m [] (front ++ here) is.faultless, named-append m front here)
          | inr high ↦ omega (arith, counted.is, counted.once.few, named_none m [] (front ++ here) high is.faultless, named-append m front here)
        ]

-- ---- one function

pub same_expression : (scope : Bindings) (expr : RawExpression) (one two : Expression) → ResolvesExpression scope expr one → ResolvesExpression scope expr two
    → one ≡ two
same_expression scope _ _ _ (constant z) (constant _) = refl
same_expression scope _ _ _ (variable name line number is) (variable _ _ other_number other) = ap tree.Var (some_same (sym is ∙ other))
  where
    some_same : {m n : ℕ} → Some m ≡ Some n → m ≡ n
    some_same same = cc
same_expression scope _ _ _ (unary op expr made made_is) (unary _ _ other_made other_made_is) =
    ap (tree.Un op) (same_expression scope expr made other_made made_is other_made_is)
same_expression scope _ _ _ (binary _ _ _ _ _ _ other _ _) (division _ _ _ _ _ _ is _ _) = absurd (false≢true (sym other ∙ is))
same_expression scope _ _ _ (division _ _ _ _ _ _ is _ _) (binary _ _ _ _ _ _ other _ _) = absurd (false≢true (sym other ∙ is))
same_expression scope _ _ _ (division op line left right first divisor _ first_is found)
    (division _ _ _ _ other_first other_divisor _ other_first_is other_found) =
    ap (λ (value : Expression). divided op value divisor) (same_expression scope left first other_first first_is other_first_is)
    ∙ ap (divided op other_first) (divisor_same (sym found ∙ other_found))
  where
    divisor_same : {one two : Divisor} → Some one ≡ Some two → one ≡ two
    divisor_same same = cc
same_expression scope _ _ _ (binary op line left right first second _ first_is second_is)
    (binary _ _ _ _ other_first other_second _ other_first_is other_second_is) =
    ap (λ (value : Expression). tree.Bin op value second) (same_expression scope left first other_first first_is other_first_is)
    ∙ ap (tree.Bin op other_first) (same_expression scope right second other_second second_is other_second_is)
same_expression scope _ _ _ (conditional test left right cond first second cond_is first_is second_is)
    (conditional _ _ _ other_cond other_first other_second other_cond_is other_first_is other_second_is) =
    ap (λ (value : Expression). tree.Cond value first second) (same_expression scope test cond other_cond cond_is other_cond_is)
    ∙ ap (λ (value : Expression). tree.Cond other_cond value second) (same_expression scope left first other_first first_is other_first_is)
    ∙ ap (tree.Cond other_cond other_first) (same_expression scope right second other_second second_is other_second_is)

same_condition : (scope : Bindings) (test : Option RawCondition) (one two : Expression) → ResolvesCondition scope test one
    → ResolvesCondition scope test two → one ≡ two
same_condition scope _ _ _ left_out left_out = refl
same_condition scope _ _ _ (stands test made made_is) (stands _ other_made other_made_is) =
    same_expression scope test.cond made other_made made_is other_made_is

number_same : {m n : ℕ} → Some m ≡ Some n → m ≡ n
number_same same = cc

pub same_statements : (scope : Bindings) (before : Counts) (stmts : RawStatements) (one two : Statements) → Resolves scope before stmts one
    → Resolves scope before stmts two → one ≡ two
same_statements _ _ _ _ _ (none scope before) (none _ _) = refl
same_statements _ _ _ _ _ (declared scope before others made made_is) (declared _ _ _ other_made other_made_is) =
    same_statements scope before others made other_made made_is other_made_is
same_statements _ _ _ _ _ (declares scope before var declarators others made made_is) (declares _ _ _ _ _ other_made other_made_is) =
    ap (tree.Set before.vars (tree.Num (pos 0))) (same_statements (binding var before.vars ∷ scope) (one_variable_more before)
    (raw.Declare declarators others) made other_made made_is other_made_is)
same_statements _ _ _ _ _ (initialises scope before var expr declarators others value made value_is made_is)
    (initialises _ _ _ _ _ _ other_value other_made other_value_is other_made_is) =
    ap (λ (part : Expression). tree.Set before.vars (tree.Num (pos 0)) (tree.Set before.vars part made))
    (same_expression (binding var before.vars ∷ scope) expr value other_value value_is other_value_is)
    ∙ ap (λ (part : Statements). tree.Set before.vars (tree.Num (pos 0)) (tree.Set before.vars other_value part))
    (same_statements (binding var before.vars ∷ scope) (one_variable_more before) (raw.Declare declarators others) made other_made made_is other_made_is)
same_statements _ _ _ _ _ (assigns scope before name line number expr others value made found value_is made_is)
    (assigns _ _ _ _ other_number _ _ other_value other_made other other_value_is other_made_is) =
    ap (λ (part : ℕ). tree.Set part value made) (number_same (sym found ∙ other))
    ∙ ap (λ (part : Expression). tree.Set other_number part made) (same_expression scope expr value other_value value_is other_value_is)
    ∙ ap (tree.Set other_number other_value) (same_statements scope before others made other_made made_is other_made_is)
same_statements _ _ _ _ _ (branches scope before test branch others cond first made cond_is first_is made_is)
    (branches _ _ _ _ _ other_cond other_first other_made other_cond_is other_first_is other_made_is) =
    ap (λ (part : Expression). tree.If part first tree.Nil made) (same_expression scope test cond other_cond cond_is other_cond_is)
    ∙ ap (λ (part : Statements). tree.If other_cond part tree.Nil made) (same_statements scope before branch first other_first first_is other_first_is)
    ∙ ap (tree.If other_cond other_first tree.Nil) (same_statements scope (behind branch before) others made other_made made_is other_made_is)
same_statements _ _ _ _ _ (chooses scope before test branch alternative others cond first second made cond_is first_is second_is made_is)
    (chooses _ _ _ _ _ _ other_cond other_first other_second other_made other_cond_is other_first_is other_second_is other_made_is) =
    ap (λ (part : Expression). tree.If part first second made) (same_expression scope test cond other_cond cond_is other_cond_is)
    ∙ ap (λ (part : Statements). tree.If other_cond part second made) (same_statements scope before branch first other_first first_is other_first_is)
    ∙ ap (λ (part : Statements). tree.If other_cond other_first part made)
    (same_statements scope (behind branch before) alternative second other_second second_is other_second_is)
    ∙ ap (tree.If other_cond other_first other_second)
    (same_statements scope (behind alternative (behind branch before)) others made other_made made_is other_made_is)
same_statements _ _ _ _ _ (while_loop scope before test turn others cond body made cond_is body_is made_is)
    (while_loop _ _ _ _ _ other_cond other_body other_made other_cond_is other_body_is other_made_is) =
    ap (λ (part : Expression). tree.Loop (loop_mark test.mark turn before.loops) part body tree.Nil true made)
    (same_expression scope test.cond cond other_cond cond_is other_cond_is)
    ∙ ap (λ (part : Statements). tree.Loop (loop_mark test.mark turn before.loops) other_cond part tree.Nil true made)
    (same_statements scope (one_loop_more before) turn body other_body body_is other_body_is)
    ∙ ap (tree.Loop (loop_mark test.mark turn before.loops) other_cond other_body tree.Nil true)
    (same_statements scope (behind turn (one_loop_more before)) others made other_made made_is other_made_is)
same_statements _ _ _ _ _ (do_loop scope before turn test others cond body made body_is cond_is made_is)
    (do_loop _ _ _ _ _ other_cond other_body other_made other_body_is other_cond_is other_made_is) =
    ap (λ (part : Expression). tree.Loop (loop_mark test.mark turn before.loops) part body tree.Nil false made)
    (same_expression scope test.cond cond other_cond cond_is other_cond_is)
    ∙ ap (λ (part : Statements). tree.Loop (loop_mark test.mark turn before.loops) other_cond part tree.Nil false made)
    (same_statements scope (one_loop_more before) turn body other_body body_is other_body_is)
    ∙ ap (tree.Loop (loop_mark test.mark turn before.loops) other_cond other_body tree.Nil false)
    (same_statements scope (behind turn (one_loop_more before)) others made other_made made_is other_made_is)
same_statements _ _ _ _ _ (for_loop scope before start test step turn others cond first next body made first_is cond_is next_is body_is made_is)
    (for_loop _ _ _ _ _ _ _ other_cond other_first other_next other_body other_made other_first_is other_cond_is other_next_is other_body_is other_made_is) =
    let inner = scope_in_for start before.vars scope in
    let begun = one_loop_more before in
    let mark = loop_mark (named_mark test) turn before.loops in
    ap (λ (part : Statements). tree.Block (followed_by part (tree.Loop mark cond body next true tree.Nil)) made)
    (same_statements scope begun start first other_first first_is other_first_is)
    ∙ ap (λ (part : Expression). tree.Block (followed_by other_first (tree.Loop mark part body next true tree.Nil)) made)
    (same_condition inner test cond other_cond cond_is other_cond_is)
    ∙ ap (λ (part : Statements). tree.Block (followed_by other_first (tree.Loop mark other_cond body part true tree.Nil)) made)
    (same_statements inner (behind start begun) step next other_next next_is other_next_is)
    ∙ ap (λ (part : Statements). tree.Block (followed_by other_first (tree.Loop mark other_cond part other_next true tree.Nil)) made)
    (same_statements inner (behind step (behind start begun)) turn body other_body body_is other_body_is)
    ∙ ap (tree.Block (followed_by other_first (tree.Loop mark other_cond other_body other_next true tree.Nil)))
    (same_statements scope (behind turn (behind step (behind start begun))) others made other_made made_is other_made_is)
same_statements _ _ _ _ _ (breaks scope before line others made made_is) (breaks _ _ _ _ other_made other_made_is) =
    ap tree.Break (same_statements scope before others made other_made made_is other_made_is)
same_statements _ _ _ _ _ (continues scope before line others made made_is) (continues _ _ _ _ other_made other_made_is) =
    ap tree.Continue (same_statements scope before others made other_made made_is other_made_is)
same_statements _ _ _ _ _ (returns scope before expr others value made value_is made_is) (returns _ _ _ _ other_value other_made other_value_is other_made_is) =
    ap (λ (part : Expression). tree.Return part made) (same_expression scope expr value other_value value_is other_value_is)
    ∙ ap (tree.Return other_value) (same_statements scope before others made other_made made_is other_made_is)
same_statements _ _ _ _ _ (resolves.marks scope before mark others made made_is) (resolves.marks _ _ _ _ other_made other_made_is) =
    ap (tree.Mark mark) (same_statements scope before others made other_made made_is other_made_is)
same_statements _ _ _ _ _ (block scope before items others inner made inner_is made_is) (block _ _ _ _ other_inner other_made other_inner_is other_made_is) =
    ap (λ (part : Statements). tree.Block part made) (same_statements scope before items inner other_inner inner_is other_inner_is)
    ∙ ap (tree.Block other_inner) (same_statements scope (behind items before) others made other_made made_is other_made_is)
same_statements _ _ _ _ _ (empty scope before others made made_is) (empty _ _ _ other_made other_made_is) =
    same_statements scope before others made other_made made_is other_made_is

pub same_function : IsSameFunction
same_function unit one two first second =
    let file : first.0 ≡ second.0 = one_function (sym first.1 ∙ second.1) in
    let is = first.2 in
    let other = subst (λ (func : RawFunction). IsChecked func two) (sym file) second.2 in
    let vars = is.vars ∙ sym other.vars in
    let params = is.params ∙ sym other.params in
    let body = one_tree one.body two.body
    (same_statements (parameters_of first.0) (before_body first.0) first.0.body (statements_of one.body) (statements_of two.body) is.body other.body) in
    ap (λ (name : List ℕ). function name one.params one.vars one.body) (is.name ∙ sym other.name)
    ∙ ap (λ (count : ℕ). function two.name count one.vars one.body) params ∙ ap (λ (list : List Var). function two.name two.params list one.body) vars
    ∙ ap (function two.name two.params two.vars) body
  where
    one_function : {func other : RawFunction} → (func ∷ []) ≡ (other ∷ []) → func ≡ other
    one_function same = cc

-- ---- the answer of a call

-- what is known behind parameters
pub record IsBehind (params : List Var) (at behind_ : Resolver) : Type 0 where
  pub passes : Passes at.marks (in_declarators (names_of (scope_at at)) (block_names at.table) (map plain params)) behind_.marks
  pub scope : scope_at behind_ ≡ with_declared (map plain params) (length at.vars) (scope_at at)
  pub block : block_names behind_.table ≡ with_names (map plain params) (block_names at.table)
  pub outer : behind_.table.outer ≡ at.table.outer
  pub vars : behind_.vars ≡ at.vars ++ params
  pub loops : behind_.loops ≡ at.loops

pub parameters_meet : (params : List Var) (at : Resolver)
    → Meets (λ (place : Resolver). IsBehind params at place) at.marks (in_declarators (names_of (scope_at at)) (block_names at.table) (map plain params))
    (parameters_at at params)
parameters_meet [] at = record { passes = passes_nothing at.marks; scope = refl; block = refl; outer = refl; vars = sym (append-nil at.vars); loops = refl }
parameters_meet (param ∷ params) at =
    let here = Declaration (block_names at.table) param.name param.line ∷ [] in
    let next = with_variable at param in
    let rest = in_declarators (names_of (scope_at next)) (block_names next.table) (map plain params) in
    meets_then (λ (place : Resolver). (place ≡ next) × Passes at.marks here at.marks) (IsBehind (param ∷ params) at) at.marks here rest
    (declared_at at param) (λ (place : Resolver). parameters_at place params)
    (declared_meets at param)
    (λ place facts. subst (λ (place : Resolver). Meets (IsBehind (param ∷ params) at) at.marks (here ++ rest) (parameters_at place params)) (sym facts.0)
    (meets_behind (IsBehind (param ∷ params) at) at.marks at.marks here rest (parameters_at next params) facts.1
    (more (parameters_at next params) facts.1 (parameters_meet params next))))
  where
    more : (answer : Result Resolver CheckFault) → Passes at.marks (Declaration (block_names at.table) param.name param.line ∷ []) at.marks
        → Meets (IsBehind params (with_variable at param)) at.marks
        (in_declarators (names_of (scope_at (with_variable at param))) (block_names (with_variable at param).table) (map plain params)) answer
        → Meets (IsBehind (param ∷ params) at) at.marks
        (in_declarators (names_of (scope_at (with_variable at param))) (block_names (with_variable at param).table) (map plain params)) answer
    more (Ok found) passes is = record {
      passes = passes_then at.marks at.marks found.marks (Declaration (block_names at.table) param.name param.line ∷ [])
          (in_declarators (names_of (scope_at (with_variable at param))) (block_names (with_variable at param).table) (map plain params)) passes is.passes;
      scope = is.scope ∙ ap (λ (n : ℕ). with_declared (map plain params) n (scope_at (with_variable at param))) (length-append at.vars (param ∷ [])
          ∙ omega arith);
      block = is.block;
      outer = is.outer;
      vars = is.vars ∙ append_assoc at.vars (param ∷ []) params;
      loops = is.loops;
    }
    more (Err first) passes is = is

pub names_declared_plain : (params : List Var) (number : ℕ) (scope : Bindings)
    → names_of (with_declared (map plain params) number scope) ≡ with_names (map plain params) (names_of scope)
names_declared_plain [] number scope = refl
names_declared_plain (param ∷ params) number scope = names_declared_plain params (suc number) (binding param number ∷ scope)

-- what a function of a file stands for
pub record MakesFunction (func : RawFunction) (found : Made) : Type 0 where
  pub resolves : Resolves (parameters_of func) (before_body func) func.body found.stmts
  pub faultless : fault_in func ≡ None
  pub vars : found.at.vars ≡ variables_of func

counts_at_start : (alloc : Global) (func : RawFunction) (place : Resolver) → IsBehind func.params (nothing_known alloc) place
    → counts_at place ≡ before_body func
counts_at_start alloc func place behind_ = counts_as place (before_body func) (ap length behind_.vars) behind_.loops

pub function_meets : (alloc : Global) (func : RawFunction) → IsShaped func → Meets (MakesFunction func) [] (occurrences_of func) (function_at alloc func)
function_meets alloc func shaped =
    let front = in_declarators [] [] (map plain func.params) in
    let names = with_names (map plain func.params) [] in
    let rest = occurrences names names false func.body in
    meets_then (IsBehind func.params (nothing_known alloc)) (MakesFunction func) [] front rest (parameters_at (nothing_known alloc) func.params)
    (λ (place : Resolver). statements_at place false func.body) (parameters_meet func.params (nothing_known alloc))
    (λ place behind_. meets_behind (MakesFunction func) [] place.marks front rest (statements_at place false func.body) behind_.passes
    (body place behind_ (statements_at place false func.body)
    (subst (λ (some_names : Names). Meets (Makes place.table place false func.body) place.marks
    (occurrences some_names (block_names place.table) false func.body) (statements_at place false func.body)) (ap names_of behind_.scope
    ∙ names_declared_plain func.params 0 [])
    (statements_meet place false func.body shaped))))
  where
    body : (place : Resolver) → IsBehind func.params (nothing_known alloc) place → (answer : Result Made CheckFault)
        → Meets (Makes place.table place false func.body) place.marks
        (occurrences (with_names (map plain func.params) []) (block_names place.table) false func.body) answer
        → Meets (MakesFunction func) place.marks
        (occurrences (with_names (map plain func.params) []) (with_names (map plain func.params) []) false func.body) answer
    body place behind_ (Ok found) makes =
        let front = in_declarators [] [] (map plain func.params) in
        let names = with_names (map plain func.params) [] in
        let here = occurrences names names false func.body in
        let same_names : names_of (scope_at place) ≡ names = ap names_of behind_.scope ∙ names_declared_plain func.params 0 [] in
        let passes : Passes place.marks here found.at.marks =
        subst (λ (some_names : Names). Passes place.marks (occurrences names some_names false func.body) found.at.marks) behind_.block
        (subst (λ (some_names : Names). Passes place.marks (occurrences some_names (block_names place.table) false func.body) found.at.marks) same_names
        makes.passes) in
        let whole = passes_then [] place.marks found.at.marks front here behind_.passes passes in
        record {
          resolves = subst (λ (bindings : Bindings). Resolves bindings (before_body func) func.body found.stmts) behind_.scope
              (subst (λ (before : Counts). Resolves (scope_at place) before func.body found.stmts) (counts_at_start alloc func place behind_) makes.resolves);
          faultless = ap (first_fault []) (sym (append-nil (front ++ here))) ∙ whole.by [];
          vars = makes.grows.vars ∙ ap (λ (some_vars : List Var). some_vars ++ declared_in func.body) behind_.vars;
        }
    body place behind_ (Err first) fails = subst (λ (some_names : Names). (later : List Occurrence)
        → first_fault place.marks (occurrences (with_names (map plain func.params) []) some_names false func.body ++ later) ≡ Some first) behind_.block fails
