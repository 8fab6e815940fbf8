-- What the statements of a faultless file stand for declares each variable once, and has each mark once.
use Rattle.std.proofs.Common.{◌≡◌, ℕ, suc, ◌+◌, ◌<◌, ◌≤◌, Bool, true, false, not, ◌&&◌, ◌==◌, ◌∷◌, ◌++◌, length, Some, None, refl, subst, arith, ◌⊎◌, inl, inr, length-append}
use Rattle.std.proofs.lemmas.List.Elements.{All-tail}
use Rattle.c_ast.specs.RawTree as raw
use Rattle.c_ast.specs.RawTree.{RawDeclared, RawStatements}
use Rattle.c_ast.specs.RawShape.{IsShapedDeclarator, AreShaped}
use Rattle.c_ast.specs.Tree as tree
use Rattle.c_ast.specs.Tree.{Statements}
use Rattle.c_ast.specs.Step.{Scope, is_in}
use Rattle.c_ast.specs.Formed.{one_if, declarations}
use Rattle.c_check.specs.Contents.{declared_by, declared_in}
use Rattle.c_check.specs.Resolves.{Bindings, binding, Counts, one_variable_more, one_loop_more, behind, loop_mark, named_mark, followed_by, scope_in_for, Resolves, none, declared, declares, initialises, assigns, branches, chooses, while_loop, do_loop, for_loop, breaks, continues, returns, block, empty}
use Rattle.c_check.specs.Resolves as resolves
use Rattle.c_check.proofs.ForParts.{for_start}
use Rattle.c_check.proofs.Forming.{Known, known_more, known_set, known_new, same_number, scope_behind, known_in_for}

-- ---- counts within bounds

-- The count is at most 1, and 0 for a number outside these bounds.
pub record Once (count x from until : ℕ) : Type 0 where
  pub few : count ≤ 1
  pub below : x < from → count ≡ 0
  pub above : until ≤ x → count ≡ 0

pub split_at : (x middle : ℕ) → (x < middle) ⊎ (middle ≤ x)
split_at x middle = grind arith

pub once_none : (x from until : ℕ) → Once 0 x from until
once_none x from until = record { few = omega arith; below = λ less. refl; above = λ more. refl }

pub once_then : (first second x from middle until : ℕ) → from ≤ middle → middle ≤ until → Once first x from middle → Once second x middle until
    → Once (first + second) x from until
once_then first second x from middle until low high first_once second_once = elim (split_at x middle) [
  | inl less ↦ record {
    few = omega (arith, first_once.few, second_once.below less);
    below = λ below. omega (arith, first_once.below below, second_once.below less);
    above = λ above. omega (arith, less, high, above);
  }
  | inr more ↦ record {
    few = omega (arith, second_once.few, first_once.above more);
    below = λ below. omega (arith, more, low, below);
    above = λ above. omega (arith, first_once.above more, second_once.above above);
  }
]

pub once_one : (holds : Bool) (x at : ℕ) → (holds ≡ true → x ≡ at) → Once (one_if holds) x at (suc at)
once_one true x at is = record { few = omega arith; below = λ less. omega (arith, less, is refl); above = λ more. omega (arith, more, is refl) }
once_one false x at is = once_none x at (suc at)

pub once_as : (a b x from until : ℕ) → a ≡ b → Once a x from until → Once b x from until
once_as a b x from until same is = subst (λ (n : ℕ). Once n x from until) same is

-- ---- declarations

declarations_followed : (x : ℕ) (known : Scope) (first last : Statements)
    → declarations x known (followed_by first last) ≡ declarations x known first + declarations x (scope_behind first known) last
declarations_followed x known tree.Nil last = omega arith
declarations_followed x known (tree.Set number expr others) last = omega (arith, declarations_followed x (number ∷ known) others last)
declarations_followed x known (tree.If cond branch alternative others) last = omega (arith, declarations_followed x known others last)
declarations_followed x known (tree.Loop mark cond body step test_first others) last = omega (arith, declarations_followed x known others last)
declarations_followed x known (tree.Break others) last = declarations_followed x known others last
declarations_followed x known (tree.Continue others) last = declarations_followed x known others last
declarations_followed x known (tree.Return expr others) last = declarations_followed x known others last
declarations_followed x known (tree.Mark mark others) last = declarations_followed x known others last
declarations_followed x known (tree.Block items others) last = omega (arith, declarations_followed x known others last)

declares_old : (known : Scope) (y x : ℕ) → is_in known y ≡ true → one_if (y == x && not (is_in known y)) ≡ 0
declares_old known y x is = by (y == x)
  where
    by : (holds : Bool) → one_if (holds && not (is_in known y)) ≡ 0
    by true = rw is refl
    by false = refl

and_left : (left right : Bool) → (left && right) ≡ true → left ≡ true
and_left true right is = refl
and_left false right is = is

pub number_is : (y x : ℕ) → (y == x) ≡ true → x ≡ y
number_is y x is = search (arith, is)

declares_here : (known : Scope) (y x : ℕ) → Once (one_if (y == x && not (is_in known y))) x y (suc y)
declares_here known y x = once_one (y == x && not (is_in known y)) x y (λ is. number_is y x (and_left (y == x) (not (is_in known y)) is))

newest_known : (known : Scope) (y : ℕ) → is_in (y ∷ known) y ≡ true
newest_known known y = rw (same_number y) refl

pub once_until : (count x from until other : ℕ) → until ≡ other → Once count x from until → Once count x from other
once_until count x from until other same is = subst (λ (n : ℕ). Once count x from n) same is

declared_two : (x : ℕ) (scope : Bindings) (before : Counts) (part others : RawStatements) (first made : Statements) (known : Scope) (count : ℕ)
    → declarations x known first + declarations x known made ≡ count
    → Once (declarations x known first) x before.vars (before.vars + length (declared_in part))
    → Once (declarations x known made) x (before.vars + length (declared_in part)) ((before.vars + length (declared_in part)) + length (declared_in others))
    → Once count x before.vars (before.vars + length (declared_in part ++ declared_in others))
declared_two x scope before part others first made known count same one two =
    once_as (declarations x known first + declarations x known made) count x before.vars (before.vars + length (declared_in part ++ declared_in others)) same
    (once_until (declarations x known first + declarations x known made) x before.vars
    ((before.vars + length (declared_in part)) + length (declared_in others)) (before.vars + length (declared_in part ++ declared_in others))
    (omega (arith, length-append (declared_in part) (declared_in others)))
    (once_then (declarations x known first) (declarations x known made) x before.vars (before.vars + length (declared_in part))
    ((before.vars + length (declared_in part)) + length (declared_in others)) (omega arith) (omega arith) one two))

pub declared_once : (x : ℕ) (scope : Bindings) (before : Counts) (stmts : RawStatements) (made : Statements) (known : Scope)
    → Resolves scope before stmts made → AreShaped stmts → Known scope before.vars known
    → Once (declarations x known made) x before.vars (before.vars + length (declared_in stmts))
declared_once x _ _ _ _ known (none scope before) shaped is = once_none x before.vars (before.vars + 0)
declared_once x _ _ _ _ known (declared scope before others made made_is) shaped is = declared_once x scope before others made known made_is shaped.1 is
declared_once x _ _ _ _ known (declares scope before var declarators others made made_is) shaped is =
    let plain : RawDeclared = record { var = var; initialiser = None } in
    let more = length (declared_by declarators ++ declared_in others) in
    once_then (one_if (before.vars == x && not (is_in known before.vars))) (declarations x (before.vars ∷ known) made) x before.vars (suc before.vars)
    (before.vars + suc more) (omega arith) (omega arith) (declares_here known before.vars x)
    (once_until (declarations x (before.vars ∷ known) made) x (suc before.vars) (suc before.vars + more) (before.vars + suc more) (omega arith)
    (declared_once x (binding var before.vars ∷ scope) (one_variable_more before) (raw.Declare declarators others) made (before.vars ∷ known) made_is
    (All-tail IsShapedDeclarator plain declarators shaped.0, shaped.1) (known_new scope before.vars var known is)))
declared_once x _ _ _ _ known (initialises scope before var expr declarators others value made value_is made_is) shaped is =
    let begun : RawDeclared = record { var = var; initialiser = Some expr } in
    let more = length (declared_by declarators ++ declared_in others) in
    let rest = declarations x (before.vars ∷ (before.vars ∷ known)) made in
    let first = one_if (before.vars == x && not (is_in known before.vars)) in
    let second = one_if (before.vars == x && not (is_in (before.vars ∷ known) before.vars)) in
    let old : second ≡ 0 = declares_old (before.vars ∷ known) before.vars x (newest_known known before.vars) in
    once_as (first + rest) (first + (second + rest)) x before.vars (before.vars + suc more) (omega (arith, old))
    (once_then first rest x before.vars (suc before.vars) (before.vars + suc more) (omega arith) (omega arith) (declares_here known before.vars x)
    (once_until rest x (suc before.vars) (suc before.vars + more) (before.vars + suc more) (omega arith)
    (declared_once x (binding var before.vars ∷ scope) (one_variable_more before) (raw.Declare declarators others) made
    (before.vars ∷ (before.vars ∷ known)) made_is (All-tail IsShapedDeclarator begun declarators shaped.0, shaped.1)
    (known_set (binding var before.vars ∷ scope) (suc before.vars) before.vars (before.vars ∷ known) (omega arith)
    (known_new scope before.vars var known is)))))
declared_once x _ _ _ _ known (assigns scope before name line number expr others value made found value_is made_is) shaped is =
    let rest = declarations x (number ∷ known) made in
    let first = one_if (number == x && not (is_in known number)) in
    let old : first ≡ 0 = declares_old known number x (is.is_known name number found) in
    once_as rest (first + rest) x before.vars (before.vars + length (declared_in others)) (omega (arith, old))
    (declared_once x scope before others made (number ∷ known) made_is shaped.1 (known_set scope before.vars number known (is.below name number found) is))
declared_once x _ _ _ _ known (branches scope before test branch others cond first made cond_is first_is made_is) shaped is =
    declared_two x scope before branch others first made known (declarations x known first + (0 + declarations x known made)) (omega arith)
    (declared_once x scope before branch first known first_is shaped.1 is)
    (declared_once x scope (behind branch before) others made known made_is shaped.2
    (known_more scope before.vars (behind branch before).vars known (omega arith) is))
declared_once x _ _ _ _ known (chooses scope before test branch alternative others cond first second made cond_is first_is second_is made_is) shaped is =
    let between = behind branch before in
    let both = length-append (declared_in branch) (declared_in alternative ++ declared_in others) in
    let last = length-append (declared_in alternative) (declared_in others) in
    once_until (declarations x known first + (declarations x known second + declarations x known made)) x before.vars
    ((before.vars + length (declared_in branch)) + length (declared_in alternative ++ declared_in others))
    (before.vars + length (declared_in branch ++ (declared_in alternative ++ declared_in others))) (omega (arith, both))
    (once_then (declarations x known first) (declarations x known second + declarations x known made) x before.vars
    (before.vars + length (declared_in branch)) ((before.vars + length (declared_in branch)) + length (declared_in alternative ++ declared_in others))
    (omega arith) (omega arith) (declared_once x scope before branch first known first_is shaped.1 is)
    (declared_two x scope between alternative others second made known (declarations x known second + declarations x known made) refl
    (declared_once x scope between alternative second known second_is shaped.2 (known_more scope before.vars between.vars known (omega arith) is))
    (declared_once x scope (behind alternative between) others made known made_is shaped.3
    (known_more scope before.vars (behind alternative between).vars known (omega arith) is))))
declared_once x _ _ _ _ known (while_loop scope before test turn others cond body made cond_is body_is made_is) shaped is =
    declared_two x scope before turn others body made known (declarations x known body + (0 + declarations x known made)) (omega arith)
    (declared_once x scope (one_loop_more before) turn body known body_is shaped.1 is)
    (declared_once x scope (behind turn (one_loop_more before)) others made known made_is shaped.2
    (known_more scope before.vars (behind turn before).vars known (omega arith) is))
declared_once x _ _ _ _ known (do_loop scope before turn test others cond body made body_is cond_is made_is) shaped is =
    declared_two x scope before turn others body made known (declarations x known body + (0 + declarations x known made)) (omega arith)
    (declared_once x scope (one_loop_more before) turn body known body_is shaped.0 is)
    (declared_once x scope (behind turn (one_loop_more before)) others made known made_is shaped.2
    (known_more scope before.vars (behind turn before).vars known (omega arith) is))
declared_once x _ _ _ _ known (for_loop scope before start test step turn others cond first next body made first_is cond_is next_is body_is made_is) shaped is =
    let begun = one_loop_more before in
    let one = behind start begun in
    let two = behind step one in
    let three = behind turn two in
    let scope_in = scope_in_for start before.vars scope in
    let opened = scope_behind first known in
    let in_head : Known scope_in one.vars opened = known_in_for scope begun start first known (for_start start shaped.0) first_is is in
    let starts = declarations x known first in
    let steps = declarations x opened next in
    let turns = declarations x opened body in
    let rest = declarations x known made in
    let last = before.vars + length (declared_in start ++ (declared_in step ++ (declared_in turn ++ declared_in others))) in
    let bound : three.vars + length (declared_in others) ≡ last = omega (
      arith,
      length-append (declared_in start) (declared_in step ++ (declared_in turn ++ declared_in others)),
      length-append (declared_in step) (declared_in turn ++ declared_in others),
      length-append (declared_in turn) (declared_in others),
    ) in
    once_as (starts + (steps + (turns + rest)))
    (declarations x known (followed_by first (tree.Loop (loop_mark (named_mark test) turn before.loops) cond body next true tree.Nil)) + rest) x before.vars
    last
    (omega (arith, declarations_followed x known first (tree.Loop (loop_mark (named_mark test) turn before.loops) cond body next true tree.Nil)))
    (once_until (starts + (steps + (turns + rest))) x before.vars (three.vars + length (declared_in others)) last bound
    (once_then starts (steps + (turns + rest)) x before.vars one.vars (three.vars + length (declared_in others)) (omega arith) (omega arith)
    (declared_once x scope begun start first known first_is shaped.1 is)
    (once_then steps (turns + rest) x one.vars two.vars (three.vars + length (declared_in others)) (omega arith) (omega arith)
    (declared_once x scope_in one step next opened next_is shaped.4 in_head)
    (once_then turns rest x two.vars three.vars (three.vars + length (declared_in others)) (omega arith) (omega arith)
    (declared_once x scope_in two turn body opened body_is shaped.5 (known_more scope_in one.vars two.vars opened (omega arith) in_head))
    (declared_once x scope three others made known made_is shaped.6 (known_more scope before.vars three.vars known (omega arith) is))))))
declared_once x _ _ _ _ known (breaks scope before line others made made_is) shaped is = declared_once x scope before others made known made_is shaped is
declared_once x _ _ _ _ known (continues scope before line others made made_is) shaped is = declared_once x scope before others made known made_is shaped is
declared_once x _ _ _ _ known (returns scope before expr others value made value_is made_is) shaped is =
    declared_once x scope before others made known made_is shaped.1 is
declared_once x _ _ _ _ known (resolves.marks scope before mark others made made_is) shaped is =
    declared_once x scope before others made known made_is shaped is
declared_once x _ _ _ _ known (block scope before items others inner made inner_is made_is) shaped is =
    declared_two x scope before items others inner made known (declarations x known inner + declarations x known made) refl
    (declared_once x scope before items inner known inner_is shaped.0 is)
    (declared_once x scope (behind items before) others made known made_is shaped.1
    (known_more scope before.vars (behind items before).vars known (omega arith) is))
declared_once x _ _ _ _ known (empty scope before others made made_is) shaped is = declared_once x scope before others made known made_is shaped is
