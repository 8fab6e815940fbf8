-- What the statements of a faultless file stand for is well formed.
use Rattle.std.proofs.Common.{◌≡◌, ℕ, suc, ◌+◌, ◌<◌, ◌≤◌, Bool, true, false, cond, ◌||◌, ◌==◌, List, [], ◌∷◌, ◌++◌, length, Option, Some, None, refl, sym, subst, arith, pos, ◌⊎◌, inl, inr, length-append, append-nil, append_assoc}
use Rattle.std.proofs.lemmas.Bool.{false≢true}
use Rattle.std.proofs.lemmas.List.Elements.{All-head, All-tail}
use Rattle.std.specs.Prelude.{option_map, find, bytes_eq}
use Rattle.c_ast.specs.declared.func.Var.{Var}
use Rattle.c_ast.specs.RawTree as raw
use Rattle.c_ast.specs.RawTree.{RawExpression, RawCondition, RawDeclared, RawStatements}
use Rattle.c_ast.specs.RawShape.{HasNaturalConstants, IsShapedDeclarator, IsShapedCondition, AreShaped}
use Rattle.c_ast.specs.Tree as tree
use Rattle.c_ast.specs.Tree.{Expression, Statements}
use Rattle.c_ast.specs.Step.{Scope, is_in}
use Rattle.c_ast.specs.Formed.{IsOver, IsSet, BeginsWithMark, PassesMark, HoldsSets, AreFormed}
use Rattle.c_check.specs.Contents.{declared_by, declared_in}
use Rattle.c_check.specs.Resolves.{Binding, Bindings, binding, number_of, ResolvesExpression, constant, variable, unary, binary, division, conditional, ResolvesCondition, left_out, stands, Counts, one_variable_more, one_loop_more, behind, begins_with_mark, loop_mark, named_mark, followed_by, with_declared, scope_in_for, Resolves, none, declared, declares, initialises, assigns, branches, chooses, while_loop, do_loop, for_loop, breaks, continues, returns, marks, block, empty}
use Rattle.c_check.specs.Occurrences.{Names, Occurrence, Use, Division, Declaration, Jump, Marked, in_expression, in_condition, in_condition_option, with_names, names_in_for, in_declarators, occurrences}
use Rattle.c_check.proofs.Dividing.{size_of, no_divisor, over_divided}
use Rattle.c_check.proofs.ForParts.{ForStart, no_start, declares_start, assigns_start, for_start, ForStep, no_step, assigns_step, for_step}

-- ---- the variables in scope

-- Each number of a name in scope is below the count and in this scope, and no number from the count on is.
pub record Known (scope : Bindings) (count : ℕ) (known : Scope) : Type 0 where
  pub is_known : (name : List ℕ) (number : ℕ) → number_of scope name ≡ Some number → is_in known number ≡ true
  pub below : (name : List ℕ) (number : ℕ) → number_of scope name ≡ Some number → number < count
  pub new : (x : ℕ) → count ≤ x → is_in known x ≡ false

pub known_more : (scope : Bindings) (count more : ℕ) (known : Scope) → count ≤ more → Known scope count known → Known scope more known
known_more scope count more known less is = record {
  is_known = is.is_known;
  below = λ name number found. omega (arith, less, is.below name number found);
  new = λ x above. is.new x (omega (arith, less, above));
}

or_right : (left right : Bool) → right ≡ true → (left || right) ≡ true
or_right true right is = refl
or_right false right is = is

or_left : (left right : Bool) → left ≡ true → (left || right) ≡ true
or_left left right is = rw is refl

or_none : (left right : Bool) → left ≡ false → right ≡ false → (left || right) ≡ false
or_none left right first second = rw (first, second) refl

pub known_set : (scope : Bindings) (count x : ℕ) (known : Scope) → x < count → Known scope count known → Known scope count (x ∷ known)
known_set scope count x known less is = record {
  is_known = λ name number found. or_right (x == number) (is_in known number) (is.is_known name number found);
  below = is.below;
  new = λ y above. or_none (x == y) (is_in known y) (search (arith, less, above)) (is.new y above);
}

newest_step : (holds : Bool) (count : ℕ) (var : Var) (found : Option Binding) (number : ℕ)
    → option_map (λ (other : Binding). other.number) (cond holds (Some (binding var count)) found) ≡ Some number
    → (number ≡ count) ⊎ (option_map (λ (other : Binding). other.number) found ≡ Some number)
newest_step true count var found number is = inl (some_same is)
  where
    some_same : {a b : ℕ} → Some a ≡ Some b → b ≡ a
    some_same same = cc
newest_step false count var found number is = inr is

pub known_new : (scope : Bindings) (count : ℕ) (var : Var) (known : Scope) → Known scope count known
    → Known (binding var count ∷ scope) (suc count) (count ∷ known)
known_new scope count var known is = record {
  is_known = λ name number found. elim (newest_step (bytes_eq name var.name) count var (find (λ (other : Binding). bytes_eq name other.name) scope) number
      found) [
        | inl same ↦ or_left (count == number) (is_in known number) (search (arith, same))
        | inr old ↦ or_right (count == number) (is_in known number) (is.is_known name number old)
      ];
  below = λ name number found. elim (newest_step (bytes_eq name var.name) count var (find (λ (other : Binding). bytes_eq name other.name) scope) number found) [
    | inl same ↦ omega (arith, same)
    | inr old ↦ omega (arith, is.below name number old)
  ];
  new = λ x above. or_none (count == x) (is_in known x) (search (arith, above)) (is.new x (omega (arith, above)));
}

-- ---- expressions

pub over : (scope : Bindings) (count : ℕ) (known : Scope) (expr : RawExpression) (made : Expression) → Known scope count known
    → ResolvesExpression scope expr made → HasNaturalConstants expr → IsOver known made
over scope count known _ _ is (constant z) natural = natural
over scope count known _ _ is (variable name line number found) natural = is.is_known name number found
over scope count known _ _ is (unary op expr made made_is) natural = over scope count known expr made is made_is natural
over scope count known _ _ is (binary op line left right first second other first_is second_is) natural =
    (over scope count known left first is first_is natural.0, over scope count known right second is second_is natural.1, no_divisor op second other)
over scope count known _ _ is (division op line left right first divisor _ first_is found) natural =
    over_divided op first divisor known (over scope count known left first is first_is natural.0) (size_of right divisor found)
over scope count known _ _ is (conditional test left right cond first second cond_is first_is second_is) natural = (
  over scope count known test cond is cond_is natural.0,
  over scope count known left first is first_is natural.1,
  over scope count known right second is second_is natural.2,
)

over_condition : (scope : Bindings) (count : ℕ) (known : Scope) (test : Option RawCondition) (made : Expression) → Known scope count known
    → ResolvesCondition scope test made → IsShapedCondition test → IsOver known made
over_condition scope count known _ _ is left_out natural = search arith
over_condition scope count known _ _ is (stands test made made_is) natural = over scope count known test.cond made is made_is natural

-- ---- jumps

-- A jump stands in a loop.
abbrev pub IsInside : Occurrence → Type 0
IsInside (Use scope name line) = Unit {0}
IsInside (Division found line) = Unit {0}
IsInside (Declaration block_ name line) = Unit {0}
IsInside (Jump in_loop line) = in_loop ≡ true
IsInside (Marked mark) = Unit {0}

-- Each jump stands in a loop.
abbrev pub AreInside : List Occurrence → Type 0
AreInside [] = Unit {0}
AreInside (first ∷ others) = IsInside first × AreInside others

inside_front : (xs ys : List Occurrence) → AreInside (xs ++ ys) → AreInside xs
inside_front [] ys all = tt
inside_front (x ∷ xs) ys all = (all.0, inside_front xs ys all.1)

pub inside_behind : (xs ys : List Occurrence) → AreInside (xs ++ ys) → AreInside ys
inside_behind [] ys all = all
inside_behind (x ∷ xs) ys all = inside_behind xs ys all.1

-- ---- marks of loops

begins : (scope : Bindings) (before : Counts) (body : RawStatements) (made : Statements) → Resolves scope before body made → begins_with_mark body ≡ true
    → BeginsWithMark made
begins _ _ _ _ (none scope before) is = absurd (false≢true is)
begins _ _ _ _ (marks scope before mark others made _) is = tt
begins _ _ _ _ (block scope before _ others _ made (marks _ _ mark inner first _) _) is = tt
begins scope before _ made (declared _ _ others _ _) is = absurd (false≢true is)
begins scope before _ _ (declares _ _ var declarators others made _) is = absurd (false≢true is)
begins scope before _ _ (initialises _ _ var expr declarators others value made _ _) is = absurd (false≢true is)
begins scope before _ _ (assigns _ _ name line number expr others value made _ _ _) is = absurd (false≢true is)
begins scope before _ _ (branches _ _ test branch others _ first made _ _ _) is = absurd (false≢true is)
begins scope before _ _ (chooses _ _ test branch alternative others _ first second made _ _ _ _) is = absurd (false≢true is)
begins scope before _ _ (while_loop _ _ test turn others _ body made _ _ _) is = absurd (false≢true is)
begins scope before _ _ (do_loop _ _ turn test others _ body made _ _ _) is = absurd (false≢true is)
begins scope before _ _ (for_loop _ _ start test step turn others _ first next body made _ _ _ _ _) is = absurd (false≢true is)
begins scope before _ _ (breaks _ _ line others made _) is = absurd (false≢true is)
begins scope before _ _ (continues _ _ line others made _) is = absurd (false≢true is)
begins scope before _ _ (returns _ _ expr others value made _ _) is = absurd (false≢true is)
begins scope before _ _ (block _ _ _ others _ made (none _ _) _) is = absurd (false≢true is)
begins scope before _ _ (block _ _ _ others inner made (declared _ _ _ _ _) _) is = absurd (false≢true is)
begins scope before _ _ (block _ _ _ others _ made (declares _ _ var declarators _ _ _) _) is = absurd (false≢true is)
begins scope before _ _ (block _ _ _ others _ made (initialises _ _ var expr declarators _ value _ _ _) _) is = absurd (false≢true is)
begins scope before _ _ (block _ _ _ others _ made (assigns _ _ name line number expr _ value _ _ _ _) _) is = absurd (false≢true is)
begins scope before _ _ (block _ _ _ others _ made (branches _ _ test branch _ _ first _ _ _ _) _) is = absurd (false≢true is)
begins scope before _ _ (block _ _ _ others _ made (chooses _ _ test branch alternative _ _ first second _ _ _ _ _) _) is = absurd (false≢true is)
begins scope before _ _ (block _ _ _ others _ made (while_loop _ _ test turn _ _ body _ _ _ _) _) is = absurd (false≢true is)
begins scope before _ _ (block _ _ _ others _ made (do_loop _ _ turn test _ _ body _ _ _ _) _) is = absurd (false≢true is)
begins scope before _ _ (block _ _ _ others _ made (for_loop _ _ start test step turn _ _ first next body _ _ _ _ _ _) _) is = absurd (false≢true is)
begins scope before _ _ (block _ _ _ others _ made (breaks _ _ line _ _ _) _) is = absurd (false≢true is)
begins scope before _ _ (block _ _ _ others _ made (continues _ _ line _ _ _) _) is = absurd (false≢true is)
begins scope before _ _ (block _ _ _ others _ made (returns _ _ expr _ value _ _ _) _) is = absurd (false≢true is)
begins scope before _ _ (block _ _ _ others _ made (block _ _ items _ inner _ _ _) _) is = absurd (false≢true is)
begins scope before _ _ (block _ _ _ others inner made (empty _ _ _ _ _) _) is = absurd (false≢true is)
begins scope before _ made (empty _ _ others _ _) is = absurd (false≢true is)

passes_mark : (mark : Option ℕ) (scope : Bindings) (before : Counts) (body : RawStatements) (loop : ℕ) (made : Statements) → Resolves scope before body made
    → PassesMark (loop_mark mark body loop) made
passes_mark (Some mark) scope before body loop made made_is = tt
passes_mark None scope before body loop made made_is = by (begins_with_mark body) refl
  where
    by : (holds : Bool) → begins_with_mark body ≡ holds → PassesMark (loop_mark None body loop) made
    by true is = rw is (begins scope before body made made_is is)
    by false is = rw is tt

holds_sets : (scope : Bindings) (before : Counts) (step : RawStatements) (made : Statements) → ForStep step → Resolves scope before step made → HoldsSets made
holds_sets _ _ _ _ no_step (none scope before) = tt
holds_sets _ _ _ _ (assigns_step _ _ _) (assigns scope before name line number expr _ value _ found value_is (none _ _)) = tt

-- ---- scopes behind statements

-- the variables in scope behind the statements of a list
abbrev pub scope_behind : Statements → Scope → Scope
scope_behind tree.Nil known = known
scope_behind (tree.Set number expr others) known = scope_behind others (number ∷ known)
scope_behind (tree.If cond branch alternative others) known = scope_behind others known
scope_behind (tree.Loop mark cond body step test_first others) known = scope_behind others known
scope_behind (tree.Break others) known = scope_behind others known
scope_behind (tree.Continue others) known = scope_behind others known
scope_behind (tree.Return expr others) known = scope_behind others known
scope_behind (tree.Mark mark others) known = scope_behind others known
scope_behind (tree.Block items others) known = scope_behind others known

pub formed_followed : (total : ℕ) (known : Scope) (in_loop : Bool) (first last : Statements) → AreFormed total known in_loop first
    → AreFormed total (scope_behind first known) in_loop last
    → AreFormed total known in_loop (followed_by first last)
formed_followed total known in_loop tree.Nil last front others = others
formed_followed total known in_loop (tree.Set number expr rest) last front others =
    (front.0, front.1, formed_followed total (number ∷ known) in_loop rest last front.2 others)
formed_followed total known in_loop (tree.If cond branch alternative rest) last front others =
    (front.0, front.1, front.2, formed_followed total known in_loop rest last front.3 others)
formed_followed total known in_loop (tree.Loop mark cond body step test_first rest) last front others =
    (front.0, front.1, front.2, front.3, front.4, formed_followed total known in_loop rest last front.5 others)
formed_followed total known in_loop (tree.Break rest) last front others = (front.0, formed_followed total known in_loop rest last front.1 others)
formed_followed total known in_loop (tree.Continue rest) last front others = (front.0, formed_followed total known in_loop rest last front.1 others)
formed_followed total known in_loop (tree.Return expr rest) last front others = (front.0, formed_followed total known in_loop rest last front.1 others)
formed_followed total known in_loop (tree.Mark mark rest) last front others = formed_followed total known in_loop rest last front others
formed_followed total known in_loop (tree.Block items rest) last front others = (front.0, formed_followed total known in_loop rest last front.1 others)

known_declared : (scope : Bindings) (before : Counts) (declarators : List RawDeclared) (made : Statements) (known : Scope)
    → Resolves scope before (raw.Declare declarators raw.Nil) made → Known scope before.vars known
    → Known (with_declared declarators before.vars scope) (before.vars + length (declared_by declarators)) (scope_behind made known)
known_declared _ _ _ _ known (declared scope before _ _ (none _ _)) is = known_more scope before.vars (before.vars + 0) known (omega arith) is
known_declared _ _ _ _ known (declares scope before var declarators _ made made_is) is =
    subst (λ (c : ℕ). Known (with_declared declarators (suc before.vars) (binding var before.vars ∷ scope)) c (scope_behind made (before.vars ∷ known)))
    (omega arith)
    (known_declared (binding var before.vars ∷ scope) (one_variable_more before) declarators made (before.vars ∷ known) made_is
    (known_new scope before.vars var known is))
known_declared _ _ _ _ known (initialises scope before var expr declarators _ value made value_is made_is) is =
    subst (λ (c : ℕ). Known (with_declared declarators (suc before.vars) (binding var before.vars ∷ scope)) c
    (scope_behind made (before.vars ∷ (before.vars ∷ known)))) (omega arith)
    (known_declared (binding var before.vars ∷ scope) (one_variable_more before) declarators made (before.vars ∷ (before.vars ∷ known)) made_is
    (known_set (binding var before.vars ∷ scope) (suc before.vars) before.vars (before.vars ∷ known) (omega arith) (known_new scope before.vars var known is)))

pub known_in_for : (scope : Bindings) (before : Counts) (start : RawStatements) (made : Statements) (known : Scope) → ForStart start
    → Resolves scope before start made → Known scope before.vars known
    → Known (scope_in_for start before.vars scope) (before.vars + length (declared_in start)) (scope_behind made known)
known_in_for _ _ _ _ known no_start (none scope before) is = known_more scope before.vars (before.vars + 0) known (omega arith) is
known_in_for scope before _ made known (declares_start declarators) made_is is =
    subst (λ (vars : List Var). Known (with_declared declarators before.vars scope) (before.vars + length vars) (scope_behind made known))
    (sym (append-nil (declared_by declarators))) (known_declared scope before declarators made known made_is is)
known_in_for _ _ _ _ known (assigns_start _ _ _) (assigns scope before name line number expr _ value _ found made_is (none _ _)) is =
    known_more scope before.vars (before.vars + 0) (number ∷ known) (omega arith) (known_set scope before.vars number known (is.below name number found) is)

-- ---- statements

is_set : (known : Scope) (x : ℕ) (holds : Bool) (value : Expression) → is_in known x ≡ holds → IsSet holds known value → IsSet (is_in known x) known value
is_set known x holds value is set = rw is set

pub same_number : (n : ℕ) → (n == n) ≡ true
same_number n = search arith

pub formed : (total : ℕ) (names block_ : Names) (in_loop : Bool) (scope : Bindings) (before : Counts) (stmts : RawStatements) (made : Statements)
    (known : Scope) → Resolves scope before stmts made → AreShaped stmts
    → AreInside (occurrences names block_ in_loop stmts) → before.vars + length (declared_in stmts) ≤ total → Known scope before.vars known
    → AreFormed total known in_loop made
formed total names block_ in_loop _ _ _ _ known (none scope before) shaped inside few is = tt
formed total names block_ in_loop _ _ _ _ known (declared scope before others made made_is) shaped inside few is =
    formed total names block_ in_loop scope before others made known made_is shaped.1 inside few is
formed total names block_ in_loop _ _ _ _ known (declares scope before var declarators others made made_is) shaped inside few is =
    let plain : RawDeclared = record { var = var; initialiser = None } in (
      omega (arith, few, length-append (declared_by declarators) (declared_in others)),
      is_set known before.vars false (tree.Num (pos 0)) (is.new before.vars (omega arith)) refl,
      formed total (var.name ∷ names) (var.name ∷ block_) in_loop (binding var before.vars ∷ scope) (one_variable_more before)
          (raw.Declare declarators others) made (before.vars ∷ known) made_is
          (All-tail IsShapedDeclarator plain declarators shaped.0, shaped.1) inside.1 (omega (arith, few)) (known_new scope before.vars var known is),
    )
formed total names block_ in_loop _ _ _ _ known (initialises scope before var expr declarators others value made value_is made_is) shaped inside few is =
    let begun : RawDeclared = record { var = var; initialiser = Some expr } in
    let new = known_new scope before.vars var known is in
    let less : before.vars < total = omega (arith, few, length-append (declared_by declarators) (declared_in others)) in
    let uses = in_expression (var.name ∷ names) expr in
    let more = in_declarators (var.name ∷ names) (var.name ∷ block_) declarators in
    let rest = occurrences (with_names declarators (var.name ∷ names)) (with_names declarators (var.name ∷ block_)) in_loop others in (
      less,
      is_set known before.vars false (tree.Num (pos 0)) (is.new before.vars (omega arith)) refl,
      (
        less,
        is_set (before.vars ∷ known) before.vars true value (or_left (before.vars == before.vars) (is_in known before.vars) (same_number before.vars))
            (over (binding var before.vars ∷ scope) (suc before.vars) (before.vars ∷ known) expr value new value_is
            (All-head IsShapedDeclarator begun declarators shaped.0 expr refl)),
        formed total (var.name ∷ names) (var.name ∷ block_) in_loop (binding var before.vars ∷ scope) (one_variable_more before)
            (raw.Declare declarators others) made (before.vars ∷ (before.vars ∷ known)) made_is
            (All-tail IsShapedDeclarator begun declarators shaped.0, shaped.1)
            (inside_behind uses (more ++ rest) (subst AreInside (append_assoc uses more rest) inside.1)) (omega (arith, few))
            (known_set (binding var before.vars ∷ scope) (suc before.vars) before.vars (before.vars ∷ known) (omega arith) new),
      ),
    )
formed total names block_ in_loop _ _ _ _ known (assigns scope before name line number expr others value made found value_is made_is) shaped inside few is = (
  omega (arith, few, is.below name number found),
  is_set known number true value (is.is_known name number found) (over scope before.vars known expr value is value_is shaped.0),
  formed total names block_ in_loop scope before others made (number ∷ known) made_is shaped.1
      (inside_behind (in_expression names expr) (occurrences names block_ in_loop others) inside.1) few
      (known_set scope before.vars number known (is.below name number found) is),
)
formed total names block_ in_loop _ _ _ _ known (branches scope before test branch others cond first made cond_is first_is made_is) shaped inside few is =
    let uses = in_expression names test in
    let inner = occurrences names [] in_loop branch in
    let rest = occurrences names block_ in_loop others in
    let behind_uses = inside_behind uses (inner ++ rest) inside in
    let both = length-append (declared_in branch) (declared_in others) in (
      over scope before.vars known test cond is cond_is shaped.0,
      formed total names [] in_loop scope before branch first known first_is shaped.1 (inside_front inner rest behind_uses) (omega (arith, few, both)) is,
      tt,
      formed total names block_ in_loop scope (behind branch before) others made known made_is shaped.2 (inside_behind inner rest behind_uses)
          (omega (arith, few, both))
          (known_more scope before.vars (behind branch before).vars known (omega arith) is),
    )
formed total names block_ in_loop _ _ _ _ known
    (chooses scope before test branch alternative others cond first second made cond_is first_is second_is made_is) shaped inside few is =
    let uses = in_expression names test in
    let one = occurrences names [] in_loop branch in
    let two = occurrences names [] in_loop alternative in
    let rest = occurrences names block_ in_loop others in
    let behind_uses = inside_behind uses (one ++ (two ++ rest)) inside in
    let behind_one = inside_behind one (two ++ rest) behind_uses in
    let both = length-append (declared_in branch) (declared_in alternative ++ declared_in others) in
    let last = length-append (declared_in alternative) (declared_in others) in (
      over scope before.vars known test cond is cond_is shaped.0,
      formed total names [] in_loop scope before branch first known first_is shaped.1 (inside_front one (two ++ rest) behind_uses)
          (omega (arith, few, both, last)) is,
      formed total names [] in_loop scope (behind branch before) alternative second known second_is shaped.2 (inside_front two rest behind_one)
          (omega (arith, few, both, last)) (known_more scope before.vars (behind branch before).vars known (omega arith) is),
      formed total names block_ in_loop scope (behind alternative (behind branch before)) others made known made_is shaped.3
          (inside_behind two rest behind_one) (omega (arith, few, both, last))
          (known_more scope before.vars (behind alternative (behind branch before)).vars known (omega arith) is),
    )
formed total names block_ in_loop _ _ _ _ known (while_loop scope before test turn others cond body made cond_is body_is made_is) shaped inside few is =
    let uses = in_condition names test in
    let inner = occurrences names [] true turn in
    let rest = occurrences names block_ in_loop others in
    let behind_uses = inside_behind uses (inner ++ rest) inside in
    let both = length-append (declared_in turn) (declared_in others) in (
      over scope before.vars known test.cond cond is cond_is shaped.0,
      formed total names [] true scope (one_loop_more before) turn body known body_is shaped.1 (inside_front inner rest behind_uses)
          (omega (arith, few, both)) is,
      tt,
      tt,
      passes_mark test.mark scope (one_loop_more before) turn before.loops body body_is,
      formed total names block_ in_loop scope (behind turn (one_loop_more before)) others made known made_is shaped.2 (inside_behind inner rest behind_uses)
          (omega (arith, few, both))
          (known_more scope before.vars (behind turn before).vars known (omega arith) is),
    )
formed total names block_ in_loop _ _ _ _ known (do_loop scope before turn test others cond body made body_is cond_is made_is) shaped inside few is =
    let uses = in_condition names test in
    let inner = occurrences names [] true turn in
    let rest = occurrences names block_ in_loop others in
    let behind_inner = inside_behind inner (uses ++ rest) inside in
    let both = length-append (declared_in turn) (declared_in others) in (
      over scope before.vars known test.cond cond is cond_is shaped.1,
      formed total names [] true scope (one_loop_more before) turn body known body_is shaped.0 (inside_front inner (uses ++ rest) inside)
          (omega (arith, few, both)) is,
      tt,
      tt,
      passes_mark test.mark scope (one_loop_more before) turn before.loops body body_is,
      formed total names block_ in_loop scope (behind turn (one_loop_more before)) others made known made_is shaped.2 (inside_behind uses rest behind_inner)
          (omega (arith, few, both))
          (known_more scope before.vars (behind turn before).vars known (omega arith) is),
    )
formed total names block_ in_loop _ _ _ _ known
    (for_loop scope before start test step turn others cond first next body made first_is cond_is next_is body_is made_is) shaped inside few is =
    let inner = names_in_for start names in
    let scope_in = scope_in_for start before.vars scope in
    let starts = occurrences names [] in_loop start in
    let uses = in_condition_option inner test in
    let steps = occurrences inner [] in_loop step in
    let turns = occurrences inner [] true turn in
    let rest = occurrences names block_ in_loop others in
    let behind_starts = inside_behind starts (uses ++ (steps ++ (turns ++ rest))) inside in
    let behind_uses = inside_behind uses (steps ++ (turns ++ rest)) behind_starts in
    let behind_steps = inside_behind steps (turns ++ rest) behind_uses in
    let begun = one_loop_more before in
    let opened = scope_behind first known in
    let in_head : Known scope_in (before.vars + length (declared_in start)) opened =
    known_in_for scope begun start first known (for_start start shaped.0) first_is is in
    let one = length-append (declared_in start) (declared_in step ++ (declared_in turn ++ declared_in others)) in
    let two = length-append (declared_in step) (declared_in turn ++ declared_in others) in
    let three = length-append (declared_in turn) (declared_in others) in (
      formed_followed total known in_loop first (tree.Loop (loop_mark (named_mark test) turn before.loops) cond body next true tree.Nil)
          (formed total names [] in_loop scope begun start first known first_is shaped.1 (inside_front starts (uses ++ (steps ++ (turns ++ rest))) inside)
          (omega (arith, few, one)) is) (
            over_condition scope_in (before.vars + length (declared_in start)) opened test cond in_head cond_is shaped.2,
            formed total inner [] true scope_in (behind step (behind start begun)) turn body opened body_is shaped.5 (inside_front turns rest behind_steps)
                (omega (arith, few, one, two, three))
                (known_more scope_in (before.vars + length (declared_in start)) (behind step (behind start begun)).vars opened (omega arith) in_head),
            formed total inner [] in_loop scope_in (behind start begun) step next opened next_is shaped.4 (inside_front steps (turns ++ rest) behind_uses)
                (omega (arith, few, one, two)) in_head,
            holds_sets scope_in (behind start begun) step next (for_step step shaped.3) next_is,
            passes_mark (named_mark test) scope_in (behind step (behind start begun)) turn before.loops body body_is,
            tt,
          ),
      formed total names block_ in_loop scope (behind turn (behind step (behind start begun))) others made known made_is shaped.6
          (inside_behind turns rest behind_steps) (omega (arith, few, one, two, three))
          (known_more scope before.vars (behind turn (behind step (behind start begun))).vars known (omega arith) is),
    )
formed total names block_ in_loop _ _ _ _ known (breaks scope before line others made made_is) shaped inside few is =
    (inside.0, formed total names block_ in_loop scope before others made known made_is shaped inside.1 few is)
formed total names block_ in_loop _ _ _ _ known (continues scope before line others made made_is) shaped inside few is =
    (inside.0, formed total names block_ in_loop scope before others made known made_is shaped inside.1 few is)
formed total names block_ in_loop _ _ _ _ known (returns scope before expr others value made value_is made_is) shaped inside few is = (
  over scope before.vars known expr value is value_is shaped.0,
  formed total names block_ in_loop scope before others made known made_is shaped.1
      (inside_behind (in_expression names expr) (occurrences names block_ in_loop others) inside) few is,
)
formed total names block_ in_loop _ _ _ _ known (marks scope before mark others made made_is) shaped inside few is =
    formed total names block_ in_loop scope before others made known made_is shaped inside.1 few is
formed total names block_ in_loop _ _ _ _ known (block scope before items others inner made inner_is made_is) shaped inside few is =
    let first = occurrences names [] in_loop items in
    let rest = occurrences names block_ in_loop others in
    let both = length-append (declared_in items) (declared_in others) in (
      formed total names [] in_loop scope before items inner known inner_is shaped.0 (inside_front first rest inside) (omega (arith, few, both)) is,
      formed total names block_ in_loop scope (behind items before) others made known made_is shaped.1 (inside_behind first rest inside)
          (omega (arith, few, both))
          (known_more scope before.vars (behind items before).vars known (omega arith) is),
    )
formed total names block_ in_loop _ _ _ _ known (empty scope before others made made_is) shaped inside few is =
    formed total names block_ in_loop scope before others made known made_is shaped inside few is
