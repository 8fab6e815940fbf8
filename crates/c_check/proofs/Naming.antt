-- The marks of what the statements of a file stand for are those that the file names, and the automatic ones.
use Rattle.std.proofs.Common.{◌≡◌, ℕ, suc, ◌+◌, ◌≤◌, Bool, true, false, ◌==◌, List, [], ◌∷◌, ◌++◌, Option, Some, None, refl, sym, ap, ◌∙◌, arith, append_assoc}
use Rattle.std.specs.Prelude.{if◌then◌else◌}
use Rattle.c_ast.specs.declared.expr.BinOp.{BinOp}
use Rattle.c_ast.specs.RawTree as raw
use Rattle.c_ast.specs.RawTree.{RawExpression, RawCondition, RawStatements}
use Rattle.c_ast.specs.Tree as tree
use Rattle.c_ast.specs.Tree.{Statements}
use Rattle.c_ast.specs.Formed.{one_if, is_mark, marks}
use Rattle.c_check.specs.Contents.{loops_in}
use Rattle.c_check.specs.Divisors.{divides, divisor_of}
use Rattle.c_check.specs.Resolves.{Bindings, binding, Counts, one_variable_more, one_loop_more, behind, begins_with_mark, loop_mark, named_mark, first_automatic, followed_by, scope_in_for, Resolves, none, declared, declares, initialises, assigns, branches, chooses, while_loop, do_loop, for_loop, breaks, continues, returns, block, empty}
use Rattle.c_check.specs.Resolves as resolves
use Rattle.c_check.specs.Occurrences.{Names, Occurrence, Use, Division, Declaration, Jump, Marked, in_expression, marked_option, in_condition, in_condition_option, in_operator, with_names, names_in_for, in_declarators, occurrences}
use Rattle.c_check.proofs.Counting.{Once, once_none, once_then, once_one, once_until, number_is}

-- how often the mark is named
abbrev pub named : ℕ → List Occurrence → ℕ
named m [] = 0
named m (Use scope name line ∷ others) = named m others
named m (Division found line ∷ others) = named m others
named m (Declaration block_ name line ∷ others) = named m others
named m (Jump in_loop line ∷ others) = named m others
named m (Marked mark ∷ others) = one_if (mark == m) + named m others

pub named-append : (m : ℕ) (xs ys : List Occurrence) → named m (xs ++ ys) ≡ named m xs + named m ys
named-append m [] ys = omega arith
named-append m (Use scope name line ∷ xs) ys = named-append m xs ys
named-append m (Division found line ∷ xs) ys = named-append m xs ys
named-append m (Declaration block_ name line ∷ xs) ys = named-append m xs ys
named-append m (Jump in_loop line ∷ xs) ys = named-append m xs ys
named-append m (Marked mark ∷ xs) ys = omega (arith, named-append m xs ys)

named-in_operator : (m : ℕ) (op : BinOp) (line : ℕ) (right : RawExpression) → named m (in_operator op line right) ≡ 0
named-in_operator m op line right = by (divides op)
  where
    by : (holds : Bool) → named m (if holds then Division (divisor_of right) line ∷ [] else []) ≡ 0
    by true = refl
    by false = refl

named-in_expression : (m : ℕ) (names : Names) (expr : RawExpression) → named m (in_expression names expr) ≡ 0
named-in_expression m names (raw.Num z) = refl
named-in_expression m names (raw.Named name line) = refl
named-in_expression m names (raw.Un op expr) = named-in_expression m names expr
named-in_expression m names (raw.Bin op line left right) =
    let one = named-append m (in_expression names left) (in_operator op line right ++ in_expression names right) in
    let two = named-append m (in_operator op line right) (in_expression names right) in
    omega (arith, one, two, named-in_operator m op line right, named-in_expression m names left, named-in_expression m names right)
named-in_expression m names (raw.Cond test left right) =
    omega (
      arith,
      named-append m (in_expression names test) (in_expression names left ++ in_expression names right),
      named-append m (in_expression names left) (in_expression names right),
      named-in_expression m names test,
      named-in_expression m names left,
      named-in_expression m names right,
    )

named-behind_expression : (m : ℕ) (names : Names) (expr : RawExpression) (rest : List Occurrence) → named m (in_expression names expr ++ rest) ≡ named m rest
named-behind_expression m names expr rest = omega (arith, named-append m (in_expression names expr) rest, named-in_expression m names expr)

named-condition : (m : ℕ) (names : Names) (test : Option RawCondition) → named m (in_condition_option names test) ≡ named m (marked_option (named_mark test))
named-condition m names None = refl
named-condition m names (Some test) =
    omega (arith, named-append m (marked_option test.mark) (in_expression names test.cond), named-in_expression m names test.cond)

-- The count is that of the names, and one more where the mark is an automatic one of these loops.
pub record Counted (m count named_ from until : ℕ) : Type 0 where
  pub auto : ℕ
  pub is : count ≡ named_ + auto
  pub once : Once auto m from until

counted_as : (m a b p q from until : ℕ) → a ≡ b → p ≡ q → Counted m a p from until → Counted m b q from until
counted_as m a b p q from until same names is = record { auto = is.auto; is = omega (arith, same, names, is.is); once = is.once }

counted_until : (m count named_ from until other : ℕ) → until ≡ other → Counted m count named_ from until → Counted m count named_ from other
counted_until m count named_ from until other same is = record { auto = is.auto; is = is.is; once = once_until is.auto m from until other same is.once }

counted_then : (m a b p q from middle until : ℕ) → from ≤ middle → middle ≤ until → Counted m a p from middle → Counted m b q middle until
    → Counted m (a + b) (p + q) from until
counted_then m a b p q from middle until low high one two = record {
  auto = one.auto + two.auto;
  is = omega (arith, one.is, two.is);
  once = once_then one.auto two.auto m from middle until low high one.once two.once;
}

-- the mark that a loop passes before its condition
loop_counted : (m : ℕ) (mark : Option ℕ) (body : RawStatements) (loop : ℕ)
    → Counted m (one_if (is_mark (loop_mark mark body loop) m)) (named m (marked_option mark)) (first_automatic + loop) (first_automatic + suc loop)
loop_counted m (Some mark) body loop = record { auto = 0; is = omega arith; once = once_none m (first_automatic + loop) (first_automatic + suc loop) }
loop_counted m None body loop = by (begins_with_mark body) refl
  where
    by : (holds : Bool) → begins_with_mark body ≡ holds
        → Counted m (one_if (is_mark (loop_mark None body loop) m)) 0 (first_automatic + loop) (first_automatic + suc loop)
    by true is = rw is (record { auto = 0; is = omega arith; once = once_none m (first_automatic + loop) (first_automatic + suc loop) })
    by false is = rw is (record {
      auto = one_if (first_automatic + loop == m);
      is = omega arith;
      once = once_until (one_if (first_automatic + loop == m)) m (first_automatic + loop) (suc (first_automatic + loop)) (first_automatic + suc loop)
          (omega arith)
          (once_one (first_automatic + loop == m) m (first_automatic + loop) (λ same. number_is (first_automatic + loop) m same));
    })

marks_followed : (m : ℕ) (first last : Statements) → marks m (followed_by first last) ≡ marks m first + marks m last
marks_followed m tree.Nil last = omega arith
marks_followed m (tree.Set number expr others) last = marks_followed m others last
marks_followed m (tree.If cond branch alternative others) last = omega (arith, marks_followed m others last)
marks_followed m (tree.Loop mark cond body step test_first others) last = omega (arith, marks_followed m others last)
marks_followed m (tree.Break others) last = marks_followed m others last
marks_followed m (tree.Continue others) last = marks_followed m others last
marks_followed m (tree.Return expr others) last = marks_followed m others last
marks_followed m (tree.Mark mark others) last = omega (arith, marks_followed m others last)
marks_followed m (tree.Block items others) last = omega (arith, marks_followed m others last)

-- what is counted in two lists of statements
counted_two : (m count p q : ℕ) (before : Counts) (part others : RawStatements) (here : List Occurrence) (b c : ℕ) → b + c ≡ count → named m here ≡ p + q
    → Counted m b p (first_automatic + before.loops) (first_automatic + (before.loops + loops_in part))
    → Counted m c q (first_automatic + (before.loops + loops_in part)) (first_automatic + ((before.loops + loops_in part) + loops_in others))
    → Counted m count (named m here) (first_automatic + before.loops) (first_automatic + (before.loops + (loops_in part + loops_in others)))
counted_two m count p q before part others here b c same names one two =
    counted_as m (b + c) count (p + q) (named m here) (first_automatic + before.loops)
    (first_automatic + (before.loops + (loops_in part + loops_in others))) same (sym names)
    (counted_until m (b + c) (p + q) (first_automatic + before.loops) (first_automatic + ((before.loops + loops_in part) + loops_in others))
    (first_automatic + (before.loops + (loops_in part + loops_in others))) (omega arith)
    (counted_then m b c p q (first_automatic + before.loops) (first_automatic + (before.loops + loops_in part))
    (first_automatic + ((before.loops + loops_in part) + loops_in others)) (omega arith) (omega arith) one two))

-- what is counted in a loop, its body and the rest of the list
counted_loop : (m : ℕ) (before : Counts) (part others : RawStatements) (mark own : Option ℕ) (b c p q count names : ℕ)
    → one_if (is_mark own m) + (b + (0 + c)) ≡ count → names ≡ named m (marked_option mark) + (p + q)
    → Counted m (one_if (is_mark own m)) (named m (marked_option mark)) (first_automatic + before.loops) (first_automatic + suc before.loops)
    → Counted m b p (first_automatic + suc before.loops) (first_automatic + (suc before.loops + loops_in part))
    → Counted m c q (first_automatic + (suc before.loops + loops_in part)) (first_automatic + ((suc before.loops + loops_in part) + loops_in others))
    → Counted m count names (first_automatic + before.loops) (first_automatic + (before.loops + suc (loops_in part + loops_in others)))
counted_loop m before part others mark own b c p q count names same names_same zero one two =
    counted_as m (one_if (is_mark own m) + (b + c)) count (named m (marked_option mark) + (p + q)) names (first_automatic + before.loops)
    (first_automatic + (before.loops + suc (loops_in part + loops_in others)))
    (omega (arith, same)) (sym names_same)
    (counted_until m (one_if (is_mark own m) + (b + c)) (named m (marked_option mark) + (p + q)) (first_automatic + before.loops)
    (first_automatic + ((suc before.loops + loops_in part) + loops_in others))
    (first_automatic + (before.loops + suc (loops_in part + loops_in others))) (omega arith)
    (counted_then m (one_if (is_mark own m)) (b + c) (named m (marked_option mark)) (p + q) (first_automatic + before.loops)
    (first_automatic + suc before.loops) (first_automatic + ((suc before.loops + loops_in part) + loops_in others))
    (omega arith) (omega arith) zero
    (counted_then m b c p q (first_automatic + suc before.loops) (first_automatic + (suc before.loops + loops_in part))
    (first_automatic + ((suc before.loops + loops_in part) + loops_in others)) (omega arith) (omega arith) one two)))

pub marks_counted : (m : ℕ) (names block_ : Names) (in_loop : Bool) (scope : Bindings) (before : Counts) (stmts : RawStatements) (made : Statements)
    → Resolves scope before stmts made
    → Counted m (marks m made) (named m (occurrences names block_ in_loop stmts)) (first_automatic + before.loops)
    (first_automatic + (before.loops + loops_in stmts))
marks_counted m names block_ in_loop _ _ _ _ (none scope before) =
    record { auto = 0; is = refl; once = once_none m (first_automatic + before.loops) (first_automatic + (before.loops + 0)) }
marks_counted m names block_ in_loop _ _ _ _ (declared scope before others made made_is) = marks_counted m names block_ in_loop scope before others made made_is
marks_counted m names block_ in_loop _ _ _ _ (declares scope before var declarators others made made_is) =
    marks_counted m (var.name ∷ names) (var.name ∷ block_) in_loop (binding var before.vars ∷ scope) (one_variable_more before)
    (raw.Declare declarators others) made made_is
marks_counted m names block_ in_loop _ _ _ _ (initialises scope before var expr declarators others value made value_is made_is) =
    let uses = in_expression (var.name ∷ names) expr in
    let more = in_declarators (var.name ∷ names) (var.name ∷ block_) declarators in
    let rest = occurrences (with_names declarators (var.name ∷ names)) (with_names declarators (var.name ∷ block_)) in_loop others in
    counted_as m (marks m made) (marks m made) (named m (more ++ rest)) (named m ((uses ++ more) ++ rest)) (first_automatic + before.loops)
    (first_automatic + (before.loops + loops_in others)) refl
    (sym (ap (named m) (append_assoc uses more rest) ∙ named-behind_expression m (var.name ∷ names) expr (more ++ rest)))
    (marks_counted m (var.name ∷ names) (var.name ∷ block_) in_loop (binding var before.vars ∷ scope) (one_variable_more before)
    (raw.Declare declarators others) made made_is)
marks_counted m names block_ in_loop _ _ _ _ (assigns scope before name line number expr others value made found value_is made_is) =
    let rest = occurrences names block_ in_loop others in
    counted_as m (marks m made) (marks m made) (named m rest) (named m (in_expression names expr ++ rest)) (first_automatic + before.loops)
    (first_automatic + (before.loops + loops_in others)) refl
    (sym (named-behind_expression m names expr rest)) (marks_counted m names block_ in_loop scope before others made made_is)
marks_counted m names block_ in_loop _ _ _ _ (branches scope before test branch others cond first made cond_is first_is made_is) =
    let inner = occurrences names [] in_loop branch in
    let rest = occurrences names block_ in_loop others in
    counted_two m (marks m first + (0 + marks m made)) (named m inner) (named m rest) before branch others (in_expression names test ++ (inner ++ rest))
    (marks m first) (marks m made) (omega arith)
    (named-behind_expression m names test (inner ++ rest) ∙ named-append m inner rest) (marks_counted m names [] in_loop scope before branch first first_is)
    (marks_counted m names block_ in_loop scope (behind branch before) others made made_is)
marks_counted m names block_ in_loop _ _ _ _ (chooses scope before test branch alternative others cond first second made cond_is first_is second_is made_is) =
    let one = occurrences names [] in_loop branch in
    let two = occurrences names [] in_loop alternative in
    let rest = occurrences names block_ in_loop others in
    let between = behind branch before in
    counted_as m (marks m first + (marks m second + marks m made)) (marks m first + (marks m second + marks m made)) (named m one + named m (two ++ rest))
    (named m (in_expression names test ++ (one ++ (two ++ rest))))
    (first_automatic + before.loops) (first_automatic + (before.loops + (loops_in branch + (loops_in alternative + loops_in others)))) refl
    (sym (named-behind_expression m names test (one ++ (two ++ rest)) ∙ named-append m one (two ++ rest)))
    (counted_until m (marks m first + (marks m second + marks m made)) (named m one + named m (two ++ rest)) (first_automatic + before.loops)
    (first_automatic + (between.loops + (loops_in alternative + loops_in others)))
    (first_automatic + (before.loops + (loops_in branch + (loops_in alternative + loops_in others)))) (omega arith)
    (counted_then m (marks m first) (marks m second + marks m made) (named m one) (named m (two ++ rest)) (first_automatic + before.loops)
    (first_automatic + between.loops) (first_automatic + (between.loops + (loops_in alternative + loops_in others)))
    (omega arith) (omega arith) (marks_counted m names [] in_loop scope before branch first first_is)
    (counted_two m (marks m second + marks m made) (named m two) (named m rest) between alternative others (two ++ rest) (marks m second)
    (marks m made) refl (named-append m two rest)
    (marks_counted m names [] in_loop scope between alternative second second_is)
    (marks_counted m names block_ in_loop scope (behind alternative between) others made made_is))))
marks_counted m names block_ in_loop _ _ _ _ (while_loop scope before test turn others cond body made cond_is body_is made_is) =
    let uses = in_condition names test in
    let inner = occurrences names [] true turn in
    let rest = occurrences names block_ in_loop others in
    counted_loop m before turn others test.mark (loop_mark test.mark turn before.loops) (marks m body) (marks m made) (named m inner) (named m rest)
    (one_if (is_mark (loop_mark test.mark turn before.loops) m) + (marks m body + (0 + marks m made)))
    (named m (uses ++ (inner ++ rest))) (omega arith)
    (omega (arith, named-append m uses (inner ++ rest), named-append m inner rest, named-condition m names (Some test)))
    (loop_counted m test.mark turn before.loops)
    (marks_counted m names [] true scope (one_loop_more before) turn body body_is)
    (marks_counted m names block_ in_loop scope (behind turn (one_loop_more before)) others made made_is)
marks_counted m names block_ in_loop _ _ _ _ (do_loop scope before turn test others cond body made body_is cond_is made_is) =
    let uses = in_condition names test in
    let inner = occurrences names [] true turn in
    let rest = occurrences names block_ in_loop others in
    counted_loop m before turn others test.mark (loop_mark test.mark turn before.loops) (marks m body) (marks m made) (named m inner) (named m rest)
    (one_if (is_mark (loop_mark test.mark turn before.loops) m) + (marks m body + (0 + marks m made)))
    (named m (inner ++ (uses ++ rest))) (omega arith)
    (omega (arith, named-append m inner (uses ++ rest), named-append m uses rest, named-condition m names (Some test)))
    (loop_counted m test.mark turn before.loops)
    (marks_counted m names [] true scope (one_loop_more before) turn body body_is)
    (marks_counted m names block_ in_loop scope (behind turn (one_loop_more before)) others made made_is)
marks_counted m names block_ in_loop _ _ _ _
    (for_loop scope before start test step turn others cond first next body made first_is cond_is next_is body_is made_is) =
    let inner = names_in_for start names in
    let scope_in = scope_in_for start before.vars scope in
    let starts = occurrences names [] in_loop start in
    let uses = in_condition_option inner test in
    let steps = occurrences inner [] in_loop step in
    let turns = occurrences inner [] true turn in
    let rest = occurrences names block_ in_loop others in
    let begun = one_loop_more before in
    let one = behind start begun in
    let two = behind step one in
    let three = behind turn two in
    let own = one_if (is_mark (loop_mark (named_mark test) turn before.loops) m) in
    let until = first_automatic + (three.loops + loops_in others) in
    let last = first_automatic + (before.loops + suc (loops_in start + (loops_in step + (loops_in turn + loops_in others)))) in
    let count = own + (marks m first + (marks m next + (marks m body + marks m made))) in
    let names_ = named m (marked_option (named_mark test)) + (named m starts + (named m steps + (named m turns + named m rest))) in
    let all = starts ++ (uses ++ (steps ++ (turns ++ rest))) in
    counted_as m count (marks m (followed_by first (tree.Loop (loop_mark (named_mark test) turn before.loops) cond body next true tree.Nil)) + marks m made)
    names_ (named m all) (first_automatic + before.loops) last
    (omega (arith, marks_followed m first (tree.Loop (loop_mark (named_mark test) turn before.loops) cond body next true tree.Nil)))
    (omega (
      arith,
      named-append m starts (uses ++ (steps ++ (turns ++ rest))),
      named-append m uses (steps ++ (turns ++ rest)),
      named-append m steps (turns ++ rest),
      named-append m turns rest,
      named-condition m inner test,
    ))
    (counted_until m count names_ (first_automatic + before.loops) until last (omega arith)
    (counted_then m own (marks m first + (marks m next + (marks m body + marks m made))) (named m (marked_option (named_mark test)))
    (named m starts + (named m steps + (named m turns + named m rest)))
    (first_automatic + before.loops) (first_automatic + begun.loops) until (omega arith) (omega arith) (loop_counted m (named_mark test) turn before.loops)
    (counted_then m (marks m first) (marks m next + (marks m body + marks m made)) (named m starts) (named m steps + (named m turns + named m rest))
    (first_automatic + begun.loops) (first_automatic + one.loops) until
    (omega arith) (omega arith) (marks_counted m names [] in_loop scope begun start first first_is)
    (counted_then m (marks m next) (marks m body + marks m made) (named m steps) (named m turns + named m rest) (first_automatic + one.loops)
    (first_automatic + two.loops) until
    (omega arith) (omega arith) (marks_counted m inner [] in_loop scope_in one step next next_is)
    (counted_then m (marks m body) (marks m made) (named m turns) (named m rest) (first_automatic + two.loops) (first_automatic + three.loops) until
    (omega arith) (omega arith) (marks_counted m inner [] true scope_in two turn body body_is)
    (marks_counted m names block_ in_loop scope three others made made_is))))))
marks_counted m names block_ in_loop _ _ _ _ (breaks scope before line others made made_is) =
    marks_counted m names block_ in_loop scope before others made made_is
marks_counted m names block_ in_loop _ _ _ _ (continues scope before line others made made_is) =
    marks_counted m names block_ in_loop scope before others made made_is
marks_counted m names block_ in_loop _ _ _ _ (returns scope before expr others value made value_is made_is) =
    let rest = occurrences names block_ in_loop others in
    counted_as m (marks m made) (marks m made) (named m rest) (named m (in_expression names expr ++ rest)) (first_automatic + before.loops)
    (first_automatic + (before.loops + loops_in others)) refl
    (sym (named-behind_expression m names expr rest)) (marks_counted m names block_ in_loop scope before others made made_is)
marks_counted m names block_ in_loop _ _ _ _ (resolves.marks scope before mark others made made_is) =
    let counted = marks_counted m names block_ in_loop scope before others made made_is in
    record { auto = counted.auto; is = omega (arith, counted.is); once = counted.once }
marks_counted m names block_ in_loop _ _ _ _ (block scope before items others inner made inner_is made_is) =
    let first = occurrences names [] in_loop items in
    let rest = occurrences names block_ in_loop others in
    counted_two m (marks m inner + marks m made) (named m first) (named m rest) before items others (first ++ rest) (marks m inner) (marks m made) refl
    (named-append m first rest)
    (marks_counted m names [] in_loop scope before items inner inner_is) (marks_counted m names block_ in_loop scope (behind items before) others made made_is)
marks_counted m names block_ in_loop _ _ _ _ (empty scope before others made made_is) = marks_counted m names block_ in_loop scope before others made made_is
