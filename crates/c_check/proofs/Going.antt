-- One statement after the other.
use Rattle.std.proofs.Common.{◌≡◌, ℕ, Bool, true, List, [], ◌∷◌, ◌++◌, Option, Some, None, Result, Ok, Err, refl, sym, ap, ◌∙◌, subst}
use Rattle.std.specs.Prelude.{MatchResult, OnOk, IfErr, IsErr, IsErrAnd}
use Rattle.std.proofs.lemmas.Bool.{false≢true}
use Rattle.c_ast.specs.declared.expr.Expr.{Expr}
use Rattle.c_ast.specs.declared.stmt.Stmt.{Stmt, If, Loop, Break, Continue, Return, Mark, Block, fold_out-Stmt, map-Stmt, out-Stmt}
use Rattle.c_ast.specs.declared.stmt.Stmt.TheOpen.{Stmt-F}
use Rattle.c_ast.specs.declared.raw.RawStmt.{RawStmt}
use Rattle.c_ast.specs.RawTree as raw
use Rattle.c_ast.specs.RawTree.{RawExpression, RawCondition, RawStatements}
use Rattle.c_ast.specs.RawView.{raw_put_in_front, raw_branches, raw_one, raw_optional}
use Rattle.c_ast.specs.Tree as tree
use Rattle.c_ast.specs.Tree.{Expression, Statements}
use Rattle.c_ast.specs.View.{statement_level, expression_of, put_in_front, statements_of}
use Rattle.c_ast.proofs.Laws.{fronts}
use Rattle.c_check.specs.declared.fault.CheckFault.{CheckFault}
use Rattle.c_check.specs.declared.fault.CheckFault.TheVariants as fault
use Rattle.c_check.specs.declared.resolver.Resolver.{Resolver}
use Rattle.c_check.specs.Resolves.{loop_mark, named_mark, followed_by}
use Rattle.c_check.specs.Faults.{fault_of}
use Rattle.c_check.specs.Occurrences.{Jump}
use Rattle.c_check.specs.Resolving.{unless_fault, scope_at, entered, left, with_loop, marked_at, expression_in, MadeCondition, with_condition, condition_option_at, Made, made, with_front, closed, statements_at, joined_to, Fails, Puts, Pushes, FailsIn}
use Rattle.c_check.proofs.Meeting.{and_then}
use Rattle.c_check.proofs.Pushing.{joined_to-push, joined_to-Nil, with_front-joined}

level : (stmt : Stmt) (shape : Stmt-F Stmt) (others : Statements) → out-Stmt stmt ≡ shape
    → put_in_front stmt others ≡ statement_level (map-Stmt Stmt (Statements → Statements) put_in_front shape) others
level stmt shape others is =
    ap (λ (front : Statements → Statements). front others) (fold_out-Stmt (Statements → Statements) statement_level stmt)
    ∙ ap (λ (some_shape : Stmt-F Stmt). statement_level (map-Stmt Stmt (Statements → Statements) put_in_front some_shape) others) is

with_same : (front other_front : Statements → Statements) (others : Result Made CheckFault) → ((stmts : Statements) → front stmts ≡ other_front stmts)
    → with_front front others ≡ with_front other_front others
with_same front other_front (Ok others) is = ap (λ (stmts : Statements). Ok (made others.at stmts)) (is others.stmts)
with_same front other_front (Err first) is = refl

nothing_before : (others : Result Made CheckFault) → with_front (joined_to []) others ≡ others
nothing_before (Ok others) = refl
nothing_before (Err first) = refl

-- a list of one statement
pub one_pushed : (in_loop : Bool) (front : RawStatements → RawStatements) (old new : Resolver) (before now : List Stmt) → before ≡ []
    → Pushes in_loop front old new before now
    → statements_at old in_loop (front raw.Nil) ≡ Ok (made new (statements_of now))
one_pushed in_loop front old new before now nothing pushes =
    sym (nothing_before (statements_at old in_loop (front raw.Nil)))
    ∙ ap (λ (front_stmts : List Stmt). with_front (joined_to front_stmts) (statements_at old in_loop (front raw.Nil))) (sym nothing)
    ∙ pushes.by raw.Nil ∙ ap (λ (stmts : Statements). Ok (made new stmts)) (joined_to-Nil now)

-- at the end of a list
pub all_pushed : (at : Resolver) (now : List Stmt) (found : Result Made CheckFault) → found ≡ with_front (joined_to now) (Ok (made at tree.Nil))
    → found ≡ Ok (made at (statements_of now))
all_pushed at now found is = is ∙ ap (λ (stmts : Statements). Ok (made at stmts)) (joined_to-Nil now)

pushes_of : (in_loop : Bool) (front : RawStatements → RawStatements) (old new : Resolver) (before now : List Stmt) (stmt : Stmt) → now ≡ before ++ stmt ∷ []
    → Puts in_loop front old new stmt
    → Pushes in_loop front old new before now
pushes_of in_loop front old new before now stmt pushed puts = record {
  by = λ others.
      ap (with_front (joined_to before)) (puts.by others)
      ∙ with_front-joined before now (put_in_front stmt) (statements_at new in_loop others)
      (λ behind. ap (λ (list : List Stmt). joined_to list behind) pushed ∙ joined_to-push before stmt behind);
}

-- a statement was made, and is pushed where there is memory
pub after_put : (in_loop : Bool) (item : RawStmt) (front : RawStatements → RawStatements) (old new : Resolver) (before now : List Stmt) (stmt : Stmt)
    (result : Result (Unit {0}) CheckFault)
    → ((others : RawStatements) → raw_put_in_front item others ≡ front others)
    → OnOk result (now ≡ before ++ stmt ∷ []) → IfErr result (λ first. first ≡ fault.Memory) → Puts in_loop front old new stmt
    → MatchResult result (λ _. Pushes in_loop (raw_put_in_front item) old new before now) (FailsIn in_loop (raw_put_in_front item) old)
after_put in_loop item front old new before now stmt (Ok _) same_fronts pushed memory puts =
    pushes_of in_loop (raw_put_in_front item) old new before now stmt pushed
    (record { by = λ others. ap (statements_at old in_loop) (same_fronts others) ∙ puts.by others })
after_put in_loop item front old new before now stmt (Err first) same_fronts pushed memory puts = record { by = λ others other. absurd (other memory) }

-- the same where the kinds of statements join
pub after_kind : {new : Resolver} {stmt : Stmt} (in_loop : Bool) (item : RawStmt) (front : RawStatements
    → RawStatements) (old behind : Resolver) (before now : List Stmt) (found : Stmt) (result : Result (Unit {0}) CheckFault)
    → OnOk result (now ≡ before ++ found ∷ []) → IfErr result (λ first. first ≡ fault.Memory) → behind ≡ new → found ≡ stmt
    → ((others : RawStatements) → raw_put_in_front item others ≡ front others) → Puts in_loop front old new stmt
    → MatchResult result (λ _. Pushes in_loop (raw_put_in_front item) old behind before now) (FailsIn in_loop (raw_put_in_front item) old)
after_kind {new} {stmt} in_loop item front old behind before now found result pushed memory same_place same same_fronts puts =
    after_put in_loop item front old behind before now found result same_fronts pushed memory
    (subst (λ (place : Resolver). Puts in_loop front old place found) (sym same_place)
    (subst (λ (other : Stmt). Puts in_loop front old new other) (sym same) puts))

-- ---- each kind of statement that item makes itself

pub puts_jump_break : (in_loop : Bool) (at : Resolver) (line : ℕ) → fault_of at.marks (Jump in_loop line) ≡ None → Puts in_loop (raw.Break line) at at Break
puts_jump_break in_loop at line stands = record {
  by = λ others.
      ap (λ (found : Option CheckFault). and_then (unless_fault found at)
      (λ (place : Resolver). with_front tree.Break (statements_at place in_loop others))) stands
      ∙ with_same tree.Break (put_in_front Break) (statements_at at in_loop others) (λ behind. sym (fronts.break_ behind));
}

pub puts_jump_continue : (in_loop : Bool) (at : Resolver) (line : ℕ) → fault_of at.marks (Jump in_loop line) ≡ None
    → Puts in_loop (raw.Continue line) at at Continue
puts_jump_continue in_loop at line stands = record {
  by = λ others.
      ap (λ (found : Option CheckFault). and_then (unless_fault found at)
      (λ (place : Resolver). with_front tree.Continue (statements_at place in_loop others))) stands
      ∙ with_same tree.Continue (put_in_front Continue) (statements_at at in_loop others) (λ behind. sym (fronts.continue_ behind));
}

pub puts_return : (in_loop : Bool) (at : Resolver) (expr : RawExpression) (value : Expr) → expression_in (scope_at at) expr ≡ Ok (expression_of value)
    → Puts in_loop (raw.Return expr) at at (Return value)
puts_return in_loop at expr value is = record {
  by = λ others.
      ap (λ (answer : Result Expression CheckFault). and_then answer
      (λ (value : Expression). with_front (tree.Return value) (statements_at at in_loop others))) is
      ∙ with_same (tree.Return (expression_of value)) (put_in_front (Return value)) (statements_at at in_loop others)
      (λ behind. sym (fronts.return_ value behind));
}

pub puts_mark : (in_loop : Bool) (old new : Resolver) (mark number : ℕ) → marked_at old mark ≡ Ok new → number ≡ mark
    → Puts in_loop (raw.Mark mark) old new (Mark number)
puts_mark in_loop old new mark number is same = record {
  by = λ others.
      ap (λ (answer : Result Resolver CheckFault). and_then answer (λ (place : Resolver). with_front (tree.Mark mark) (statements_at place in_loop others))) is
      ∙ with_same (tree.Mark mark) (put_in_front (Mark number)) (statements_at new in_loop others) (λ behind. sym (fronts.mark number behind
      ∙ ap (λ (n : ℕ). tree.Mark n behind) same));
}

closed_nothing : (at : Resolver) (in_loop : Bool) → closed (statements_at (entered at) in_loop raw.Nil) ≡ Ok (made at tree.Nil)
closed_nothing at in_loop = refl

abbrev done : Made → Result Made CheckFault
done found = Ok found

same_end : (old : Resolver) (stmts : Statements) (new : Resolver) (others : Statements) → done (made old stmts) ≡ done (made new others)
    → (old ≡ new) × (stmts ≡ others)
same_end old stmts new others is = (ap at_of is, ap stmts_of is)
  where
    at_of : Result Made CheckFault → Resolver
    at_of (Ok found) = found.at
    at_of (Err _) = old

    stmts_of : Result Made CheckFault → Statements
    stmts_of (Ok found) = found.stmts
    stmts_of (Err _) = stmts

pub puts_branches : (in_loop : Bool) (test : RawExpression) (branch : RawStatements) (alternative : Option (RawStatements → RawStatements))
    (old between new : Resolver) (cond : Expr) (first second : List Stmt)
    → expression_in (scope_at old) test ≡ Ok (expression_of cond)
    → closed (statements_at (entered old) in_loop branch) ≡ Ok (made between (statements_of first))
    → closed (statements_at (entered between) in_loop (raw_optional alternative)) ≡ Ok (made new (statements_of second))
    → Puts in_loop (raw_branches test branch alternative) old new (If cond first second)
puts_branches in_loop test branch None old between new cond first second tests chooses chooses_not =
    let ends = same_end between tree.Nil new (statements_of second) chooses_not in
    record {
      by = λ others.
          ap (λ (answer : Result Expression CheckFault). and_then answer (λ (value : Expression). and_then (closed (statements_at (entered old) in_loop branch))
          (λ (made_branch : Made). with_front (tree.If value made_branch.stmts tree.Nil) (statements_at made_branch.at in_loop others)))) tests
          ∙ ap (λ (answer : Result Made CheckFault). and_then answer
          (λ (made_branch : Made). with_front (tree.If (expression_of cond) made_branch.stmts tree.Nil) (statements_at made_branch.at in_loop others)))
          chooses
          ∙ ap (λ (place : Resolver). with_front (tree.If (expression_of cond) (statements_of first) tree.Nil) (statements_at place in_loop others)) ends.0
          ∙ with_same (tree.If (expression_of cond) (statements_of first) tree.Nil) (put_in_front (If cond first second)) (statements_at new in_loop others)
          (λ behind. ap (λ (stmts : Statements). tree.If (expression_of cond) (statements_of first) stmts behind) ends.1
          ∙ sym (fronts.if_ cond first second behind));
    }
puts_branches in_loop test branch (Some alternative) old between new cond first second tests chooses chooses_not = record {
  by = λ others.
      ap (λ (answer : Result Expression CheckFault). and_then answer (λ (value : Expression). and_then (closed (statements_at (entered old) in_loop branch))
      (λ (made_branch : Made). and_then (closed (statements_at (entered made_branch.at) in_loop (raw_one alternative)))
      (λ (made_alternative : Made). with_front (tree.If value made_branch.stmts made_alternative.stmts)
      (statements_at made_alternative.at in_loop others))))) tests
      ∙ ap (λ (answer : Result Made CheckFault). and_then answer
      (λ (made_branch : Made). and_then (closed (statements_at (entered made_branch.at) in_loop (raw_one alternative)))
      (λ (made_alternative : Made). with_front (tree.If (expression_of cond) made_branch.stmts made_alternative.stmts)
      (statements_at made_alternative.at in_loop others)))) chooses
      ∙ ap (λ (answer : Result Made CheckFault). and_then answer
      (λ (made_alternative : Made). with_front (tree.If (expression_of cond) (statements_of first) made_alternative.stmts)
      (statements_at made_alternative.at in_loop others))) chooses_not
      ∙ with_same (tree.If (expression_of cond) (statements_of first) (statements_of second)) (put_in_front (If cond first second))
      (statements_at new in_loop others)
      (λ behind. sym (fronts.if_ cond first second behind));
}

-- what is behind a statement and others
followed_front : (stmt : Stmt) (others behind : Statements) → followed_by (put_in_front stmt others) behind ≡ put_in_front stmt (followed_by others behind)
followed_front stmt others behind = by (out-Stmt stmt) refl
  where
    by : (shape : Stmt-F Stmt) → out-Stmt stmt ≡ shape → followed_by (put_in_front stmt others) behind ≡ put_in_front stmt (followed_by others behind)
    by (Stmt-F.Set number expr) is = rw (level stmt (Stmt-F.Set number expr) others is, level stmt (Stmt-F.Set number expr) (followed_by others behind) is) refl
    by (Stmt-F.If cond branch alternative) is =
        rw (level stmt (Stmt-F.If cond branch alternative) others is, level stmt (Stmt-F.If cond branch alternative) (followed_by others behind) is) refl
    by (Stmt-F.Loop mark cond body step test_first) is =
        rw (
          level stmt (Stmt-F.Loop mark cond body step test_first) others is,
          level stmt (Stmt-F.Loop mark cond body step test_first)
              (followed_by others behind) is,
        ) refl
    by Stmt-F.Break is = rw (level stmt Stmt-F.Break others is, level stmt Stmt-F.Break (followed_by others behind) is) refl
    by Stmt-F.Continue is = rw (level stmt Stmt-F.Continue others is, level stmt Stmt-F.Continue (followed_by others behind) is) refl
    by (Stmt-F.Return expr) is = rw (level stmt (Stmt-F.Return expr) others is, level stmt (Stmt-F.Return expr) (followed_by others behind) is) refl
    by (Stmt-F.Mark mark) is = rw (level stmt (Stmt-F.Mark mark) others is, level stmt (Stmt-F.Mark mark) (followed_by others behind) is) refl
    by (Stmt-F.Block items) is = rw (level stmt (Stmt-F.Block items) others is, level stmt (Stmt-F.Block items) (followed_by others behind) is) refl

-- statements, and then a list of one more
followed : (stmts : List Stmt) (stmt : Stmt) (last : Statements → Statements) → ((stmts : Statements) → put_in_front stmt stmts ≡ last stmts)
    → statements_of (stmts ++ stmt ∷ []) ≡ followed_by (statements_of stmts) (last tree.Nil)
followed [] stmt last is = is tree.Nil
followed (first ∷ stmts) stmt last is = ap (put_in_front first) (followed stmts stmt last is) ∙ sym (followed_front first (statements_of stmts) (last tree.Nil))

pub puts_for : (in_loop : Bool) (start : RawStatements) (test : Option RawCondition) (step turn : RawStatements) (old opened ready next new : Resolver)
    (first second third all : List Stmt) (mark : Option ℕ) (cond : Expr)
    → statements_at (entered (with_loop old)) in_loop start ≡ Ok (made opened (statements_of first))
    → condition_option_at opened test ≡ Ok (with_condition ready (expression_of cond))
    → closed (statements_at (entered ready) in_loop step) ≡ Ok (made next (statements_of second))
    → closed (statements_at (entered next) true turn) ≡ Ok (made new (statements_of third))
    → mark ≡ loop_mark (named_mark test) turn old.loops → all ≡ first ++ Loop mark cond third second true ∷ []
    → Puts in_loop (raw.For start test step turn) old (left new) (Block all)
puts_for in_loop start test step turn old opened ready next new first second third all mark cond starts tests steps goes marked pushed = record {
  by = λ others.
      ap (λ (answer : Result Made CheckFault). and_then answer (λ (head : Made). and_then (condition_option_at head.at test)
      (λ (tested : MadeCondition). and_then (closed (statements_at (entered tested.at) in_loop step))
      (λ (stepped : Made). and_then (closed (statements_at (entered stepped.at) true turn))
      (λ (turned : Made). with_front
      (tree.Block (followed_by head.stmts (tree.Loop (loop_mark (named_mark test) turn old.loops) tested.cond turned.stmts stepped.stmts true tree.Nil)))
      (statements_at (left turned.at) in_loop others)))))) starts
      ∙ ap (λ (answer : Result MadeCondition CheckFault). and_then answer
      (λ (tested : MadeCondition). and_then (closed (statements_at (entered tested.at) in_loop step))
      (λ (stepped : Made). and_then (closed (statements_at (entered stepped.at) true turn))
      (λ (turned : Made). with_front
      (tree.Block (followed_by (statements_of first)
      (tree.Loop (loop_mark (named_mark test) turn old.loops) tested.cond turned.stmts stepped.stmts true tree.Nil)))
      (statements_at (left turned.at) in_loop others))))) tests
      ∙ ap (λ (answer : Result Made CheckFault). and_then answer
      (λ (stepped : Made). and_then (closed (statements_at (entered stepped.at) true turn))
      (λ (turned : Made). with_front
      (tree.Block (followed_by (statements_of first)
      (tree.Loop (loop_mark (named_mark test) turn old.loops) (expression_of cond) turned.stmts stepped.stmts true tree.Nil)))
      (statements_at (left turned.at) in_loop others)))) steps
      ∙ ap (λ (answer : Result Made CheckFault). and_then answer
      (λ (turned : Made). with_front
      (tree.Block (followed_by (statements_of first) (tree.Loop (loop_mark (named_mark test) turn old.loops) (expression_of cond) turned.stmts
      (statements_of second) true tree.Nil)))
      (statements_at (left turned.at) in_loop others))) goes
      ∙ with_same (tree.Block (followed_by (statements_of first) (tree.Loop (loop_mark (named_mark test) turn old.loops) (expression_of cond)
      (statements_of third) (statements_of second) true tree.Nil)))
      (put_in_front (Block all)) (statements_at (left new) in_loop others)
      (λ behind. sym (fronts.block all behind ∙ ap (λ (list : List Stmt). tree.Block (statements_of list) behind) pushed
      ∙ ap (λ (stmts : Statements). tree.Block stmts behind)
      (followed first (Loop mark cond third second true) (tree.Loop mark (expression_of cond) (statements_of third) (statements_of second) true)
      (λ inner_behind. fronts.loop mark cond third second true inner_behind))
      ∙ ap (λ (own_mark : Option ℕ). tree.Block
      (followed_by (statements_of first) (tree.Loop own_mark (expression_of cond) (statements_of third) (statements_of second) true tree.Nil)) behind)
      marked));
}

-- the same at what the calls before left
pub puts_for_behind : (in_loop : Bool) (start : RawStatements) (test : Option RawCondition) (step turn : RawStatements)
    (old counted inside opened ready next new after : Resolver)
    (first second third all : List Stmt) (mark : Option ℕ) (cond : Expr) → counted ≡ with_loop old → inside ≡ entered counted
    → statements_at inside in_loop start ≡ Ok (made opened (statements_of first))
    → condition_option_at opened test ≡ Ok (with_condition ready (expression_of cond))
    → closed (statements_at (entered ready) in_loop step) ≡ Ok (made next (statements_of second))
    → closed (statements_at (entered next) true turn) ≡ Ok (made new (statements_of third))
    → mark ≡ loop_mark (named_mark test) turn old.loops → all ≡ first ++ Loop mark cond third second true ∷ [] → after ≡ left new
    → Puts in_loop (raw.For start test step turn) old after (Block all)
puts_for_behind in_loop start test step turn old counted inside opened ready next new after first second third all mark cond counts enters starts tests
    steps goes marked pushed leaves =
    subst (λ (place : Resolver). Puts in_loop (raw.For start test step turn) old place (Block all)) (sym leaves)
    (puts_for in_loop start test step turn old opened ready next new first second third all mark cond
    (subst (λ (place : Resolver). statements_at place in_loop start ≡ Ok (made opened (statements_of first))) (enters
    ∙ ap entered counts) starts) tests steps goes marked pushed)

-- a fault that `?` hands on
pub fails_as : (in_loop : Bool) (item : RawStmt) (front : RawStatements → RawStatements) (old new : Resolver) (before now : List Stmt) (first : CheckFault)
    (result : Result (Unit {0}) CheckFault)
    (gives : CheckFault → Type 0) → ((others : RawStatements) → raw_put_in_front item others ≡ front others) → IsErr result → IsErrAnd result gives
    → ((other : CheckFault) → gives other → other ≡ first)
    → FailsIn in_loop front old first
    → MatchResult result (λ _. Pushes in_loop (raw_put_in_front item) old new before now) (FailsIn in_loop (raw_put_in_front item) old)
fails_as in_loop item front old new before now first (Ok _) gives same_fronts failed given same fails = absurd (false≢true failed)
fails_as in_loop item front old new before now first (Err other) gives same_fronts failed given same fails =
    subst (FailsIn in_loop (raw_put_in_front item) old) (sym (same other given))
    (record { by = λ others memory. ap (statements_at old in_loop) (same_fronts others) ∙ fails.by others memory })

pub pushes_as : (in_loop : Bool) (item : RawStmt) (front : RawStatements → RawStatements) (old new : Resolver) (before now : List Stmt)
    → ((others : RawStatements) → raw_put_in_front item others ≡ front others) → Pushes in_loop front old new before now
    → Pushes in_loop (raw_put_in_front item) old new before now
pushes_as in_loop item front old new before now same_fronts pushes =
    record {
      by = λ others. ap (λ (stmts : RawStatements). with_front (joined_to before) (statements_at old in_loop stmts)) (same_fronts others)
          ∙ pushes.by others;
    }

pub fails_test : (in_loop : Bool) (start : RawStatements) (test : Option RawCondition) (step turn : RawStatements) (old counted inside opened : Resolver)
    (first : List Stmt) (fault_ : CheckFault)
    → counted ≡ with_loop old → inside ≡ entered counted → statements_at inside in_loop start ≡ Ok (made opened (statements_of first))
    → Fails (condition_option_at opened test) fault_
    → FailsIn in_loop (raw.For start test step turn) old fault_
fails_test in_loop start test step turn old counted inside opened first fault_ counts enters starts fails = record {
  by = λ others memory.
      rw (
        subst (λ (place : Resolver). statements_at place in_loop start ≡ Ok (made opened (statements_of first))) (enters ∙ ap entered counts) starts,
        fails.by memory,
      ) refl;
}

pub fails_body : (in_loop : Bool) (start : RawStatements) (test : Option RawCondition) (step turn : RawStatements)
    (old counted inside opened ready next : Resolver) (first second : List Stmt) (cond : Expr) (fault_ : CheckFault)
    → counted ≡ with_loop old → inside ≡ entered counted → statements_at inside in_loop start ≡ Ok (made opened (statements_of first))
    → condition_option_at opened test ≡ Ok (with_condition ready (expression_of cond))
    → closed (statements_at (entered ready) in_loop step) ≡ Ok (made next (statements_of second))
    → Fails (closed (statements_at (entered next) true turn)) fault_
    → FailsIn in_loop (raw.For start test step turn) old fault_
fails_body in_loop start test step turn old counted inside opened ready next first second cond fault_ counts enters starts tests steps fails = record {
  by = λ others memory.
      rw (
        subst (λ (place : Resolver). statements_at place in_loop start ≡ Ok (made opened (statements_of first))) (enters ∙ ap entered counts) starts,
        tests,
        steps,
        fails.by memory,
      ) refl;
}
