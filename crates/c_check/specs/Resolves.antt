-- Which statements of a checked function the statements of a file stand for (ISO C11, 6.2.1 for scopes, 6.5 for
-- expressions, 6.8 for statements): names are variables' numbers, divisors are their sizes, loops have one form, and
-- each turn of a loop passes a mark.
use Rattle.std.specs.Prelude.{◌≡◌, ℕ, suc, ◌+◌, Bool, true, false, if◌then◌else◌, List, [], ◌∷◌, length, Option, Some, None, ℤ, pos, option_map, find, bytes_eq}
use Rattle.c_ast.specs.declared.expr.UnOp.{UnOp}
use Rattle.c_ast.specs.declared.expr.BinOp.{BinOp}
use Rattle.c_ast.specs.declared.func.Var.{Var}
use Rattle.c_ast.specs.RawTree as raw
use Rattle.c_ast.specs.RawTree.{RawExpression, RawCondition, RawDeclared, RawStatements}
use Rattle.c_ast.specs.Tree as tree
use Rattle.c_ast.specs.Tree.{Expression, Statements}
use Rattle.c_check.specs.Contents.{declared_in, loops_in}
use Rattle.c_check.specs.Divisors.{divides, Divisor, divisor_of, divided}

-- A variable in scope: its name and its number.
pub record Binding : Type 0 where
  pub name : List ℕ
  pub number : ℕ

-- the variables in scope, the one declared last first, which hides those of its name behind it
abbrev pub Bindings : Type 0
Bindings = List Binding

-- a declared variable with its number
abbrev pub binding : Var → ℕ → Binding
binding var number = record { name = var.name; number = number }

-- the number of the variable that a name stands for
abbrev pub number_of : Bindings → List ℕ → Option ℕ
number_of scope name = option_map (λ found. found.number) (find (λ other. bytes_eq name other.name) scope)

-- The expression is this one, its names being those of variables in scope.
pub data ResolvesExpression (scope : Bindings) : RawExpression → Expression → Type 0 where
  constant : (z : ℤ) → ResolvesExpression scope (raw.Num z) (tree.Num z)
  variable : (name : List ℕ) (line number : ℕ)
      → number_of scope name ≡ Some number
      → ResolvesExpression scope (raw.Named name line) (tree.Var number)
  unary : (op : UnOp) (expr : RawExpression) (made : Expression)
      → ResolvesExpression scope expr made
      → ResolvesExpression scope (raw.Un op expr) (tree.Un op made)
  binary : (op : BinOp) (line : ℕ) (left right : RawExpression) (first second : Expression)
      → divides op ≡ false
      → ResolvesExpression scope left first
      → ResolvesExpression scope right second
      → ResolvesExpression scope (raw.Bin op line left right) (tree.Bin op first second)
  -- 6.5.5, by a divisor alone
  division : (op : BinOp) (line : ℕ) (left right : RawExpression) (first : Expression) (divisor : Divisor)
      → divides op ≡ true
      → ResolvesExpression scope left first
      → divisor_of right ≡ Some divisor
      → ResolvesExpression scope (raw.Bin op line left right) (divided op first divisor)
  conditional : (test left right : RawExpression) (cond first second : Expression)
      → ResolvesExpression scope test cond
      → ResolvesExpression scope left first
      → ResolvesExpression scope right second
      → ResolvesExpression scope (raw.Cond test left right) (tree.Cond cond first second)

-- How many variables and how many loops stand before a place of the source.
pub record Counts : Type 0 where
  pub vars : ℕ
  pub loops : ℕ

-- how many stand before the place behind one more variable
abbrev pub one_variable_more : Counts → Counts
one_variable_more before = record { vars = suc before.vars; loops = before.loops }

-- how many stand before the place behind the first token of one more loop
abbrev pub one_loop_more : Counts → Counts
one_loop_more before = record { vars = before.vars; loops = suc before.loops }

-- how many stand before the place behind these statements
abbrev pub behind : RawStatements → Counts → Counts
behind stmts before = record {
  vars = before.vars + length (declared_in stmts);
  loops = before.loops + loops_in stmts;
}

-- ---- marks of loops

-- whether the body of a loop is a mark statement, or a block whose first item is one
abbrev pub begins_with_mark : RawStatements → Bool
begins_with_mark (raw.Mark mark others) = true
begins_with_mark (raw.Block (raw.Mark mark inner) others) = true
begins_with_mark _ = false

-- the first of the numbers that loops without a mark of their own get
abbrev pub first_automatic : ℕ
first_automatic = 1000000

-- the mark that a loop passes before its condition: the one named there; where none is, and its body does not begin
-- with a mark, an automatic one by the loop's number
abbrev pub loop_mark : Option ℕ → RawStatements → ℕ → Option ℕ
loop_mark (Some mark) body loop = Some mark
loop_mark None body loop = if begins_with_mark body then None else Some (first_automatic + loop)

-- the mark that the condition of a `for` names, if it does
abbrev pub named_mark : Option RawCondition → Option ℕ
named_mark None = None
named_mark (Some cond) = cond.mark

-- The condition of a `for`, which is 1 where none stands (6.8.5.3).
pub data ResolvesCondition (scope : Bindings) : Option RawCondition → Expression → Type 0 where
  left_out : ResolvesCondition scope None (tree.Num (pos 1))
  stands : (cond : RawCondition) (made : Expression)
      → ResolvesExpression scope cond.cond made
      → ResolvesCondition scope (Some cond) made

-- ---- statements

-- the variables in scope behind declarators, of which the first has this number
abbrev pub with_declared : List RawDeclared → ℕ → Bindings → Bindings
with_declared [] number scope = scope
with_declared (declared ∷ declarators) number scope =
    with_declared declarators (suc number) (binding declared.var number ∷ scope)

-- the variables in scope behind the first part of a `for` head
abbrev pub scope_in_for : RawStatements → ℕ → Bindings → Bindings
scope_in_for (raw.Declare declarators others) number scope = with_declared declarators number scope
scope_in_for _ number scope = scope

-- the statements of the first list, then the second list
abbrev pub followed_by : Statements → Statements → Statements
followed_by tree.Nil last = last
followed_by (tree.Set number expr others) last = tree.Set number expr (followed_by others last)
followed_by (tree.If cond branch alternative others) last = tree.If cond branch alternative (followed_by others last)
followed_by (tree.Loop mark cond body step test_first others) last =
    tree.Loop mark cond body step test_first (followed_by others last)
followed_by (tree.Break others) last = tree.Break (followed_by others last)
followed_by (tree.Continue others) last = tree.Continue (followed_by others last)
followed_by (tree.Return expr others) last = tree.Return expr (followed_by others last)
followed_by (tree.Mark mark others) last = tree.Mark mark (followed_by others last)
followed_by (tree.Block items others) last = tree.Block items (followed_by others last)

-- The statements are these, where so many variables and loops stand before them. What is declared in a list is in scope
-- to its end. Each rule says what stands there, and then has a line for each premise, in the order of the source.
pub data Resolves : Bindings → Counts → RawStatements → Statements → Type 0 where
  none : (scope : Bindings) (before : Counts) → Resolves scope before raw.Nil tree.Nil
  -- 6.7: a declarator's variable becomes 0, and then the value of its initialiser, in which it is in scope.
  declared : (scope : Bindings) (before : Counts) (others : RawStatements) (made : Statements)
      → Resolves scope before others made
      → Resolves scope before (raw.Declare [] others) made
  declares : (scope : Bindings) (before : Counts) (var : Var) (declarators : List RawDeclared)
      (others : RawStatements) (made : Statements)
      → Resolves (binding var before.vars ∷ scope) (one_variable_more before) (raw.Declare declarators others) made
      → Resolves scope before (raw.Declare (record { var = var; initialiser = None } ∷ declarators) others)
      (tree.Set before.vars (tree.Num (pos 0)) made)
  initialises : (scope : Bindings) (before : Counts) (var : Var) (expr : RawExpression)
      (declarators : List RawDeclared) (others : RawStatements) (value : Expression) (made : Statements)
      → ResolvesExpression (binding var before.vars ∷ scope) expr value
      → Resolves (binding var before.vars ∷ scope) (one_variable_more before) (raw.Declare declarators others) made
      → Resolves scope before (raw.Declare (record { var = var; initialiser = Some expr } ∷ declarators) others)
      (tree.Set before.vars (tree.Num (pos 0)) (tree.Set before.vars value made))
  -- 6.5.16
  assigns : (scope : Bindings) (before : Counts) (name : List ℕ) (line number : ℕ) (expr : RawExpression)
      (others : RawStatements) (value : Expression) (made : Statements)
      → number_of scope name ≡ Some number
      → ResolvesExpression scope expr value
      → Resolves scope before others made
      → Resolves scope before (raw.Assign name line expr others) (tree.Set number value made)
  -- 6.8.4.1
  branches : (scope : Bindings) (before : Counts) (test : RawExpression) (branch others : RawStatements)
      (cond : Expression) (first made : Statements)
      → ResolvesExpression scope test cond
      → Resolves scope before branch first
      → Resolves scope (behind branch before) others made
      → Resolves scope before (raw.If test branch others) (tree.If cond first tree.Nil made)
  chooses : (scope : Bindings) (before : Counts) (test : RawExpression) (branch alternative others : RawStatements)
      (cond : Expression) (first second made : Statements)
      → ResolvesExpression scope test cond
      → Resolves scope before branch first
      → Resolves scope (behind branch before) alternative second
      → Resolves scope (behind alternative (behind branch before)) others made
      → Resolves scope before (raw.IfElse test branch alternative others) (tree.If cond first second made)
  -- 6.8.5.1
  while_loop : (scope : Bindings) (before : Counts) (test : RawCondition) (turn others : RawStatements)
      (cond : Expression) (body made : Statements)
      → ResolvesExpression scope test.cond cond
      → Resolves scope (one_loop_more before) turn body
      → Resolves scope (behind turn (one_loop_more before)) others made
      → Resolves scope before (raw.While test turn others)
      (tree.Loop (loop_mark test.mark turn before.loops) cond body tree.Nil true made)
  -- 6.8.5.2: the variables of the body are not in scope in the condition.
  do_loop : (scope : Bindings) (before : Counts) (turn : RawStatements) (test : RawCondition) (others : RawStatements)
      (cond : Expression) (body made : Statements)
      → Resolves scope (one_loop_more before) turn body
      → ResolvesExpression scope test.cond cond
      → Resolves scope (behind turn (one_loop_more before)) others made
      → Resolves scope before (raw.Do turn test others)
      (tree.Loop (loop_mark test.mark turn before.loops) cond body tree.Nil false made)
  -- 6.8.5.3: what the head declares is in scope in the rest of the loop, which is a block.
  for_loop : (scope : Bindings) (before : Counts) (start : RawStatements) (test : Option RawCondition)
      (step turn others : RawStatements) (cond : Expression) (first next body made : Statements)
      → Resolves scope (one_loop_more before) start first
      → ResolvesCondition (scope_in_for start before.vars scope) test cond
      → Resolves (scope_in_for start before.vars scope) (behind start (one_loop_more before)) step next
      → Resolves (scope_in_for start before.vars scope) (behind step (behind start (one_loop_more before))) turn body
      → Resolves scope (behind turn (behind step (behind start (one_loop_more before)))) others made
      → Resolves scope before (raw.For start test step turn others)
      (tree.Block
      (followed_by first (tree.Loop (loop_mark (named_mark test) turn before.loops) cond body next true tree.Nil)) made)
  -- 6.8.6.3
  breaks : (scope : Bindings) (before : Counts) (line : ℕ) (others : RawStatements) (made : Statements)
      → Resolves scope before others made
      → Resolves scope before (raw.Break line others) (tree.Break made)
  -- 6.8.6.2
  continues : (scope : Bindings) (before : Counts) (line : ℕ) (others : RawStatements) (made : Statements)
      → Resolves scope before others made
      → Resolves scope before (raw.Continue line others) (tree.Continue made)
  -- 6.8.6.4
  returns : (scope : Bindings) (before : Counts) (expr : RawExpression) (others : RawStatements) (value : Expression)
      (made : Statements)
      → ResolvesExpression scope expr value
      → Resolves scope before others made
      → Resolves scope before (raw.Return expr others) (tree.Return value made)
  -- A mark statement, which C does not have.
  marks : (scope : Bindings) (before : Counts) (mark : ℕ) (others : RawStatements) (made : Statements)
      → Resolves scope before others made
      → Resolves scope before (raw.Mark mark others) (tree.Mark mark made)
  -- 6.8.2
  block : (scope : Bindings) (before : Counts) (items others : RawStatements) (inner made : Statements)
      → Resolves scope before items inner
      → Resolves scope (behind items before) others made
      → Resolves scope before (raw.Block items others) (tree.Block inner made)
  -- 6.8.3
  empty : (scope : Bindings) (before : Counts) (others : RawStatements) (made : Statements)
      → Resolves scope before others made
      → Resolves scope before (raw.Empty others) made
