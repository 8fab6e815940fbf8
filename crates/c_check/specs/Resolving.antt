-- What is met where the statements of a file are gone over in the order of the source: the first fault, or what they
-- stand for. Contracts inside the crate and proofs alone speak of it: the code answers this, and that it is what
-- `Resolves` and `first_fault` say is proved from it.
use Rattle.std.specs.Prelude.{◌≡◌, ℕ, suc, Bool, true, false, if◌then◌else◌, List, [], ◌∷◌, ◌++◌, length, Option, Some, None, Result, Ok, Err, pos}
use Rattle.std.specs.declared.alloc.Global.{Global}
use Rattle.c_ast.specs.declared.expr.BinOp.{BinOp}
use Rattle.c_ast.specs.declared.func.Var.{Var}
use Rattle.c_ast.specs.declared.stmt.Stmt.{Stmt}
use Rattle.c_ast.specs.RawTree as raw
use Rattle.c_ast.specs.RawTree.{RawExpression, RawCondition, RawDeclared, RawStatements, RawFunction}
use Rattle.c_ast.specs.Tree as tree
use Rattle.c_ast.specs.Tree.{Expression, Statements}
use Rattle.c_ast.specs.View.{put_in_front}
use Rattle.c_check.specs.declared.fault.CheckFault.{CheckFault}
use Rattle.c_check.specs.declared.fault.CheckFault.TheVariants as fault
use Rattle.c_check.specs.declared.resolver.Resolver.{Resolver}
use Rattle.c_check.specs.Divisors.{divides, Divisor, divisor_of, divided}
use Rattle.c_check.specs.Resolves.{Bindings, Counts, binding, number_of, loop_mark, named_mark, followed_by}
use Rattle.c_check.specs.Occurrences.{Declaration, Jump, Marked}
use Rattle.c_check.specs.Faults.{fault_of}
use Rattle.c_check.specs.Table.{scope_of, block_names, entered_table, left_table, with_binding, nothing_in_scope}

infixl 10 ◌>>=◌
-- Where a step meets a fault, so does the whole.
abbrev pub ◌>>=◌ : {A B : Type 0} → Result A CheckFault → (A → Result B CheckFault) → Result B CheckFault
Ok value >>= go_on = go_on value
Err first >>= go_on = Err first

-- the value, unless there is a fault
abbrev pub unless_fault : {A : Type 0} → Option CheckFault → A → Result A CheckFault
unless_fault None value = Ok value
unless_fault (Some first) value = Err first

-- ---- what is known at a place: the table of the variables in scope, the variables declared, the marks and the loops

-- the variables in scope at a place
abbrev pub scope_at : Resolver → Bindings
scope_at at = scope_of at.table

-- the place where a block begins
abbrev pub entered : Resolver → Resolver
entered at = record at { table = entered_table at.table }

-- the place where a block ends
abbrev pub left : Resolver → Resolver
left at = record at { table = left_table at.table }

-- the place behind the first token of a loop
abbrev pub with_loop : Resolver → Resolver
with_loop at = record at { loops = suc at.loops }

-- the place behind the name of a declared variable
abbrev pub with_variable : Resolver → Var → Resolver
with_variable at var = record at {
  table = with_binding (binding var (length at.vars)) at.table;
  vars = at.vars ++ var ∷ [];
}

-- the place behind the names of variables, whatever they are
abbrev pub with_variables : Resolver → List Var → Resolver
with_variables at [] = at
with_variables at (var ∷ vars) = with_variables (with_variable at var) vars

-- the place behind a named mark
abbrev pub with_named : Resolver → ℕ → Resolver
with_named at mark = record at { marks = mark ∷ at.marks }

-- how many variables and loops stand before a place
abbrev pub counts_at : Resolver → Counts
counts_at at = record { vars = length at.vars; loops = at.loops }

-- a variable is declared (6.7)
abbrev pub declared_at : Resolver → Var → Result Resolver CheckFault
declared_at at var =
    unless_fault (fault_of at.marks (Declaration (block_names at.table) var.name var.line)) (with_variable at var)

-- a mark is named
abbrev pub marked_at : Resolver → ℕ → Result Resolver CheckFault
marked_at at mark = unless_fault (fault_of at.marks (Marked mark)) (with_named at mark)

-- a mark is named, or none is
abbrev pub marked_option_at : Resolver → Option ℕ → Result Resolver CheckFault
marked_option_at at None = Ok at
marked_option_at at (Some mark) = marked_at at mark

-- ---- expressions

-- the number of a name, if it was found
abbrev pub found_or : List ℕ → ℕ → Option ℕ → Result ℕ CheckFault
found_or name line None = Err (fault.Undeclared name line)
found_or name line (Some number) = Ok number

-- the number of the variable that a name on a line stands for
abbrev pub variable_in : Bindings → List ℕ → ℕ → Result ℕ CheckFault
variable_in scope name line = found_or name line (number_of scope name)

-- a division on a line, if its right operand is a divisor
abbrev pub divided_or : BinOp → ℕ → Expression → Option Divisor → Result Expression CheckFault
divided_or op line left None = Err (fault.Divisor line)
divided_or op line left (Some divisor) = Ok (divided op left divisor)

-- an expression, where these variables are in scope
abbrev pub expression_in : Bindings → RawExpression → Result Expression CheckFault
expression_in scope (raw.Num z) = Ok (tree.Num z)
expression_in scope (raw.Named name line) =
    variable_in scope name line >>= λ number.
    Ok (tree.Var number)
expression_in scope (raw.Un op expr) =
    expression_in scope expr >>= λ made.
    Ok (tree.Un op made)
expression_in scope (raw.Bin op line left right) =
    expression_in scope left >>= λ first.
    if divides op then divided_or op line first (divisor_of right)
    else (expression_in scope right >>= λ second. Ok (tree.Bin op first second))
expression_in scope (raw.Cond test left right) =
    expression_in scope test >>= λ cond.
    expression_in scope left >>= λ first.
    expression_in scope right >>= λ second.
    Ok (tree.Cond cond first second)

-- A condition, and what is known behind it.
pub record MadeCondition : Type 0 where
  pub at : Resolver
  pub cond : Expression

-- a condition with the place behind it
abbrev pub with_condition : Resolver → Expression → MadeCondition
with_condition at cond = record { at = at; cond = cond }

-- the condition of a loop, behind the mark that it names
abbrev pub condition_at : Resolver → RawCondition → Result MadeCondition CheckFault
condition_at at test =
    marked_option_at at test.mark >>= λ marked.
    expression_in (scope_at marked) test.cond >>= λ cond.
    Ok (with_condition marked cond)

-- the condition of a `for`, which is 1 where none stands (6.8.5.3)
abbrev pub condition_option_at : Resolver → Option RawCondition → Result MadeCondition CheckFault
condition_option_at at None = Ok (with_condition at (tree.Num (pos 1)))
condition_option_at at (Some test) = condition_at at test

-- the value of an initialiser, where there is one
abbrev pub initial_value : Bindings → Option RawExpression → Result (Option Expression) CheckFault
initial_value scope None = Ok None
initial_value scope (Some expr) =
    expression_in scope expr >>= λ value.
    Ok (Some value)

-- ---- statements

-- Statements, and what is known behind them.
pub record Made : Type 0 where
  pub at : Resolver
  pub stmts : Statements

-- statements with the place behind them
abbrev pub made : Resolver → Statements → Made
made at stmts = record { at = at; stmts = stmts }

-- something in front of statements
abbrev pub with_front : (Statements → Statements) → Result Made CheckFault → Result Made CheckFault
with_front front (Ok others) = Ok (made others.at (front others.stmts))
with_front front (Err first) = Err first

-- the statements of a block, and the place behind its end
abbrev pub closed : Result Made CheckFault → Result Made CheckFault
closed (Ok inner) = Ok (made (left inner.at) inner.stmts)
closed (Err first) = Err first

-- a variable becomes 0, and then its initial value
abbrev pub begun : ℕ → Option Expression → Statements → Statements
begun number None others = tree.Set number (tree.Num (pos 0)) others
begun number (Some value) others = tree.Set number (tree.Num (pos 0)) (tree.Set number value others)

-- declarators (6.7), and the statements behind their declaration
abbrev pub declarators_at : Resolver → List RawDeclared → (Resolver → Result Made CheckFault) → Result Made CheckFault
declarators_at at [] others = others at
declarators_at at (declared ∷ declarators) others =
    declared_at at declared.var >>= λ behind.
    initial_value (scope_at behind) declared.initialiser >>= λ value.
    with_front (begun (length at.vars) value) (declarators_at behind declarators others)

-- the statements of a list, which stands in the body of a loop or not, from a place on
abbrev pub statements_at : Resolver → Bool → RawStatements → Result Made CheckFault
statements_at at in_loop raw.Nil = Ok (made at tree.Nil)
-- a declaration (6.7)
statements_at at in_loop (raw.Declare declarators others) =
    declarators_at at declarators (λ behind. statements_at behind in_loop others)
-- an assignment (6.5.16)
statements_at at in_loop (raw.Assign name line expr others) =
    variable_in (scope_at at) name line >>= λ number.
    expression_in (scope_at at) expr >>= λ value.
    with_front (tree.Set number value) (statements_at at in_loop others)
-- an `if` (6.8.4.1), whose branches are blocks
statements_at at in_loop (raw.If test branch others) =
    expression_in (scope_at at) test >>= λ cond.
    closed (statements_at (entered at) in_loop branch) >>= λ first.
    with_front (tree.If cond first.stmts tree.Nil) (statements_at first.at in_loop others)
statements_at at in_loop (raw.IfElse test branch alternative others) =
    expression_in (scope_at at) test >>= λ cond.
    closed (statements_at (entered at) in_loop branch) >>= λ first.
    closed (statements_at (entered first.at) in_loop alternative) >>= λ second.
    with_front (tree.If cond first.stmts second.stmts) (statements_at second.at in_loop others)
-- a loop that tests first (6.8.5.1), whose body is a block
statements_at at in_loop (raw.While test turn others) =
    condition_at (with_loop at) test >>= λ cond.
    closed (statements_at (entered cond.at) true turn) >>= λ body.
    with_front (tree.Loop (loop_mark test.mark turn at.loops) cond.cond body.stmts tree.Nil true)
    (statements_at body.at in_loop others)
-- a loop that tests last (6.8.5.2): its condition stands behind its body
statements_at at in_loop (raw.Do turn test others) =
    closed (statements_at (entered (with_loop at)) true turn) >>= λ body.
    condition_at body.at test >>= λ cond.
    with_front (tree.Loop (loop_mark test.mark turn at.loops) cond.cond body.stmts tree.Nil false)
    (statements_at cond.at in_loop others)
-- a `for` (6.8.5.3), which is a block: its third part stands before its body
statements_at at in_loop (raw.For start test step turn others) =
    statements_at (entered (with_loop at)) in_loop start >>= λ first.
    condition_option_at first.at test >>= λ cond.
    closed (statements_at (entered cond.at) in_loop step) >>= λ next.
    closed (statements_at (entered next.at) true turn) >>= λ body.
    with_front (tree.Block (followed_by first.stmts
    (tree.Loop (loop_mark (named_mark test) turn at.loops) cond.cond body.stmts next.stmts true tree.Nil)))
    (statements_at (left body.at) in_loop others)
-- jumps (6.8.6)
statements_at at in_loop (raw.Break line others) =
    unless_fault (fault_of at.marks (Jump in_loop line)) at >>= λ behind.
    with_front tree.Break (statements_at behind in_loop others)
statements_at at in_loop (raw.Continue line others) =
    unless_fault (fault_of at.marks (Jump in_loop line)) at >>= λ behind.
    with_front tree.Continue (statements_at behind in_loop others)
statements_at at in_loop (raw.Return expr others) =
    expression_in (scope_at at) expr >>= λ value.
    with_front (tree.Return value) (statements_at at in_loop others)
-- a mark statement
statements_at at in_loop (raw.Mark mark others) =
    marked_at at mark >>= λ behind.
    with_front (tree.Mark mark) (statements_at behind in_loop others)
-- a block (6.8.2), and nothing (6.8.3)
statements_at at in_loop (raw.Block items others) =
    closed (statements_at (entered at) in_loop items) >>= λ inner.
    with_front (tree.Block inner.stmts) (statements_at inner.at in_loop others)
statements_at at in_loop (raw.Empty others) = statements_at at in_loop others

-- ---- functions

-- parameters, which are declared one after the other
abbrev pub parameters_at : Resolver → List Var → Result Resolver CheckFault
parameters_at at [] = Ok at
parameters_at at (param ∷ params) =
    declared_at at param >>= λ behind.
    parameters_at behind params

-- the place before a function
abbrev pub nothing_known : Global → Resolver
nothing_known alloc = record { alloc = alloc; table = nothing_in_scope; vars = []; marks = []; loops = 0 }

-- a function: its parameters, then its body
abbrev pub function_at : Global → RawFunction → Result Made CheckFault
function_at alloc func =
    parameters_at (nothing_known alloc) func.params >>= λ behind.
    statements_at behind false func.body

-- ---- words of the code's contracts

-- The answer is this fault, unless memory ran out.
pub record Fails {A : Type 0} (answer : Result A CheckFault) (first : CheckFault) : Type 0 where
  pub by : ¬ (first ≡ fault.Memory) → answer ≡ Err first

-- What a function returned, seen by view, is the answer, or memory ran out.
abbrev pub Gives : {X Y : Type 0} → (X → Y) → Result X CheckFault → Result Y CheckFault → Type 0
Gives view (Ok x) answer = answer ≡ Ok (view x)
Gives view (Err first) answer = Fails answer first

-- statements of the program in front of others
abbrev pub joined_to : List Stmt → Statements → Statements
joined_to [] others = others
joined_to (stmt ∷ stmts) others = put_in_front stmt (joined_to stmts others)

-- The statement stands for the front of these statements.
pub record Puts (in_loop : Bool) (front : RawStatements → RawStatements) (old new : Resolver) (stmt : Stmt)
    : Type 0 where
  pub by : (others : RawStatements)
      → statements_at old in_loop (front others) ≡ with_front (put_in_front stmt) (statements_at new in_loop others)

-- What was pushed stands for the front of these statements.
pub record Pushes (in_loop : Bool) (front : RawStatements → RawStatements) (old new : Resolver)
    (before now : List Stmt) : Type 0 where
  pub by : (others : RawStatements)
      → with_front (joined_to before) (statements_at old in_loop (front others))
      ≡ with_front (joined_to now) (statements_at new in_loop others)

-- There is a fault in the front of these statements.
pub record FailsIn (in_loop : Bool) (front : RawStatements → RawStatements) (old : Resolver) (first : CheckFault)
    : Type 0 where
  pub by : (others : RawStatements) → ¬ (first ≡ fault.Memory) → statements_at old in_loop (front others) ≡ Err first

-- These are the variables and the statements that were made.
pub record HasParts (found : Result Made CheckFault) (vars : List Var) (stmts : Statements) : Type 0 where
  pub at : Resolver
  pub is : found ≡ Ok (made at stmts)
  pub vars_are : vars ≡ at.vars

-- What was pushed stands for the declarator.
pub record Declares (declared : RawDeclared) (old new : Resolver) (before now : List Stmt) : Type 0 where
  pub by : (declarators : List RawDeclared) (others : Resolver → Result Made CheckFault)
      → with_front (joined_to before) (declarators_at old (declared ∷ declarators) others)
      ≡ with_front (joined_to now) (declarators_at new declarators others)

-- There is a fault in the declarator.
pub record FailsDeclaring (declared : RawDeclared) (old : Resolver) (first : CheckFault) : Type 0 where
  pub by : (declarators : List RawDeclared) (others : Resolver → Result Made CheckFault)
      → ¬ (first ≡ fault.Memory) → declarators_at old (declared ∷ declarators) others ≡ Err first
