-- What a file says at one place that a rule of scopes, divisors, jumps or marks may forbid, in the order of the source.
use Rattle.std.specs.Prelude.{ℕ, Bool, true, false, if◌then◌else◌, List, [], ◌∷◌, ◌++◌, map, Option, Some, None}
use Rattle.c_ast.specs.declared.expr.BinOp.{BinOp}
use Rattle.c_ast.specs.declared.func.Var.{Var}
use Rattle.c_ast.specs.RawTree as raw
use Rattle.c_ast.specs.RawTree.{RawExpression, RawCondition, RawDeclared, RawStatements, RawFunction}
use Rattle.c_check.specs.Divisors.{divides, Divisor, divisor_of}

-- names, the newest first
abbrev pub Names : Type 0
Names = List (List ℕ)

-- One such place. Each but a mark has its line.
pub data Occurrence : Type 0 where
  -- a name that is used, behind the names in scope there
  Use : Names → List ℕ → ℕ → Occurrence
  -- a division, by the divisor that its right operand is, if it is one
  Division : Option Divisor → ℕ → Occurrence
  -- a name that is declared, behind those declared before in its block
  Declaration : Names → List ℕ → ℕ → Occurrence
  -- a `break` or `continue`, which stands in a loop or not
  Jump : Bool → ℕ → Occurrence
  -- a mark
  Marked : ℕ → Occurrence

-- that of a binary operator with its line and its right operand, where it divides
abbrev pub in_operator : BinOp → ℕ → RawExpression → List Occurrence
in_operator op line right = if divides op then Division (divisor_of right) line ∷ [] else []

-- those of an expression: an operator stands between its operands
abbrev pub in_expression : Names → RawExpression → List Occurrence
in_expression scope (raw.Num z) = []
in_expression scope (raw.Named name line) = Use scope name line ∷ []
in_expression scope (raw.Un op expr) = in_expression scope expr
in_expression scope (raw.Bin op line left right) =
    in_expression scope left ++ (in_operator op line right ++ in_expression scope right)
in_expression scope (raw.Cond test left right) =
    in_expression scope test ++ (in_expression scope left ++ in_expression scope right)

-- those of an initialiser, where there is one
abbrev pub in_initialiser : Names → Option RawExpression → List Occurrence
in_initialiser scope None = []
in_initialiser scope (Some expr) = in_expression scope expr

-- that of a mark, where one is named
abbrev pub marked_option : Option ℕ → List Occurrence
marked_option None = []
marked_option (Some mark) = Marked mark ∷ []

-- those of a loop's condition: its mark stands first
abbrev pub in_condition : Names → RawCondition → List Occurrence
in_condition scope cond = marked_option cond.mark ++ in_expression scope cond.cond

-- those of the condition of a `for`, where there is one
abbrev pub in_condition_option : Names → Option RawCondition → List Occurrence
in_condition_option scope None = []
in_condition_option scope (Some cond) = in_condition scope cond

-- the names that declarators add to others
abbrev pub with_names : List RawDeclared → Names → Names
with_names [] names = names
with_names (declared ∷ declarators) names = with_names declarators (declared.var.name ∷ names)

-- the names in scope behind the first part of a `for` head
abbrev pub names_in_for : RawStatements → Names → Names
names_in_for (raw.Declare declarators others) names = with_names declarators names
names_in_for _ names = names

-- Those of declarators: each name is in scope in its own initialiser. `scope` has the names in scope, and `block` those
-- of the block.
abbrev pub in_declarators : Names → Names → List RawDeclared → List Occurrence
in_declarators scope block [] = []
in_declarators scope block (declared ∷ declarators) =
    Declaration block declared.var.name declared.var.line
    ∷ (in_initialiser (declared.var.name ∷ scope) declared.initialiser
    ++ in_declarators (declared.var.name ∷ scope) (declared.var.name ∷ block) declarators)

-- Those of statements, which stand in the body of a loop or not. A branch, a body and the head of a `for` are blocks of
-- their own (6.8.4, 6.8.5). The third part of a `for` stands before its body, and the condition of a `do` behind it.
abbrev pub occurrences : Names → Names → Bool → RawStatements → List Occurrence
occurrences scope block in_loop raw.Nil = []
occurrences scope block in_loop (raw.Declare declarators others) =
    in_declarators scope block declarators
    ++ occurrences (with_names declarators scope) (with_names declarators block) in_loop others
occurrences scope block in_loop (raw.Assign name line expr others) =
    Use scope name line ∷ (in_expression scope expr ++ occurrences scope block in_loop others)
occurrences scope block in_loop (raw.If test branch others) =
    in_expression scope test ++ (occurrences scope [] in_loop branch ++ occurrences scope block in_loop others)
occurrences scope block in_loop (raw.IfElse test branch alternative others) =
    in_expression scope test ++ (occurrences scope [] in_loop branch
    ++ (occurrences scope [] in_loop alternative ++ occurrences scope block in_loop others))
occurrences scope block in_loop (raw.While test body others) =
    in_condition scope test ++ (occurrences scope [] true body ++ occurrences scope block in_loop others)
occurrences scope block in_loop (raw.Do body test others) =
    occurrences scope [] true body ++ (in_condition scope test ++ occurrences scope block in_loop others)
occurrences scope block in_loop (raw.For start test step body others) =
    occurrences scope [] in_loop start ++ (in_condition_option (names_in_for start scope) test
    ++ (occurrences (names_in_for start scope) [] in_loop step
    ++ (occurrences (names_in_for start scope) [] true body ++ occurrences scope block in_loop others)))
occurrences scope block in_loop (raw.Break line others) =
    Jump in_loop line ∷ occurrences scope block in_loop others
occurrences scope block in_loop (raw.Continue line others) =
    Jump in_loop line ∷ occurrences scope block in_loop others
occurrences scope block in_loop (raw.Return expr others) =
    in_expression scope expr ++ occurrences scope block in_loop others
occurrences scope block in_loop (raw.Mark mark others) = Marked mark ∷ occurrences scope block in_loop others
occurrences scope block in_loop (raw.Block items others) =
    occurrences scope [] in_loop items ++ occurrences scope block in_loop others
occurrences scope block in_loop (raw.Empty others) = occurrences scope block in_loop others

-- a parameter is declared as a variable without an initialiser is, in the outermost block
abbrev pub plain : Var → RawDeclared
plain var = record { var = var; initialiser = None }

-- all of a function
abbrev pub occurrences_of : RawFunction → List Occurrence
occurrences_of func = occurrences [] [] false (raw.Declare (map plain func.params) func.body)
