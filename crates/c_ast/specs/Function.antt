-- Which parts make a function.
use Rattle.std.specs.Prelude.{◌≡◌, ℕ, List, [], ◌∷◌, length}
use Rattle.c_ast.specs.declared.expr.Expr.{Expr}
use Rattle.c_ast.specs.declared.stmt.Stmt.{Stmt}
use Rattle.c_ast.specs.declared.stmt.Stmt.TheVariants.{Return}
use Rattle.c_ast.specs.declared.func.Var.{Var}
use Rattle.c_ast.specs.Tree.{Program}
use Rattle.c_ast.specs.View.{statements_of}
use Rattle.c_ast.specs.Formed.{IsProgram}

-- The parts of a function. The first of its variables are the parameters.
pub record Function : Type 0 where
  pub name : List ℕ
  pub params : ℕ
  pub vars : List Var
  pub body : List Stmt

-- The function of these parts.
abbrev pub function : List ℕ → ℕ → List Var → List Stmt → Function
function name params vars body = record { name = name; params = params; vars = vars; body = body }

-- What a run needs of a function.
abbrev pub program_of : Function → Program
program_of f = record { params = f.params; vars = length f.vars; body = statements_of f.body }

-- The parts are those of a well-formed program.
abbrev pub IsFunction : Function → Type 0
IsFunction f = IsProgram (program_of f)

-- The body is the one statement `return e;`.
abbrev pub ReturnsOne : Function → Expr → Type 0
ReturnsOne f e = f.body ≡ Return e ∷ []
