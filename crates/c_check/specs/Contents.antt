-- The variables and the loops of statements, in the order of the source.
use Rattle.std.specs.Prelude.{ℕ, suc, ◌+◌, List, [], ◌++◌, map}
use Rattle.c_ast.specs.declared.func.Var.{Var}
use Rattle.c_ast.specs.RawTree.{RawDeclared, RawStatements, Nil, Declare, Assign, If, IfElse, While, Do, For, Break, Continue, Return, Mark, Block, Empty}

-- the variables that these declarators declare
abbrev pub declared_by : List RawDeclared → List Var
declared_by declarators = map (λ declared. declared.var) declarators

-- the variables that the statements declare, at any depth
abbrev pub declared_in : RawStatements → List Var
declared_in Nil = []
declared_in (Declare declarators others) = declared_by declarators ++ declared_in others
declared_in (Assign name line expr others) = declared_in others
declared_in (If test branch others) = declared_in branch ++ declared_in others
declared_in (IfElse test branch alternative others) =
    declared_in branch ++ (declared_in alternative ++ declared_in others)
declared_in (While test body others) = declared_in body ++ declared_in others
declared_in (Do body test others) = declared_in body ++ declared_in others
declared_in (For start test step body others) =
    declared_in start ++ (declared_in step ++ (declared_in body ++ declared_in others))
declared_in (Break line others) = declared_in others
declared_in (Continue line others) = declared_in others
declared_in (Return expr others) = declared_in others
declared_in (Mark mark others) = declared_in others
declared_in (Block items others) = declared_in items ++ declared_in others
declared_in (Empty others) = declared_in others

-- the number of loops in the statements, at any depth
abbrev pub loops_in : RawStatements → ℕ
loops_in Nil = 0
loops_in (Declare declarators others) = loops_in others
loops_in (Assign name line expr others) = loops_in others
loops_in (If test branch others) = loops_in branch + loops_in others
loops_in (IfElse test branch alternative others) = loops_in branch + (loops_in alternative + loops_in others)
loops_in (While test body others) = suc (loops_in body + loops_in others)
loops_in (Do body test others) = suc (loops_in body + loops_in others)
loops_in (For start test step body others) =
    suc (loops_in start + (loops_in step + (loops_in body + loops_in others)))
loops_in (Break line others) = loops_in others
loops_in (Continue line others) = loops_in others
loops_in (Return expr others) = loops_in others
loops_in (Mark mark others) = loops_in others
loops_in (Block items others) = loops_in items + loops_in others
loops_in (Empty others) = loops_in others
