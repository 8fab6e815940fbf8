-- What a grammar promises of the trees that it reads.
use Rattle.std.specs.Prelude.{◌≡◌, ◌≤ℤ◌, pos, All, Option, Some, None}
use Rattle.c_ast.specs.RawTree.{RawExpression, Num, Named, Un, Bin, Cond, RawCondition, RawDeclared, RawStatements, Nil, Declare, Assign, If, IfElse, While, Do, For, Break, Continue, Return, Mark, Block, Empty, RawFunction}

-- Each constant is at least 0: a sign is an operator.
abbrev pub HasNaturalConstants : RawExpression → Type 0
HasNaturalConstants (Num z) = pos 0 ≤ℤ z
HasNaturalConstants (Named name line) = Unit {0}
HasNaturalConstants (Un op e) = HasNaturalConstants e
HasNaturalConstants (Bin op line e f) = HasNaturalConstants e × HasNaturalConstants f
HasNaturalConstants (Cond c e f) = HasNaturalConstants c × HasNaturalConstants e × HasNaturalConstants f

-- Each constant of the initialiser, if there is one, is at least 0.
abbrev pub IsShapedDeclarator : RawDeclared → Type 0
IsShapedDeclarator declared = (e : RawExpression) → declared.initialiser ≡ Some e → HasNaturalConstants e

-- The third part of a `for` head, where there is one, is an assignment.
abbrev pub IsForStep : RawStatements → Type 0
IsForStep Nil = Unit {0}
IsForStep (Assign name line e Nil) = Unit {0}
IsForStep _ = ⊥

-- The first part of a `for` head, where there is one, is an assignment or a declaration.
abbrev pub IsForStart : RawStatements → Type 0
IsForStart (Declare declarators Nil) = Unit {0}
IsForStart others = IsForStep others

-- Each constant of the condition, if there is one, is at least 0.
abbrev pub IsShapedCondition : Option RawCondition → Type 0
IsShapedCondition None = Unit {0}
IsShapedCondition (Some cond) = HasNaturalConstants cond.cond

-- The statements have the shape that the grammar gives.
abbrev pub AreShaped : RawStatements → Type 0
AreShaped Nil = Unit {0}
AreShaped (Declare declarators others) = All IsShapedDeclarator declarators × AreShaped others
AreShaped (Assign name line e others) = HasNaturalConstants e × AreShaped others
AreShaped (If c a others) = HasNaturalConstants c × AreShaped a × AreShaped others
AreShaped (IfElse c a b others) = HasNaturalConstants c × AreShaped a × AreShaped b × AreShaped others
AreShaped (While c body others) = HasNaturalConstants c.cond × AreShaped body × AreShaped others
AreShaped (Do body c others) = AreShaped body × HasNaturalConstants c.cond × AreShaped others
AreShaped (For start c step body others) =
    IsForStart start × AreShaped start × IsShapedCondition c × IsForStep step × AreShaped step × AreShaped body
    × AreShaped others
AreShaped (Break line others) = AreShaped others
AreShaped (Continue line others) = AreShaped others
AreShaped (Return e others) = HasNaturalConstants e × AreShaped others
AreShaped (Mark mark others) = AreShaped others
AreShaped (Block a others) = AreShaped a × AreShaped others
AreShaped (Empty others) = AreShaped others

-- The function's body has the shape that the grammar gives.
abbrev pub IsShaped : RawFunction → Type 0
IsShaped f = AreShaped f.body
