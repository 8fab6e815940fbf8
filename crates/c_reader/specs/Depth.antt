-- How deep a tree is, and how deep the brackets of tokens nest.
use Rattle.std.specs.Prelude.{◌+◌, ◌<◌, ℕ, Bool, true, false, max, List, [], ◌∷◌, take, count_by, Option, Some, None}
use Rattle.c_ast.specs.RawTree as tree
use Rattle.c_ast.specs.RawTree.{RawExpression, RawCondition, RawDeclared, RawStatements, RawFunction}
use Rattle.c_tokens.specs.declared.kind.Kind.{Kind}
use Rattle.c_tokens.specs.declared.kind.Kind.TheVariants as k
use Rattle.c_tokens.specs.declared.token.Token.{Token}
use Rattle.c_reader.specs.Expressions.{expression_depth}

-- the depth of an expression, or 0 where there is none
abbrev pub optional_depth : Option RawExpression → ℕ
optional_depth None = 0
optional_depth (Some e) = expression_depth e

-- the depth of a condition is that of its expression: its mark adds nothing
abbrev pub condition_depth : Option RawCondition → ℕ
condition_depth None = 0
condition_depth (Some cond) = expression_depth cond.cond

-- the greatest depth of the declarators' expressions
abbrev pub declarators_depth : List RawDeclared → ℕ
declarators_depth [] = 0
declarators_depth (first ∷ others) = max (optional_depth first.initialiser) (declarators_depth others)

-- The greatest depth of the statements of a list. A statement has 1 more than the greatest depth of the expressions and
-- statements that stand directly in it.
abbrev pub statements_depth : RawStatements → ℕ
statements_depth tree.Nil = 0
statements_depth (tree.Declare declarators others) = max (declarators_depth declarators + 1) (statements_depth others)
statements_depth (tree.Assign name line e others) = max (expression_depth e + 1) (statements_depth others)
statements_depth (tree.If cond first others) =
    max (max (expression_depth cond) (statements_depth first) + 1) (statements_depth others)
statements_depth (tree.IfElse cond first second others) =
    max (max (expression_depth cond) (max (statements_depth first) (statements_depth second)) + 1)
    (statements_depth others)
statements_depth (tree.While cond body others) =
    max (max (expression_depth cond.cond) (statements_depth body) + 1) (statements_depth others)
statements_depth (tree.Do body cond others) =
    max (max (statements_depth body) (expression_depth cond.cond) + 1) (statements_depth others)
statements_depth (tree.For start cond step body others) =
    max
    (max (max (statements_depth start) (condition_depth cond))
    (max (statements_depth step) (statements_depth body)) + 1)
    (statements_depth others)
statements_depth (tree.Break line others) = max 1 (statements_depth others)
statements_depth (tree.Continue line others) = max 1 (statements_depth others)
statements_depth (tree.Return e others) = max (expression_depth e + 1) (statements_depth others)
statements_depth (tree.Mark number others) = max 1 (statements_depth others)
statements_depth (tree.Block entries others) = max (statements_depth entries + 1) (statements_depth others)
statements_depth (tree.Empty others) = max 1 (statements_depth others)

-- the greatest depth of the functions' blocks
abbrev pub unit_depth : List RawFunction → ℕ
unit_depth [] = 0
unit_depth (first ∷ others) = max (statements_depth first.body + 1) (unit_depth others)

-- whether the kind is `(` or `{`
abbrev pub opens : Kind → Bool
opens k.OpenRound = true
opens k.OpenCurly = true
opens _ = false

-- whether the kind is `)` or `}`
abbrev pub closes : Kind → Bool
closes k.CloseRound = true
closes k.CloseCurly = true
closes _ = false

-- whether the token is `(` or `{`
abbrev pub is_opening_bracket : Token → Bool
is_opening_bracket token = opens token.kind

-- whether the token is `)` or `}`
abbrev pub is_closing_bracket : Token → Bool
is_closing_bracket token = closes token.kind

-- In the first tokens, this many, the openings exceed the closings by more than 200.
abbrev pub IsDeepAt : List Token → ℕ → Type 0
IsDeepAt tokens count =
    count_by is_closing_bracket (take count tokens) + 200 < count_by is_opening_bracket (take count tokens)

-- In some prefix of the tokens the openings `(` and `{` exceed the closings `)` and `}` by more than 200.
abbrev pub IsDeep : List Token → Type 0
IsDeep tokens = (count : ℕ) × IsDeepAt tokens count
