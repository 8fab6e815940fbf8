-- Which tokens spell a statement (ISO C11, 6.8), in this profile.
use Rattle.std.specs.Prelude.{◌≡◌, ◌⊎◌, ℕ, pos, Bool, true, false, List, [], ◌∷◌, ◌++◌, Option, Some, None}
use Rattle.c_ast.specs.declared.expr.BinOp.{BinOp}
use Rattle.c_ast.specs.declared.expr.BinOp.TheVariants as binary
use Rattle.c_ast.specs.RawTree as tree
use Rattle.c_ast.specs.RawTree.{RawExpression, RawCondition, RawStatements}
use Rattle.c_ast.specs.RawView.{raw_joined, raw_one, raw_optional}
use Rattle.c_tokens.specs.declared.kind.Kind.{Kind}
use Rattle.c_tokens.specs.declared.kind.Kind.TheVariants as k
use Rattle.c_tokens.specs.declared.token.Token.{Token}
use Rattle.c_reader.specs.Expressions.{SpellsExpression}
use Rattle.c_reader.specs.Declarations.{Statement, SpellsOptional, SpellsDeclaration}

-- the operation of `+=`, `-=`, `*=`, `/=` or `%=` (6.5.16.2)
abbrev pub update_of : Kind → Option BinOp
update_of k.PlusAssign = Some binary.Add
update_of k.MinusAssign = Some binary.Sub
update_of k.StarAssign = Some binary.Mul
update_of k.SlashAssign = Some binary.Div
update_of k.PercentAssign = Some binary.Rem
update_of _ = None

-- the operation of `++` or `--` (6.5.2.4, 6.5.3.1)
abbrev pub step_of : Kind → Option BinOp
step_of k.PlusPlus = Some binary.Add
step_of k.MinusMinus = Some binary.Sub
step_of _ = None

-- The operation of a variable, on its line, and an expression, with the line of the operator, is assigned to the
-- variable.
abbrev pub updated : List ℕ → ℕ → BinOp → ℕ → RawExpression → Statement
updated name line op operator_line e = tree.Assign name line (tree.Bin op operator_line (tree.Named name line) e)

-- The tokens spell an assignment, without the `;` behind it.
pub data SpellsSimple : Statement → List Token → Type 0 where
  assignment : (name : List ℕ) (e : RawExpression) (word sign : Token) (value : List Token) → word.kind ≡ k.Word name
      → sign.kind ≡ k.Assign → SpellsExpression e value
      → SpellsSimple (tree.Assign name word.line e) (word ∷ sign ∷ value)
  -- `x += e` stands for `x = x + e` with e as one operand.
  update : (name : List ℕ) (op : BinOp) (e : RawExpression) (word sign : Token) (value : List Token)
      → word.kind ≡ k.Word name → update_of sign.kind ≡ Some op → SpellsExpression e value
      → SpellsSimple (updated name word.line op sign.line e) (word ∷ sign ∷ value)
  -- `x++` stands for `x = x + 1`,
  step_behind : (name : List ℕ) (op : BinOp) (word sign : Token) → word.kind ≡ k.Word name
      → step_of sign.kind ≡ Some op
      → SpellsSimple (updated name word.line op sign.line (tree.Num (pos 1))) (word ∷ sign ∷ [])
  -- and so does `++x`.
  step_before : (name : List ℕ) (op : BinOp) (word sign : Token) → word.kind ≡ k.Word name
      → step_of sign.kind ≡ Some op
      → SpellsSimple (updated name word.line op sign.line (tree.Num (pos 1))) (sign ∷ word ∷ [])

-- The tokens spell a mark: `__mark`, and its number in parentheses.
pub data SpellsMark : ℕ → List Token → Type 0 where
  mark : (number : ℕ) (word opening constant closing : Token) → word.kind ≡ k.MarkWord → opening.kind ≡ k.OpenRound
      → constant.kind ≡ k.Constant number → closing.kind ≡ k.CloseRound
      → SpellsMark number (word ∷ opening ∷ constant ∷ closing ∷ [])

-- The tokens spell the condition of a loop. Behind a mark and `&` or `&&`, all that follows is the condition.
pub data SpellsCondition : RawCondition → List Token → Type 0 where
  unmarked : (e : RawExpression) (tokens : List Token) → SpellsExpression e tokens
      → SpellsCondition (record { mark = None; cond = e }) tokens
  marked : (number : ℕ) (e : RawExpression) (sign : Token) (mark behind : List Token) → SpellsMark number mark
      → (sign.kind ≡ k.Amp) ⊎ (sign.kind ≡ k.AmpAmp) → SpellsExpression e behind
      → SpellsCondition (record { mark = Some number; cond = e }) (mark ++ sign ∷ behind)

-- The tokens spell the first part of the head of a `for` (6.8.5.3).
pub data SpellsStart : Statement → List Token → Type 0 where
  simple : (s : Statement) (tokens : List Token) → SpellsSimple s tokens → SpellsStart s tokens
  declaration : (s : Statement) (tokens : List Token) → SpellsDeclaration s tokens → SpellsStart s tokens

-- whether a list of one statement ends in an `if` that has no `else`: one behind it would belong to that `if` (6.8.4.1)
abbrev pub ends_open : RawStatements → Bool
ends_open (tree.If cond first others) = true
ends_open (tree.IfElse cond first second others) = ends_open second
ends_open (tree.While cond body others) = ends_open body
ends_open (tree.For start cond step body others) = ends_open body
ends_open _ = false

mutual
  -- The tokens spell a statement.
  pub data SpellsStatement : Statement → List Token → Type 0 where
    block : (entries : List Statement) (opening closing : Token) (inside : List Token) → opening.kind ≡ k.OpenCurly
        → closing.kind ≡ k.CloseCurly → SpellsEntries entries inside
        → SpellsStatement (tree.Block (raw_joined entries)) (opening ∷ (inside ++ closing ∷ []))
    empty : (semicolon : Token) → semicolon.kind ≡ k.Semicolon → SpellsStatement tree.Empty (semicolon ∷ [])
    simple : (s : Statement) (semicolon : Token) (before : List Token) → semicolon.kind ≡ k.Semicolon
        → SpellsSimple s before → SpellsStatement s (before ++ semicolon ∷ [])
    if_alone : (cond : RawExpression) (first : Statement) (word opening closing : Token) (inside body : List Token)
        → word.kind ≡ k.If → opening.kind ≡ k.OpenRound → closing.kind ≡ k.CloseRound
        → SpellsExpression cond inside → SpellsStatement first body
        → SpellsStatement (tree.If cond (raw_one first)) (word ∷ opening ∷ (inside ++ closing ∷ body))
    -- An `else` belongs to the nearest `if` before it that has none.
    if_else : (cond : RawExpression) (first second : Statement) (word opening closing other : Token)
        (inside body behind : List Token)
        → word.kind ≡ k.If → opening.kind ≡ k.OpenRound → closing.kind ≡ k.CloseRound → other.kind ≡ k.Else
        → SpellsExpression cond inside → SpellsStatement first body → ends_open (raw_one first) ≡ false
        → SpellsStatement second behind
        → SpellsStatement (tree.IfElse cond (raw_one first) (raw_one second))
        (word ∷ opening ∷ (inside ++ closing ∷ (body ++ other ∷ behind)))
    while : (cond : RawCondition) (body : Statement) (word opening closing : Token) (inside behind : List Token)
        → word.kind ≡ k.While → opening.kind ≡ k.OpenRound → closing.kind ≡ k.CloseRound
        → SpellsCondition cond inside → SpellsStatement body behind
        → SpellsStatement (tree.While cond (raw_one body)) (word ∷ opening ∷ (inside ++ closing ∷ behind))
    do_while : (body : Statement) (cond : RawCondition) (first word opening closing semicolon : Token)
        (before inside : List Token)
        → first.kind ≡ k.Do → word.kind ≡ k.While → opening.kind ≡ k.OpenRound → closing.kind ≡ k.CloseRound
        → semicolon.kind ≡ k.Semicolon → SpellsStatement body before → SpellsCondition cond inside
        → SpellsStatement (tree.Do (raw_one body) cond)
        (first ∷ (before ++ word ∷ opening ∷ (inside ++ closing ∷ semicolon ∷ [])))
    for : (start : Option Statement) (cond : Option RawCondition) (step : Option Statement) (body : Statement)
        (word opening first second closing : Token) (before between behind rest_of : List Token)
        → word.kind ≡ k.For → opening.kind ≡ k.OpenRound → first.kind ≡ k.Semicolon → second.kind ≡ k.Semicolon
        → closing.kind ≡ k.CloseRound → SpellsOptional SpellsStart start before
        → SpellsOptional SpellsCondition cond between → SpellsOptional SpellsSimple step behind
        → SpellsStatement body rest_of
        → SpellsStatement (tree.For (raw_optional start) cond (raw_optional step) (raw_one body))
        (word ∷ opening ∷ (before ++ first ∷ (between ++ second ∷ (behind ++ closing ∷ rest_of))))
    break : (word semicolon : Token) → word.kind ≡ k.Break → semicolon.kind ≡ k.Semicolon
        → SpellsStatement (tree.Break word.line) (word ∷ semicolon ∷ [])
    continue : (word semicolon : Token) → word.kind ≡ k.Continue → semicolon.kind ≡ k.Semicolon
        → SpellsStatement (tree.Continue word.line) (word ∷ semicolon ∷ [])
    return : (e : RawExpression) (word semicolon : Token) (value : List Token) → word.kind ≡ k.Return
        → semicolon.kind ≡ k.Semicolon → SpellsExpression e value
        → SpellsStatement (tree.Return e) (word ∷ (value ++ semicolon ∷ []))
    mark : (number : ℕ) (semicolon : Token) (before : List Token) → semicolon.kind ≡ k.Semicolon
        → SpellsMark number before → SpellsStatement (tree.Mark number) (before ++ semicolon ∷ [])

  -- The tokens spell the entries of a block, one after the other (6.8.2).
  pub data SpellsEntries : List Statement → List Token → Type 0 where
    none : SpellsEntries [] []
    declaration : (s : Statement) (others : List Statement) (semicolon : Token) (before behind : List Token)
        → semicolon.kind ≡ k.Semicolon → SpellsDeclaration s before → SpellsEntries others behind
        → SpellsEntries (s ∷ others) (before ++ semicolon ∷ behind)
    statement : (s : Statement) (others : List Statement) (first behind : List Token) → SpellsStatement s first
        → SpellsEntries others behind → SpellsEntries (s ∷ others) (first ++ behind)
