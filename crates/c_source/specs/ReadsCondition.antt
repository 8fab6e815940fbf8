-- Which condition on a function's inputs a text is read as, and why it is read as none.
use Rattle.std.specs.Prelude.{◌≡◌, ◌≢◌, ℕ, ◌<◌, ◌≤◌, List}
use Rattle.c_ast.specs.declared.expr.Expr.{Expr}
use Rattle.c_ast.specs.Function.{Function}
use Rattle.c_ast.specs.RawTree.{RawExpression}
use Rattle.c_ast.specs.View.{expression_of}
use Rattle.c_tokens.specs.declared.token.Token.{Token}
use Rattle.c_tokens.specs.Tokens.{AreTokens, IsFirstFault}
use Rattle.c_reader.specs.Depth.{IsDeep}
use Rattle.c_reader.specs.Expressions.{SpellsExpression, expression_depth}
use Rattle.c_check.specs.declared.fault.CheckFault.{CheckFault}
use Rattle.c_check.specs.declared.fault.CheckFault.TheVariants as check
use Rattle.c_check.specs.Condition.{IsCheckedCondition, IsConditionFault}
use Rattle.c_source.specs.declared.fault.TextFault.{TextFault}
use Rattle.c_source.specs.declared.fault.TextFault.TheVariants as refusal
use Rattle.c_source.specs.TextFaults.{IsNoWant}
use Rattle.c_source.specs.Unread.{IsUnread}

-- The tokens of the text spell this expression: no more than 200 brackets are open at once, and the tree has at most
-- 400 levels.
pub record ParsesExpression (text : List ℕ) (expr : RawExpression) : Type 0 where
  pub tokens : List Token
  pub are : AreTokens text tokens
  pub nested : ¬ IsDeep tokens
  pub spells : SpellsExpression expr tokens
  pub shallow : expression_depth expr ≤ 400

-- The text is read as the condition: its tokens spell one expression, which resolves to this one over the parameters.
pub record ReadsCondition (func : Function) (text : List ℕ) (made : Expr) : Type 0 where
  pub expr : RawExpression
  pub parses : ParsesExpression text expr
  pub checks : IsCheckedCondition func expr (expression_of made)

-- The tokens spell no expression with a tree of at most 400 levels.
abbrev pub SpellNoExpression : List Token → Type 0
SpellNoExpression tokens = (expr : RawExpression) → SpellsExpression expr tokens → 400 < expression_depth expr

-- The expression of the text is refused for this reason.
pub record IsUncheckedCondition (func : Function) (text : List ℕ) (fault : CheckFault) : Type 0 where
  pub expr : RawExpression
  pub parses : ParsesExpression text expr
  pub reason : IsConditionFault func expr fault
  pub no_want : fault ≢ check.Memory

-- This is why the text is read as no condition: its first faulty place, or else what is wrong with its tokens, or else
-- the first rule that is broken.
abbrev pub IsConditionRefusal : Function → List ℕ → TextFault → Type 0
IsConditionRefusal func text (refusal.Token fault) = IsFirstFault text fault
IsConditionRefusal func text (refusal.Reader fault) = IsUnread SpellNoExpression text fault
IsConditionRefusal func text (refusal.Check fault) = IsUncheckedCondition func text fault
IsConditionRefusal func text refusal.Memory = ⊥

-- The fault is a refusal, or memory ran out.
abbrev pub IsConditionTextFault : Function → List ℕ → TextFault → Type 0
IsConditionTextFault func text refusal.Memory = Unit {0}
IsConditionTextFault func text fault = IsConditionRefusal func text fault

-- ---- laws

-- A text is read as one condition at most.
abbrev pub HasOneCondition : Type 0
HasOneCondition =
    (func : Function) (text : List ℕ) (one other : Expr) → ReadsCondition func text one → ReadsCondition func text other
    → one ≡ other

-- A text is refused as a condition for one reason at most.
abbrev pub HasOneConditionRefusal : Type 0
HasOneConditionRefusal =
    (func : Function) (text : List ℕ) (one other : TextFault) → IsConditionRefusal func text one
    → IsConditionRefusal func text other → one ≡ other

-- A text that is read as a condition is not refused.
abbrev pub ReadConditionIsNotRefused : Type 0
ReadConditionIsNotRefused =
    (func : Function) (text : List ℕ) (made : Expr) (fault : TextFault) → ReadsCondition func text made
    → ¬ IsConditionRefusal func text fault

-- A refusal is not want of memory.
abbrev pub ConditionRefusalIsNoWant : Type 0
ConditionRefusalIsNoWant =
    (func : Function) (text : List ℕ) (fault : TextFault) → IsConditionRefusal func text fault → IsNoWant fault
