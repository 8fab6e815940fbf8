-- Which statements make the body of a function.
use Rattle.std.specs.Prelude.{◌≡◌, ℕ, ◌+◌, ◌<◌, ◌≤◌, ◌≤ℤ◌, pos, Bool, true, false, ◌==◌, ◌&&◌, not, ◌∷◌, Option, Some, None}
use Rattle.c_ast.specs.Tree.{Expression, Num, Var, Un, Bin, Cond, Statements, Nil, Set, If, Loop, Break, Continue, Return, Mark, Block, Program}
use Rattle.c_ast.specs.Value.{HasDivisor}
use Rattle.c_ast.specs.Step.{Scope, is_in, first_variables}

-- The expression reads variables in scope alone, each of its constants is at least 0, and each of its divisors is a
-- constant of at least 1.
abbrev pub IsOver : Scope → Expression → Type 0
IsOver scope (Num z) = pos 0 ≤ℤ z
IsOver scope (Var x) = is_in scope x ≡ true
IsOver scope (Un op e) = IsOver scope e
IsOver scope (Bin op e f) = IsOver scope e × IsOver scope f × HasDivisor op f
IsOver scope (Cond c e f) = IsOver scope c × IsOver scope e × IsOver scope f

-- A variable in scope takes the value of an expression; one that is not is declared, and becomes 0.
abbrev pub IsSet : Bool → Scope → Expression → Type 0
IsSet true scope e = IsOver scope e
IsSet false scope e = e ≡ Num (pos 0)

-- The statements begin with a mark, which may stand within blocks.
abbrev pub BeginsWithMark : Statements → Type 0
BeginsWithMark (Mark mark others) = Unit {0}
BeginsWithMark (Block a others) = BeginsWithMark a
BeginsWithMark _ = ⊥

-- Each turn of the loop passes a mark: its own, or one at the front of its body.
abbrev pub PassesMark : Option ℕ → Statements → Type 0
PassesMark (Some mark) body = Unit {0}
PassesMark None body = BeginsWithMark body

-- The statements set variables, and do nothing else.
abbrev pub HoldsSets : Statements → Type 0
HoldsSets Nil = Unit {0}
HoldsSets (Set x e others) = HoldsSets others
HoldsSets _ = ⊥

-- The statements stand where these variables are in scope, and in the body of a loop or not. There are n variables. A
-- declaration is in scope to the end of its list; `break` and `continue` stand in loops; a loop's step sets variables.
abbrev pub AreFormed : ℕ → Scope → Bool → Statements → Type 0
AreFormed n scope in_loop Nil = Unit {0}
AreFormed n scope in_loop (Set x e others) =
    (x < n) × IsSet (is_in scope x) scope e × AreFormed n (x ∷ scope) in_loop others
AreFormed n scope in_loop (If e a b others) =
    IsOver scope e × AreFormed n scope in_loop a × AreFormed n scope in_loop b × AreFormed n scope in_loop others
AreFormed n scope in_loop (Loop mark cond body step test_first others) =
    IsOver scope cond × AreFormed n scope true body × AreFormed n scope in_loop step × HoldsSets step
    × PassesMark mark body × AreFormed n scope in_loop others
AreFormed n scope in_loop (Break others) = (in_loop ≡ true) × AreFormed n scope in_loop others
AreFormed n scope in_loop (Continue others) = (in_loop ≡ true) × AreFormed n scope in_loop others
AreFormed n scope in_loop (Return e others) = IsOver scope e × AreFormed n scope in_loop others
AreFormed n scope in_loop (Mark mark others) = AreFormed n scope in_loop others
AreFormed n scope in_loop (Block a others) = AreFormed n scope in_loop a × AreFormed n scope in_loop others

-- How often a test holds, 0 or 1.
abbrev pub one_if : Bool → ℕ
one_if true = 1
one_if false = 0

-- How often the statements declare the variable.
abbrev pub declarations : ℕ → Scope → Statements → ℕ
declarations x scope Nil = 0
declarations x scope (Set y e others) = one_if (y == x && not (is_in scope y)) + declarations x (y ∷ scope) others
declarations x scope (If e a b others) = declarations x scope a + (declarations x scope b + declarations x scope others)
declarations x scope (Loop mark cond body step test_first others) =
    declarations x scope body + (declarations x scope step + declarations x scope others)
declarations x scope (Break others) = declarations x scope others
declarations x scope (Continue others) = declarations x scope others
declarations x scope (Return e others) = declarations x scope others
declarations x scope (Mark mark others) = declarations x scope others
declarations x scope (Block a others) = declarations x scope a + declarations x scope others

-- Whether a loop's own mark, if it has one, is this mark.
abbrev pub is_mark : Option ℕ → ℕ → Bool
is_mark None mark = false
is_mark (Some own) mark = own == mark

-- How often the mark stands in the statements.
abbrev pub marks : ℕ → Statements → ℕ
marks mark Nil = 0
marks mark (Set x e others) = marks mark others
marks mark (If e a b others) = marks mark a + (marks mark b + marks mark others)
marks mark (Loop own cond body step test_first others) =
    one_if (is_mark own mark) + (marks mark body + (marks mark step + marks mark others))
marks mark (Break others) = marks mark others
marks mark (Continue others) = marks mark others
marks mark (Return e others) = marks mark others
marks mark (Mark own others) = one_if (own == mark) + marks mark others
marks mark (Block a others) = marks mark a + marks mark others

-- The parameters come first; each variable is declared once at most, so that all that uses it stands behind that
-- declaration, in its list; each mark stands once at most.
pub record IsProgram (f : Program) : Type 0 where
  pub few : f.vars ≤ 64
  pub parameters : f.params ≤ f.vars
  pub formed : AreFormed f.vars (first_variables f.params) false f.body
  pub declared_once : (x : ℕ) → declarations x (first_variables f.params) f.body ≤ 1
  pub marked_once : (mark : ℕ) → marks mark f.body ≤ 1
