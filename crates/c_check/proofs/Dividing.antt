-- Divisors: each is at least 1 in size, its expression says nothing, and what it divides is well formed.
use Rattle.std.proofs.Common.{◌≡◌, Bool, true, false, [], Option, Some, None, refl, subst, sym, ap, ◌∙◌, arith, pos, ℤ, ◌≤ℤ◌}
use Rattle.std.specs.Prelude.{◌&&◌, if◌then◌else◌, int_lt, option_and_then}
use Rattle.std.proofs.lemmas.Bool.{false≢true}
use Rattle.std.proofs.lemmas.Int.{ints}
use Rattle.c_ast.specs.declared.expr.UnOp.{UnOp}
use Rattle.c_ast.specs.declared.expr.UnOp.TheVariants as unary
use Rattle.c_ast.specs.declared.expr.BinOp.{BinOp}
use Rattle.c_ast.specs.declared.expr.BinOp.TheVariants as binary
use Rattle.c_ast.specs.RawTree as raw
use Rattle.c_ast.specs.RawTree.{RawExpression}
use Rattle.c_ast.specs.Tree as tree
use Rattle.c_ast.specs.Tree.{Expression}
use Rattle.c_ast.specs.Step.{Scope}
use Rattle.c_ast.specs.Formed.{IsOver}
use Rattle.c_ast.specs.Value.{HasDivisor}
use Rattle.c_check.specs.declared.divisor.Divisor.{Divisor}
use Rattle.c_check.specs.Divisors.{divides, is_quotient, constant_divisor, signed, divisor_of, divided}
use Rattle.c_check.specs.Occurrences.{Names, in_expression}

-- The divisor, where there is one, is at least 1 in size.
abbrev HasSize : Option Divisor → Type 0
HasSize None = Unit {0}
HasSize (Some divisor) = pos 1 ≤ℤ divisor.size

constant_size : (z : ℤ) → HasSize (constant_divisor z)
constant_size z = by (int_lt (pos 0) z) refl
  where
    by : (holds : Bool) → int_lt (pos 0) z ≡ holds → HasSize (if holds then Some (record { size = z; negative = false }) else None)
    by true less = search (arith, ints, less)
    by false less = tt

signed_size : (op : UnOp) (found : Option Divisor) → HasSize found → HasSize (option_and_then (signed op) found)
signed_size op None size = tt
signed_size unary.Plus (Some divisor) size = size
signed_size unary.Minus (Some divisor) size = size
signed_size unary.Not (Some divisor) size = tt

has_size : (expr : RawExpression) → HasSize (divisor_of expr)
has_size (raw.Num z) = constant_size z
has_size (raw.Named name line) = tt
has_size (raw.Un op expr) = signed_size op (divisor_of expr) (has_size expr)
has_size (raw.Bin op line left right) = tt
has_size (raw.Cond test left right) = tt

pub size_of : (expr : RawExpression) (divisor : Divisor) → divisor_of expr ≡ Some divisor → pos 1 ≤ℤ divisor.size
size_of expr divisor found = subst HasSize found (has_size expr)

-- a divisor uses no name and divides by none
pub in_divisor : (names : Names) (expr : RawExpression) (divisor : Divisor) → divisor_of expr ≡ Some divisor → in_expression names expr ≡ []
in_divisor names (raw.Num z) divisor found = refl
in_divisor names (raw.Named name line) divisor found = absurd (none_some found)
  where
    none_some : None ≡ Some divisor → ⊥
    none_some same = cc
in_divisor names (raw.Un op expr) divisor found = by (in_divisor names expr) (divisor_of expr) refl
  where
    none_some : None ≡ Some divisor → ⊥
    none_some same = cc

    by : ((inner : Divisor) → divisor_of expr ≡ Some inner → in_expression names expr ≡ []) → (inner : Option Divisor) → divisor_of expr ≡ inner
        → in_expression names expr ≡ []
    by nothing None is = absurd (none_some (sym (ap (option_and_then (signed op)) is) ∙ found))
    by nothing (Some inner) is = nothing inner is
in_divisor names (raw.Bin op line left right) divisor found = absurd (none_some found)
  where
    none_some : None ≡ Some divisor → ⊥
    none_some same = cc
in_divisor names (raw.Cond test left right) divisor found = absurd (none_some found)
  where
    none_some : None ≡ Some divisor → ⊥
    none_some same = cc

-- ---- what stands at the right of an operator

pub no_divisor : (op : BinOp) (right : Expression) → divides op ≡ false → HasDivisor op right
no_divisor binary.Div right other = absurd (false≢true (sym other))
no_divisor binary.Rem right other = absurd (false≢true (sym other))
no_divisor _ right other = tt

has_divisor : (op : BinOp) (size : ℤ) → pos 1 ≤ℤ size → HasDivisor op (tree.Num size)
has_divisor binary.Div size large = large
has_divisor binary.Rem size large = large
has_divisor _ size large = tt

over_either : (known : Scope) (holds : Bool) (one two : Expression) → IsOver known one → IsOver known two → IsOver known (if holds then one else two)
over_either known true one two first second = first
over_either known false one two first second = second

pub over_divided : (op : BinOp) (left : Expression) (divisor : Divisor) (known : Scope) → IsOver known left → pos 1 ≤ℤ divisor.size
    → IsOver known (divided op left divisor)
over_divided op left divisor known over large =
    let by_size : IsOver known (tree.Bin op left (tree.Num divisor.size)) = (over, search (arith, ints, large), has_divisor op divisor.size large) in
    over_either known (is_quotient op && divisor.negative) (tree.Un unary.Minus (tree.Bin op left (tree.Num divisor.size)))
    (tree.Bin op left (tree.Num divisor.size))
    by_size by_size
