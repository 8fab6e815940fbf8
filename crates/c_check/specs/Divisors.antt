-- The divisors of `/` and `%` (ISO C11, 6.5.5), which in this profile are constants, and what a division stands for.
use Rattle.std.specs.Prelude.{ℤ, pos, Bool, true, false, not, ◌&&◌, if◌then◌else◌, int_lt, Option, Some, None, option_and_then}
use Rattle.c_ast.specs.declared.expr.UnOp.{UnOp}
use Rattle.c_ast.specs.declared.expr.UnOp.TheVariants as unary
use Rattle.c_ast.specs.declared.expr.BinOp.{BinOp}
use Rattle.c_ast.specs.declared.expr.BinOp.TheVariants as binary
use Rattle.c_ast.specs.RawTree as raw
use Rattle.c_ast.specs.RawTree.{RawExpression}
use Rattle.c_ast.specs.Tree as tree
use Rattle.c_ast.specs.Tree.{Expression}
pub use Rattle.c_check.specs.declared.divisor.Divisor.{Divisor}

-- whether an operator divides: `/` and `%` do
abbrev pub divides : BinOp → Bool
divides binary.Div = true
divides binary.Rem = true
divides _ = false

-- whether an operator gives the quotient: `/` does
abbrev pub is_quotient : BinOp → Bool
is_quotient binary.Div = true
is_quotient _ = false

-- the divisor that a constant is: 0 is none
abbrev pub constant_divisor : ℤ → Option Divisor
constant_divisor z = if int_lt (pos 0) z then Some (record { size = z; negative = false }) else None

-- a divisor behind a unary operator: `+` leaves it, `-` makes it its opposite, and behind `!` stands none (6.5.3.3)
abbrev pub signed : UnOp → Divisor → Option Divisor
signed unary.Plus divisor = Some divisor
signed unary.Minus divisor = Some (record { size = divisor.size; negative = not divisor.negative })
signed unary.Not divisor = None

-- the divisor that an expression is, if it is one: a nonzero constant under any number of signs
abbrev pub divisor_of : RawExpression → Option Divisor
divisor_of (raw.Num z) = constant_divisor z
divisor_of (raw.Named name line) = None
divisor_of (raw.Un op expr) = option_and_then (signed op) (divisor_of expr)
divisor_of (raw.Bin op line left right) = None
divisor_of (raw.Cond test left right) = None

-- The tree of a division: the divisor's size stands in it. With a negative divisor the quotient is the opposite of that
-- by the size, and the remainder is that by the size, since a quotient is rounded toward 0.
abbrev pub divided : BinOp → Expression → Divisor → Expression
divided op expr divisor =
    if is_quotient op && divisor.negative then tree.Un unary.Minus (tree.Bin op expr (tree.Num divisor.size))
    else tree.Bin op expr (tree.Num divisor.size)
