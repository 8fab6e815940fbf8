-- Values of runs: those below 2^100 in size fit.
use Rattle.std.specs.Prelude.{◌≡◌, ◌^◌, Bool, true, false, ◌&&◌, nat_lt, List, Option, Some, None, ℤ, unsigned_abs}
use Rattle.c_ast.specs.Tree.{Expression, Num, Var, Un, Bin, Cond}
use Rattle.c_ast.specs.Value.{eval}

-- Whether the value is below 2^100 in size.
abbrev pub fits_run : ℤ → Bool
fits_run z = nat_lt (unsigned_abs z) (2 ^ 100)

-- The value is below 2^100 in size.
abbrev pub FitsRun : ℤ → Type 0
FitsRun z = fits_run z ≡ true

-- Whether each part of the expression has a value below 2^100 in size.
abbrev pub parts_fit_run : Expression → List ℤ → Bool
parts_fit_run (Num z) environment = fits_run (eval (Num z) environment)
parts_fit_run (Var x) environment = fits_run (eval (Var x) environment)
parts_fit_run (Un op e) environment = parts_fit_run e environment && fits_run (eval (Un op e) environment)
parts_fit_run (Bin op e f) environment =
    parts_fit_run e environment && (parts_fit_run f environment && fits_run (eval (Bin op e f) environment))
parts_fit_run (Cond c e f) environment =
    parts_fit_run c environment
    && (parts_fit_run e environment && (parts_fit_run f environment && fits_run (eval (Cond c e f) environment)))

-- The value, where the test holds.
abbrev pub only_if : Bool → ℤ → Option ℤ
only_if true z = Some z
only_if false z = None

-- The value, where that of each part is below 2^100 in size.
abbrev pub fitting_value : Expression → List ℤ → Option ℤ
fitting_value e environment = only_if (parts_fit_run e environment) (eval e environment)

-- Whether each part of what a step evaluates, if it evaluates something, has a value below 2^100 in size.
abbrev pub evaluates_fitting : Option Expression → List ℤ → Bool
evaluates_fitting None env = true
evaluates_fitting (Some e) env = parts_fit_run e env
