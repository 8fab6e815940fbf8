-- The constants of bounds: -1, 0, 1, and the ten least others of the expressions of two functions.
use Rattle.std.specs.Prelude.{◌≡◌, Bool, if◌then◌else◌, ◌&&◌, int_lt, List, [], ◌∷◌, ◌++◌, take, filter, ℤ, pos, negsuc}
use Rattle.c_ast.specs.Tree.{Expression, Num, Var, Un, Bin, Cond, Statements, Nil, Set, If, Loop, Break, Continue, Return, Mark, Block, Program}
use Rattle.lin_terms.specs.Bounds.{fits_form}

-- The constants of an expression, as they stand in it. A divisor is one.
abbrev pub constants_of : Expression → List ℤ
constants_of (Num z) = z ∷ []
constants_of (Var x) = []
constants_of (Un op e) = constants_of e
constants_of (Bin op e f) = constants_of e ++ constants_of f
constants_of (Cond c e f) = constants_of c ++ (constants_of e ++ constants_of f)

-- Those of the statements' expressions. The number of a mark is none.
abbrev pub constants_in : Statements → List ℤ
constants_in Nil = []
constants_in (Set x e others) = constants_of e ++ constants_in others
constants_in (If e a b others) = constants_of e ++ (constants_in a ++ (constants_in b ++ constants_in others))
constants_in (Loop mark cond body step test_first others) =
    constants_of cond ++ (constants_in body ++ (constants_in step ++ constants_in others))
constants_in (Break others) = constants_in others
constants_in (Continue others) = constants_in others
constants_in (Return e others) = constants_of e ++ constants_in others
constants_in (Mark mark others) = constants_in others
constants_in (Block a others) = constants_in a ++ constants_in others

-- A rising list with the number put in its place, where it is not there.
abbrev pub with_constant : ℤ → List ℤ → List ℤ
with_constant z [] = z ∷ []
with_constant z (y ∷ ys) =
    if int_lt z y then z ∷ y ∷ ys else (if int_lt y z then y ∷ with_constant z ys else y ∷ ys)

-- The numbers by rising size, each once.
abbrev pub rising : List ℤ → List ℤ
rising [] = []
rising (z ∷ zs) = with_constant z (rising zs)

-- Whether the constant is above 1, and below 2^50.
abbrev pub is_further : ℤ → Bool
is_further z = int_lt (pos 1) z && fits_form z

-- Of these constants the ten least that are above 1 and below 2^50, rising.
abbrev pub ten_least : List ℤ → List ℤ
ten_least constants = take 10 (rising (filter is_further constants))

-- The constants of bounds, rising.
abbrev pub bound_constants : Program → Program → List ℤ
bound_constants f g = negsuc 0 ∷ pos 0 ∷ pos 1 ∷ ten_least (constants_in f.body ++ constants_in g.body)

-- ---- constants in front of others

-- Where the first list has the ten least of some constants, the second has those of these constants and of them.
pub record KeepsLeast (front old new : List ℤ) : Type 0 where
  pub by : (behind : List ℤ) → old ≡ ten_least behind → new ≡ ten_least (front ++ behind)

-- The same of the constants that a statement puts in front of those of others.
pub record KeepsLeastBefore (front : Statements → Statements) (old new : List ℤ) : Type 0 where
  pub by : (others : Statements) (behind : List ℤ) → old ≡ ten_least (constants_in others ++ behind)
      → new ≡ ten_least (constants_in (front others) ++ behind)
