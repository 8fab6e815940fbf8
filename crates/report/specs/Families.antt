-- How families are told: each node with its atoms, whose sums are over labels of the values there.
use Rattle.std.specs.Prelude.{ℕ, zero, suc, ℤ, pos, negsuc, unsigned_abs, Bool, true, false, ◌==◌, ◌&&◌, ◌||◌, not, if◌then◌else◌, List, [], ◌∷◌, ◌++◌, length, map, flat_map, slice_get, Option, Some, None, bytes_eq, codes, decimal}
use Rattle.std.specs.Fmt.{signed_decimal}
use Rattle.c_ast.specs.declared.place.Place.{Place}
use Rattle.c_ast.specs.declared.place.Place.TheVariants as place
use Rattle.c_ast.specs.declared.place.Side.{Side}
use Rattle.c_ast.specs.declared.place.Side.TheVariants.{A, B, Pre}
use Rattle.c_ast.specs.declared.func.Var.{Var}
use Rattle.c_ast.specs.Step.{Scope, first_variables}
use Rattle.c_ast.specs.Scope.{set_before, variables_in}
use Rattle.c_ast.specs.View.{statements_of}
use Rattle.c_ast.specs.Function.{Function}
use Rattle.c_ast.specs.Comparison.{Comparison}
use Rattle.horn_clauses.specs.declared.atom.Rel.{Rel}
use Rattle.horn_clauses.specs.declared.atom.Rel.TheVariants.{Eq, AtLeast}
use Rattle.horn_clauses.specs.declared.atom.Atom.{Atom}
use Rattle.horn_clauses.specs.declared.atom.Atom.TheVariants.{False, Linear}
use Rattle.horn_clauses.specs.declared.node.Node.{Node}
use Rattle.horn_clauses.specs.declared.family.Family.{Family}

-- ---- places and nodes

-- The entry and the exit are words, and a mark is its number.
abbrev pub place_text : Place → List ℕ
place_text place.Entry = codes "entry"
place_text (place.Mark mark) = decimal mark
place_text place.Exit = codes "exit"

-- The two places with a space between.
abbrev pub node_text : Node → List ℕ
node_text node = place_text node.0 ++ (codes " " ++ place_text node.1)

-- ---- the values at a place

-- What is set in front of a mark that was found; nothing where it was not.
abbrev pub set_or_none : Option Scope → Scope
set_or_none None = []
set_or_none (Some scope) = scope

-- What is set in front of the place, but for the parameters.
abbrev pub set_in_front : Function → Place → Scope
set_in_front f place.Entry = []
set_in_front f (place.Mark mark) = set_or_none (set_before mark (statements_of f.body))
set_in_front f place.Exit = []

-- The variables in scope at the place, by rising number.
abbrev pub variables_at : Function → Place → List ℕ
variables_at f place = variables_in (set_in_front f place ++ first_variables f.params) (length f.vars)

-- ---- labels

-- The name of the variable, where there is one.
abbrev pub name_in : Option Var → List ℕ
name_in None = []
name_in (Some var) = var.name

-- The name of the variable with this number.
abbrev pub name_of : List Var → ℕ → List ℕ
name_of vars x = name_in (slice_get vars x)

-- Whether one of these variables has the name and is not number x. The first of them has the given number.
abbrev pub has_namesake : ℕ → List ℕ → ℕ → List Var → Bool
has_namesake x name number [] = false
has_namesake x name number (var ∷ vars) =
    (not (number == x) && bytes_eq var.name name) || has_namesake x name (suc number) vars

-- The sign `#` and the number, where another variable has the name.
abbrev pub number_text : Bool → ℕ → List ℕ
number_text true x = codes "#" ++ decimal x
number_text false x = []

-- The variable with this number: its name, and its number where the name does not tell it.
abbrev pub variable_text : List Var → ℕ → List ℕ
variable_text vars x = name_of vars x ++ number_text (has_namesake x (name_of vars x) 0 vars) x

-- The word of a side, or of the condition.
abbrev pub side_word : Side → List ℕ
side_word A = codes "A"
side_word B = codes "B"
side_word Pre = codes "pre"

-- The variable of that side's function.
abbrev pub label : Side → List Var → ℕ → List ℕ
label side vars x = side_word side ++ (codes "." ++ variable_text vars x)

-- The labels of the values at the place: one for each variable in scope, and one for the result at the exit.
abbrev pub labels_at : Side → Function → Place → List (List ℕ)
labels_at side f place.Entry = map (label side f.vars) (variables_at f place.Entry)
labels_at side f (place.Mark mark) = map (label side f.vars) (variables_at f (place.Mark mark))
labels_at side f place.Exit = (side_word side ++ codes ".result") ∷ []

-- The labels of the values at the node, side A's first.
abbrev pub node_labels : Comparison → Node → List (List ℕ)
node_labels subject node = labels_at A subject.first node.0 ++ labels_at B subject.second node.1

-- ---- sums

-- A number that is not 0, times what the label names.
pub record Term : Type 0 where
  pub negative : Bool
  pub size : ℕ
  pub label : List ℕ

-- Whether the number is below 0.
abbrev pub is_below_zero : ℤ → Bool
is_below_zero (pos n) = false
is_below_zero (negsuc n) = true

-- Whether the number is 0.
abbrev pub is_zero : ℤ → Bool
is_zero (pos zero) = true
is_zero (pos (suc n)) = false
is_zero (negsuc n) = false

-- The term of a coefficient and a label.
abbrev pub term_of : ℤ → List ℕ → Term
term_of coef label = record { negative = is_below_zero coef; size = unsigned_abs coef; label = label }

-- The terms of the labels whose coefficients are not 0, in their order.
abbrev pub terms_of : List ℤ → List (List ℕ) → List Term
terms_of [] labels = []
terms_of (coef ∷ coefs) [] = []
terms_of (coef ∷ coefs) (label ∷ labels) =
    if is_zero coef then terms_of coefs labels else term_of coef label ∷ terms_of coefs labels

-- The size with a space, where it is not 1.
abbrev pub size_text : Bool → ℕ → List ℕ
size_text true size = []
size_text false size = decimal size ++ codes " "

-- The size, where it is not 1, and the label.
abbrev pub sized_text : ℕ → List ℕ → List ℕ
sized_text size label = size_text (size == 1) size ++ label

-- The sign of the first term.
abbrev pub first_sign : Bool → List ℕ
first_sign true = codes "-"
first_sign false = []

-- The sign of a later term.
abbrev pub later_sign : Bool → List ℕ
later_sign true = codes " - "
later_sign false = codes " + "

-- The first term of a sum.
abbrev pub first_text : Term → List ℕ
first_text term = first_sign term.negative ++ sized_text term.size term.label

-- A later term of a sum.
abbrev pub later_text : Term → List ℕ
later_text term = later_sign term.negative ++ sized_text term.size term.label

-- The terms, one behind the other.
abbrev pub sum_text : List Term → List ℕ
sum_text [] = []
sum_text (term ∷ terms) = first_text term ++ flat_map later_text terms

-- A term that stands behind others, or is the first.
abbrev pub term_text : Bool → Term → List ℕ
term_text true term = later_text term
term_text false term = first_text term

-- Terms that stand behind others, or are the first.
abbrev pub terms_text : Bool → List Term → List ℕ
terms_text true terms = flat_map later_text terms
terms_text false terms = sum_text terms

-- ---- atoms and families

-- How the sum stands to the constant.
abbrev pub rel_text : Rel → List ℕ
rel_text Eq = codes " = "
rel_text AtLeast = codes " >= "

-- What stands behind the sum of an atom.
abbrev pub end_text : Rel → ℤ → List ℕ
end_text rel constant = rel_text rel ++ (signed_decimal constant ++ codes "\n")

-- The line of an atom over these labels.
abbrev pub atom_text : List (List ℕ) → Atom → List ℕ
atom_text labels False = codes "  false\n"
atom_text labels (Linear coefs constant rel) =
    codes "  " ++ (sum_text (terms_of coefs labels) ++ end_text rel constant)

-- The line of the node, and then those of its atoms.
abbrev pub entry_text : Comparison → Node × List Atom → List ℕ
entry_text subject entry =
    codes "node " ++ (node_text entry.0 ++ (codes "\n" ++ flat_map (atom_text (node_labels subject entry.0)) entry.1))

-- The nodes, each with its atoms.
abbrev pub family_text : Comparison → Family → List ℕ
family_text subject family = flat_map (entry_text subject) family.nodes
