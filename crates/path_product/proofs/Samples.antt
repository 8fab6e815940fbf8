-- Worked cases of the definitions.
use Rattle.std.specs.Prelude.{◌≡◌, ℕ, ℤ, pos, negsuc, false, List, [], ◌∷◌, length, Result, Ok, Err}
use Rattle.std.proofs.Common.{refl}
use Rattle.alignment.specs.Counts as counts
use Rattle.c_ast.specs.declared.place.Place.{Place}
use Rattle.c_ast.specs.declared.place.Place.TheVariants as place
use Rattle.lin_terms.specs.declared.form.Form.{Form}
use Rattle.lin_terms.specs.declared.row.Row.{Row}
use Rattle.lin_terms.specs.Divisor.{gcd_steps}
use Rattle.horn_clauses.specs.declared.node.Node.{Node}
use Rattle.horn_clauses.specs.declared.clause.Product.{Product}
use Rattle.horn_clauses.specs.Node.{node}
use Rattle.sym_paths.specs.declared.case.Case.{Case}
use Rattle.path_product.specs.declared.starts.Start.{Start}
use Rattle.path_product.specs.declared.limit.ProductLimit.{ProductLimit}
use Rattle.path_product.specs.Clauses.{no_rows}
use Rattle.path_product.specs.Product.{product_over}

abbrev form : List ℤ → ℤ → Form
form coefs constant = record { coefs = coefs; constant = constant }

abbrev at_least : List ℤ → ℤ → Row
at_least coefs constant = record { coefs = coefs; constant = constant; equality = false }

abbrev case : List Row → Place → List Form → Case
case rows to after = record { rows = rows; to = to; after = after }

-- the loop `while (__mark(42) & (i < n)) { s = s + i; i = i + 1; } return s;` over n, i and s, with `i` at first
abbrev loop_from : ℤ → List Start
loop_from i =
    record {
      place = place.Entry;
      width = 1;
      cases = case [] (place.Mark 42) (form (pos 1 ∷ []) (pos 0) ∷ form (pos 0 ∷ []) i ∷ form (pos 0 ∷ []) (pos 0) ∷ []) ∷ [];
    } ∷ record {
      place = place.Mark 42;
      width = 3;
      cases =
          case (at_least (pos 1 ∷ negsuc 0 ∷ pos 0 ∷ []) (negsuc 0) ∷ []) (place.Mark 42)
          (form (pos 1 ∷ pos 0 ∷ pos 0 ∷ []) (pos 0) ∷ form (pos 0 ∷ pos 1 ∷ pos 0 ∷ []) (pos 1) ∷ form (pos 0 ∷ pos 1 ∷ pos 1 ∷ []) (pos 0) ∷ [])
          ∷ case (at_least (negsuc 0 ∷ pos 1 ∷ pos 0 ∷ []) (pos 0) ∷ []) place.Exit (form (pos 0 ∷ pos 0 ∷ pos 1 ∷ []) (pos 0) ∷ []) ∷ [];
    } ∷ []

-- the nodes, and how many clauses there are
abbrev shape : Result Product ProductLimit → List Node × ℕ
shape (Ok product) = (product.nodes, length product.clauses)
shape (Err limit) = ([], 0)

loops_side_by_side : shape (product_over (loop_from (pos 0)) (loop_from (pos 1)) no_rows 1)
    ≡ (
      node place.Entry place.Entry ∷ node (place.Mark 42) (place.Mark 42) ∷ node (place.Mark 42) place.Exit
          ∷ node place.Exit (place.Mark 42) ∷ node place.Exit place.Exit ∷ [],
      9,
    )
unfolding counts.table
loops_side_by_side = refl

-- side A takes two segments at the marks, or one to the exit: three cases with two of side B
two_turns_beside_one : shape (product_over (loop_from (pos 0)) (loop_from (pos 0)) no_rows 7)
    ≡ (
      node place.Entry place.Entry ∷ node (place.Mark 42) (place.Mark 42) ∷ node (place.Mark 42) place.Exit
          ∷ node place.Exit (place.Mark 42) ∷ node place.Exit place.Exit ∷ [],
      11,
    )
unfolding counts.table gcd_steps
two_turns_beside_one = refl
