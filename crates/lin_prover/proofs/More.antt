-- Rows that are refuted stay refuted among more rows, and behind columns of zeros.
use Rattle.std.proofs.Common.{◌≡◌, ℕ, zero, suc, ◌<◌, Bool, true, false, List, [], ◌∷◌, ◌++◌, map, replicate, arith, refl, sym, ◌∙◌, ap, subst, length, get_or, slice_get, All, Some}
use Rattle.std.specs.Prelude.{ℤ, pos, negsuc, ◌+ℤ◌, ◌*ℤ◌, ◌≤ℤ◌}
use Rattle.std.specs.Bool.{OnFalse}
use Rattle.std.specs.List.{AllZip, AllByRecursion}
use Rattle.std.proofs.lemmas.Int.{ints}
use Rattle.std.proofs.lemmas.List.{get_or-map}
use Rattle.std.proofs.lemmas.List.Elements.{recursion_from_All}
use Rattle.std.proofs.lemmas.Option.{slice_get_within, get_or_from_slice_get}
use Rattle.lin_terms.specs.declared.row.Row.{Row}
use Rattle.lin_terms.specs.Vectors.{dot, plus, only_at}
use Rattle.lin_terms.proofs.Laws.{nonneg_add, dot-plus, dot-only_at, dot-replicate}
use Rattle.farkas_check.specs.Refutes.{column, MayMultiply, IsRefutable}
use Rattle.farkas_check.specs.Laws.{AreAlike}
use Rattle.lin_prover.specs.Laws.{StandsAmong, behind_zeros}

-- ---- among more rows

-- the multipliers of rows that stand among more rows: each at its row's place, and added up where rows share a place
abbrev gathered : (more rows : List Row) → AllByRecursion (StandsAmong more) rows → List ℤ → List ℤ
gathered more [] stand multipliers = replicate (length more) (pos 0)
gathered more (row ∷ rows) stand [] = replicate (length more) (pos 0)
gathered more (row ∷ rows) stand (m ∷ multipliers) =
    plus (only_at (length more) stand.0.place m) (gathered more rows stand.1 multipliers)

dot-gathered : (more rows : List Row) (stand : AllByRecursion (StandsAmong more) rows) (multipliers : List ℤ) (g : Row → ℤ)
    → ((row other : Row) → AreAlike row other → g row ≡ g other)
    → dot (gathered more rows stand multipliers) (map g more) ≡ dot multipliers (map g rows)
dot-gathered more [] stand [] g same = dot-replicate (length more) (map g more)
dot-gathered more [] stand (m ∷ multipliers) g same = dot-replicate (length more) (map g more)
dot-gathered more (row ∷ rows) stand [] g same = dot-replicate (length more) (map g more)
dot-gathered more (row ∷ rows) stand (m ∷ multipliers) g same =
    let place : ℕ = stand.0.place in
    let inside : place < length more = slice_get_within more place stand.0.found stand.0.stands in
    let entry = get_or-map g more place row (pos 0) inside
    ∙ ap g (get_or_from_slice_get more place stand.0.found row stand.0.stands)
    ∙ sym (same row stand.0.found stand.0.alike) in
    let first = dot-only_at (length more) place m (map g more) inside ∙ ap (λ t. m *ℤ t) entry in
    dot-plus (only_at (length more) place m) (gathered more rows stand.1 multipliers) (map g more)
    ∙ ap (λ t. t +ℤ dot (gathered more rows stand.1 multipliers) (map g more)) first
    ∙ ap (λ t. (m *ℤ g row) +ℤ t) (dot-gathered more rows stand.1 multipliers g same)

-- the signs of multipliers

zero_may : (equality : Bool) → OnFalse equality (pos 0 ≤ℤ pos 0)
zero_may true = tt
zero_may false = omega (arith, ints)

sum_may : (equality : Bool) (x y : ℤ) → OnFalse equality (pos 0 ≤ℤ x) → OnFalse equality (pos 0 ≤ℤ y)
    → OnFalse equality (pos 0 ≤ℤ (x +ℤ y))
sum_may true x y x_may y_may = tt
sum_may false x y x_may y_may = nonneg_add x y x_may y_may

zeros_may : (rows : List Row) → AllZip MayMultiply rows (replicate (length rows) (pos 0))
zeros_may [] = tt
zeros_may (row ∷ rows) = (zero_may row.equality, zeros_may rows)

sums_may : (rows : List Row) (xs ys : List ℤ) → AllZip MayMultiply rows xs → AllZip MayMultiply rows ys
    → AllZip MayMultiply rows (plus xs ys)
sums_may [] [] ys xs_may ys_may = ys_may
sums_may [] (x ∷ xs) ys xs_may ys_may = absurd xs_may
sums_may (row ∷ rows) [] ys xs_may ys_may = absurd xs_may
sums_may (row ∷ rows) (x ∷ xs) [] xs_may ys_may = absurd ys_may
sums_may (row ∷ rows) (x ∷ xs) (y ∷ ys) xs_may ys_may =
    (sum_may row.equality x y xs_may.0 ys_may.0, sums_may rows xs ys xs_may.1 ys_may.1)

only_may : (rows : List Row) (place : ℕ) (found : Row) (m : ℤ) → slice_get rows place ≡ Some found → MayMultiply found m
    → AllZip MayMultiply rows (only_at (length rows) place m)
only_may [] place found m stands may = absurd cc
only_may (row ∷ rows) zero found m stands may =
    let same : found ≡ row = cc in (subst (λ (r : Row). MayMultiply r m) same may, zeros_may rows)
only_may (row ∷ rows) (suc place) found m stands may = (zero_may row.equality, only_may rows place found m stands may)

gathered_may : (more rows : List Row) (stand : AllByRecursion (StandsAmong more) rows) (multipliers : List ℤ)
    → AllZip MayMultiply rows multipliers → AllZip MayMultiply more (gathered more rows stand multipliers)
gathered_may more [] stand multipliers signs = zeros_may more
gathered_may more (row ∷ rows) stand [] signs = zeros_may more
gathered_may more (row ∷ rows) stand (m ∷ multipliers) signs =
    sums_may more (only_at (length more) stand.0.place m) (gathered more rows stand.1 multipliers)
    (only_may more stand.0.place stand.0.found m stand.0.stands (subst (λ b. OnFalse b (pos 0 ≤ℤ m)) stand.0.alike.equality signs.0))
    (gathered_may more rows stand.1 multipliers signs.1)

pub refuted_among_more : (rows more : List Row) → All (StandsAmong more) rows → IsRefutable rows → IsRefutable more
refuted_among_more rows more stand found =
    let each = recursion_from_All (StandsAmong more) rows stand in
    let ms : List ℤ = found.multipliers in
    record {
      multipliers = gathered more rows each ms;
      refutes = record {
        signs = gathered_may more rows each ms found.refutes.signs;
        no_variable = λ j.
            dot-gathered more rows each ms (λ row. get_or row.coefs j (pos 0)) (λ row other same. same.entries j)
            ∙ found.refutes.no_variable j;
        negative_constant = subst (λ z. z ≤ℤ negsuc 0)
            (sym (dot-gathered more rows each ms (λ row. row.constant) (λ row other same. same.constant)))
            found.refutes.negative_constant;
      };
    }

-- ---- behind columns of zeros

map-behind : (columns : ℕ) (g h : Row → ℤ) → ((row : Row) → g (behind_zeros columns row) ≡ h row)
    → (rows : List Row) → map g (map (behind_zeros columns) rows) ≡ map h rows
map-behind columns g h same [] = refl
map-behind columns g h same (row ∷ rows) = rw (same row, map-behind columns g h same rows) refl

nothing_more : (m s : ℤ) → s ≡ pos 0 → (m *ℤ pos 0) +ℤ s ≡ pos 0
nothing_more m s none = omega (arith, ints)

dot-no_entries : (multipliers : List ℤ) (rows : List Row) → dot multipliers (map (λ row. pos 0) rows) ≡ pos 0
dot-no_entries [] rows = refl
dot-no_entries (m ∷ multipliers) [] = refl
dot-no_entries (m ∷ multipliers) (row ∷ rows) = nothing_more m _ (dot-no_entries multipliers rows)

-- column j of the rows behind zeros
dot-behind : (columns j : ℕ) (multipliers : List ℤ) (rows : List Row) → ((k : ℕ) → dot multipliers (column k rows) ≡ pos 0)
    → dot multipliers (map (λ row. get_or (replicate columns (pos 0) ++ row.coefs) j (pos 0)) rows) ≡ pos 0
dot-behind zero j multipliers rows none = none j
dot-behind (suc columns) zero multipliers rows none = dot-no_entries multipliers rows
dot-behind (suc columns) (suc j) multipliers rows none = dot-behind columns j multipliers rows none

behind_may : (columns : ℕ) (rows : List Row) (multipliers : List ℤ) → AllZip MayMultiply rows multipliers
    → AllZip MayMultiply (map (behind_zeros columns) rows) multipliers
behind_may columns [] [] signs = tt
behind_may columns [] (m ∷ multipliers) signs = absurd signs
behind_may columns (row ∷ rows) [] signs = absurd signs
behind_may columns (row ∷ rows) (m ∷ multipliers) signs = (signs.0, behind_may columns rows multipliers signs.1)

pub refuted_behind_zeros : (columns : ℕ) (rows : List Row) → IsRefutable rows → IsRefutable (map (behind_zeros columns) rows)
refuted_behind_zeros columns rows found =
    let ms : List ℤ = found.multipliers in
    record {
      multipliers = ms;
      refutes = record {
        signs = behind_may columns rows ms found.refutes.signs;
        no_variable = λ j.
            ap (dot ms) (map-behind columns (λ row. get_or row.coefs j (pos 0))
            (λ row. get_or (replicate columns (pos 0) ++ row.coefs) j (pos 0)) (λ row. refl) rows)
            ∙ dot-behind columns j ms rows found.refutes.no_variable;
        negative_constant = subst (λ z. z ≤ℤ negsuc 0)
            (sym (ap (dot ms) (map-behind columns (λ row. row.constant) (λ row. row.constant) (λ row. refl) rows)))
            found.refutes.negative_constant;
      };
    }
