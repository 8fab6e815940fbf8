-- How great the numbers of sums are.
use Rattle.std.proofs.Common.{ℕ, ◌/◌, ◌<◌, ◌≤◌, List, [], ◌∷◌, map, arith}
use Rattle.std.specs.Prelude.{ℤ, pos, negsuc, ◌+ℤ◌, ◌*ℤ◌}
use Rattle.std.specs.List.{AllByRecursion}
use Rattle.std.proofs.lemmas.List.Elements.{All-from_recursion, recursion_from_All}
use Rattle.lin_terms.specs.Bounds.{FitsRow}
use Rattle.lin_terms.specs.Divisor.{floor_div}
use Rattle.lin_terms.specs.Vectors.{plus, scaled}
use Rattle.elimination.proofs.Wide.{unsigned_abs-product, unsigned_abs-sum}
use Rattle.elimination.specs.Combination.{Combination, combined}
use Rattle.elimination.specs.Joining.{numbers_of, divided}
use Rattle.elimination.specs.Working.{IsSmall, IsSmallCombination, IsFittingCombination}
use Rattle.elimination.proofs.Lists.{all_append, all_front, all_back, all_map, all_weaker}

small_of_fits : (x : ℤ) → FitsRow x → IsSmall x
small_of_fits x fits = omega arith

small_product : (k x : ℤ) → FitsRow k → FitsRow x → IsSmall (k *ℤ x)
small_product k x k_fits x_fits = omega (arith, unsigned_abs-product k x k_fits x_fits)

small_sum : (k x l y : ℤ) → FitsRow k → FitsRow x → FitsRow l → FitsRow y → IsSmall ((k *ℤ x) +ℤ (l *ℤ y))
small_sum k x l y k_fits x_fits l_fits y_fits =
    omega (arith, unsigned_abs-sum (k *ℤ x) (l *ℤ y), unsigned_abs-product k x k_fits x_fits, unsigned_abs-product l y l_fits y_fits)

small_scaled : (k : ℤ) (xs : List ℤ) → FitsRow k → AllByRecursion FitsRow xs → AllByRecursion IsSmall (scaled k xs)
small_scaled k [] k_fits fits = tt
small_scaled k (x ∷ xs) k_fits fits = (small_product k x k_fits fits.0, small_scaled k xs k_fits fits.1)

small_sums : (k : ℤ) (xs : List ℤ) (l : ℤ) (ys : List ℤ) → FitsRow k → FitsRow l → AllByRecursion FitsRow xs → AllByRecursion FitsRow ys
    → AllByRecursion IsSmall (plus (scaled k xs) (scaled l ys))
small_sums k [] l ys k_fits l_fits xs_fits ys_fits = small_scaled l ys l_fits ys_fits
small_sums k (x ∷ xs) l [] k_fits l_fits xs_fits ys_fits = small_scaled k (x ∷ xs) k_fits xs_fits
small_sums k (x ∷ xs) l (y ∷ ys) k_fits l_fits xs_fits ys_fits =
    (small_sum k x l y k_fits xs_fits.0 l_fits ys_fits.0, small_sums k xs l ys k_fits l_fits xs_fits.1 ys_fits.1)

pub small_combined : (k : ℤ) (p : Combination) (l : ℤ) (q : Combination) → FitsRow k → FitsRow l → IsFittingCombination p → IsFittingCombination q
    → IsSmallCombination (combined k p l q)
small_combined k p l q k_fits l_fits p_fits q_fits =
    let coefs : List ℤ = plus (scaled k p.row.coefs) (scaled l q.row.coefs) in
    let multipliers : List ℤ = plus (scaled k p.multipliers) (scaled l q.multipliers) in
    All-from_recursion IsSmall (numbers_of (combined k p l q)) (
      small_sum k p.row.constant l q.row.constant k_fits p_fits.constant l_fits q_fits.constant,
      all_append IsSmall coefs multipliers
          (small_sums k p.row.coefs l q.row.coefs k_fits l_fits (recursion_from_All FitsRow p.row.coefs p_fits.coefs)
          (recursion_from_All FitsRow q.row.coefs q_fits.coefs))
          (small_sums k p.multipliers l q.multipliers k_fits l_fits (recursion_from_All FitsRow p.multipliers p_fits.multipliers)
          (recursion_from_All FitsRow q.multipliers q_fits.multipliers)),
    )

pub small_combination : (row : Combination) → IsFittingCombination row → IsSmallCombination row
small_combination row fits =
    All-from_recursion IsSmall (numbers_of row) (
      small_of_fits row.row.constant fits.constant,
      all_append IsSmall row.row.coefs row.multipliers
          (all_weaker FitsRow IsSmall small_of_fits row.row.coefs (recursion_from_All FitsRow row.row.coefs fits.coefs))
          (all_weaker FitsRow IsSmall small_of_fits row.multipliers (recursion_from_All FitsRow row.multipliers fits.multipliers)),
    )

-- ---- quotients

below : (n d : ℕ) → 0 < d → n / d ≤ n
below n d positive = omega arith

small_quotient : (d : ℕ) (x : ℤ) → 0 < d → IsSmall x → IsSmall (floor_div x d)
small_quotient d (pos n) positive small = omega (arith, below n d positive)
small_quotient d (negsuc n) positive small = omega (arith, below n d positive)

small_quotients : (d : ℕ) (xs : List ℤ) → 0 < d → AllByRecursion IsSmall xs → AllByRecursion IsSmall (map (λ x. floor_div x d) xs)
small_quotients d xs positive small = all_map IsSmall IsSmall (λ x. floor_div x d) (λ x is. small_quotient d x positive is) xs small

pub small_divided : (d : ℕ) (row : Combination) → 0 < d → IsSmallCombination row → IsSmallCombination (divided d row)
small_divided d row positive small =
    let all = recursion_from_All IsSmall (numbers_of row) small in
    let coefs : List ℤ = map (λ x. floor_div x d) row.row.coefs in
    let multipliers : List ℤ = map (λ x. floor_div x d) row.multipliers in
    All-from_recursion IsSmall (numbers_of (divided d row)) (
      small_quotient d row.row.constant positive all.0,
      all_append IsSmall coefs multipliers (small_quotients d row.row.coefs positive (all_front IsSmall row.row.coefs row.multipliers all.1))
          (small_quotients d row.multipliers positive (all_back IsSmall row.row.coefs row.multipliers all.1)),
    )
