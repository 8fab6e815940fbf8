-- A tight row has the solutions in whole numbers of the row that it is made of.
use Rattle.std.proofs.Common.{◌≡◌, ◌↔◌, ℕ, zero, suc, ◌<◌, ◌%◌, Bool, true, false, cond, not, eqb, List, map, arith, refl, sym, ◌∙◌, ap, subst, length, get_or, ◌≤◌, [], ◌∷◌}
use Prim.Native.Nat.{◌∣◌}
use Rattle.std.specs.Prelude.{ℤ, pos, negsuc, ◌+ℤ◌, ◌*ℤ◌, ◌≤ℤ◌, ◌&&◌, unsigned_abs}
use Rattle.std.proofs.Math.Nat.{dvd-mul_right, div-le_self, zero-mod}
use Rattle.std.proofs.lemmas.List.{length-replicate, length-map}
use Rattle.std.proofs.lemmas.List.Elements.{All-get_or, All-from_get_or}
use Rattle.std.proofs.lemmas.Nat.Gcd.{dvd_of_mod-eq-zero, mod-eq-zero_of_dvd}
use Rattle.std.proofs.lemmas.Int.{ints, unsigned_abs-mul}
use Rattle.std.proofs.lemmas.Bool.{and_parts, not-true, eqb-false}
use Rattle.std.proofs.lemmas.Bool.Decides.{nat_tests}
use Rattle.lin_terms.specs.declared.row.Row.{Row}
use Rattle.lin_terms.specs.Vectors.{dot}
use Rattle.lin_terms.specs.Divisor.{gcd_of, DividesAll, floor_div}
use Rattle.lin_terms.specs.Row.{Allows, Holds, EntriesAreBelow, IsNoWider}
use Rattle.lin_terms.specs.Tight.{never_row, divided_row, is_unsolvable, tight_by, tight_of, HaveSameSolutions}
use Rattle.lin_terms.proofs.Ring.{as_dif, same_dif, difs, mul-plus}
use Rattle.lin_terms.proofs.Signs.{nonneg_add, nonneg_mul, zero_factor}
use Rattle.lin_terms.proofs.Dots.{dot-replicate, get_or-zeros}
use Rattle.lin_terms.proofs.Divisors.{gcd_of_divides, floor_div_is, exact_quotient, dot-quotients}

-- `0 ≤ g t + r` exactly where `0 ≤ t`, for a remainder r
rounded_iff : (n r : ℕ) (t : ℤ) → r < suc n → (pos 0 ≤ℤ t) ↔ (pos 0 ≤ℤ ((pos (suc n) *ℤ t) +ℤ pos r))
rounded_iff n r t below_g =
    (λ p. nonneg_add (pos (suc n) *ℤ t) (pos r) (nonneg_mul (pos (suc n)) t (omega (arith, ints)) p) (omega (arith, ints)), below n r t below_g)
  where
    below : (n r : ℕ) (t : ℤ) → r < suc n → pos 0 ≤ℤ ((pos (suc n) *ℤ t) +ℤ pos r) → pos 0 ≤ℤ t
    below n r (pos t) below_g p = omega (arith, ints)
    below n r (negsuc t) below_g p = absurd (omega (arith, ints))

factored : (g d q r : ℤ) → (g *ℤ (d +ℤ q)) +ℤ r ≡ (g *ℤ d) +ℤ ((g *ℤ q) +ℤ r)
factored g d q r = rw (as_dif g, as_dif d, as_dif q, as_dif r) (simp difs (same_dif _ _ _ _ (omega arith)))

inequality_iff : (n : ℕ) (d c : ℤ) → (pos 0 ≤ℤ (d +ℤ floor_div c (suc n))) ↔ (pos 0 ≤ℤ ((pos (suc n) *ℤ d) +ℤ c))
inequality_iff n d c =
    let found = floor_div_is n c in
    let q : ℤ = floor_div c (suc n) in
    let e = factored (pos (suc n)) d q (pos found.0) ∙ ap (λ z. (pos (suc n) *ℤ d) +ℤ z) (sym found.2) in
    subst (λ z. (pos 0 ≤ℤ (d +ℤ q)) ↔ (pos 0 ≤ℤ z)) e (rounded_iff n found.0 (d +ℤ q) found.1)

equality_iff : (n : ℕ) (d c : ℤ) → suc n ∣ unsigned_abs c → (d +ℤ floor_div c (suc n) ≡ pos 0) ↔ ((pos (suc n) *ℤ d) +ℤ c ≡ pos 0)
equality_iff n d c h =
    let g : ℤ = pos (suc n) in
    let q : ℤ = floor_div c (suc n) in
    let e = mul-plus g d q ∙ ap (λ z. (g *ℤ d) +ℤ z) (exact_quotient n c h) in
    (λ p. sym e ∙ ap (λ z. g *ℤ z) p ∙ omega (arith, ints), λ p. zero_factor n (d +ℤ q) (e ∙ p))

opposite_sizes : (a b : ℤ) → a +ℤ b ≡ pos 0 → unsigned_abs b ≡ unsigned_abs a
opposite_sizes a b e = omega (arith, ints)

-- an equality that holds has a constant that the divisor divides
divides_constant : (n : ℕ) (d c : ℤ) → (pos (suc n) *ℤ d) +ℤ c ≡ pos 0 → unsigned_abs c % suc n ≡ 0
divides_constant n d c e =
    ap (λ m. m % suc n) (opposite_sizes (pos (suc n) *ℤ d) c e ∙ unsigned_abs-mul (pos (suc n)) d)
    ∙ mod-eq-zero_of_dvd (suc n) (dvd-mul_right (suc n) (unsigned_abs d))

never_row_fails : (columns : ℕ) (values : List ℤ) → Holds values (never_row columns) → ⊥
never_row_fails columns values holds =
    let e = subst (λ z. pos 0 ≤ℤ (z +ℤ negsuc 0)) (dot-replicate columns values) holds in e.le

-- rows that are divided
divided_iff : (b : Bool) (n : ℕ) (d c : ℤ) → (b && not (eqb (unsigned_abs c % suc n) 0)) ≡ false
    → Allows b (d +ℤ floor_div c (suc n)) ↔ Allows b ((pos (suc n) *ℤ d) +ℤ c)
divided_iff true n d c e =
    let exact : unsigned_abs c % suc n ≡ 0 = grind (arith, nat_tests) in
    equality_iff n d c (dvd_of_mod-eq-zero (suc n) exact)
divided_iff false n d c e = inequality_iff n d c

unsolvable_iff : (n : ℕ) (row : Row) (values : List ℤ) → is_unsolvable (suc n) row ≡ true → DividesAll (suc n) row.coefs
    → Holds values (never_row (length row.coefs)) ↔ Holds values row
unsolvable_iff n row values e h =
    let p = and_parts row.equality (not (eqb (unsigned_abs row.constant % suc n) 0)) e in
    let not_divided = not-true (eqb (unsigned_abs row.constant % suc n) 0) p.1 in
    let d : ℤ = dot (map (λ x. floor_div x (suc n)) row.coefs) values in
    let g : ℤ = pos (suc n) in (
      λ m. absurd (never_row_fails (length row.coefs) values m),
      λ m. absurd (eqb-false (unsigned_abs row.constant % suc n) 0 not_divided
          (divides_constant n d row.constant (rw (dot-quotients n row.coefs values h) (subst (λ b. Allows b (dot row.coefs values +ℤ row.constant)) p.0 m)))),
    )

solvable_iff : (n : ℕ) (row : Row) (values : List ℤ) → is_unsolvable (suc n) row ≡ false → DividesAll (suc n) row.coefs
    → Holds values (divided_row (suc n) row) ↔ Holds values row
solvable_iff n row values e h =
    let d : ℤ = dot (map (λ x. floor_div x (suc n)) row.coefs) values in
    subst (λ z. Allows row.equality (d +ℤ floor_div row.constant (suc n)) ↔ Allows row.equality (z +ℤ row.constant)) (dot-quotients n row.coefs values h)
    (divided_iff row.equality n d row.constant e)

tight_case : (t : Bool) (n : ℕ) (row : Row) (values : List ℤ) → is_unsolvable (suc n) row ≡ t → DividesAll (suc n) row.coefs
    → Holds values (cond t (never_row (length row.coefs)) (divided_row (suc n) row)) ↔ Holds values row
tight_case true n row values e h = unsolvable_iff n row values e h
tight_case false n row values e h = solvable_iff n row values e h

tight_by_iff : (g : ℕ) (row : Row) (values : List ℤ) → DividesAll g row.coefs → Holds values (tight_by g row) ↔ Holds values row
tight_by_iff zero row values h = (λ m. m, λ m. m)
tight_by_iff (suc n) row values h = tight_case (is_unsolvable (suc n) row) n row values refl h

pub tight_keeps : (row : Row) → HaveSameSolutions (tight_of row) row
tight_keeps row values = tight_by_iff (gcd_of row.coefs) row values (gcd_of_divides row.coefs)

-- ---- lengths, and sizes of entries

tight_columns_case : (t : Bool) (n : ℕ) (row : Row)
    → length (cond t (never_row (length row.coefs)) (divided_row (suc n) row)).coefs ≡ length row.coefs
tight_columns_case true n row = length-replicate (length row.coefs) (pos 0)
tight_columns_case false n row = length-map row.coefs (λ x. floor_div x (suc n))

tight_by_columns : (g : ℕ) (row : Row) → length (tight_by g row).coefs ≡ length row.coefs
tight_by_columns zero row = refl
tight_by_columns (suc n) row = tight_columns_case (is_unsolvable (suc n) row) n row

-- the tight row has as many columns
pub tight_columns : (row : Row) → length (tight_of row).coefs ≡ length row.coefs
tight_columns row = tight_by_columns (gcd_of row.coefs) row

floor_div-size : (n : ℕ) (x : ℤ) → unsigned_abs (floor_div x (suc n)) ≤ unsigned_abs x
floor_div-size n (pos a) = omega (arith, ints, div-le_self a (suc n))
floor_div-size n (negsuc a) = omega (arith, ints, div-le_self a (suc n))

quotients-size : (n : ℕ) (xs : List ℤ) (j : ℕ)
    → unsigned_abs (get_or (map (λ x. floor_div x (suc n)) xs) j (pos 0)) ≤ unsigned_abs (get_or xs j (pos 0))
quotients-size n [] j = omega arith
quotients-size n (x ∷ xs) zero = floor_div-size n x
quotients-size n (x ∷ xs) (suc j) = quotients-size n xs j

some_size : (m : ℕ) (x : ℤ) → eqb (unsigned_abs x % m) 0 ≡ false → 1 ≤ unsigned_abs x
some_size m (pos zero) e = absurd (eqb-false (0 % m) 0 e (zero-mod m))
some_size m (pos (suc n)) e = omega (arith, ints)
some_size m (negsuc n) e = omega (arith, ints)

no_wider_case : (t : Bool) (n : ℕ) (row : Row) → is_unsolvable (suc n) row ≡ t
    → IsNoWider (cond t (never_row (length row.coefs)) (divided_row (suc n) row)) row
no_wider_case true n row e =
    let p = and_parts row.equality (not (eqb (unsigned_abs row.constant % suc n) 0)) e in
    record {
      coefs = λ j. rw (get_or-zeros (length row.coefs) j) (omega arith);
      constant = some_size (suc n) row.constant (not-true (eqb (unsigned_abs row.constant % suc n) 0) p.1);
    }
no_wider_case false n row e = record { coefs = quotients-size n row.coefs; constant = floor_div-size n row.constant }

tight_by_no_wider : (g : ℕ) (row : Row) → IsNoWider (tight_by g row) row
tight_by_no_wider zero row = record { coefs = λ j. omega arith; constant = omega arith }
tight_by_no_wider (suc n) row = no_wider_case (is_unsolvable (suc n) row) n row refl

-- no entry of the tight row is greater in size
pub tight_no_wider : (row : Row) → IsNoWider (tight_of row) row
tight_no_wider row = tight_by_no_wider (gcd_of row.coefs) row

below_of : (first second : Row) (bound : ℕ) → 0 < bound → IsNoWider first second
    → length first.coefs ≡ length second.coefs → EntriesAreBelow bound second → (k : ℕ) → k < length first.coefs
    → unsigned_abs (get_or first.coefs k (pos 0)) < bound
below_of first second bound positive no_wider long below k inside =
    let there : unsigned_abs (get_or second.coefs k (pos 0)) < bound =
    All-get_or (λ (x : ℤ). unsigned_abs x < bound) second.coefs k (pos 0) (omega arith) below.coefs in
    let less = no_wider.coefs k in omega arith

-- a row that is no wider than another is below each bound that the other is below
pub no_wider_below : (first second : Row) (bound : ℕ) → 0 < bound → IsNoWider first second
    → length first.coefs ≡ length second.coefs → EntriesAreBelow bound second → EntriesAreBelow bound first
no_wider_below first second bound positive no_wider long below = record {
  coefs = All-from_get_or (λ (x : ℤ). unsigned_abs x < bound) first.coefs (pos 0) (below_of first second bound positive no_wider long below);
  constant = let less = no_wider.constant in let small = below.constant in omega arith;
}
