-- A row that is taken 0 times changes nothing.
use Rattle.std.proofs.Common.{◌≡◌, ℕ, suc, Bool, true, false, List, [], ◌∷◌, ◌++◌, map, arith, refl, sym, ◌∙◌, ap, subst, take, drop, length, get_or, length-append}
use Rattle.std.specs.Prelude.{ℤ, pos, negsuc, ◌+ℤ◌, ◌*ℤ◌, ◌≤ℤ◌}
use Rattle.std.specs.Bool.{OnFalse}
use Rattle.std.specs.List.{AllZip}
use Rattle.std.proofs.lemmas.Int.{ints}
use Rattle.lin_terms.specs.declared.row.Row.{Row}
use Rattle.lin_terms.specs.Vectors.{dot}
use Rattle.std.proofs.lemmas.List.{length-take}
use Rattle.std.proofs.Math.ListN.{take-append-drop}
use Rattle.farkas_check.specs.Refutes.{MayMultiply, Refutes, IsRefutable}
use Rattle.farkas_check.specs.Laws.{AreAlike}

zero_may : (equality : Bool) → OnFalse equality (pos 0 ≤ℤ pos 0)
zero_may true = tt
zero_may false = omega (arith, ints)

dot_added : (g : Row → ℤ) (xs ys : List Row) (r : Row) (ms ns : List ℤ) → length ms ≡ length xs
    → dot (ms ++ pos 0 ∷ ns) (map g (xs ++ r ∷ ys)) ≡ dot (ms ++ ns) (map g (xs ++ ys))
dot_added g [] ys r [] ns long = omega (arith, ints)
dot_added g [] ys r (m ∷ ms) ns long = cc
dot_added g (x ∷ xs) ys r [] ns long = cc
dot_added g (x ∷ xs) ys r (m ∷ ms) ns long =
    let later : length ms ≡ length xs = omega arith in
    ap (λ t. (m *ℤ g x) +ℤ t) (dot_added g xs ys r ms ns later)

signs_added : (xs ys : List Row) (r : Row) (ms ns : List ℤ) → length ms ≡ length xs
    → AllZip MayMultiply (xs ++ ys) (ms ++ ns) → AllZip MayMultiply (xs ++ r ∷ ys) (ms ++ pos 0 ∷ ns)
signs_added [] ys r [] ns long signs = (zero_may r.equality, signs)
signs_added [] ys r (m ∷ ms) ns long signs = cc
signs_added (x ∷ xs) ys r [] ns long signs = cc
signs_added (x ∷ xs) ys r (m ∷ ms) ns long signs =
    let later : length ms ≡ length xs = omega arith in
    (signs.0, signs_added xs ys r ms ns later signs.1)

signs_dropped : (xs ys : List Row) (r : Row) (ms ns : List ℤ) → length ms ≡ length xs
    → AllZip MayMultiply (xs ++ r ∷ ys) (ms ++ pos 0 ∷ ns) → AllZip MayMultiply (xs ++ ys) (ms ++ ns)
signs_dropped [] ys r [] ns long signs = signs.1
signs_dropped [] ys r (m ∷ ms) ns long signs = cc
signs_dropped (x ∷ xs) ys r [] ns long signs = cc
signs_dropped (x ∷ xs) ys r (m ∷ ms) ns long signs =
    let later : length ms ≡ length xs = omega arith in
    (signs.0, signs_dropped xs ys r ms ns later signs.1)

pub added : (xs ys : List Row) (r : Row) (ms ns : List ℤ) → length ms ≡ length xs
    → Refutes (xs ++ ys) (ms ++ ns) → Refutes (xs ++ r ∷ ys) (ms ++ pos 0 ∷ ns)
added xs ys r ms ns long refuted = record {
  signs = signs_added xs ys r ms ns long refuted.signs;
  no_variable = λ j. dot_added (λ row. get_or row.coefs j (pos 0)) xs ys r ms ns long ∙ refuted.no_variable j;
  negative_constant = subst (λ z. z ≤ℤ negsuc 0) (sym (dot_added (λ row. row.constant) xs ys r ms ns long)) refuted.negative_constant;
}

pub dropped : (xs ys : List Row) (r : Row) (ms ns : List ℤ) → length ms ≡ length xs
    → Refutes (xs ++ r ∷ ys) (ms ++ pos 0 ∷ ns) → Refutes (xs ++ ys) (ms ++ ns)
dropped xs ys r ms ns long refuted = record {
  signs = signs_dropped xs ys r ms ns long refuted.signs;
  no_variable = λ j. sym (dot_added (λ row. get_or row.coefs j (pos 0)) xs ys r ms ns long) ∙ refuted.no_variable j;
  negative_constant = subst (λ z. z ≤ℤ negsuc 0) (dot_added (λ row. row.constant) xs ys r ms ns long) refuted.negative_constant;
}

-- ---- more rows

as_many : (rows : List Row) (ms : List ℤ) → AllZip MayMultiply rows ms → length ms ≡ length rows
as_many [] [] signs = refl
as_many [] (m ∷ ms) signs = absurd signs
as_many (row ∷ rows) [] signs = absurd signs
as_many (row ∷ rows) (m ∷ ms) signs = ap suc (as_many rows ms signs.1)

pub more_rows : (xs ys : List Row) (r : Row) → IsRefutable (xs ++ ys) → IsRefutable (xs ++ r ∷ ys)
more_rows xs ys r found =
    let ms : List ℤ = found.multipliers in
    let n : ℕ = length xs in
    let long = as_many (xs ++ ys) ms found.refutes.signs in
    let front : length (take n ms) ≡ n = omega (arith, long, length-append xs ys, length-take n ms) in
    let again = subst (λ (all : List ℤ). Refutes (xs ++ ys) all) (sym (take-append-drop n ms)) found.refutes in
    record { multipliers = take n ms ++ pos 0 ∷ drop n ms; refutes = added xs ys r (take n ms) (drop n ms) front again }

-- ---- columns of zeros

alike_signs : (rows others : List Row) (ms : List ℤ) → AllZip AreAlike rows others → AllZip MayMultiply rows ms → AllZip MayMultiply others ms
alike_signs [] [] ms alike signs = signs
alike_signs [] (o ∷ others) ms alike signs = absurd alike
alike_signs (r ∷ rows) [] ms alike signs = absurd alike
alike_signs (r ∷ rows) (o ∷ others) [] alike signs = absurd signs
alike_signs (r ∷ rows) (o ∷ others) (m ∷ ms) alike signs =
    (subst (λ b. OnFalse b (pos 0 ≤ℤ m)) alike.0.equality signs.0, alike_signs rows others ms alike.1 signs.1)

alike_map : (g : Row → ℤ) → ((r o : Row) → AreAlike r o → g r ≡ g o) → (rows others : List Row) → AllZip AreAlike rows others
    → map g rows ≡ map g others
alike_map g same [] [] alike = refl
alike_map g same [] (o ∷ others) alike = absurd alike
alike_map g same (r ∷ rows) [] alike = absurd alike
alike_map g same (r ∷ rows) (o ∷ others) alike = rw (same r o alike.0, alike_map g same rows others alike.1) refl

pub alike_refuted : (rows others : List Row) (ms : List ℤ) → AllZip AreAlike rows others → Refutes rows ms → Refutes others ms
alike_refuted rows others ms alike refuted = record {
  signs = alike_signs rows others ms alike refuted.signs;
  no_variable = λ j. ap (dot ms) (sym (alike_map (λ row. get_or row.coefs j (pos 0)) (λ r o same. same.entries j) rows others alike)) ∙ refuted.no_variable j;
  negative_constant = subst (λ z. z ≤ℤ negsuc 0)
      (ap (dot ms) (alike_map (λ row. row.constant) (λ r o same. same.constant) rows others alike)) refuted.negative_constant;
}
