-- The multipliers of a contradiction are below 2^56 in size.
use Rattle.std.proofs.Common.{◌≡◌, ℕ, ◌<◌, ◌^◌, false, List, [], ◌∷◌, map, arith}
use Rattle.std.specs.Prelude.{ℤ, neg_ℤ, nat_le, unsigned_abs}
use Rattle.std.specs.List.{AllByRecursion}
use Rattle.std.proofs.lemmas.Int.{ints}
use Rattle.std.proofs.lemmas.Bool.{or_parts, cond_both}
use Rattle.std.proofs.lemmas.Bool.Decides.{nat_tests}
use Rattle.lin_terms.specs.declared.row.Row.{Row}
use Rattle.lin_terms.specs.Bounds.{FitsRow}
use Rattle.lin_terms.specs.Row.{columns_of}
use Rattle.elimination.specs.Combination.{Combination, is_positive}
use Rattle.elimination.specs.Joining.{numbers_of, primitive, is_wide, list_of}
use Rattle.elimination.specs.Eliminated.{initial, eliminate}
use Rattle.elimination.proofs.Lists.{Anything, all_anything, all_map, all_back}
use Rattle.elimination.proofs.Keeping.{Holding, Owes, Steps, new_list_holds, eliminate_holds}

not_wide : (n : ℕ) → nat_le (2 ^ 56) n ≡ false → n < 2 ^ 56
not_wide n e = grind (arith, nat_tests)

pub fitting_numbers : (numbers : List ℤ) → is_wide numbers ≡ false → AllByRecursion FitsRow numbers
fitting_numbers [] e = tt
fitting_numbers (x ∷ numbers) e =
    let both = or_parts (nat_le (2 ^ 56) (unsigned_abs x)) (is_wide numbers) e in
    (not_wide (unsigned_abs x) both.0, fitting_numbers numbers both.1)

fitting_negated : (numbers : List ℤ) → AllByRecursion FitsRow numbers → AllByRecursion FitsRow (map neg_ℤ numbers)
fitting_negated numbers fits = all_map FitsRow FitsRow neg_ℤ one numbers fits
  where
    one : (z : ℤ) → FitsRow z → FitsRow (neg_ℤ z)
    one z small = omega (arith, ints)

abbrev pub AreFitting : List ℤ → Type 0
AreFitting multipliers = AllByRecursion FitsRow multipliers

fitting_joins : (row : Combination) → Anything row → Owes Anything AreFitting (primitive row)
fitting_joins row anything =
    let joins : Combination = primitive row in
    record {
      kept = λ fits variable. tt;
      failed = λ fits no_variable fails.
          let multipliers = all_back FitsRow joins.row.coefs joins.multipliers (fitting_numbers (numbers_of joins) fits).1 in
          cond_both (is_positive joins.row.constant) (map neg_ℤ joins.multipliers) joins.multipliers AreFitting
          (λ positive. fitting_negated joins.multipliers multipliers) (λ other. multipliers);
    }

any_steps : (j : ℕ) → Steps j Anything Anything
any_steps j = record {
  flat = λ row zero anything. tt;
  reduce = λ pivot row equality anything other. tt;
  pair = λ lower upper is_lower is_upper anything other. tt;
}

pub all_fits : (rows : List Row) (cap : ℕ) → Holding Anything AreFitting (eliminate cap (columns_of rows) 0 (list_of cap (initial 0 rows)))
all_fits rows cap =
    eliminate_holds Anything AreFitting fitting_joins any_steps cap (columns_of rows) 0 (list_of cap (initial 0 rows))
    (new_list_holds Anything Anything AreFitting fitting_joins cap (initial 0 rows) (all_anything (initial 0 rows)))
