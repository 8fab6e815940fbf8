-- A legal history has few pairs, since their indexes are below the number of samples and none comes twice.
use Rattle.std.proofs.Common.{◌≡◌, ℕ, ◌<◌, ◌≤◌, ◌||◌, Bool, true, false, eqb, List, [], ◌∷◌, length, refl, arith}
use Rattle.std.specs.Prelude.{◌≢◌}
use Rattle.std.specs.List.{list_any, IsDistinct, AllByRecursion}
use Rattle.std.proofs.lemmas.Slice.Zip.{AllZip-long}
use Rattle.std.proofs.lemmas.Map.Steps.{length-le_from_distinct_below}
use Rattle.std.proofs.lemmas.Bool.{both_ways, false_from_ne_true}
use Rattle.std.proofs.lemmas.Bool.Decides.{nat_tests}
use Rattle.c_ast.specs.Comparison.{Comparison}
use Rattle.trace_pair.specs.Pairs.{IsPair}
use Rattle.pool_core.specs.declared.item.Item.{Item}
use Rattle.pool_core.specs.History.{pairs_of, indexes_of, IsLegal}
use Rattle.pool_core.proofs.Listings.{Each, IsListed, each_of}
use Rattle.pool_core.proofs.Sampled.{listed_apart, pairs_are_at}

distinct_from : (i : ℕ) (js : List ℕ) → Each (λ j. i ≢ j) js → AllByRecursion (λ j. eqb i j ≡ false) js
distinct_from i [] each = tt
distinct_from i (j ∷ js) each = (false_from_ne_true (eqb i j) (λ same. each.0 (grind (arith, nat_tests))), distinct_from i js each.1)

distinct_of_listed : (indexes : List ℕ) → IsListed (λ i j. i ≢ j) indexes → IsDistinct eqb indexes
unfolding IsDistinct
distinct_of_listed [] listed = tt
distinct_of_listed (i ∷ indexes) listed = (distinct_from i indexes listed.0, distinct_of_listed indexes listed.1)

one_below : (q number cap : ℕ) (others : Bool) → number < cap → (others ≡ true → q < cap) → (eqb q number || others) ≡ true → q < cap
one_below q number cap others low others_low found = grind (arith, nat_tests)

-- Numbers that are below a bound.
pub each_below_cap : (numbers : List ℕ) (cap : ℕ) → Each (λ number. number < cap) numbers → (q : ℕ) → list_any (eqb q) numbers ≡ true → q < cap
each_below_cap [] cap each q found = absurd (both_ways false refl found)
each_below_cap (number ∷ numbers) cap each q found =
    one_below q number cap (list_any (eqb q) numbers) each.0 (each_below_cap numbers cap each.1 q) found

-- A legal history has at most as many pairs as there are samples.
pub pairs_are_few : (subject : Comparison) (items : List Item) → IsLegal subject items → length (pairs_of items) ≤ subject.settings.samples
pairs_are_few subject items legal =
    let at = pairs_are_at subject items legal in
    let apart = distinct_of_listed (indexes_of items) (listed_apart subject [] items legal) in
    let below = each_below_cap (indexes_of items) subject.settings.samples
    (each_of (λ index. index < subject.settings.samples) (indexes_of items) at.below) in
    let few = length-le_from_distinct_below (indexes_of items) subject.settings.samples apart below in
    let long = AllZip-long (IsPair subject) (indexes_of items) (pairs_of items) at.are in
    omega (arith, few, long)
