-- Each item of a legal history has a number of its own, so there is room for all.
use Rattle.std.proofs.Common.{◌≡◌, ℕ, ◌+◌, ◌*◌, ◌<◌, ◌≤◌, Bool, true, false, eqb, List, [], ◌∷◌, ◌++◌, length, map, refl, ◌∙◌, length-append, arith}
use Rattle.std.specs.List.{list_any, IsDistinct, AllByRecursion}
use Rattle.std.proofs.lemmas.List.{length-map}
use Rattle.std.proofs.lemmas.List.Folds.{list_any-append}
use Rattle.std.proofs.lemmas.Map.Steps.{length-le_from_distinct_below}
use Rattle.std.proofs.lemmas.Bool.{or_left, or_right, both_ways, false_from_ne_true}
use Rattle.std.proofs.lemmas.Bool.Decides.{nat_tests}
use Rattle.c_ast.specs.Comparison.{Comparison}
use Rattle.pool_core.specs.declared.item.Item.{Item}
use Rattle.pool_core.specs.declared.item.Item.TheVariants as item
use Rattle.pool_core.specs.History.{has_index, has_mined, has_tried, IsOpen, MayFollow, IsLegalBehind, IsLegal}
use Rattle.pool_core.proofs.Listings.{Each}
use Rattle.pool_core.proofs.Histories.{histories_go_on}
use Rattle.pool_core.proofs.Standing.{any_mined_there}
use Rattle.pool_core.proofs.FewPairs.{each_below_cap, pairs_are_few}

-- ---- the numbers of items

-- The item's number, where there are so many samples.
abbrev number_of : ℕ → Item → ℕ
number_of n (item.Pair worker index pair) = 1 + index
number_of n (item.Skipped worker index skipped) = 1 + index
number_of n (item.Mined worker prefix alignment candidates) = n + (prefix * 12 + alignment)
number_of n (item.Tried worker prefix alignment why) = n + 12 * (n + 1) + (prefix * 12 + alignment)
number_of n (item.Posted worker verdict) = 0

-- What the item names is there: the sample, or so many pairs and the alignment.
abbrev IsInRange : ℕ → Item → Type 0
IsInRange n (item.Pair worker index pair) = index < n
IsInRange n (item.Skipped worker index skipped) = index < n
IsInRange n (item.Mined worker prefix alignment candidates) = (prefix ≤ n) × (1 ≤ alignment) × (alignment ≤ 12)
IsInRange n (item.Tried worker prefix alignment why) = (prefix ≤ n) × (1 ≤ alignment) × (alignment ≤ 12)
IsInRange n (item.Posted worker verdict) = Unit {0}

number_below : (n : ℕ) (x : Item) → IsInRange n x → number_of n x < n + 24 * (n + 1) + 1
number_below n (item.Pair worker index pair) here = omega (arith, here)
number_below n (item.Skipped worker index skipped) here = omega (arith, here)
number_below n (item.Mined worker prefix alignment candidates) here = omega (arith, here.0, here.1, here.2)
number_below n (item.Tried worker prefix alignment why) here = omega (arith, here.0, here.1, here.2)
number_below n (item.Posted worker verdict) here = omega arith

abbrev is_posted : Item → Bool
is_posted (item.Posted worker verdict) = true
is_posted _ = false

-- Whether the item leaves no place for this one behind it.
abbrev clashes : Item → Item → Bool
clashes (item.Pair worker index pair) x = has_index index x
clashes (item.Skipped worker index skipped) x = has_index index x
clashes (item.Mined worker prefix alignment candidates) x = has_mined prefix alignment x
clashes (item.Tried worker prefix alignment why) x = has_tried prefix alignment x
clashes (item.Posted worker verdict) x = false

-- Items that do not clash have two numbers.
apart : (n : ℕ) (y x : Item) → IsInRange n y → IsInRange n x → is_posted x ≡ false → clashes y x ≡ false
    → eqb (number_of n x) (number_of n y) ≡ false
apart n y (item.Posted v verdict) here there undecided none = cc
apart n (item.Pair w i p) (item.Pair v j q) here there undecided none = grind (arith, nat_tests)
apart n (item.Pair w i p) (item.Skipped v j s) here there undecided none = grind (arith, nat_tests)
apart n (item.Pair w i p) (item.Mined v l b f) here there undecided none = grind (arith, nat_tests)
apart n (item.Pair w i p) (item.Tried v l b y) here there undecided none = grind (arith, nat_tests)
apart n (item.Skipped w i t) (item.Pair v j q) here there undecided none = grind (arith, nat_tests)
apart n (item.Skipped w i t) (item.Skipped v j s) here there undecided none = grind (arith, nat_tests)
apart n (item.Skipped w i t) (item.Mined v l b f) here there undecided none = grind (arith, nat_tests)
apart n (item.Skipped w i t) (item.Tried v l b y) here there undecided none = grind (arith, nat_tests)
apart n (item.Mined w m k g) (item.Pair v j q) here there undecided none = grind (arith, nat_tests)
apart n (item.Mined w m k g) (item.Skipped v j s) here there undecided none = grind (arith, nat_tests)
apart n (item.Mined w m k g) (item.Mined v l b f) here there undecided none = grind (arith, nat_tests)
apart n (item.Mined w m k g) (item.Tried v l b y) here there undecided none = grind (arith, nat_tests)
apart n (item.Tried w m k z) (item.Pair v j q) here there undecided none = grind (arith, nat_tests)
apart n (item.Tried w m k z) (item.Skipped v j s) here there undecided none = grind (arith, nat_tests)
apart n (item.Tried w m k z) (item.Mined v l b f) here there undecided none = grind (arith, nat_tests)
apart n (item.Tried w m k z) (item.Tried v l b y) here there undecided none = grind (arith, nat_tests)
apart n (item.Posted w verdict) (item.Pair v j q) here there undecided none = grind (arith, nat_tests)
apart n (item.Posted w verdict) (item.Skipped v j s) here there undecided none = grind (arith, nat_tests)
apart n (item.Posted w verdict) (item.Mined v l b f) here there undecided none = grind (arith, nat_tests)
apart n (item.Posted w verdict) (item.Tried v l b y) here there undecided none = grind (arith, nat_tests)

-- Without a verdict none of the items is one.
none_posted : (items : List Item) → IsOpen items → list_any is_posted items ≡ false
none_posted [] undecided = refl
none_posted (item.Pair worker index pair ∷ items) undecided = none_posted items undecided
none_posted (item.Skipped worker index skipped ∷ items) undecided = none_posted items undecided
none_posted (item.Mined worker prefix alignment candidates ∷ items) undecided = none_posted items undecided
none_posted (item.Tried worker prefix alignment why ∷ items) undecided = none_posted items undecided
none_posted (item.Posted worker verdict ∷ items) undecided = cc

none_clashes : (xs : List Item) → list_any (λ (x : Item). false) xs ≡ false
none_clashes [] = refl
none_clashes (x ∷ xs) = none_clashes xs

-- ---- the numbers of a legal history

module _ (subject : Comparison) where
  abbrev samples : ℕ
  samples = subject.settings.samples

  new_to : (before : List Item) (y : Item) → MayFollow subject before y → list_any (clashes y) before ≡ false
  new_to before (item.Pair worker index pair) may = may.1.0.new
  new_to before (item.Skipped worker index skipped) may = may.1.0.new
  new_to before (item.Mined worker prefix alignment candidates) may = may.1.new
  new_to before (item.Tried worker prefix alignment why) may = may.1.new
  new_to before (item.Posted worker verdict) may = none_clashes before

  in_range : (before : List Item) (y : Item) → IsLegal subject before → MayFollow subject before y → IsInRange samples y
  in_range before (item.Pair worker index pair) legal may = may.1.0.below
  in_range before (item.Skipped worker index skipped) legal may = may.1.0.below
  in_range before (item.Mined worker prefix alignment candidates) legal may =
      let few = pairs_are_few subject before legal in
      (omega (arith, few, may.1.there), may.1.named.least, may.1.named.most)
  in_range before (item.Tried worker prefix alignment why) legal may =
      let mined = any_mined_there subject before prefix alignment legal may.1.mined in
      let few = pairs_are_few subject before legal in
      (omega (arith, few, mined.1.there), mined.1.named.least, mined.1.named.most)
  in_range before (item.Posted worker verdict) legal may = tt

  -- An item that stands before leaves its number to no later one.
  later : (x : Item) (before xs : List Item) → IsInRange samples x → ((test : Item → Bool) → test x ≡ true → list_any test before ≡ true)
      → IsLegal subject before → IsLegalBehind subject before xs
      → AllByRecursion (λ number. eqb (number_of samples x) number ≡ false) (map (number_of samples) xs)
  later x before [] here there front legal = tt
  later x before (y ∷ xs) here there front legal = (
    apart samples y x (in_range before y front legal.0) here
        (false_from_ne_true (is_posted x) (λ is. both_ways (list_any is_posted before) (none_posted before legal.0.0) (there is_posted is)))
        (false_from_ne_true (clashes y x) (λ is. both_ways (list_any (clashes y) before) (new_to before y legal.0) (there (clashes y) is))),
    later x (before ++ y ∷ []) xs here
        (λ test passes. list_any-append test before (y ∷ []) ∙ or_left (list_any test before) (list_any test (y ∷ [])) (there test passes))
        (histories_go_on subject before y front legal.0) legal.1,
  )

  distinct : (before xs : List Item) → IsLegal subject before → IsLegalBehind subject before xs → IsDistinct eqb (map (number_of samples) xs)
  unfolding IsDistinct
  distinct before [] front legal = tt
  distinct before (x ∷ xs) front legal = (
    later x (before ++ x ∷ []) xs (in_range before x front legal.0)
        (λ test passes. list_any-append test before (x ∷ []) ∙ or_right (list_any test before) (list_any test (x ∷ [])) (or_left (test x) false passes))
        (histories_go_on subject before x front legal.0) legal.1,
    distinct (before ++ x ∷ []) xs (histories_go_on subject before x front legal.0) legal.1,
  )

  numbers_below : (before xs : List Item) → IsLegal subject before → IsLegalBehind subject before xs
      → Each (λ number. number < samples + 24 * (samples + 1) + 1) (map (number_of samples) xs)
  numbers_below before [] front legal = tt
  numbers_below before (x ∷ xs) front legal =
      (number_below samples x (in_range before x front legal.0), numbers_below (before ++ x ∷ []) xs (histories_go_on subject before x front legal.0) legal.1)

  -- A legal history has so many items at most.
  pub items_are_few : (items : List Item) → IsLegal subject items → length items ≤ samples + 24 * (samples + 1) + 1
  items_are_few items legal =
      let few = length-le_from_distinct_below (map (number_of samples) items) (samples + 24 * (samples + 1) + 1) (distinct [] items tt legal)
      (each_below_cap (map (number_of samples) items) (samples + 24 * (samples + 1) + 1) (numbers_below [] items tt legal)) in
      rw length-map at few

  -- Where an item may follow there is room for it.
  pub room_left : (items : List Item) (next : Item) → IsLegal subject items → MayFollow subject items next
      → length items < samples + 24 * (samples + 1) + 1
  room_left items next legal may =
      let few = items_are_few (items ++ next ∷ []) (histories_go_on subject items next legal may) in
      omega (arith, few, length-append items (next ∷ []))
