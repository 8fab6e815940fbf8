-- What the tests of items find in a list of them.
use Rattle.std.proofs.Common.{◌≡◌, ℕ, suc, ◌+◌, ◌==◌, ◌&&◌, ◌||◌, nat_lt, Bool, true, false, cond, not, inl, inr, List, [], ◌∷◌, length, Some, None, refl, sym, ap, ◌∙◌, subst, arith}
use Rattle.std.specs.Prelude.{Contains}
use Rattle.std.specs.List.{list_any, position, position_or_len}
use Rattle.std.proofs.lemmas.Bool.{or_left, or_right}
use Rattle.std.proofs.lemmas.Bool.Decides.{nat_tests}
use Rattle.horn_clauses.specs.declared.family.Family.{Family}
use Rattle.pool_core.specs.declared.item.Item.{Item}
use Rattle.pool_core.specs.declared.item.Item.TheVariants as item
use Rattle.pool_core.specs.History.{has_mined}
use Rattle.pool_core.proofs.Listings.{IsOneOf, one_of}

-- An item of the list that passes the test.
pub record Passes (test : Item → Bool) (items : List Item) : Type 0 where
  pub found : Item
  pub one : IsOneOf found items
  pub passes : test found ≡ true

pub some_passes : (test : Item → Bool) (items : List Item) → list_any test items ≡ true → Passes test items
some_passes test [] any = cc
some_passes test (first ∷ items) any = by (test first) refl any (some_passes test items)
  where
    by : (b : Bool) → test first ≡ b → (b || list_any test items) ≡ true → (list_any test items ≡ true → Passes test items)
        → Passes test (first ∷ items)
    by true is any later = record { found = first; one = inl refl; passes = is }
    by false is any later = let r = later any in record { found = r.found; one = inr r.one; passes = r.passes }

pub any_of : (test : Item → Bool) (items : List Item) (next : Item) → IsOneOf next items → test next ≡ true → list_any test items ≡ true
any_of test [] next one passes = absurd one
any_of test (first ∷ items) next (inl same) passes = or_left (test first) (list_any test items) (ap test (sym same) ∙ passes)
any_of test (first ∷ items) next (inr one) passes = or_right (test first) (list_any test items) (any_of test items next one passes)

pub same_numbers : (m n k l : ℕ) → ((m == n) && (k == l)) ≡ true → (m ≡ n) × (k ≡ l)
same_numbers m n k l both = (grind (arith, nat_tests), grind (arith, nat_tests))

pub equal_numbers : (m k : ℕ) → ((m == m) && (k == k)) ≡ true
equal_numbers m k = grind (arith, nat_tests)

-- Candidates of so many pairs that were mined under the alignment.
pub record IsMinedAmong (items : List Item) (m k : ℕ) : Type 0 where
  pub worker : ℕ
  pub family : Family
  pub one : IsOneOf (item.Mined worker m k family) items

mined_found : (items : List Item) (m k : ℕ) (next : Item) → IsOneOf next items → has_mined m k next ≡ true → IsMinedAmong items m k
mined_found items m k (item.Pair worker index pair) one passes = cc
mined_found items m k (item.Skipped worker index skipped) one passes = cc
mined_found items m k (item.Mined worker prefix alignment candidates) one passes =
    let same = same_numbers prefix m alignment k passes in
    record {
      worker = worker;
      family = candidates;
      one = subst (λ (n : ℕ). IsOneOf (item.Mined worker m n candidates) items) same.1
          (subst (λ (n : ℕ). IsOneOf (item.Mined worker n alignment candidates) items) same.0 one);
    }
mined_found items m k (item.Tried worker prefix alignment why) one passes = cc
mined_found items m k (item.Posted worker verdict) one passes = cc

pub mined_among : (items : List Item) (m k : ℕ) → list_any (has_mined m k) items ≡ true → IsMinedAmong items m k
mined_among items m k any = let r = some_passes (has_mined m k) items any in mined_found items m k r.found r.one r.passes

pub mined_passes : (items : List Item) (worker m k : ℕ) (family : Family) → Contains items (item.Mined worker m k family)
    → list_any (has_mined m k) items ≡ true
mined_passes items worker m k family has =
    any_of (has_mined m k) items (item.Mined worker m k family) (one_of items (item.Mined worker m k family) has) (equal_numbers m k)

-- ---- none

none_at : (b any : Bool) (n m : ℕ) → cond (nat_lt (cond (not b) (1 + n) 0) (suc m)) (Some (cond (not b) (1 + n) 0)) None ≡ None
    → (cond (nat_lt n m) (Some n) None ≡ None → any ≡ false) → (b || any) ≡ false
none_at true any n m none later = grind (arith, nat_tests)
none_at false any n m none later = later (grind (arith, nat_tests))

-- Where none has a position, none passes.
pub none_passes : {X : Type 0} (p : X → Bool) (xs : List X) → position p xs ≡ None → list_any p xs ≡ false
none_passes p [] none = refl
none_passes p (x ∷ xs) none = none_at (p x) (list_any p xs) (position_or_len p xs) (length xs) none (none_passes p xs)
