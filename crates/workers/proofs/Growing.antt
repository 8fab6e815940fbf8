-- What one item more changes.
use Rattle.pool_core.specs.History.{workers_of}
use Rattle.std.proofs.Common.{cond, length, not, ◌+◌}
use Rattle.std.proofs.lemmas.Bool.Decides.{nat_tests}
use Rattle.std.specs.List.{position_or_len}
use Rattle.std.specs.Prelude.{nat_lt, position}
use Rattle.std.proofs.Common.{◌≡◌, ℕ, suc, ◌<◌, Bool, true, false, ◌||◌, List, [], ◌∷◌, ◌++◌, Some, None, refl, ap, ◌∙◌, arith}
use Rattle.std.specs.Prelude.{All}
use Rattle.std.specs.List.{list_any}
use Rattle.std.proofs.lemmas.List.Folds.{list_any-append}
use Rattle.std.proofs.lemmas.List.Elements.{All-nil, All-cons, All-append}
use Rattle.std.proofs.lemmas.Bool.{or_left, or_right}
use Rattle.c_ast.specs.declared.trace.Pair.{Pair}
use Rattle.pool_core.specs.declared.item.Item.{Item}
use Rattle.pool_core.specs.declared.item.Item.TheVariants as item
use Rattle.pool_core.specs.History.{pairs_of, indexes_of, verdict_of}
use Rattle.workers.specs.Solved.{AreRising}

-- ---- tests

neither : (a b : Bool) → a ≡ false → b ≡ false → (a || (b || false)) ≡ false
neither false false e f = refl
neither true b e f = absurd cc
neither false true e f = absurd cc

-- Where no item passes and the next one does not, none does.
pub still_none : (p : Item → Bool) (items : List Item) (next : Item) → list_any p items ≡ false → p next ≡ false
    → list_any p (items ++ next ∷ []) ≡ false
still_none p items next none fails = list_any-append p items (next ∷ []) ∙ neither (list_any p items) (p next) none fails

-- Where one passes, one does.
pub still_one : (p : Item → Bool) (items : List Item) (next : Item) → list_any p items ≡ true → list_any p (items ++ next ∷ []) ≡ true
still_one p items next one = list_any-append p items (next ∷ []) ∙ or_left (list_any p items) (list_any p (next ∷ [])) one

pub now_one : (p : Item → Bool) (items : List Item) (next : Item) → p next ≡ true → list_any p (items ++ next ∷ []) ≡ true
now_one p items next passes =
    list_any-append p items (next ∷ []) ∙ or_right (list_any p items) (list_any p (next ∷ [])) (or_left (p next) false passes)

at_most_one_more : (b any : Bool) (n m : ℕ) → (b || any) ≡ false → (any ≡ false → cond (nat_lt n m) (Some n) None ≡ None)
    → cond (nat_lt (cond (not b) (1 + n) 0) (suc m)) (Some (cond (not b) (1 + n) 0)) None ≡ None
at_most_one_more true any n m fails later = absurd cc
at_most_one_more false any n m fails later = let none = later fails in grind (arith, nat_tests)

-- Where none passes, none has a position.
pub no_position : {X : Type 0} (p : X → Bool) (xs : List X) → list_any p xs ≡ false → position p xs ≡ None
no_position p [] none = refl
no_position p (x ∷ xs) none = at_most_one_more (p x) (list_any p xs) (position_or_len p xs) (length xs) none (no_position p xs)

-- ---- lists

pub pairs_added : (items more : List Item) → pairs_of (items ++ more) ≡ pairs_of items ++ pairs_of more
pairs_added [] more = refl
pairs_added (item.Pair worker index pair ∷ items) more = ap (λ (pairs : List Pair). pair ∷ pairs) (pairs_added items more)
pairs_added (item.Skipped worker index skipped ∷ items) more = pairs_added items more
pairs_added (item.Mined worker prefix alignment candidates ∷ items) more = pairs_added items more
pairs_added (item.Tried worker prefix alignment why ∷ items) more = pairs_added items more
pairs_added (item.Posted worker found ∷ items) more = pairs_added items more

pub indexes_added : (items more : List Item) → indexes_of (items ++ more) ≡ indexes_of items ++ indexes_of more
indexes_added [] more = refl
indexes_added (item.Pair worker index pair ∷ items) more = ap (λ (indexes : List ℕ). index ∷ indexes) (indexes_added items more)
indexes_added (item.Skipped worker index skipped ∷ items) more = indexes_added items more
indexes_added (item.Mined worker prefix alignment candidates ∷ items) more = indexes_added items more
indexes_added (item.Tried worker prefix alignment why ∷ items) more = indexes_added items more
indexes_added (item.Posted worker found ∷ items) more = indexes_added items more

pub verdict_added : (items more : List Item) → verdict_of items ≡ None → verdict_of (items ++ more) ≡ verdict_of more
verdict_added [] more undecided = refl
verdict_added (item.Pair worker index pair ∷ items) more undecided = verdict_added items more undecided
verdict_added (item.Skipped worker index skipped ∷ items) more undecided = verdict_added items more undecided
verdict_added (item.Mined worker prefix alignment candidates ∷ items) more undecided = verdict_added items more undecided
verdict_added (item.Tried worker prefix alignment why ∷ items) more undecided = verdict_added items more undecided
verdict_added (item.Posted worker found ∷ items) more undecided = absurd cc

pub workers_are_many : (items : List Item) → length (workers_of items) ≡ length (pairs_of items)
workers_are_many [] = refl
workers_are_many (item.Pair worker index pair ∷ items) = ap suc (workers_are_many items)
workers_are_many (item.Skipped worker index skipped ∷ items) = workers_are_many items
workers_are_many (item.Mined worker prefix alignment candidates ∷ items) = workers_are_many items
workers_are_many (item.Tried worker prefix alignment why ∷ items) = workers_are_many items
workers_are_many (item.Posted worker found ∷ items) = workers_are_many items

pub indexes_are_many : (items : List Item) → length (indexes_of items) ≡ length (pairs_of items)
indexes_are_many [] = refl
indexes_are_many (item.Pair worker index pair ∷ items) = ap suc (indexes_are_many items)
indexes_are_many (item.Skipped worker index skipped ∷ items) = indexes_are_many items
indexes_are_many (item.Mined worker prefix alignment candidates ∷ items) = indexes_are_many items
indexes_are_many (item.Tried worker prefix alignment why ∷ items) = indexes_are_many items
indexes_are_many (item.Posted worker found ∷ items) = indexes_are_many items

-- ---- rising numbers

-- A number above all others may stand behind them.
pub rises : (xs : List ℕ) (x : ℕ) → AreRising xs → All (λ y. y < x) xs → AreRising (xs ++ x ∷ [])
rises [] x rising below = tt
rises (y ∷ []) x rising below = (below 0 0 (omega arith), tt)
rises (y ∷ z ∷ more) x rising below =
    (rising.0, rises (z ∷ more) x rising.1 (λ k d inside. below (suc k) d (omega (arith, inside))))

-- One more that has what all have.
pub all_added : {A : Type 0} (P : A → Type 0) (xs : List A) (x : A) → All P xs → P x → All P (xs ++ x ∷ [])
all_added P xs x all here = All-append P xs (x ∷ []) all (All-cons P x [] here (All-nil P))
