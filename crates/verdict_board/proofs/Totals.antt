-- Sums over the views, and what one change does to them.
use Rattle.std.proofs.Common.{◌≡◌, ℕ, ◌+◌, ◌≤◌, zero, suc, List, [], ◌∷◌, ◌++◌, set, refl, sym, ap, arith}
use mathlib.Core.Option.{some, some-injective, some-ne-none}
use lib.ListN.{get_elem?}
use Rattle.verdict_board.specs.declared.view.View.{View}
use Rattle.verdict_board.specs.Rule.{total}

-- one view is another
pub total_set : (f : View → ℕ) (views : List View) (id : ℕ) (v w : View) → get_elem? views id ≡ some v
    → total f (set views id w) + f v ≡ total f views + f w
total_set f [] id v w at = absurd (some-ne-none v (sym at))
total_set f (x ∷ xs) zero v w at = let e = ap f (some-injective x v at) in omega arith
total_set f (x ∷ xs) (suc id) v w at = let others = total_set f xs id v w at in omega arith

-- one more view
pub total_push : (f : View → ℕ) (views : List View) (w : View) → total f (views ++ w ∷ []) ≡ total f views + f w
total_push f [] w = omega arith
total_push f (x ∷ xs) w = let others = total_push f xs w in omega arith

-- no view has more than all together
pub total_has : (f : View → ℕ) (views : List View) (id : ℕ) (v : View) → get_elem? views id ≡ some v → f v ≤ total f views
total_has f [] id v at = absurd (some-ne-none v (sym at))
total_has f (x ∷ xs) zero v at = let e = ap f (some-injective x v at) in omega arith
total_has f (x ∷ xs) (suc id) v at = let others = total_has f xs id v at in omega arith

-- where f is at most g of each view, it is of all
pub total_mono : (f g : View → ℕ) (views : List View) → ((i : ℕ) (v : View) → get_elem? views i ≡ some v → f v ≤ g v)
    → total f views ≤ total g views
total_mono f g [] each = omega arith
total_mono f g (x ∷ xs) each =
    let here = each 0 x refl in
    let others = total_mono f g xs (λ i v at. each (suc i) v at) in
    omega arith

-- where g is 0 where f is 0, and no view has some of f, none has some of g
total_none : (f g : View → ℕ) (views : List View) → ((i : ℕ) (u : View) → get_elem? views i ≡ some u → f u ≡ 0 → g u ≡ 0)
    → total f views ≡ 0 → total g views ≡ 0
total_none f g [] idle none = refl
total_none f g (x ∷ xs) idle none =
    let here = idle 0 x refl (omega arith) in
    let others = total_none f g xs (λ i u there. idle (suc i) u there) (omega arith) in
    omega arith

-- where g is 0 where f is 0, and one view has all of f, it has all of g
pub total_only : (f g : View → ℕ) (views : List View) (id : ℕ) (v : View) → get_elem? views id ≡ some v → total f views ≡ f v
    → ((i : ℕ) (u : View) → get_elem? views i ≡ some u → f u ≡ 0 → g u ≡ 0) → total g views ≡ g v
total_only f g [] id v at all idle = absurd (some-ne-none v (sym at))
total_only f g (x ∷ xs) zero v at all idle =
    let same_f = ap f (some-injective x v at) in
    let same_g = ap g (some-injective x v at) in
    let none = total_none f g xs (λ i u there. idle (suc i) u there) (omega arith) in
    omega arith
total_only f g (x ∷ xs) (suc id) v at all idle =
    let has = total_has f xs id v at in
    let here = idle 0 x refl (omega arith) in
    let others = total_only f g xs id v at (omega arith) (λ i u there. idle (suc i) u there) in
    omega arith
