-- The definitions on small lists and views.
use Rattle.std.proofs.Common.{◌≡◌, true, false, [], ◌∷◌, refl, arith}
use Rattle.std.proofs.lemmas.Bool.Decides.{nat_tests}
use Rattle.verdict_board.specs.declared.view.View.{View}
use Rattle.verdict_board.specs.Numbers.{times, past, AreBelow}
use Rattle.verdict_board.specs.Views.{first_view, looked, drew_sample, drew_alignment, raised, split_left, split_right, joined, spent_view, IsWhole}
use Rattle.verdict_board.specs.Rule.{total}

-- ---- numbers

-- 2 stands twice in 2, 0, 2
twice : times 2 (2 ∷ 0 ∷ 2 ∷ []) ≡ 2
twice = refl

-- of 4, 2, 3 two are at or past 3
two_past : past 3 (4 ∷ 2 ∷ 3 ∷ []) ≡ 2
two_past = refl

-- 2, 0, 1 are the numbers below 3
three_numbers : AreBelow 3 (2 ∷ 0 ∷ 1 ∷ [])
three_numbers x = grind (arith, nat_tests)

-- 0, 0 are not those below 2, and neither is 0 alone
one_twice : AreBelow 2 (0 ∷ 0 ∷ []) → ⊥
one_twice are = let zeros = are 0 in omega arith

one_missing : AreBelow 2 (0 ∷ []) → ⊥
one_missing are = let ones = are 1 in omega arith

-- ---- views

-- three samples, two alignments, and one split
abbrev small : View
small = first_view 3 2 1

-- one looks and draws 0, the other looks, draws 1 and raises, and one takes in the other
abbrev together : View
together = joined (drew_sample (looked (split_left small) false) 0) (raised (drew_sample (looked (split_right small) false) 1) true)

both_drew : together.samples.drawn ≡ 0 ∷ 1 ∷ []
both_drew = refl

both_looked : together.looks ≡ 2
both_looked = refl

one_raised : together.raises ≡ 1
one_raised = refl

stop_is_seen : together.seen ≡ true
stop_is_seen = refl

-- two passes are one again, and no split is left
whole_again : IsWhole together
whole_again = refl

-- before that, neither is whole
half_is_not : IsWhole (split_right small) → ⊥
half_is_not whole = omega arith

-- a look that is false lets draw, a draw ends that, and so does a join
may_after_look : (looked small false).may_draw ≡ true
may_after_look = refl

not_after_draw : (drew_alignment (looked small false) 0).may_draw ≡ false
not_after_draw = refl

not_after_join : (joined (looked small false) small).may_draw ≡ false
not_after_join = refl

-- a look that is true does not
not_after_stop : (looked small true).may_draw ≡ false
not_after_stop = refl

-- weights of two views, and of one that is spent
weights : total (λ v. v.weight) (small ∷ together ∷ spent_view ∷ []) ≡ 3
weights = refl
