-- The signs of a difference decide each comparison.
use Rattle.std.proofs.Common.{◌≡◌, zero, suc, Bool, true, false, cond, not, ◌&&◌, ◌||◌, List, refl, ap, ◌∙◌, inl, inr, arith}
use Rattle.std.specs.Prelude.{ℤ, pos, negsuc, ◌-ℤ◌, ◌≤ℤ◌, ◌<ℤ◌, T, int_lt, int_le}
use Rattle.std.specs.Int.Signed.{lt_z_yes, le_z_yes}
use Rattle.std.proofs.lemmas.Int.{ints}
use Rattle.lin_terms.specs.declared.sign.Sign.{Sign}
use Rattle.c_ast.specs.Value.{is_nonzero, test_value, are_equal}
use Rattle.sym_paths.specs.Symbolic.{nonzero_signs, zero_signs, negative_signs, not_positive_signs, positive_signs, not_negative_signs}
use Rattle.sym_paths.proofs.Rows.{EachSign, SomeSign, yes_is}

-- The alternatives give what the test gives, by the sign that the value has; it has one of these signs.
abbrev pub Covers : List (Sign × Bool) → (ℤ → Bool) → Type 0
Covers options test = (value : ℤ) → EachSign options value (λ answer. answer ≡ test value) × SomeSign options value

pub nonzero_covers : Covers nonzero_signs is_nonzero
nonzero_covers (pos zero) = ((λ h. absurd (omega (arith, ints)), (λ h. absurd (omega (arith, ints)), (λ h. refl, tt))), inr (inr (inl refl)))
nonzero_covers (pos (suc n)) = ((λ h. refl, (λ h. refl, (λ h. cc, tt))), inr (inl (omega (arith, ints))))
nonzero_covers (negsuc n) = ((λ h. refl, (λ h. refl, (λ h. cc, tt))), inl (omega (arith, ints)))

pub zero_covers : Covers zero_signs (λ v. not (is_nonzero v))
zero_covers (pos zero) = ((λ h. refl, (λ h. absurd (omega (arith, ints)), (λ h. absurd (omega (arith, ints)), tt))), inl refl)
zero_covers (pos (suc n)) = ((λ h. cc, (λ h. refl, (λ h. refl, tt))), inr (inr (inl (omega (arith, ints)))))
zero_covers (negsuc n) = ((λ h. cc, (λ h. refl, (λ h. refl, tt))), inr (inl (omega (arith, ints))))

abbrev pub is_negative : ℤ → Bool
is_negative (pos n) = false
is_negative (negsuc n) = true

abbrev pub is_positive : ℤ → Bool
is_positive (pos zero) = false
is_positive (pos (suc n)) = true
is_positive (negsuc n) = false

pub negative_covers : Covers negative_signs is_negative
negative_covers (pos n) = ((λ h. absurd (omega (arith, ints)), (λ h. refl, tt)), inr (inl (omega (arith, ints))))
negative_covers (negsuc n) = ((λ h. refl, (λ h. absurd (omega (arith, ints)), tt)), inl (omega (arith, ints)))

pub not_negative_covers : Covers not_negative_signs (λ v. not (is_negative v))
not_negative_covers (pos n) = ((λ h. refl, (λ h. absurd (omega (arith, ints)), tt)), inl (omega (arith, ints)))
not_negative_covers (negsuc n) = ((λ h. absurd (omega (arith, ints)), (λ h. refl, tt)), inr (inl (omega (arith, ints))))

pub positive_covers : Covers positive_signs is_positive
positive_covers (pos zero) = ((λ h. absurd (omega (arith, ints)), (λ h. refl, tt)), inr (inl (omega (arith, ints))))
positive_covers (pos (suc n)) = ((λ h. refl, (λ h. absurd (omega (arith, ints)), tt)), inl (omega (arith, ints)))
positive_covers (negsuc n) = ((λ h. absurd (omega (arith, ints)), (λ h. refl, tt)), inr (inl (omega (arith, ints))))

pub not_positive_covers : Covers not_positive_signs (λ v. not (is_positive v))
not_positive_covers (pos zero) = ((λ h. refl, (λ h. absurd (omega (arith, ints)), tt)), inl (omega (arith, ints)))
not_positive_covers (pos (suc n)) = ((λ h. absurd (omega (arith, ints)), (λ h. refl, tt)), inr (inl (omega (arith, ints))))
not_positive_covers (negsuc n) = ((λ h. refl, (λ h. absurd (omega (arith, ints)), tt)), inl (omega (arith, ints)))

-- ---- tests of two values are tests of their difference

no_is : (t : Bool) → (T t → ⊥) → t ≡ false
no_is true h = absurd (h tt)
no_is false h = refl

less_is_by : (a b d : ℤ) → d ≡ a -ℤ b → int_lt a b ≡ is_negative d
less_is_by a b (pos n) e = no_is (int_lt a b) (λ h. let k : a <ℤ b = lt_z_yes h in omega (arith, ints))
less_is_by a b (negsuc n) e = let k : a <ℤ b = omega (arith, ints) in yes_is (int_lt a b) k.lt

pub less_is : (a b : ℤ) → int_lt a b ≡ is_negative (a -ℤ b)
less_is a b = less_is_by a b (a -ℤ b) refl

greater_is_by : (a b d : ℤ) → d ≡ a -ℤ b → int_lt b a ≡ is_positive d
greater_is_by a b (pos zero) e = no_is (int_lt b a) (λ h. let k : b <ℤ a = lt_z_yes h in omega (arith, ints))
greater_is_by a b (pos (suc n)) e = let k : b <ℤ a = omega (arith, ints) in yes_is (int_lt b a) k.lt
greater_is_by a b (negsuc n) e = no_is (int_lt b a) (λ h. let k : b <ℤ a = lt_z_yes h in omega (arith, ints))

pub greater_is : (a b : ℤ) → int_lt b a ≡ is_positive (a -ℤ b)
greater_is a b = greater_is_by a b (a -ℤ b) refl

less_equal_is_by : (a b d : ℤ) → d ≡ a -ℤ b → int_le a b ≡ not (is_positive d)
less_equal_is_by a b (pos zero) e = let k : a ≤ℤ b = omega (arith, ints) in yes_is (int_le a b) k.le
less_equal_is_by a b (pos (suc n)) e = no_is (int_le a b) (λ h. let k : a ≤ℤ b = le_z_yes h in omega (arith, ints))
less_equal_is_by a b (negsuc n) e = let k : a ≤ℤ b = omega (arith, ints) in yes_is (int_le a b) k.le

pub less_equal_is : (a b : ℤ) → int_le a b ≡ not (is_positive (a -ℤ b))
less_equal_is a b = less_equal_is_by a b (a -ℤ b) refl

greater_equal_is_by : (a b d : ℤ) → d ≡ a -ℤ b → int_le b a ≡ not (is_negative d)
greater_equal_is_by a b (pos n) e = let k : b ≤ℤ a = omega (arith, ints) in yes_is (int_le b a) k.le
greater_equal_is_by a b (negsuc n) e = no_is (int_le b a) (λ h. let k : b ≤ℤ a = le_z_yes h in omega (arith, ints))

pub greater_equal_is : (a b : ℤ) → int_le b a ≡ not (is_negative (a -ℤ b))
greater_equal_is a b = greater_equal_is_by a b (a -ℤ b) refl

signs_of_zero : (d : ℤ) → (not (is_positive d) && not (is_negative d)) ≡ not (is_nonzero d)
signs_of_zero (pos zero) = refl
signs_of_zero (pos (suc n)) = refl
signs_of_zero (negsuc n) = refl

pub equal_is : (a b : ℤ) → are_equal a b ≡ not (is_nonzero (a -ℤ b))
equal_is a b = rw (less_equal_is a b, greater_equal_is a b) (signs_of_zero (a -ℤ b))

twice_not : (t : Bool) → not (not t) ≡ t
twice_not true = refl
twice_not false = refl

pub not_equal_is : (a b : ℤ) → not (are_equal a b) ≡ is_nonzero (a -ℤ b)
not_equal_is a b = ap not (equal_is a b) ∙ twice_not (is_nonzero (a -ℤ b))

pub and_is : (a b : Bool) → cond a (test_value b) (test_value false) ≡ test_value (a && b)
and_is true b = refl
and_is false b = refl

pub or_is : (a b : Bool) → cond a (test_value true) (test_value b) ≡ test_value (a || b)
or_is true b = refl
or_is false b = refl
