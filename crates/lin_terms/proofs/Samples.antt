-- The definitions of rows on small cases.
use Rattle.std.proofs.Common.{◌≡◌, true, false, [], ◌∷◌, pos, negsuc, refl}
use Rattle.lin_terms.specs.declared.row.Row.{Row}
use Rattle.lin_terms.specs.Divisor.{gcd_steps, gcd_of, floor_div}
use Rattle.lin_terms.specs.Row.{Holds, Meets}
use Rattle.lin_terms.specs.Tight.{tight_of}

divisor : gcd_of (pos 12 ∷ negsuc 17 ∷ pos 0 ∷ pos 30 ∷ []) ≡ 6
unfolding gcd_steps
divisor = refl

divisor_of_zeros : gcd_of (pos 0 ∷ pos 0 ∷ []) ≡ 0
unfolding gcd_steps
divisor_of_zeros = refl

-- 7 over 2, -7 over 2, -8 over 2
down_from_seven : floor_div (pos 7) 2 ≡ pos 3
down_from_seven = refl

down_from_minus_seven : floor_div (negsuc 6) 2 ≡ negsuc 3
down_from_minus_seven = refl

exact_from_minus_eight : floor_div (negsuc 7) 2 ≡ negsuc 3
exact_from_minus_eight = refl

-- 2x - 4y + 3 >= 0
odd : Row
odd = record { coefs = pos 2 ∷ negsuc 3 ∷ []; constant = pos 3; equality = false }

odd_tight : tight_of odd ≡ record { coefs = pos 1 ∷ negsuc 1 ∷ []; constant = pos 1; equality = false }
unfolding odd gcd_steps
odd_tight = refl

-- 2x - 4y + 3 = 0
odd_equality : Row
odd_equality = record { coefs = pos 2 ∷ negsuc 3 ∷ []; constant = pos 3; equality = true }

odd_never : tight_of odd_equality ≡ record { coefs = pos 0 ∷ pos 0 ∷ []; constant = negsuc 0; equality = false }
unfolding odd_equality gcd_steps
odd_never = refl

-- x = -3/2, y = 0, where the equality holds
odd_met : Meets (negsuc 2 ∷ pos 0 ∷ []) (pos 2) odd_equality
unfolding odd_equality
odd_met = refl

-- 4x - 6y + 2 = 0 at x = 1, y = 1
even_equality : Row
even_equality = record { coefs = pos 4 ∷ negsuc 5 ∷ []; constant = pos 2; equality = true }

even_holds : Holds (pos 1 ∷ pos 1 ∷ []) even_equality
unfolding even_equality
even_holds = refl

even_tight : tight_of even_equality ≡ record { coefs = pos 2 ∷ negsuc 2 ∷ []; constant = pos 1; equality = true }
unfolding even_equality gcd_steps
even_tight = refl

-- 0x + 5 = 0 stays
without_variables : Row
without_variables = record { coefs = pos 0 ∷ []; constant = pos 5; equality = true }

stays : tight_of without_variables ≡ without_variables
unfolding without_variables gcd_steps
stays = refl
