-- The equalities of parameters, one after the other.
use Rattle.std.proofs.Common.{◌≡◌, ℕ, zero, suc, ◌+◌, ◌<◌, ◌≤◌, List, length, take, get_or, refl, sym, ap, ◌∙◌, arith}
use Rattle.std.proofs.lemmas.List.{take_all}
use Rattle.horn_clauses.specs.declared.atom.Atom.{Atom}
use Rattle.horn_clauses.specs.Equalities.{equality_at, equalities_from, equal_parameters}

length-equalities : (n i more : ℕ) → length (equalities_from n i more) ≡ more
length-equalities n i zero = refl
length-equalities n i (suc more) = ap suc (length-equalities n (suc i) more)

get_or-equalities : (n i more k : ℕ) (d : Atom) → k < more → get_or (equalities_from n i more) k d ≡ equality_at n (i + k)
get_or-equalities n i zero k d below = absurd (omega arith)
get_or-equalities n i (suc more) zero d below = ap (equality_at n) (omega arith)
get_or-equalities n i (suc more) (suc k) d below =
    get_or-equalities n (suc i) more k d (omega arith) ∙ ap (equality_at n) (omega arith)

pub length-equal_parameters : (n : ℕ) → length (equal_parameters n) ≡ n
length-equal_parameters n = length-equalities n 0 n

pub get_or-equal_parameters : (n k : ℕ) (d : Atom) → k < n → get_or (equal_parameters n) k d ≡ equality_at n k
get_or-equal_parameters n k d below = get_or-equalities n 0 n k d below ∙ ap (equality_at n) (omega arith)

-- Lists of one length that agree to the end are equal.
pub same_front : {A : Type 0} (xs ys : List A) (n : ℕ) → length xs ≡ length ys → length xs ≤ n → take n xs ≡ take n ys → xs ≡ ys
same_front xs ys n long past same = sym (take_all n xs past) ∙ same ∙ take_all n ys (omega (arith, long, past))
