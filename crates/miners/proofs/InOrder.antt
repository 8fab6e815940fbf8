-- Candidates stand in their order, at the entries too.
use Rattle.std.proofs.Common.{◌≡◌, ℕ, zero, suc, ◌+◌, ◌<◌, ◌≤◌, Bool, true, false, cond, leb, inl, inr, List, [], ◌∷◌, ◌++◌, length, replicate, set, Some, ℤ, pos, negsuc, arith, refl, subst}
use Rattle.std.proofs.lemmas.Int.{ints}
use Rattle.horn_clauses.specs.declared.atom.Atom.{Atom}
use Rattle.horn_clauses.specs.Node.{is_same_node, entries}
use Rattle.horn_clauses.specs.Equalities.{equality_at, equalities_from, equal_parameters}
use Rattle.miners.specs.Template.{IsGreater, AtomStandsBefore, AreInOrder, AreRising}
use Rattle.miners.specs.Mined.{mined}
use Rattle.miners.specs.Candidates.{points_at, mined_of}
use Rattle.miners.specs.Laws.{CandidatesAreInOrder}
use Rattle.miners.proofs.Listings.{Each, IsListed, pairs_of}
use Rattle.miners.proofs.MiningIs.{mines_candidates}

greater : (n i j : ℕ) → i < j → j < n → (xs ys : List ℤ) → IsGreater (set (replicate n (pos 0)) i (pos 1) ++ xs) (set (replicate n (pos 0)) j (pos 1) ++ ys)
greater zero i j before within xs ys = absurd (omega (arith, within))
greater (suc n) i zero before within xs ys = absurd (omega (arith, before))
greater (suc n) zero (suc j) before within xs ys = inl (omega (arith, ints))
greater (suc n) (suc i) (suc j) before within xs ys = inr (refl, greater n i j (omega (arith, before)) (omega (arith, within)) xs ys)

each_behind : (n i k more : ℕ) → i < k → k + more ≤ n → Each (AtomStandsBefore (equality_at n i)) (equalities_from n k more)
each_behind n i k zero before within = tt
each_behind n i k (suc more) before within = (
  inl (greater n i k before (omega (arith, within)) (set (replicate n (pos 0)) i (negsuc 0)) (set (replicate n (pos 0)) k (negsuc 0))),
  each_behind n i (suc k) more (omega (arith, before)) (omega (arith, within)),
)

listed_from : (n i more : ℕ) → i + more ≤ n → IsListed AtomStandsBefore (equalities_from n i more)
listed_from n i zero within = tt
listed_from n i (suc more) within =
    (each_behind n i (suc i) more (omega arith) (omega (arith, within)), listed_from n (suc i) more (omega (arith, within)))

inner : (atoms others : List Atom) → Some atoms ≡ Some others → atoms ≡ others
inner atoms others same = cc

none_in_order : AreInOrder []
none_in_order = pairs_of AtomStandsBefore [] tt

mined_in_order : (constants : List ℤ) → AreRising constants → (points : List (List ℤ)) (atoms : List Atom) → mined_of constants points ≡ Some atoms
    → AreInOrder atoms
mined_in_order constants rise [] atoms is = cc
mined_in_order constants rise (p ∷ ps) atoms is = by (leb (length p) 16) is
  where
    by : (b : Bool) → Some (cond b (mined constants p ps) []) ≡ Some atoms → AreInOrder atoms
    by true e = subst AreInOrder (inner (mined constants p ps) atoms e) ((mines_candidates constants p ps rise).order)
    by false e = subst AreInOrder (inner [] atoms e) none_in_order

pub candidates_are_in_order : CandidatesAreInOrder
candidates_are_in_order alignment constants params pairs node atoms rise is = by (is_same_node node entries) is
  where
    by : (b : Bool) → cond b (Some (equal_parameters params)) (mined_of constants (points_at alignment node pairs)) ≡ Some atoms → AreInOrder atoms
    by true e = subst AreInOrder (inner (equal_parameters params) atoms e)
        (pairs_of AtomStandsBefore (equal_parameters params) (listed_from params 0 params (omega arith)))
    by false e = mined_in_order constants rise (points_at alignment node pairs) atoms e
