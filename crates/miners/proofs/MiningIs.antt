-- The laws of mining.
use Rattle.std.proofs.Common.{List, ◌∷◌}
use Rattle.std.specs.Prelude.{ℤ, ◌<ℤ◌}
use Rattle.horn_clauses.specs.declared.atom.Atom.{Atom}
use Rattle.horn_clauses.specs.Atom.{AtomHolds}
use Rattle.miners.specs.Template.{AtomStandsBefore}
use Rattle.miners.specs.Mined.{proposed, mined}
use Rattle.miners.specs.Laws.{IsCandidate, AreTheCandidates, MinesCandidates, OneListOfCandidates, MiningGoesOn, HadPointsStrikeNothing}
use Rattle.miners.proofs.Listings.{Lists, contains, one_of, each_of, all_of, pairs_of, listed_of}
use Rattle.miners.proofs.Unique.{same_lists, before_asymmetric}
use Rattle.miners.proofs.Striking.{strikes_none, struck_more}
use Rattle.miners.proofs.Proposing.{mined_is, is_mined, mined_lists}
use Rattle.miners.proofs.Listings.{each_one}

pub mines_candidates : MinesCandidates
mines_candidates constants p ps rise = record {
  exact = λ a. (
    (λ one. let r = mined_is constants p ps a (one_of (mined constants p ps) a one) in (r.0, all_of (AtomHolds a) (p ∷ ps) r.1)),
    (λ is. contains (mined constants p ps) a (is_mined constants p ps a (is.0, each_of (AtomHolds a) (p ∷ ps) is.1))),
  );
  order = pairs_of AtomStandsBefore (mined constants p ps) ((mined_lists constants p ps (listed_of (λ x y. x <ℤ y) constants rise)).in_order);
}

listing : (constants p : List ℤ) (ps : List (List ℤ)) (atoms : List Atom) → AreTheCandidates constants p ps atoms
    → Lists AtomStandsBefore (IsCandidate constants p ps) atoms
listing constants p ps atoms are = record {
  exactly = λ a. ((λ one. (are.exact a).0 (contains atoms a one)), (λ is. one_of atoms a ((are.exact a).1 is)));
  in_order = listed_of AtomStandsBefore atoms are.order;
}

pub one_list : OneListOfCandidates
one_list constants p ps atoms others are also =
    same_lists AtomStandsBefore (IsCandidate constants p ps) before_asymmetric atoms others
    (listing constants p ps atoms are) (listing constants p ps others also)

pub mining_goes_on : MiningGoesOn
mining_goes_on constants p ps qs = struck_more (proposed constants p) ps qs

pub had_points_strike_nothing : HadPointsStrikeNothing
had_points_strike_nothing constants p ps had there =
    strikes_none (mined constants p ps) had (λ a one. each_one (AtomHolds a) (p ∷ ps) had (one_of (p ∷ ps) had there) (mined_is constants p ps a one).1)
