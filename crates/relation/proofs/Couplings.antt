-- What a coupling says is an invariant: its atoms hold at the entries, and force equal results at the exits.
use Rattle.std.proofs.Common.{◌≡◌, ℕ, List, [], ◌∷◌, ◌++◌, length, Option, Some, None, ℤ, refl, sym, ap, subst, inl, inr}
use Rattle.std.specs.Prelude.{All, IsSomeAnd}
use Rattle.std.proofs.lemmas.List.Elements.{All-contains}
use Rattle.c_ast.specs.Tree.{Expression, Program}
use Rattle.c_ast.specs.Condition.{Meets}
use Rattle.alignment.proofs.Laws.{entries_are_not_met}
use Rattle.horn_clauses.specs.declared.atom.Atom.{Atom}
use Rattle.horn_clauses.specs.declared.atom.Atom.TheVariants.{False}
use Rattle.horn_clauses.specs.declared.node.Node.{Node}
use Rattle.horn_clauses.specs.declared.family.Family.{Family}
use Rattle.horn_clauses.specs.Atom.{AtomHolds}
use Rattle.horn_clauses.specs.Node.{entries, exits}
use Rattle.horn_clauses.specs.Family.{atoms_at}
use Rattle.horn_clauses.specs.Equalities.{equal_parameters, equal_results}
use Rattle.horn_clauses.proofs.Laws.{parameters_are_equal, results_are_equal}
use Rattle.relation.specs.Invariants.{IsInvariant}
use Rattle.horn_clauses.specs.Equalities.{ForcesEqualResults}
use Rattle.relation.specs.Coupling.{IsInFamily, IsCoupling, LawOfCouplings, CouplesUnderEach}
use Rattle.relation.proofs.Following.{invariants_force}

-- Where both sides have the same inputs, all atoms at the entries hold.
equal_parameters_hold : (n : ℕ) (inputs : List ℤ) → length inputs ≡ n → All (λ atom. AtomHolds atom (inputs ++ inputs)) (equal_parameters n)
equal_parameters_hold n inputs long =
    subst (λ (k : ℕ). All (λ atom. AtomHolds atom (inputs ++ inputs)) (equal_parameters k)) long ((parameters_are_equal inputs inputs refl).1 refl)

-- Results of which all atoms at the exits hold are equal.
forced : (u v : ℤ) (atoms : List Atom) → ForcesEqualResults atoms → All (λ atom. AtomHolds atom (u ∷ v ∷ [])) atoms → u ≡ v
forced u v atoms (inl has) all =
    (results_are_equal u v).0 (All-contains (λ (atom : Atom). AtomHolds atom (u ∷ v ∷ [])) atoms equal_results all has)
forced u v atoms (inr has) all = absurd (All-contains (λ (atom : Atom). AtomHolds atom (u ∷ v ∷ [])) atoms False all has)

forced_by : (u v : ℤ) (atoms : Option (List Atom)) → IsSomeAnd atoms ForcesEqualResults
    → IsSomeAnd atoms (All (λ atom. AtomHolds atom (u ∷ v ∷ []))) → u ≡ v
forced_by u v None forces all = absurd forces
forced_by u v (Some atoms) forces all = forced u v atoms forces all

begins : (condition : Expression) (f : Program) (family : Family) → atoms_at family entries ≡ Some (equal_parameters f.params)
    → (inputs : List ℤ) → length inputs ≡ f.params → Meets condition inputs → IsInFamily condition family entries inputs inputs
begins condition f family at_entries inputs long meets = record {
  inside = subst (λ (z : Option (List Atom)). IsSomeAnd z (All (λ atom. AtomHolds atom (inputs ++ inputs)))) (sym at_entries)
      (equal_parameters_hold f.params inputs long);
  meets = λ same. meets;
}

coupling_is_invariant : (f g : Program) (condition : Expression) (alignment : ℕ) (family : Family) → IsCoupling f g condition alignment family
    → IsInvariant f g condition alignment (IsInFamily condition family)
coupling_is_invariant f g condition alignment family coupling = record {
  begins = begins condition f family coupling.at_entries;
  kept = coupling.kept;
  forces = λ v w said. forced_by v w (atoms_at family exits) coupling.at_exits said.inside;
}

pub couplings_force : LawOfCouplings
couplings_force f g condition alignment family first_formed second_formed arity named coupling =
    invariants_force (IsInFamily condition family) f g condition alignment first_formed second_formed arity named
    (coupling_is_invariant f g condition alignment family coupling)

-- All inputs meet no condition, and no moves end at the entries, where another is asked.
pub couples_under_each : CouplesUnderEach
couples_under_each f g condition alignment family coupling = record {
  at_entries = coupling.at_entries;
  kept = λ l r l' r' d e d' e' away first second said moves. record {
    inside = (coupling.kept l r l' r' d e d' e' away first second (record { inside = said.inside; meets = λ same. refl }) moves).inside;
    meets = λ same.
        absurd (entries_are_not_met f g alignment l r d e l' r' d' e' moves (ap (λ (n : Node). n.0) same, ap (λ (n : Node). n.1) same));
  };
  at_exits = coupling.at_exits;
}
