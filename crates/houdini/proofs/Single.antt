-- Striking one atom: the family that is left.
use Rattle.std.proofs.Common.{◌≡◌, ℕ, ◌<◌, Bool, true, false, cond, List, [], ◌∷◌, length, get_or, refl, sym, ap, ◌∙◌, subst, arith}
use Rattle.std.specs.Prelude.{Some, slice_get, Contains, remove}
use Rattle.std.proofs.lemmas.List.Edits.{length-remove}
use Rattle.std.proofs.lemmas.Option.{slice_get_within, get_or_from_slice_get}
use Rattle.horn_clauses.specs.declared.atom.Atom.{Atom}
use Rattle.horn_clauses.specs.declared.clause.Clause.{Clause}
use Rattle.horn_clauses.specs.declared.clause.Product.{Product}
use Rattle.horn_clauses.specs.declared.family.Family.{Family}
use Rattle.horn_clauses.specs.declared.node.Node.{Node}
use Rattle.horn_clauses.specs.Node.{is_same_node}
use Rattle.horn_clauses.specs.Family.{atoms_among, atoms_at}
use Rattle.horn_clauses.specs.Obligations.{atoms_or_none}
use Rattle.houdini.specs.Striking.{IsShown, LeavesOut, Either, StrikesAmong, struck_among, count_atoms}
use Rattle.houdini.specs.Pass.{IsOpenAt, IsOpenIn}
use Rattle.houdini.specs.Round.{IsStruck}
use Rattle.houdini.proofs.Sublists.{leaves_out_one}
use Rattle.houdini.proofs.Strikes.{strikes_narrow}

abbrev Entries : Type 0
Entries = List (Node × List Atom)

module _ (P : Atom → Type 0) (node : Node) (i : ℕ) (atom : Atom) (fails : ¬ P atom) where
  one_by : (same : Bool) (entry : Node × List Atom) (nodes struck : Entries) → is_same_node entry.0 node ≡ same
      → slice_get (atoms_or_none (cond same (Some entry.1) (atoms_among nodes node))) i ≡ Some atom
      → (slice_get (atoms_or_none (atoms_among nodes node)) i ≡ Some atom → StrikesAmong P node nodes struck)
      → StrikesAmong P node (entry ∷ nodes) (cond same ((entry.0, remove entry.1 i) ∷ nodes) (entry ∷ struck))
  one_by true entry nodes struck same is later = (
    refl,
    subst (λ (b : Bool). Either b (LeavesOut P entry.1 (remove entry.1 i) × (nodes ≡ nodes))
        ((entry.1 ≡ remove entry.1 i) × StrikesAmong P node nodes nodes)) (sym same)
        (leaves_out_one P entry.1 i atom is fails, refl),
  )
  one_by false entry nodes struck same is later = (
    refl,
    subst (λ (b : Bool). Either b (LeavesOut P entry.1 entry.1 × (nodes ≡ struck))
        ((entry.1 ≡ entry.1) × StrikesAmong P node nodes struck)) (sym same)
        (refl, later is),
  )

  one_struck : (nodes : Entries) → slice_get (atoms_or_none (atoms_among nodes node)) i ≡ Some atom
      → StrikesAmong P node nodes (struck_among node i nodes)
  one_struck [] is = absurd cc
  one_struck (entry ∷ nodes) is =
      one_by (is_same_node entry.0 node) entry nodes (struck_among node i nodes) refl is (one_struck nodes)

module _ (node : Node) (i : ℕ) (atom : Atom) where
  fewer_by : (same : Bool) (entry : Node × List Atom) (nodes struck : Entries)
      → slice_get (atoms_or_none (cond same (Some entry.1) (atoms_among nodes node))) i ≡ Some atom
      → (slice_get (atoms_or_none (atoms_among nodes node)) i ≡ Some atom → count_atoms struck < count_atoms nodes)
      → count_atoms (cond same ((entry.0, remove entry.1 i) ∷ nodes) (entry ∷ struck)) < count_atoms (entry ∷ nodes)
  fewer_by true entry nodes struck is later =
      omega (arith, length-remove entry.1 i (slice_get_within entry.1 i atom is))
  fewer_by false entry nodes struck is later = omega (arith, later is)

  one_fewer : (nodes : Entries) → slice_get (atoms_or_none (atoms_among nodes node)) i ≡ Some atom
      → count_atoms (struck_among node i nodes) < count_atoms nodes
  one_fewer [] is = absurd cc
  one_fewer (entry ∷ nodes) is = fewer_by (is_same_node entry.0 node) entry nodes (struck_among node i nodes) is (one_fewer nodes)

-- The family without the atom that a pass found open is narrower, and has fewer atoms.
pub struck_of : (product : Product) (family left : Family) (number place : ℕ) (clauses : List Clause) (clause : Clause)
    → IsOpenIn family product.clauses number place → clauses ≡ product.clauses → clause ≡ get_or clauses number clause
    → left.nodes ≡ struck_among clause.to place family.nodes → IsStruck product family left
struck_of product family left number place clauses clause open_in same_clauses stands is =
    let inside : number < length product.clauses = slice_get_within product.clauses number open_in.clause open_in.numbered in
    let stands_there : get_or product.clauses number clause ≡ clause =
    sym (stands ∙ ap (λ (ks : List Clause). get_or ks number clause) same_clauses) in
    let same : open_in.clause ≡ clause =
    sym (get_or_from_slice_get product.clauses number open_in.clause clause open_in.numbered) ∙ stands_there in
    let contains : Contains product.clauses clause = (number, inside, stands_there) in
    let found : IsOpenAt family clause (atoms_or_none (atoms_at family clause.to)) place =
    subst (λ (k : Clause). IsOpenAt family k (atoms_or_none (atoms_at family k.to)) place) same open_in.unshown in
    record {
      narrows = strikes_narrow product clause family left contains
          (subst (λ (nodes : Entries). StrikesAmong (IsShown family clause) clause.to family.nodes nodes) (sym is)
          (one_struck (IsShown family clause) clause.to place found.atom found.unshown family.nodes found.stands));
      fewer = subst (λ (nodes : Entries). count_atoms nodes < count_atoms family.nodes) (sym is)
          (one_fewer clause.to place found.atom family.nodes found.stands);
    }

-- The number of the open clause is one of the product's.
pub open_inside : (family : Family) (clauses others : List Clause) (number place : ℕ) → IsOpenIn family clauses number place
    → others ≡ clauses → number < length others
open_inside family clauses others number place open_in same =
    let inside : number < length clauses = slice_get_within clauses number open_in.clause open_in.numbered in
    subst (λ (ks : List Clause). number < length ks) (sym same) inside
