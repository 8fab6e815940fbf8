-- A verdict that is posted may follow, so that a legal history stays legal.
use Rattle.std.proofs.Common.{◌≡◌, ℕ, List, length, take, Option, Some, ℤ, sym, ◌∙◌, subst}
use Rattle.std.proofs.lemmas.List.Elements.{All-weaker}
use Rattle.c_ast.specs.Comparison.{Comparison}
use Rattle.horn_clauses.specs.declared.atom.Atom.{Atom}
use Rattle.horn_clauses.specs.declared.family.Family.{Family}
use Rattle.horn_clauses.specs.Node.{entries}
use Rattle.horn_clauses.specs.Family.{atoms_at}
use Rattle.horn_clauses.specs.Equalities.{equal_parameters}
use Rattle.relation.specs.Coupled.{Coupling, IsCoupled}
use Rattle.houdini.specs.Within.{IsSublist, candidates_or_false}
use Rattle.pool_core.specs.declared.item.Item.TheVariants as item
use Rattle.pool_core.specs.declared.verdict.Verdict.TheVariants.{Equivalent, Different}
use Rattle.pool_core.specs.Candidates.{candidates_of, IsDrawnFrom}
use Rattle.pool_core.specs.Justified.{ArePairsAt}
use Rattle.pool_core.specs.History.{pairs_of, MayFollow, IsLegal}
use Rattle.pool_core.specs.Plays.{State, Post, IsDrawnFromMined, IsGrounded}
use Rattle.pool_core.proofs.Histories.{pair_of_legal}
use Rattle.pool_core.proofs.Finding.{mined_passes}
use Rattle.pool_core.proofs.Standing.{mined_there}
use Rattle.pool_core.proofs.Sampled.{first_pairs_are_at}

module _ (state : State) (legal : IsLegal state.subject state.items) where
  pub difference_may_follow : (worker index : ℕ) (input : List ℤ) (first second : ℤ)
      → IsGrounded state (Post worker (Different index input first second))
      → MayFollow state.subject state.items (item.Posted worker (Different index input first second))
  difference_may_follow worker index input first second grounded =
      let has = grounded.2.0 in
      let is = pair_of_legal state.subject state.items has.worker index has.pair legal has.stands in (
        grounded.0.0,
        (
          record {
            below = is.0;
            input_is = sym has.input_is ∙ is.1.input;
            pair = has.pair;
            is_pair = is.1;
            first_is = has.first_is;
            second_is = has.second_is;
            differ = grounded.2.1;
          },
          has,
        ),
      )

  -- A family that is drawn from what was mined of the first pairs is of their candidates.
  drawn_from_first : (m alignment : ℕ) (family : Family) → IsDrawnFromMined state m alignment family
      → IsDrawnFrom (candidates_of state.subject alignment (take m (pairs_of state.items))) family
  drawn_from_first m alignment family drawn =
      let mined = mined_there state.subject state.items drawn.worker m alignment drawn.candidates legal drawn.stands in
      All-weaker (λ entry. IsSublist entry.1 (candidates_or_false (atoms_at drawn.candidates entry.0)))
      (λ entry. IsSublist entry.1 (candidates_or_false (candidates_of state.subject alignment (take m (pairs_of state.items)) entry.0)))
      (λ entry some. subst (λ (found : Option (List Atom)). IsSublist entry.1 (candidates_or_false found)) (mined.mined entry.0) some)
      family.nodes drawn.drawn

  pub equivalence_may_follow : (worker : ℕ) (coupled : Coupling) (indexes : List ℕ) → IsCoupled coupled
      → IsGrounded state (Post worker (Equivalent coupled indexes))
      → MayFollow state.subject state.items (item.Posted worker (Equivalent coupled indexes))
  equivalence_may_follow worker coupled indexes couples grounded =
      let drawn = grounded.3 in (
        grounded.0.0,
        (
          record {
            own = grounded.0.1;
            couples = couples;
            pairs = take (length indexes) (pairs_of state.items);
            at = subst (λ (some : List ℕ). ArePairsAt state.subject some (take (length indexes) (pairs_of state.items))) (sym grounded.1)
                (first_pairs_are_at state.subject state.items (length indexes) legal);
            candidates = record {
              at_entries = subst (λ (s : Comparison). atoms_at coupled.family entries ≡ Some (equal_parameters s.first.params)) grounded.0.1
                  couples.couples.at_entries;
              drawn = drawn_from_first (length indexes) coupled.alignment coupled.family drawn;
            };
          },
          grounded.1,
          mined_passes state.items drawn.worker (length indexes) coupled.alignment drawn.candidates drawn.stands,
        ),
      )
