-- A linear family excludes a difference, and is of candidates of all pairs, so that only a limit hides it.
use Rattle.std.proofs.Common.{ℕ, ◌-◌, ◌<◌, List, [], ◌∷◌, map, Option, Some, None, ℤ, sym, ap, ◌∙◌, subst}
use Rattle.std.specs.Prelude.{All, Contains, IsSomeAnd, slice_get}
use Rattle.std.specs.List.{AllZip}
use Rattle.std.proofs.lemmas.List.Elements.{All-nil, All-cons, All-head, All-tail}
use Rattle.c_ast.specs.declared.trace.Pair.{Pair}
use Rattle.c_ast.specs.Comparison.{Comparison, IsComparison, condition_of}
use Rattle.c_ast.specs.Function.{program_of}
use Rattle.alignment.specs.Number.{IsAlignment}
use Rattle.horn_clauses.specs.declared.family.Family.{Family}
use Rattle.path_product.specs.Agreement.{AreOrdered}
use Rattle.relation.specs.Coupling.{IsCoupling}
use Rattle.relation.specs.Coupled.{Coupling, IsLinearUnder}
use Rattle.relation.proofs.Laws.{couplings_force, linear_families_couple}
use Rattle.trace_pair.specs.Pairs.{IsPair}
use Rattle.trace_pair.proofs.Laws.{one_pair, pair_is_no_skip, pair_has_traces}
use Rattle.pool_core.specs.declared.verdict.Why.{Why}
use Rattle.pool_core.specs.declared.verdict.Why.TheVariants as why
use Rattle.pool_core.specs.declared.verdict.SampleWhy.{SampleWhy}
use Rattle.pool_core.specs.declared.verdict.SampleWhy.TheVariants as sample
use Rattle.pool_core.specs.Candidates.{IsOfCandidates}
use Rattle.pool_core.specs.Tried.{IsTried}
use Rattle.pool_core.specs.Justified.{ArePairsAt, AreAllPairs, IsSaid, ShowsEquivalence, ShowsDifference, DecidesNothing}
use Rattle.pool_core.specs.Kinds.{IsObligationLimit, HasDifference}
use Rattle.pool_core.proofs.AlongWalks.{IsRun}
use Rattle.pool_core.proofs.MorePairs.{more_pairs}
use Rattle.pool_core.proofs.OneProduct.{linear_has_no_limit}

pub some_weaker : {A : Type 0} (P Q : A → Type 0) → ((a : A) → P a → Q a) → (found : Option A) → IsSomeAnd found P → IsSomeAnd found Q
some_weaker P Q weaker None some = absurd some
some_weaker P Q weaker (Some a) some = weaker a some

module _ (subject : Comparison) (good : IsComparison subject) where
  -- ---- pairs

  abbrev IsRunOf : Pair → Type 0
  IsRunOf pair = IsRun (program_of subject.first) (program_of subject.second) (condition_of subject) pair

  pair_runs : (index : ℕ) (pair : Pair) → IsPair subject index pair → IsRunOf pair
  pair_runs index pair is =
      let traces = pair_has_traces subject index pair is in
      record {
        traces = record {
          first_formed = good.first;
          second_formed = good.second;
          first_arity = traces.arity;
          second_arity = traces.arity ∙ good.arity;
          first = traces.first.is;
          second = traces.second.is;
        };
        meets = traces.met;
      }

  pairs_run : (indexes : List ℕ) (pairs : List Pair) → AllZip (IsPair subject) indexes pairs → All IsRunOf pairs
  pairs_run [] [] are = All-nil IsRunOf
  pairs_run [] (pair ∷ pairs) are = absurd are
  pairs_run (index ∷ indexes) [] are = absurd are
  pairs_run (index ∷ indexes) (pair ∷ pairs) are = All-cons IsRunOf pair pairs (pair_runs index pair are.0) (pairs_run indexes pairs are.1)

  abbrev IsBelow : ℕ → Type 0
  IsBelow index = index < subject.settings.samples

  -- Pairs with indexes below the number of samples are among all.
  some_of_all : (indexes : List ℕ) (pairs all : List Pair) → All IsBelow indexes → AllZip (IsPair subject) indexes pairs
      → ((index : ℕ) (pair : Pair) → IsBelow index → IsPair subject index pair → Contains all pair) → All (Contains all) pairs
  some_of_all [] [] all below are has = All-nil (Contains all)
  some_of_all [] (pair ∷ pairs) all below are has = absurd are
  some_of_all (index ∷ indexes) [] all below are has = absurd are
  some_of_all (index ∷ indexes) (pair ∷ pairs) all below are has =
      All-cons (Contains all) pair pairs (has index pair (All-head IsBelow index indexes below) are.0)
      (some_of_all indexes pairs all (All-tail IsBelow index indexes below) are.1 has)

  -- ---- what is excluded

  linear_couples : (alignment : ℕ) (family : Family) → IsLinearUnder subject alignment family
      → IsCoupling (program_of subject.first) (program_of subject.second) (condition_of subject) alignment family
  linear_couples alignment family linear =
      linear_families_couple (program_of subject.first) (program_of subject.second) linear.first linear.second (condition_of subject) alignment
      linear.product family linear.is_product.graphs.first_graph linear.is_product.graphs.second_graph linear.is_product.is linear.linear

  linear_of : (c : Coupling) (indexes : List ℕ) → ShowsEquivalence subject c indexes → IsLinearUnder subject c.alignment c.family
  linear_of c indexes equivalent = subst (λ (s : Comparison). IsLinearUnder s c.alignment c.family) equivalent.own equivalent.couples.linear

  pub difference_of : (index : ℕ) (input : List ℤ) (v w : ℤ) → ShowsDifference subject index input v w → HasDifference subject
  difference_of index input v w different = record {
    index = index;
    below = different.below;
    pair = different.pair;
    is_pair = different.is_pair;
    differ = λ same. different.differ (sym different.first_is ∙ same ∙ different.second_is);
  }

  -- A linear family and a pair with different results.
  pub linear_not_different : (alignment : ℕ) (family : Family) → IsAlignment alignment → IsLinearUnder subject alignment family
      → HasDifference subject → ⊥
  linear_not_different alignment family named linear different =
      let pair = different.pair in
      let traces = pair_has_traces subject different.index pair different.is_pair in
      different.differ (couplings_force (program_of subject.first) (program_of subject.second) (condition_of subject) alignment family good.first
      good.second good.arity named (linear_couples alignment family linear) pair.input pair.first.result pair.second.result traces.arity traces.met
      traces.first.returns traces.second.returns)

  pub not_different : (c : Coupling) (indexes : List ℕ) → ShowsEquivalence subject c indexes → HasDifference subject → ⊥
  not_different c indexes equivalent different =
      linear_not_different c.alignment c.family equivalent.couples.named (linear_of c indexes equivalent) different

  -- A sample that decides nothing is no pair with different results.
  sample_differs : (different : HasDifference subject) (said : SampleWhy) → IsSaid subject different.index said → ⊥
  sample_differs different sample.Equal said =
      let same = one_pair subject different.index different.pair said.pair different.is_pair said.is in
      different.differ (ap (λ (p : Pair). p.first.result) same ∙ said.equal ∙ sym (ap (λ (p : Pair). p.second.result) same))
  sample_differs different (sample.Skipped skipped) said =
      pair_is_no_skip subject different.index different.pair skipped different.is_pair said

  no_sample_differs : (different : HasDifference subject) (found : Option SampleWhy) → IsSomeAnd found (IsSaid subject different.index) → ⊥
  no_sample_differs different None some = some
  no_sample_differs different (Some said) some = sample_differs different said some

  pub not_undecided : (samples : List SampleWhy) (alignments : List Why) → HasDifference subject → DecidesNothing subject samples alignments → ⊥
  not_undecided samples alignments different nothing =
      no_sample_differs different (slice_get samples different.index) (nothing.said different.index different.below)

  -- ---- what hides a coupling

  module _ (alignment : ℕ) (named : IsAlignment alignment) (family : Family) (linear : IsLinearUnder subject alignment family) (indexes : List ℕ)
      (some : List Pair) (at : ArePairsAt subject indexes some) (candidates : IsOfCandidates subject alignment some family)
      (all : List ℕ) (pairs : List Pair) (are : AreAllPairs subject all pairs) where
    ordered : AreOrdered (map (λ entry. entry.0) family.nodes)
    ordered = subst AreOrdered (sym linear.linear.over.shape.nodes) linear.is_product.is.closed.ordered

    -- A linear family of candidates of some pairs is of candidates of all.
    of_all : IsOfCandidates subject alignment pairs family
    of_all =
        more_pairs subject good alignment named family (linear_couples alignment family linear) some pairs
        (some_of_all indexes some pairs at.below at.are are.all) (pairs_run all pairs are.at.are) ordered candidates

    -- So only a limit of an obligation hides it.
    only_limit : (reason : Why) → IsTried subject alignment pairs reason → IsObligationLimit reason
    only_limit why.NoCoupling tried = absurd (tried.none family of_all linear)
    only_limit (why.Product limit) tried = absurd (linear_has_no_limit subject alignment family limit linear tried)
    only_limit (why.AtObligation obligation left limit) tried = tt

  pub linear_hidden : (alignment : ℕ) → IsAlignment alignment → (family : Family) → IsLinearUnder subject alignment family → (indexes : List ℕ)
      (some : List Pair) → ArePairsAt subject indexes some → IsOfCandidates subject alignment some family
      → (samples : List SampleWhy) (alignments : List Why) → DecidesNothing subject samples alignments
      → IsSomeAnd (slice_get alignments (alignment - 1)) IsObligationLimit
  linear_hidden alignment named family linear indexes some at candidates samples alignments nothing =
      some_weaker (IsTried subject alignment nothing.pairs) IsObligationLimit
      (λ reason tried. only_limit alignment named family linear indexes some at candidates nothing.indexes nothing.pairs nothing.all reason tried)
      (slice_get alignments (alignment - 1)) (nothing.tried alignment named)

  pub hidden : (c : Coupling) (indexes : List ℕ) (samples : List SampleWhy) (alignments : List Why)
      → ShowsEquivalence subject c indexes → DecidesNothing subject samples alignments
      → IsSomeAnd (slice_get alignments (c.alignment - 1)) IsObligationLimit
  hidden c indexes samples alignments equivalent nothing =
      linear_hidden c.alignment equivalent.couples.named c.family (linear_of c indexes equivalent) indexes equivalent.pairs equivalent.at
      equivalent.candidates samples alignments nothing
