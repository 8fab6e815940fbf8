-- Pairs that come in parts.
use Rattle.std.proofs.Common.{◌≡◌, ℕ, List, [], ◌∷◌, ◌++◌, fold, refl, sym, ap, subst}
use Rattle.c_ast.specs.declared.trace.Pair.{Pair}
use Rattle.c_ast.specs.Comparison.{Comparison}
use Rattle.horn_clauses.specs.declared.family.Family.{Family}
use Rattle.miners.specs.Candidates.{AreMinedFrom}
use Rattle.miners.specs.Gathered.{Gathered, nothing_gathered, with_pair, family_of, mined_family}
use Rattle.miners.proofs.Laws.{gathered_is_mined}
use Rattle.live_mining.specs.Laws.{with_pairs, PartsMakeTheWhole, LiveCandidatesAreMined}

parts : (live : Gathered) (pairs more : List Pair) → with_pairs (with_pairs live pairs) more ≡ with_pairs live (pairs ++ more)
parts live [] more = refl
parts live (pair ∷ pairs) more = parts (with_pair live pair) pairs more

pub parts_make_the_whole : PartsMakeTheWhole
parts_make_the_whole subject alignment pairs more = ap family_of (parts (nothing_gathered subject alignment) pairs more)

pub live_candidates_are_mined : LiveCandidatesAreMined
live_candidates_are_mined subject alignment pairs more =
    subst (λ (family : Family). AreMinedFrom subject alignment (pairs ++ more) family)
    (sym (parts_make_the_whole subject alignment pairs more)) (gathered_is_mined subject alignment (pairs ++ more))
