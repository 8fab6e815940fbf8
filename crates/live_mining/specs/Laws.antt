-- Live candidates are those that are mined of all pairs at once.
use Rattle.std.specs.Prelude.{◌≡◌, ℕ, List, ◌++◌, fold}
use Rattle.c_ast.specs.declared.trace.Pair.{Pair}
use Rattle.c_ast.specs.Comparison.{Comparison}
use Rattle.miners.specs.Candidates.{AreMinedFrom}
use Rattle.miners.specs.Gathered.{Gathered, nothing_gathered, with_pair, family_of, mined_family}

-- What is gathered when these pairs are added, one after another.
abbrev pub with_pairs : Gathered → List Pair → Gathered
with_pairs live pairs = fold with_pair live pairs

-- Pairs may come in parts.
abbrev pub PartsMakeTheWhole : Type 0
PartsMakeTheWhole = (subject : Comparison) (alignment : ℕ) (pairs more : List Pair)
    → family_of (with_pairs (with_pairs (nothing_gathered subject alignment) pairs) more)
    ≡ mined_family subject alignment (pairs ++ more)

-- The candidates after some pairs and then more are those of all of them.
abbrev pub LiveCandidatesAreMined : Type 0
LiveCandidatesAreMined = (subject : Comparison) (alignment : ℕ) (pairs more : List Pair)
    → AreMinedFrom subject alignment (pairs ++ more)
    (family_of (with_pairs (with_pairs (nothing_gathered subject alignment) pairs) more))
