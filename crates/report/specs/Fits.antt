-- Which verdicts can be told of a comparison.
use Rattle.std.specs.Prelude.{◌≡◌, ◌≢◌, List, length, map, All, AllPairs}
use Rattle.c_ast.specs.declared.place.Place.{Place}
use Rattle.c_ast.specs.declared.place.Place.TheVariants as place
use Rattle.c_ast.specs.declared.place.Side.TheVariants.{Pre}
use Rattle.c_ast.specs.Scope.{IsPlace}
use Rattle.c_ast.specs.Function.{Function, program_of}
use Rattle.c_ast.specs.Comparison.{Comparison}
use Rattle.alignment.specs.Number.{IsAlignment}
use Rattle.horn_clauses.specs.declared.atom.Atom.{Atom}
use Rattle.horn_clauses.specs.declared.node.Node.{Node}
use Rattle.horn_clauses.specs.declared.family.Family.{Family}
use Rattle.horn_clauses.specs.Node.{StandsBefore}
use Rattle.horn_clauses.specs.Obligations.{FitsNode}
use Rattle.sym_paths.specs.declared.limit.PathLimit.TheVariants as path
use Rattle.path_product.specs.declared.limit.ProductLimit.{ProductLimit}
use Rattle.path_product.specs.declared.limit.ProductLimit.TheVariants as product
use Rattle.elimination.specs.declared.answer.Limit.TheVariants as row
use Rattle.relation.specs.Coupled.{Coupling}
use Rattle.pool_core.specs.declared.verdict.Why.{Why}
use Rattle.pool_core.specs.declared.verdict.Why.TheVariants.{NoCoupling, Product, AtObligation}
use Rattle.pool_core.specs.declared.verdict.SampleWhy.{SampleWhy}
use Rattle.pool_core.specs.declared.verdict.Verdict.{Verdict}
use Rattle.pool_core.specs.declared.verdict.Verdict.TheVariants.{Equivalent, Different, Unknown}
use Rattle.report.specs.Samples.{IsKeptSample}
use Rattle.report.specs.Families.{node_labels}

-- ---- families

-- The place is the entry, the exit or one of the function's marks.
abbrev pub IsPlaceOf : Function → Place → Type 0
IsPlaceOf f place.Entry = Unit {0}
IsPlaceOf f (place.Mark mark) = IsPlace (program_of f) (place.Mark mark)
IsPlaceOf f place.Exit = Unit {0}

-- The node's places are those of the two functions.
pub record IsNodeOf (subject : Comparison) (node : Node) : Type 0 where
  pub first : IsPlaceOf subject.first node.0
  pub second : IsPlaceOf subject.second node.1

-- The node is one of the two functions', and each of its atoms is `false` or has a coefficient for each value there.
pub record FitsEntry (subject : Comparison) (entry : Node × List Atom) : Type 0 where
  pub node : IsNodeOf subject entry.0
  pub atoms : All (FitsNode (length (node_labels subject entry.0))) entry.1

-- The nodes stand in their order, none twice, and they and their atoms are over the values of the two functions.
pub record FitsFamily (subject : Comparison) (family : Family) : Type 0 where
  pub ordered : AllPairs StandsBefore (map (λ entry. entry.0) family.nodes)
  pub entries : All (FitsEntry subject) family.nodes

-- ---- reasons

-- The limit is not want of memory, and one of the condition is told as such.
abbrev pub IsKeptLimit : ProductLimit → Type 0
IsKeptLimit (product.AtPre limit) = limit ≢ path.Memory
IsKeptLimit (product.AtPlace side place limit) = (side ≢ Pre) × (limit ≢ path.Memory)
IsKeptLimit (product.ManyVariables node) = Unit {0}
IsKeptLimit (product.WideForm node) = Unit {0}
IsKeptLimit (product.ManyUnknowns node) = Unit {0}
IsKeptLimit (product.ManyPaths node) = Unit {0}
IsKeptLimit product.Memory = ⊥

-- The reason is not want of memory.
abbrev pub IsKeptWhy : Why → Type 0
IsKeptWhy NoCoupling = Unit {0}
IsKeptWhy (Product limit) = IsKeptLimit limit
IsKeptWhy (AtObligation obligation left limit) = limit ≢ row.Memory

-- A family that is left is over the values of the two functions.
abbrev pub HasFittingLeft : Comparison → Why → Type 0
HasFittingLeft subject NoCoupling = Unit {0}
HasFittingLeft subject (Product limit) = Unit {0}
HasFittingLeft subject (AtObligation obligation left limit) = FitsFamily subject left

-- The reason can be told of the two functions.
pub record FitsWhy (subject : Comparison) (why : Why) : Type 0 where
  pub kept : IsKeptWhy why
  pub left : HasFittingLeft subject why

-- ---- verdicts

module _ (subject : Comparison) where
  -- The coupling is of the two functions.
  pub record FitsEquivalent (coupled : Coupling) : Type 0 where
    pub own : coupled.subject ≡ subject
    pub named : IsAlignment coupled.alignment
    pub family : FitsFamily subject coupled.family

  -- There is an entry for each sample and a reason for each of the twelve alignments, all of which can be told.
  pub record FitsUnknown (samples : List SampleWhy) (alignments : List Why) : Type 0 where
    pub as_many : length samples ≡ subject.settings.samples
    pub samples_kept : All IsKeptSample samples
    pub twelve : length alignments ≡ 12
    pub reasons : All (FitsWhy subject) alignments

  -- The verdict is one on the two functions.
  abbrev pub FitsSubject : Verdict → Type 0
  FitsSubject (Equivalent coupled indexes) = FitsEquivalent coupled
  FitsSubject (Different index input first second) = Unit {0}
  FitsSubject (Unknown samples alignments) = FitsUnknown samples alignments
