-- Texts of small verdicts and histories, by computing.
use Rattle.std.proofs.Common.{◌≡◌, ℕ, List, [], ◌∷◌, None, pos, negsuc, refl}
use Rattle.std.specs.Prelude.{◌++◌, codes}
use Rattle.std.specs.Fmt.{digits}
use Rattle.c_ast.specs.declared.place.Place.TheVariants as place
use Rattle.c_ast.specs.declared.place.Side.TheVariants.{A, B, Pre}
use Rattle.c_ast.specs.declared.func.Var.{Var}
use Rattle.c_ast.specs.Bounds.{bounds}
use Rattle.c_ast.specs.Function.{Function, function}
use Rattle.c_ast.specs.Comparison.{Comparison, comparison}
use Rattle.graph_run.specs.declared.skip.Skip.TheVariants.{NotEnded, Unmet, Wide}
use Rattle.sym_paths.specs.declared.limit.PathLimit.TheVariants as path
use Rattle.path_product.specs.declared.limit.ProductLimit.TheVariants as product
use Rattle.elimination.specs.declared.answer.Limit.TheVariants as row
use Rattle.horn_clauses.specs.declared.atom.Rel.TheVariants.{Eq, AtLeast}
use Rattle.horn_clauses.specs.declared.atom.Atom.TheVariants.{False, Linear}
use Rattle.horn_clauses.specs.declared.family.Family.{Family}
use Rattle.horn_clauses.specs.Node.{node}
use Rattle.relation.specs.Coupled.{coupling}
use Rattle.pool_core.specs.declared.verdict.Why.TheVariants.{NoCoupling, Product, AtObligation}
use Rattle.pool_core.specs.declared.verdict.SampleWhy.TheVariants.{Equal}
use Rattle.pool_core.specs.declared.verdict.Verdict.TheVariants.{Equivalent, Different, Unknown}
use Rattle.pool_core.specs.declared.item.Item.TheVariants as item
use Rattle.report.specs.Samples.{skip_of}
use Rattle.report.specs.Families.{label}
use Rattle.report.specs.Verdicts.{verdict_text}
use Rattle.report.specs.Histories.{history_text}

abbrev named : List ℕ → Var
named name = record { name = name; line = 1 }

-- int f(int n), with two variables `i` in blocks of their own
abbrev loops : List Var
loops = named (codes "n") ∷ named (codes "i") ∷ named (codes "i") ∷ []

label-alone : label A loops 0 ≡ codes "A.n"
label-alone = refl

label-first : label A loops 1 ≡ codes "A.i#1"
unfolding digits
label-first = refl

label-second : label B loops 2 ≡ codes "B.i#2"
unfolding digits
label-second = refl

-- ---- int f(int n, int m), and the same with other names

abbrev two : List ℕ → List ℕ → Function
two first second = function (codes "f") 2 (named first ∷ named second ∷ []) []

abbrev subject : Comparison
subject = comparison (two (codes "n") (codes "m")) (two (codes "x") (codes "y")) (bounds 4 64 4000 0) None

-- at the exits the results are equal, and at the entries a sum has a bound
abbrev family : Family
family = record {
  nodes =
      (node place.Entry place.Entry, Linear (pos 1 ∷ pos 0 ∷ negsuc 2 ∷ negsuc 0 ∷ []) (negsuc 4) AtLeast ∷ False ∷ [])
      ∷ (node place.Exit place.Exit, Linear (negsuc 0 ∷ pos 2 ∷ []) (pos 0) Eq ∷ [])
      ∷ [];
}

equivalent : verdict_text subject (Equivalent (coupling subject 3 family (record { lists = [] })) (0 ∷ 1 ∷ 3 ∷ []))
    ≡ codes "equivalent\nalignment 3\npairs 0-1 3\nnode entry entry\n  A.n - 3 B.x - B.y >= -5\n  false\nnode exit exit\n  -A.result + 2 B.result = 0\n"
unfolding digits
equivalent = refl

different : verdict_text subject (Different 3 (pos 2 ∷ negsuc 0 ∷ []) (pos 0) (negsuc 6)) ≡ codes "different\nsample 3\ninput 2 -1\nA returns 0\nB returns -7\n"
unfolding digits
different = refl

-- a family that says nothing at one node
abbrev left : Family
left = record { nodes = (node place.Exit (place.Mark 12), []) ∷ [] }

unknown : verdict_text subject (Unknown (Equal ∷ skip_of A Wide ∷ Equal ∷ skip_of B NotEnded ∷ [])
    (NoCoupling ∷ Product (product.AtPlace A (place.Mark 3) path.NonLinear) ∷ Product (product.AtPre path.ManyUnknowns)
    ∷ Product (product.ManyVariables (node (place.Mark 3) place.Exit)) ∷ AtObligation 7 left row.WideRow ∷ []))
    ≡ codes "unknown\nequal 0 2\nwide A 1\nnot-ended B 3\nalignment 1 no-coupling\nalignment 2 non-linear A 3\n"
    ++ codes "alignment 3 many-unknowns pre\nalignment 4 many-variables 3 exit\nalignment 5 wide-row 7\nnode exit 12\n"
unfolding digits
unknown = refl

-- ---- histories

history-empty : history_text [] ≡ codes "history 0\n"
unfolding digits
history-empty = refl

history-skips : history_text (item.Skipped 1 0 (record { side = A; why = Wide }) ∷ item.Skipped 0 12 (record { side = Pre; why = Unmet })
    ∷ item.Tried 1 2 7 (AtObligation 5 left row.ManyRows) ∷ item.Posted 0 (Different 3 (pos 2 ∷ []) (pos 0) (pos 1)) ∷ [])
    ≡ codes "history 4\n0 worker 1 skip 0 A wide\n1 worker 0 skip 12 pre unmet\n2 worker 1 tried 2 alignment 7 many-rows 5\n3 worker 0 posted different\n"
unfolding digits
history-skips = refl
