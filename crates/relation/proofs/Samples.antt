-- The definitions on small functions: segments, moves, and couplings.
use Rattle.std.proofs.Common.{◌≡◌, ℕ, zero, suc, inl, true, List, [], ◌∷◌, Some, ℤ, pos, negsuc, refl, sym, ap, subst, arith}
use Rattle.c_ast.specs.declared.expr.BinOp.TheVariants.{Add, Less}
use Rattle.c_ast.specs.declared.place.Place.{Place}
use Rattle.c_ast.specs.declared.place.Place.TheVariants as place
use Rattle.c_ast.specs.Tree.{Num, Var, Bin, Nil, Set, Loop, Return, Program}
use Rattle.c_ast.specs.Condition.{no_condition}
use Rattle.c_ast.specs.Step.{Work, scope_of, spread, start}
use Rattle.c_ast.specs.Segment.{IsSegment, met_within}
use Rattle.alignment.specs.Counts.{table}
use Rattle.alignment.specs.Moves.{Takes}
use Rattle.horn_clauses.specs.declared.atom.Atom.TheVariants.{Linear}
use Rattle.horn_clauses.specs.declared.atom.Rel.TheVariants.{Eq}
use Rattle.horn_clauses.specs.declared.family.Family.{Family}
use Rattle.horn_clauses.specs.Node.{node, entries}
use Rattle.horn_clauses.specs.Family.{InFamily}
use Rattle.horn_clauses.specs.Equalities.{equal_parameters, equal_results}
use Rattle.relation.specs.Invariants.{AreKept}
use Rattle.relation.specs.Coupling.{IsInFamily, IsCoupling}

-- int f(int n) { int i = 0; while (i < n) i = i + 1; return i; }, where the loop has the mark 7
unfoldable pub counter : Program
counter = record {
  params = 1;
  vars = 2;
  body = Set 1 (Num (pos 0)) (Loop (Some 7) (Bin Less (Var 1) (Var 0)) (Set 1 (Bin Add (Var 1) (Num (pos 1))) Nil) Nil true (Return (Var 1) Nil));
}

to_the_mark : IsSegment counter place.Entry (pos 1 ∷ []) (place.Mark 7) (pos 1 ∷ pos 0 ∷ [])
unfolding counter
to_the_mark = record { work = start counter; from = refl; steps = 20; met = refl }

round_the_loop : IsSegment counter (place.Mark 7) (pos 1 ∷ pos 0 ∷ []) (place.Mark 7) (pos 1 ∷ pos 1 ∷ [])
unfolding counter
round_the_loop = record { work = _; from = inl (refl, refl); steps = 20; met = refl }

to_the_exit : IsSegment counter (place.Mark 7) (pos 1 ∷ pos 1 ∷ []) place.Exit (pos 1 ∷ [])
unfolding counter
to_the_exit = record { work = _; from = inl (refl, refl); steps = 20; met = refl }

-- From the entry two segments are taken, the second of which ends where it began.
takes_two : Takes (IsSegment counter) 2 place.Entry (pos 1 ∷ []) (place.Mark 7) (pos 1 ∷ pos 1 ∷ [])
takes_two = (place.Mark 7, pos 1 ∷ pos 0 ∷ [], to_the_mark, (place.Mark 7, pos 1 ∷ pos 1 ∷ [], round_the_loop, (refl, refl)))

-- A side that leaves its mark stops, though it has taken one segment of three.
stops_early : Takes (IsSegment counter) 3 (place.Mark 7) (pos 1 ∷ pos 1 ∷ []) place.Exit (pos 1 ∷ [])
stops_early = (place.Exit, pos 1 ∷ [], to_the_exit, (refl, refl))

pairwise : equal_parameters 2
    ≡ Linear (pos 1 ∷ pos 0 ∷ negsuc 0 ∷ pos 0 ∷ []) (pos 0) Eq ∷ Linear (pos 0 ∷ pos 1 ∷ pos 0 ∷ negsuc 0 ∷ []) (pos 0) Eq ∷ []
pairwise = refl

results : equal_results ≡ Linear (pos 1 ∷ negsuc 0 ∷ []) (pos 0) Eq
results = refl

-- ---- int f(int a) { return a; } and int g(int a) { int b = 0; b = a; return b; }

unfoldable pub plain : Program
plain = record { params = 1; vars = 1; body = Return (Var 0) Nil }

copying : Program
copying = record { params = 1; vars = 2; body = Set 1 (Num (pos 0)) (Set 1 (Var 0) (Return (Var 1) Nil)) }

-- the parameters are equal at the entries, and the results at the exits
unfoldable pub equal : Family
equal = record {
  nodes = (node place.Entry place.Entry, equal_parameters 1) ∷ (node place.Exit place.Exit, equal_results ∷ []) ∷ [];
}

abbrev Met : Type 0
Met = Place × List ℤ

met_is : (found met : Met) → Some found ≡ Some met → (met.0 ≡ found.0) × (met.1 ≡ found.1)
met_is found met same = let is : found ≡ met = cc in (sym (ap (λ (z : Met). z.0) is), sym (ap (λ (z : Met). z.1) is))

-- The one segment of each ends at the exit, with the input.
plain_goes_out : (x : ℤ) (met : Met) → IsSegment plain place.Entry (x ∷ []) met.0 met.1 → (met.0 ≡ place.Exit) × (met.1 ≡ x ∷ [])
unfolding plain
plain_goes_out x met segment =
    after segment.steps (subst (λ (work : Work). met_within segment.steps work (spread (scope_of work) 1 (x ∷ [])) ≡ Some met) segment.from segment.met)
  where
    after : (steps : ℕ) → met_within steps (start plain) (x ∷ []) ≡ Some met → (met.0 ≡ place.Exit) × (met.1 ≡ x ∷ [])
    after zero same = cc
    after (suc n) same = met_is (place.Exit, x ∷ []) met same

copying_goes_out : (x : ℤ) (met : Met) → IsSegment copying place.Entry (x ∷ []) met.0 met.1
    → (met.0 ≡ place.Exit) × (met.1 ≡ x ∷ [])
unfolding copying
copying_goes_out x met segment =
    after segment.steps (subst (λ (work : Work). met_within segment.steps work (spread (scope_of work) 2 (x ∷ [])) ≡ Some met) segment.from segment.met)
  where
    after : (steps : ℕ) → met_within steps (start copying) (x ∷ pos 0 ∷ []) ≡ Some met → (met.0 ≡ place.Exit) × (met.1 ≡ x ∷ [])
    after zero same = cc
    after (suc zero) same = cc
    after (suc (suc zero)) same = cc
    after (suc (suc (suc n))) same = met_is (place.Exit, x ∷ []) met same

-- One segment is taken from the entry.
pub take_one : (f : Program) (e e' : List ℤ) (l' : Place) → Takes (IsSegment f) 1 place.Entry e l' e' → IsSegment f place.Entry e l' e'
take_one f e e' l' takes =
    let at_place = subst (λ (z : Place). IsSegment f place.Entry e z takes.1) (sym takes.3.0) takes.2 in
    subst (λ (z : List ℤ). IsSegment f place.Entry e l' z) (sym takes.3.1) at_place

stays_equal : (x y : ℤ) (l' r' : Place) (d' e' : List ℤ) → InFamily equal entries (x ∷ y ∷ []) → (l' ≡ place.Exit) × (d' ≡ x ∷ [])
    → (r' ≡ place.Exit) × (e' ≡ y ∷ []) → IsInFamily no_condition equal (node l' r') d' e'
unfolding equal
stays_equal x y l' r' d' e' inside first second = record { inside = rw (first.0, first.1, second.0, second.1) inside; meets = λ same. refl }

kept : AreKept plain copying 1 (IsInFamily no_condition equal)
unfolding plain copying equal table
kept place.Entry place.Entry l' r' [] e d' e' away fits_first fits_second said moves = cc
kept place.Entry place.Entry l' r' (x ∷ d) [] d' e' away fits_first fits_second said moves = cc
kept place.Entry place.Entry l' r' (x ∷ []) (y ∷ []) d' e' away fits_first fits_second said moves = stays_equal x y l' r' d' e' said.inside
    (plain_goes_out x (l', d') (take_one plain (x ∷ []) d' l' moves.first)) (copying_goes_out y (r', e') (take_one copying (y ∷ []) e' r' moves.second))
kept place.Entry place.Entry l' r' (x ∷ v ∷ d) (y ∷ e) d' e' away fits_first fits_second said moves = absurd (omega (arith, fits_first))
kept place.Entry place.Entry l' r' (x ∷ []) (y ∷ v ∷ e) d' e' away fits_first fits_second said moves = absurd (omega (arith, fits_second))
kept place.Entry (place.Mark k) l' r' d e d' e' away fits_first fits_second said moves = absurd said.inside
kept place.Entry place.Exit l' r' d e d' e' away fits_first fits_second said moves = absurd said.inside
kept (place.Mark j) r l' r' d e d' e' away fits_first fits_second said moves = absurd said.inside
kept place.Exit place.Entry l' r' d e d' e' away fits_first fits_second said moves = absurd said.inside
kept place.Exit (place.Mark k) l' r' d e d' e' away fits_first fits_second said moves = absurd said.inside
kept place.Exit place.Exit l' r' d e d' e' away fits_first fits_second said moves = absurd (away refl)

couples : IsCoupling plain copying no_condition 1 equal
unfolding plain copying equal
couples = record { at_entries = refl; kept = kept; at_exits = inl (0, omega arith, refl) }
