-- Two runs that return are followed to the exits, whatever is said and kept on the way.
use Rattle.std.proofs.Common.{◌≡◌, ◌≢◌, ℕ, zero, suc, ◌+◌, ◌≤◌, ◌⊎◌, inl, inr, true, List, [], ◌∷◌, length, ℤ, refl, sym, ap, ◌∙◌, subst, arith}
use Rattle.c_ast.specs.declared.place.Place.{Place}
use Rattle.c_ast.specs.declared.place.Place.TheVariants as place
use Rattle.c_ast.specs.Tree.{Program}
use Rattle.c_ast.specs.Formed.{IsProgram}
use Rattle.c_ast.specs.Returns.{Returns}
use Rattle.c_ast.specs.Segment.{FitsPlace}
use Rattle.c_ast.proofs.Laws.{trace_returns, trace_is_segments, exit_is_last}
use Rattle.alignment.specs.Number.{IsAlignment}
use Rattle.alignment.specs.Counts.{counts_of, counts_at}
use Rattle.horn_clauses.specs.declared.node.Node.{Node}
use Rattle.horn_clauses.specs.Node.{node, exits}
use Rattle.relation.specs.Invariants.{AreKept, InvariantsForce, LawOfInvariants}
use Rattle.relation.proofs.Moving.{LeadsOut, leads_out, takes_some, some_moves}

leads_fits : (f : Program) (l : Place) (e : List ℤ) (n : ℕ) (result : ℤ) → LeadsOut f l e n result → FitsPlace f l e
leads_fits f l e zero result leads =
    let fits : FitsPlace f place.Exit (result ∷ []) = refl in
    let there : FitsPlace f place.Exit e = subst (λ (z : List ℤ). FitsPlace f place.Exit z) (sym leads.1) fits in
    subst (λ (z : Place). FitsPlace f z e) (sym leads.0) there
leads_fits f l e (suc n) result leads = leads.0

-- At the exit no segment is left, and the result is the value there.
leads_from_exit : (f : Program) (e : List ℤ) (n : ℕ) (result : ℤ) → LeadsOut f place.Exit e n result → e ≡ result ∷ []
leads_from_exit f e zero result leads = leads.1
leads_from_exit f e (suc n) result leads = absurd (exit_is_last f e leads.1 leads.2 leads.3)

not_exits : (l r : Place) → ¬ ((l ≡ place.Exit) × (r ≡ place.Exit)) → node l r ≢ exits
not_exits l r away same = away (ap (λ (n : Node). n.0) same, ap (λ (n : Node). n.1) same)

-- Whether both places are exits.
decide_exits : (l r : Place) → ((l ≡ place.Exit) × (r ≡ place.Exit)) ⊎ ¬ ((l ≡ place.Exit) × (r ≡ place.Exit))
decide_exits place.Entry r = inr (λ both. let first = both.0 in cc)
decide_exits (place.Mark k) r = inr (λ both. let first = both.0 in cc)
decide_exits place.Exit place.Entry = inr (λ both. let second = both.1 in cc)
decide_exits place.Exit (place.Mark k) = inr (λ both. let second = both.1 in cc)
decide_exits place.Exit place.Exit = inl (refl, refl)

module _ (f g : Program) (alignment : ℕ) (named : IsAlignment alignment)
    (Said : Node → List ℤ → List ℤ → Type 0) (kept : AreKept f g alignment Said) (u v : ℤ) where
  at_exits : (d e : List ℤ) (i j : ℕ) → LeadsOut f place.Exit d i u → LeadsOut g place.Exit e j v → Said exits d e → Said exits (u ∷ []) (v ∷ [])
  at_exits d e i j first second said =
      let with_left : Said exits (u ∷ []) e = subst (λ (z : List ℤ). Said exits z e) (leads_from_exit f d i u first) said in
      subst (λ (z : List ℤ). Said exits (u ∷ []) z) (leads_from_exit g e j v second) with_left

  -- Where it is said at a node, and n segments at most are left of both runs, it is said of both results at the exits.
  follow : (n : ℕ) (l r : Place) (d e : List ℤ) (i j : ℕ) → i + j ≤ n → LeadsOut f l d i u → LeadsOut g r e j v → Said (node l r) d e
      → ((l ≡ place.Exit) × (r ≡ place.Exit)) ⊎ ¬ ((l ≡ place.Exit) × (r ≡ place.Exit)) → Said exits (u ∷ []) (v ∷ [])
  follow n l r d e i j few first second said (inl out) =
      let first' = subst (λ (z : Place). LeadsOut f z d i u) out.0 first in
      let second' = subst (λ (z : Place). LeadsOut g z e j v) out.1 second in
      let said' = subst (λ (z : Place). Said (node z r) d e) out.0 said in
      let said'' = subst (λ (z : Place). Said (node place.Exit z) d e) out.1 said' in
      at_exits d e i j first' second' said''
  follow zero l r d e i j few first second said (inr away) =
      let a = takes_some f u (counts_at (counts_of alignment) l r).0 l d i first in
      let b = takes_some g v (counts_at (counts_of alignment) l r).1 r e j second in
      absurd (omega (arith, a.fewer, b.fewer, some_moves alignment l r named away))
  follow (suc n) l r d e i j few first second said (inr away) =
      let a = takes_some f u (counts_at (counts_of alignment) l r).0 l d i first in
      let b = takes_some g v (counts_at (counts_of alignment) l r).1 r e j second in
      let said' = kept l r a.place_met b.place_met d e a.values_there b.values_there (not_exits l r away)
      (leads_fits f l d i u first) (leads_fits g r e j v second) said
      (record { first = a.takes; second = b.takes }) in
      follow n a.place_met b.place_met a.values_there b.values_there a.left b.left
      (omega (arith, a.fewer, b.fewer, some_moves alignment l r named away)) a.leads b.leads said' (decide_exits a.place_met b.place_met)

-- Segments lead from the entry, with the inputs, to the exit with what is returned.
record Returning (f : Program) (inputs : List ℤ) (result : ℤ) : Type 0 where
  pub segments : ℕ
  pub leads : LeadsOut f place.Entry inputs segments result

returning : (f : Program) (inputs : List ℤ) (result : ℤ) → IsProgram f → length inputs ≡ f.params → Returns f inputs result → Returning f inputs result
returning f inputs result formed long ran =
    let found = (trace_returns f inputs result).0 ran in
    let through = (trace_is_segments f inputs found.0 formed long).0 found.1 in
    record {
      segments = suc (length found.0.events);
      leads = subst (λ (z : ℤ). LeadsOut f place.Entry inputs (suc (length found.0.events)) z) found.2
          (leads_out f place.Entry inputs found.0.events found.0.result long through);
    }

-- An invariant forces equal results, whatever it says.
pub invariants_force : (Said : Node → List ℤ → List ℤ → Type 0) → InvariantsForce Said
invariants_force Said f g condition alignment first_formed second_formed arity named invariant inputs v w long meets first second =
    let a = returning f inputs v first_formed long first in
    let b = returning g inputs w second_formed (long ∙ arity) second in
    invariant.forces v w
    (follow f g alignment named Said invariant.kept v w (a.segments + b.segments) place.Entry place.Entry inputs inputs a.segments b.segments (omega arith)
    a.leads b.leads (invariant.begins inputs long meets) (decide_exits place.Entry place.Entry))

pub law_of_invariants : LawOfInvariants
law_of_invariants said = invariants_force (λ n d e. said n d e ≡ true)
