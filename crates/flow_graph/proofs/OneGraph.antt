-- A function has one graph.
use Rattle.std.proofs.lemmas.Bool.{eqb-true, eq-eqb}
use Rattle.std.proofs.Common.{◌≡◌, ℕ, ◌<◌, Bool, true, false, cond, ◌⊎◌, inl, inr, List, [], ◌∷◌, map, Option, Some, None, IsSome, refl, sym, ap, ◌∙◌, subst, arith}
use Rattle.std.specs.Prelude.{◌==◌}
use Rattle.std.specs.List.Sorted.{IsStrictlyIncreasing}
use Rattle.c_ast.specs.declared.expr.Expr.{Expr}
use Rattle.c_ast.specs.declared.place.Place.TheVariants as place
use Rattle.c_ast.specs.Tree.{Program}
use Rattle.c_ast.specs.View.{expression_of}
use Rattle.c_ast.specs.Scope.{IsPlace}
use Rattle.c_ast.proofs.Laws.{one_expression}
use Rattle.flow_graph.specs.declared.op.Op.{Op}
use Rattle.flow_graph.specs.declared.op.Op.TheVariants as op
use Rattle.flow_graph.specs.declared.stop.Stop.{Stop}
use Rattle.flow_graph.specs.Operation.{operation_of}
use Rattle.flow_graph.specs.FlowGraph.{FlowGraph, stop_of}
use Rattle.flow_graph.specs.Layout.{Layout, layout, all_filled}
use Rattle.flow_graph.specs.Stops.{AreStops}
use Rattle.flow_graph.specs.Laws.{GraphIsOne}
use Rattle.flow_graph.proofs.Rising.{first_below, others_increase}

-- ---- nodes with one operation are equal

one_set : (x y n m : ℕ) (e d : Expr) → x ≡ y → e ≡ d → n ≡ m → op.Set x e n ≡ op.Set y d m
one_set x y n m e d x_is e_is n_is = ap (λ (k : ℕ). op.Set k e n) x_is ∙ ap (λ (z : Expr). op.Set y z n) e_is ∙ ap (op.Set y d) n_is

one_branch : (i j n m : ℕ) (e d : Expr) → e ≡ d → i ≡ j → n ≡ m → op.Branch e i n ≡ op.Branch d j m
one_branch i j n m e d e_is i_is n_is = ap (λ (z : Expr). op.Branch z i n) e_is ∙ ap (λ (k : ℕ). op.Branch d k n) i_is ∙ ap (op.Branch d j) n_is

one_operation : (first second : Op) → operation_of first ≡ operation_of second → first ≡ second
one_operation (op.Set x e n) (op.Set y d m) is =
    let var_is : x ≡ y = cc in
    let tree_is : expression_of e ≡ expression_of d = cc in
    one_set x y n m e d var_is (one_expression e d tree_is) cc
one_operation (op.Set x e n) (op.Branch d j m) is = cc
one_operation (op.Set x e n) (op.Mark k m) is = cc
one_operation (op.Set x e n) (op.Return d) is = cc
one_operation (op.Branch e i n) (op.Set y d m) is = cc
one_operation (op.Branch e i n) (op.Branch d j m) is =
    let tree_is : expression_of e ≡ expression_of d = cc in
    let yes_is : i ≡ j = cc in
    one_branch i j n m e d (one_expression e d tree_is) yes_is cc
one_operation (op.Branch e i n) (op.Mark k m) is = cc
one_operation (op.Branch e i n) (op.Return d) is = cc
one_operation (op.Mark j n) (op.Set y d m) is = cc
one_operation (op.Mark j n) (op.Branch d i m) is = cc
one_operation (op.Mark j n) (op.Mark k m) is =
    let mark_is : j ≡ k = cc in
    let next_is : n ≡ m = cc in
    ap (λ (z : ℕ). op.Mark z n) mark_is ∙ ap (op.Mark k) next_is
one_operation (op.Mark j n) (op.Return d) is = cc
one_operation (op.Return e) (op.Set y d m) is = cc
one_operation (op.Return e) (op.Branch d j m) is = cc
one_operation (op.Return e) (op.Mark k m) is = cc
one_operation (op.Return e) (op.Return d) is =
    let tree_is : expression_of e ≡ expression_of d = cc in
    ap op.Return (one_expression e d tree_is)

one_layout : (first second : List Op) → all_filled first ≡ all_filled second → first ≡ second
one_layout [] [] is = refl
one_layout [] (y ∷ ys) is = cc
one_layout (x ∷ xs) [] is = cc
one_layout (x ∷ xs) (y ∷ ys) is =
    let front : operation_of x ≡ operation_of y = cc in
    let behind : all_filled xs ≡ all_filled ys = cc in
    ap (λ (z : Op). z ∷ xs) (one_operation x y front) ∙ ap (λ (z : List Op). y ∷ z) (one_layout xs ys behind)

-- ---- stops that rise are determined by what is found at each mark

abbrev marks_of : List Stop → List ℕ
marks_of = map (λ stop. stop.mark)

found_mark : (stops : List Stop) (mark : ℕ) (stop : Stop) → stop_of stops mark ≡ Some stop → stop.mark ≡ mark
found_mark [] mark stop found = cc
found_mark (first ∷ stops) mark stop found = on (first.mark == mark) refl found (found_mark stops mark stop)
  where
    on : (t : Bool) → (first.mark == mark) ≡ t → cond t (Some first) (stop_of stops mark) ≡ Some stop
        → (stop_of stops mark ≡ Some stop → stop.mark ≡ mark) → stop.mark ≡ mark
    on true is found later = let first_is : first ≡ stop = cc in ap (λ (z : Stop). z.mark) (sym first_is) ∙ eqb-true first.mark mark is
    on false is found later = later found

found_past : (low : ℕ) (stops : List Stop) (mark : ℕ) (stop : Stop) → IsStrictlyIncreasing (low ∷ marks_of stops) → stop_of stops mark ≡ Some stop
    → low < mark
found_past low [] mark stop rising found = cc
found_past low (first ∷ stops) mark stop rising found =
    on (first.mark == mark) refl found (found_past first.mark stops mark stop (others_increase low (first.mark ∷ marks_of stops) rising))
  where
    on : (t : Bool) → (first.mark == mark) ≡ t → cond t (Some first) (stop_of stops mark) ≡ Some stop
        → (stop_of stops mark ≡ Some stop → first.mark < mark) → low < mark
    on true is found later = omega (arith, first_below low first.mark (marks_of stops) rising, eqb-true first.mark mark is)
    on false is found later = omega (arith, first_below low first.mark (marks_of stops) rising, later found)

-- the mark below all of these is not found
none_below : (low : ℕ) (stops : List Stop) → IsStrictlyIncreasing (low ∷ marks_of stops) → stop_of stops low ≡ None
none_below low stops rising = on (stop_of stops low) refl
  where
    on : (o : Option Stop) → stop_of stops low ≡ o → o ≡ None
    on None is = refl
    on (Some stop) is = absurd (omega (arith, found_past low stops low stop rising is))

first_found : (first : Stop) (stops : List Stop) → stop_of (first ∷ stops) first.mark ≡ Some first
first_found first stops = ap (λ (t : Bool). cond t (Some first) (stop_of stops first.mark)) (eq-eqb first.mark first.mark refl)

-- a stop that is found is the first or has a greater mark
first_or_past : (x y : Stop) (ys : List Stop) → IsStrictlyIncreasing (marks_of (y ∷ ys)) → stop_of (y ∷ ys) x.mark ≡ Some x → (x ≡ y) ⊎ (y.mark < x.mark)
first_or_past x y ys rising found = on (y.mark == x.mark) found
  where
    on : (t : Bool) → cond t (Some y) (stop_of ys x.mark) ≡ Some x → (x ≡ y) ⊎ (y.mark < x.mark)
    on true found = inl (let same : x ≡ y = cc in same)
    on false found = inr (found_past y.mark ys x.mark x rising found)

-- what is found behind one and the same first stop
found_behind : (x : Stop) (xs ys : List Stop) → IsStrictlyIncreasing (marks_of (x ∷ xs)) → IsStrictlyIncreasing (marks_of (x ∷ ys)) → (mark : ℕ)
    → stop_of (x ∷ xs) mark ≡ stop_of (x ∷ ys) mark → stop_of xs mark ≡ stop_of ys mark
found_behind x xs ys rising rises mark same = on (x.mark == mark) refl same
  where
    on : (t : Bool) → (x.mark == mark) ≡ t → cond t (Some x) (stop_of xs mark) ≡ cond t (Some x) (stop_of ys mark) → stop_of xs mark ≡ stop_of ys mark
    on true is same = subst (λ (k : ℕ). stop_of xs k ≡ stop_of ys k) (eqb-true x.mark mark is)
        (none_below x.mark xs rising ∙ sym (none_below x.mark ys rises))
    on false is same = same

one_list : (first second : List Stop) → IsStrictlyIncreasing (marks_of first) → IsStrictlyIncreasing (marks_of second)
    → ((mark : ℕ) → stop_of first mark ≡ stop_of second mark) → first ≡ second
one_list [] [] rising rises same = refl
one_list [] (y ∷ ys) rising rises same = let one = same y.mark ∙ first_found y ys in cc
one_list (x ∷ xs) [] rising rises same = let one = sym (first_found x xs) ∙ same x.mark in cc
one_list (x ∷ xs) (y ∷ ys) rising rises same =
    let x_is = on (first_or_past x y ys rises (sym (same x.mark) ∙ first_found x xs)) (first_or_past y x xs rising (same y.mark ∙ first_found y ys)) in
    let later : IsStrictlyIncreasing (marks_of (x ∷ ys)) = subst (λ (z : Stop). IsStrictlyIncreasing (marks_of (z ∷ ys))) (sym x_is) rises in
    let alike : (mark : ℕ) → stop_of (x ∷ xs) mark ≡ stop_of (x ∷ ys) mark =
    λ mark. same mark ∙ ap (λ (z : Stop). stop_of (z ∷ ys) mark) (sym x_is) in
    ap (λ (z : Stop). z ∷ xs) x_is
    ∙ ap (λ (z : List Stop). y ∷ z) (one_list xs ys (others_increase x.mark (marks_of xs) rising) (others_increase y.mark (marks_of ys) rises)
    (λ mark. found_behind x xs ys rising later mark (alike mark)))
  where
    on : (x ≡ y) ⊎ (y.mark < x.mark) → (y ≡ x) ⊎ (x.mark < y.mark) → x ≡ y
    on (inl is) other = is
    on (inr past) (inl is) = sym is
    on (inr past) (inr past') = absurd (omega (arith, past, past'))

-- ---- what is found at a mark is determined by the nodes

one_stop : (x y : Stop) → x.mark ≡ y.mark → x.next ≡ y.next → x.scope ≡ y.scope → x ≡ y
one_stop x y mark_is next_is scope_is =
    ap (λ (z : ℕ). record { mark = z; next = x.next; scope = x.scope }) mark_is ∙ ap (λ (z : ℕ). record { mark = y.mark; next = z; scope = x.scope }) next_is
    ∙ ap (λ (z : List ℕ). record { mark = y.mark; next = y.next; scope = z }) scope_is

-- The marks of the stops are the function's.
abbrev ArePlaces : Program → List Stop → Type 0
ArePlaces f stops = (mark : ℕ) → IsSome (stop_of stops mark) → IsPlace f (place.Mark mark)

same_stop : (f : Program) (ops : List Op) (first second : List Stop) → AreStops f ops first → AreStops f ops second → ArePlaces f first → (mark : ℕ)
    (stop : Stop) → stop_of first mark ≡ Some stop → stop_of second mark ≡ Some stop
same_stop f ops first second are are' places mark stop found =
    let p = places mark (subst IsSome (sym found) refl) in
    let o = are.only mark stop found in
    let other = are'.each o.0 mark stop.next o.1 in
    let scope_is = (are'.only mark other.stop other.found).2 p.work p.from ∙ sym (o.2 p.work p.from) in
    let mark_is = found_mark second mark other.stop other.found ∙ sym (found_mark first mark stop found) in
    other.found ∙ ap Some (one_stop other.stop stop mark_is other.next_is scope_is)

one_stops : (f : Program) (ops : List Op) (first second : List Stop) → AreStops f ops first → AreStops f ops second → ArePlaces f first → ArePlaces f second
    → first ≡ second
one_stops f ops first second are are' places places' = one_list first second are.rising are'.rising
    (λ mark. on mark (stop_of first mark) (stop_of second mark) refl refl)
  where
    on : (mark : ℕ) (o p : Option Stop) → stop_of first mark ≡ o → stop_of second mark ≡ p → stop_of first mark ≡ stop_of second mark
    on mark (Some stop) p is is' = is ∙ sym (same_stop f ops first second are are' places mark stop is)
    on mark None (Some stop) is is' = same_stop f ops second first are' are places' mark stop is' ∙ sym is'
    on mark None None is is' = is ∙ sym is'

-- ---- graphs

one_record : (x y : FlowGraph) → x.params ≡ y.params → x.vars ≡ y.vars → x.ops ≡ y.ops → x.entry ≡ y.entry → x.stops ≡ y.stops → x ≡ y
one_record x y params_is vars_is ops_is entry_is stops_is =
    ap (λ (z : ℕ). record { params = z; vars = x.vars; ops = x.ops; entry = x.entry; stops = x.stops }) params_is
    ∙ ap (λ (z : ℕ). record { params = y.params; vars = z; ops = x.ops; entry = x.entry; stops = x.stops }) vars_is
    ∙ ap (λ (z : List Op). record { params = y.params; vars = y.vars; ops = z; entry = x.entry; stops = x.stops }) ops_is
    ∙ ap (λ (z : ℕ). record { params = y.params; vars = y.vars; ops = y.ops; entry = z; stops = x.stops }) entry_is
    ∙ ap (λ (z : List Stop). record { params = y.params; vars = y.vars; ops = y.ops; entry = y.entry; stops = z }) stops_is

pub graph_is_one : GraphIsOne
graph_is_one f first second is is' =
    let laid : layout (all_filled first.ops) first.entry ≡ layout (all_filled second.ops) second.entry = is.laid ∙ sym is'.laid in
    let ops_are : first.ops ≡ second.ops = one_layout first.ops second.ops (ap (λ (z : Layout). z.slots) laid) in
    let stops : AreStops f second.ops first.stops = subst (λ (z : List Op). AreStops f z first.stops) ops_are is.stops in
    let stops_are = one_stops f second.ops first.stops second.stops stops is'.stops (λ mark. (is.places (place.Mark mark)).0)
    (λ mark. (is'.places (place.Mark mark)).0) in
    one_record first second (is.params ∙ sym is'.params) (is.vars ∙ sym is'.vars) ops_are (ap (λ (z : Layout). z.node) laid) stops_are
