-- The definitions at small graphs, worked out by hand.
use Rattle.std.proofs.Common.{◌≡◌, true, false, [], ◌∷◌, Some, None, pos, negsuc, refl}
use Rattle.c_ast.specs.declared.expr.BinOp.TheVariants.{Add, Less}
use Rattle.c_ast.specs.declared.place.Place.TheVariants as place
use Rattle.c_ast.specs.Tree as tree
use Rattle.c_ast.specs.Tree.{Num, Var, Bin}
use Rattle.c_ast.specs.Sums.{sums}
use Rattle.flow_graph.specs.declared.stop.Stop.{Stop}
use Rattle.flow_graph.specs.Operation.{Set, Branch, Mark, Return}
use Rattle.flow_graph.specs.FlowGraph.{FlowGraph, node_after, variables_at, places_of}
use Rattle.flow_graph.specs.Run.{Goes, Passes, Ends, turn, values_of}
use Rattle.flow_graph.specs.Layout.{layout, lay, ending}
use Rattle.flow_graph.specs.Scopes.{with_declared, noted}

-- the mark's node stands before the test's, and the body leads back to the mark
sums_laid : lay sums.body (Some (Return (Num (pos 0))) ∷ []) 0 0 0
    ≡ layout (
    Some (Return (Num (pos 0)))
    ∷ Some (Return (Var 2))
    ∷ Some (Mark 42 5)
    ∷ Some (Set 1 (Bin Add (Var 1) (Num (pos 1))) 2)
    ∷ Some (Set 2 (Bin Add (Var 2) (Var 1)) 3)
    ∷ Some (Branch (Bin Less (Var 1) (Var 0)) 4 1)
    ∷ Some (Set 2 (Num (pos 0)) 2)
    ∷ Some (Set 1 (Num (pos 0)) 6)
    ∷ []
    ) 7
sums_laid = refl

-- a body without statements: falling off the end
nothing_laid : lay tree.Nil ending 0 0 0 ≡ layout (Some (Return (Num (pos 0))) ∷ []) 0
nothing_laid = refl

-- do { __mark(7); if (x) continue; break; } while (x);
do_laid : lay (tree.Loop None (Var 0) (tree.Mark 7 (tree.If (Var 0) (tree.Continue tree.Nil) tree.Nil (tree.Break tree.Nil))) tree.Nil false tree.Nil)
    (Some (Return (Num (pos 0))) ∷ []) 0 0 0
    ≡ layout (Some (Return (Num (pos 0))) ∷ Some (Branch (Var 0) 3 0) ∷ Some (Branch (Var 0) 1 0) ∷ Some (Mark 7 2) ∷ []) 3
do_laid = refl

five : Stop
five = record { mark = 5; next = 3; scope = 0 ∷ [] }

nine : Stop
nine = record { mark = 9; next = 8; scope = 0 ∷ 2 ∷ [] }

-- int a = 0; { int b = 0; __mark(9); } __mark(5); while (__mark(7) & a) { int c = 0; __mark(6); }
scopes_noted : noted (tree.Set 1 (Num (pos 0)) (tree.Block (tree.Set 2 (Num (pos 0)) (tree.Mark 9 tree.Nil)) (tree.Mark 5
    (tree.Loop (Some 7) (Var 1) (tree.Set 3 (Num (pos 0)) (tree.Mark 6 tree.Nil)) tree.Nil true tree.Nil)))) (0 ∷ []) []
    ≡ (5, 0 ∷ 1 ∷ []) ∷ (6, 0 ∷ 1 ∷ 3 ∷ []) ∷ (7, 0 ∷ 1 ∷ []) ∷ (9, 0 ∷ 1 ∷ 2 ∷ []) ∷ []
scopes_noted = refl

-- a variable that is set again stays where it is
set_again : with_declared 2 (0 ∷ 2 ∷ 5 ∷ []) ≡ 0 ∷ 2 ∷ 5 ∷ []
set_again = refl

-- a graph of two parameters, with these marks
two : FlowGraph
two = record { params = 2; vars = 3; ops = []; entry = 4; stops = five ∷ nine ∷ [] }

two_places : places_of two ≡ place.Entry ∷ place.Mark 5 ∷ place.Mark 9 ∷ place.Exit ∷ []
unfolding two five nine
two_places = refl

goes_on_at_the_entry : node_after two place.Entry ≡ 4
unfolding two
goes_on_at_the_entry = refl

goes_on_behind_a_mark : node_after two (place.Mark 9) ≡ 8
unfolding two five nine
goes_on_behind_a_mark = refl

parameters_are_in_scope : variables_at two place.Entry ≡ 0 ∷ 1 ∷ []
unfolding two
parameters_are_in_scope = refl

scope_at_a_mark : variables_at two (place.Mark 9) ≡ 0 ∷ 2 ∷ []
unfolding two five nine
scope_at_a_mark = refl

values_at_a_mark : values_of (0 ∷ 2 ∷ []) (pos 7 ∷ pos 8 ∷ negsuc 0 ∷ []) ≡ pos 7 ∷ negsuc 0 ∷ []
values_at_a_mark = refl

sets : turn (Set 1 (Bin Add (Var 0) (Num (pos 1))) 6) (pos 7 ∷ pos 8 ∷ []) ≡ Goes 6 (pos 7 ∷ pos 8 ∷ [])
sets = refl

chooses_the_first : turn (Branch (Var 0) 3 4) (negsuc 0 ∷ []) ≡ Goes 3 (negsuc 0 ∷ [])
chooses_the_first = refl

chooses_the_second : turn (Branch (Var 0) 3 4) (pos 0 ∷ []) ≡ Goes 4 (pos 0 ∷ [])
chooses_the_second = refl

passes : turn (Mark 5 3) (pos 7 ∷ []) ≡ Passes 5 3 (pos 7 ∷ [])
passes = refl

ends : turn (Return (Var 0)) (pos 7 ∷ []) ≡ Ends (pos 7)
ends = refl
