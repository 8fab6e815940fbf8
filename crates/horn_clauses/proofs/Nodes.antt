-- The test of nodes, and what a family has at one.
use Rattle.std.proofs.Common.{◌≡◌, ℕ, suc, ◌<◌, Bool, true, false, ◌&&◌, cond, List, ◌∷◌, length, drop, get_or, Some, refl, sym, ap, ◌∙◌, subst}
use Rattle.std.proofs.Math.Seq.{drop-cons}
use Rattle.c_ast.specs.declared.place.Place.{Place}
use Rattle.c_ast.specs.Place.{is_same_place}
use Rattle.c_ast.proofs.Laws.{law_of_places}
use Rattle.horn_clauses.specs.declared.atom.Atom.{Atom}
use Rattle.horn_clauses.specs.declared.node.Node.{Node}
use Rattle.horn_clauses.specs.Node.{node, is_same_node, LawOfNodes}
use Rattle.horn_clauses.specs.Family.{atoms_among}

both : (a b : Bool) → (a && b) ≡ true → (a ≡ true) × (b ≡ true)
both true b is = (refl, is)
both false b is = cc

both_true : (a b : Bool) → a ≡ true → b ≡ true → (a && b) ≡ true
both_true true b first second = second
both_true false b first second = cc

node_of_places : (m n : Node) → m.0 ≡ n.0 → m.1 ≡ n.1 → m ≡ n
node_of_places m n first second = ap (λ (z : Place). node z m.1) first ∙ ap (λ (z : Place). node n.0 z) second

node_is_itself : (n : Node) → is_same_node n n ≡ true
node_is_itself n = both_true (is_same_place n.0 n.0) (is_same_place n.1 n.1) ((law_of_places n.0 n.0).1 refl) ((law_of_places n.1 n.1).1 refl)

pub law_of_nodes : LawOfNodes
law_of_nodes m n = (
  λ is. let parts = both (is_same_place m.0 n.0) (is_same_place m.1 n.1) is in
      node_of_places m n ((law_of_places m.0 n.0).0 parts.0) ((law_of_places m.1 n.1).0 parts.1),
  λ same. subst (λ (z : Node). is_same_node m z ≡ true) same (node_is_itself m),
)

-- The first entry for a node, once those before it are none, has the family's atoms there.
pub atoms_found : (nodes slice : List (Node × List Atom)) (i : ℕ) (n : Node) (entry : Node × List Atom) (atoms : List Atom) → slice ≡ nodes
    → i < length slice → entry ≡ get_or slice i entry → entry.0 ≡ n → atoms ≡ entry.1
    → atoms_among (drop i nodes) n ≡ atoms_among nodes n → atoms_among nodes n ≡ Some atoms
atoms_found nodes slice i n entry atoms all inside is own has before =
    let split : drop i slice ≡ get_or slice i entry ∷ drop (suc i) slice = drop-cons slice i entry inside in
    let split' : drop i slice ≡ entry ∷ drop (suc i) slice = split ∙ ap (λ (z : Node × List Atom). z ∷ drop (suc i) slice) (sym is) in
    let from : atoms_among (drop i slice) n ≡ atoms_among (entry ∷ drop (suc i) slice) n = ap (λ (z : List (Node × List Atom)). atoms_among z n) split' in
    let test : is_same_node entry.0 n ≡ true = (law_of_nodes entry.0 n).1 own in
    let here : atoms_among (entry ∷ drop (suc i) slice) n ≡ Some entry.1 =
    ap (λ (t : Bool). cond t (Some entry.1) (atoms_among (drop (suc i) slice) n)) test in
    sym before ∙ ap (λ (z : List (Node × List Atom)). atoms_among (drop i z) n) (sym all) ∙ from ∙ here ∙ ap Some (sym has)
