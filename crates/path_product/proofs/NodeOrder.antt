-- The order of nodes tells when two are one.
use Rattle.std.proofs.Common.{◌≡◌, ◌∙◌, ℕ, Bool, true, ◌&&◌, ◌||◌, List, [], ◌∷◌, cond, refl, sym, ap, arith}
use Rattle.std.specs.declared.cmp.Ordering.{Ordering}
use Rattle.std.specs.declared.cmp.Ordering.TheVariants.{Less, Equal, Greater}
use Rattle.std.specs.List.{list_any}
use Rattle.std.specs.Ordering.{is_eq, ordering_then, nat_cmp}
use Rattle.std.specs.Prelude.{◌==◌}
use Rattle.std.specs.BTreeMap.{is_at}
use Rattle.std.proofs.lemmas.Bool.Decides.{nat_tests}
use Rattle.c_ast.specs.declared.place.Place.{Place}
use Rattle.c_ast.specs.declared.place.Place.TheVariants as place
use Rattle.c_ast.specs.Place.{is_same_place}
use Rattle.horn_clauses.specs.declared.node.Node.{Node}
use Rattle.horn_clauses.specs.Node.{is_same_node}
use Rattle.horn_clauses.specs.contracts.node.NodeOrd.TheImpl as node_order
use Rattle.c_ast.specs.contracts.place.PlaceOrd.TheImpl as place_order
use Rattle.path_product.specs.Product.{is_among}
use Rattle.path_product.proofs.Nodes.{same_turned, cond_or}

then_is_eq : (a b : Ordering) → is_eq (ordering_then a b) ≡ (is_eq a && is_eq b)
then_is_eq Less b = refl
then_is_eq Equal b = refl
then_is_eq Greater b = refl

same_number : (j k : ℕ) → is_eq (nat_cmp j k) ≡ (j == k)
same_number j k = grind (arith, nat_tests)

same_place : (l m : Place) → is_eq ((place_order.cmp-value).it l m) ≡ is_same_place l m
same_place place.Entry place.Entry = refl
same_place place.Entry (place.Mark k) = refl
same_place place.Entry place.Exit = refl
same_place (place.Mark j) place.Entry = refl
same_place (place.Mark j) (place.Mark k) = same_number j k
same_place (place.Mark j) place.Exit = refl
same_place place.Exit place.Entry = refl
same_place place.Exit (place.Mark k) = refl
same_place place.Exit place.Exit = refl

pub same_by_order : (m n : Node) → is_eq ((node_order.cmp-value).it m n) ≡ is_same_node m n
same_by_order m n =
    then_is_eq ((place_order.cmp-value).it m.0 n.0) ((place_order.cmp-value).it m.1 n.1)
    ∙ ap (λ (first : Bool). first && is_eq ((place_order.cmp-value).it m.1 n.1)) (same_place m.0 n.0)
    ∙ ap (λ (second : Bool). is_same_place m.0 n.0 && second) (same_place m.1 n.1)

-- a set's keys are looked through by their order
pub among_keys : (n : Node) (keys : List Node) → list_any (is_at ((node_order.cmp-value).it n)) keys ≡ is_among n keys
among_keys n [] = refl
among_keys n (m ∷ keys) =
    ap (λ (first : Bool). first || list_any (is_at ((node_order.cmp-value).it n)) keys) (same_by_order n m)
    ∙ ap (λ (others : Bool). is_same_node n m || others) (among_keys n keys)

-- the keys once a node is put in
pub among_inserted : (n m : Node) (keys keys' : List Node)
    → list_any (is_at ((node_order.cmp-value).it n)) keys'
    ≡ cond (is_at ((node_order.cmp-value).it m) n) true (list_any (is_at ((node_order.cmp-value).it n)) keys)
    → is_among n keys' ≡ (is_same_node n m || is_among n keys)
among_inserted n m keys keys' is =
    sym (among_keys n keys') ∙ is
    ∙ ap (λ (b : Bool). cond b true (list_any (is_at ((node_order.cmp-value).it n)) keys)) (same_by_order m n ∙ same_turned m n)
    ∙ ap (λ (b : Bool). cond (is_same_node n m) true b) (among_keys n keys)
    ∙ cond_or (is_same_node n m) (is_among n keys)
