-- Lists of nodes.
use Rattle.std.proofs.Common.{◌≡◌, Bool, true, false, cond, ◌||◌, List, [], ◌∷◌, ◌++◌, refl, sym, ap, ◌∙◌}
use Rattle.horn_clauses.specs.declared.node.Node.{Node}
use Rattle.horn_clauses.specs.Node.{is_same_node}
use Rattle.horn_clauses.proofs.Laws.{law_of_nodes}
use Rattle.path_product.specs.Product.{is_among}
use Rattle.path_product.specs.Queue.{HaveSame}

is_itself : (n : Node) → is_same_node n n ≡ true
is_itself n = (law_of_nodes n n).1 refl

-- two nodes are one in either order
pub same_turned : (m n : Node) → is_same_node m n ≡ is_same_node n m
same_turned m n = go (is_same_node m n) (is_same_node n m) refl refl
  where
    go : (a b : Bool) → is_same_node m n ≡ a → is_same_node n m ≡ b → is_same_node m n ≡ is_same_node n m
    go true true first second = first ∙ sym second
    go false false first second = first ∙ sym second
    go true false first second =
        let one : m ≡ n = (law_of_nodes m n).0 first in
        first ∙ sym ((law_of_nodes n m).1 (sym one))
    go false true first second =
        let one : n ≡ m = (law_of_nodes n m).0 second in
        (law_of_nodes m n).1 (sym one) ∙ sym second

or_grouped : (a b c : Bool) → (a || (b || c)) ≡ ((a || b) || c)
or_grouped true b c = refl
or_grouped false b c = refl

pub among_append : (n : Node) (first second : List Node) → is_among n (first ++ second) ≡ (is_among n first || is_among n second)
among_append n [] second = refl
among_append n (m ∷ first) second =
    ap (λ (b : Bool). is_same_node n m || b) (among_append n first second)
    ∙ or_grouped (is_same_node n m) (is_among n first) (is_among n second)

pub or_none : (b : Bool) → (b || false) ≡ b
or_none true = refl
or_none false = refl

pub among_last : (n m : Node) (nodes : List Node) → is_among n (nodes ++ m ∷ []) ≡ (is_among n nodes || is_same_node n m)
among_last n m nodes = among_append n nodes (m ∷ []) ∙ ap (λ (b : Bool). is_among n nodes || b) (or_none (is_same_node n m))

pub or_turned : (a b : Bool) → (a || b) ≡ (b || a)
or_turned true true = refl
or_turned true false = refl
or_turned false true = refl
or_turned false false = refl

pub cond_or : (a b : Bool) → cond a true b ≡ (a || b)
cond_or true b = refl
cond_or false b = refl

-- a set with one more node has the nodes of the list with it at its end
pub same_with : (keys keys' nodes nodes' : List Node) (m : Node) → HaveSame keys nodes
    → ((n : Node) → is_among n keys' ≡ (is_same_node n m || is_among n keys)) → nodes' ≡ nodes ++ m ∷ [] → HaveSame keys' nodes'
same_with keys keys' nodes nodes' m same more is n =
    more n ∙ ap (λ (b : Bool). is_same_node n m || b) (same n) ∙ or_turned (is_same_node n m) (is_among n nodes)
    ∙ sym (among_last n m nodes) ∙ ap (is_among n) (sym is)

-- the same node is among the same nodes
pub among_same : (n m : Node) (nodes : List Node) → is_same_node n m ≡ true → is_among m nodes ≡ is_among n nodes
among_same n m nodes same = ap (λ (k : Node). is_among k nodes) (sym ((law_of_nodes n m).0 same))
