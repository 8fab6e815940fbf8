-- Families that are drawn from candidates at given nodes.
use Rattle.std.proofs.Common.{◌≡◌, ◌⊎◌, zero, suc, Bool, true, false, cond, List, [], ◌∷◌, map, Option, Some, inl, inr, refl, sym, ap, ◌∙◌, subst, arith}
use Rattle.std.specs.Prelude.{All, Contains}
use Rattle.std.specs.List.{AllByRecursion}
use Rattle.std.proofs.lemmas.List.Elements.{All-from_recursion, recursion_from_All, All-weaker}
use Rattle.horn_clauses.specs.declared.atom.Atom.{Atom}
use Rattle.horn_clauses.specs.declared.node.Node.{Node}
use Rattle.horn_clauses.specs.declared.family.Family.{Family}
use Rattle.horn_clauses.specs.Node.{is_same_node}
use Rattle.horn_clauses.specs.Family.{atoms_among}
use Rattle.horn_clauses.proofs.Laws.{law_of_nodes}
use Rattle.houdini.specs.Within.{IsSublist, AreWithin, IsWithin, candidates_or_false, entries_of, family_of}
use Rattle.pool_core.specs.Candidates.{IsDrawnFrom}

-- A node with its atoms, as families list them.
abbrev pub Entry : Type 0
Entry = Node × List Atom

-- The candidates at each node, where it has some.
abbrev pub Lookup : Type 0
Lookup = Node → Option (List Atom)

-- The nodes of a family.
abbrev pub nodes_in : List Entry → List Node
nodes_in listed = map (λ (entry : Entry). entry.0) listed

-- ---- elements

first_or_behind : {A : Type 0} (y : A) (ys : List A) (x : A) → Contains (y ∷ ys) x → (y ≡ x) ⊎ Contains ys x
first_or_behind y ys x (zero, inside, is) = inl is
first_or_behind y ys x (suc k, inside, is) = inr (k, omega (arith, inside), is)

each_of_sublist : {A : Type 0} (P : A → Type 0) (xs ys : List A) → IsSublist xs ys → AllByRecursion P ys → AllByRecursion P xs
each_of_sublist P [] ys sub each = tt
each_of_sublist P (x ∷ xs) [] sub each = absurd sub
each_of_sublist P (x ∷ xs) (y ∷ ys) (inl sub) each = (subst P (sym sub.0) each.0, each_of_sublist P xs ys sub.1 each.1)
each_of_sublist P (x ∷ xs) (y ∷ ys) (inr sub) each = each_of_sublist P (x ∷ xs) ys sub each.1

-- What holds of all elements holds of those of a sublist.
pub all_of_sublist : {A : Type 0} (P : A → Type 0) (xs ys : List A) → IsSublist xs ys → All P ys → All P xs
all_of_sublist P xs ys sub all = All-from_recursion P xs (each_of_sublist P xs ys sub (recursion_from_All P ys all))

-- ---- the nodes, and what is drawn at each

module _ (lookup : Lookup) where
  -- The entry has some of the candidates at its node, in their order.
  abbrev pub IsDrawnAt : Entry → Type 0
  IsDrawnAt entry = IsSublist entry.1 (candidates_or_false (lookup entry.0))

  nodes_within : (listed : List Entry) (nodes : List Node) → AreWithin listed (entries_of lookup nodes) → nodes_in listed ≡ nodes
  nodes_within [] [] within = refl
  nodes_within [] (n ∷ nodes) within = absurd within
  nodes_within (entry ∷ listed) [] within = absurd within
  nodes_within (entry ∷ listed) (n ∷ nodes) within =
      ap (λ (m : Node). m ∷ nodes_in listed) within.0 ∙ ap (λ (others : List Node). n ∷ others) (nodes_within listed nodes within.1.1)

  drawn_within : (listed : List Entry) (nodes : List Node) → AreWithin listed (entries_of lookup nodes) → AllByRecursion IsDrawnAt listed
  drawn_within [] nodes within = tt
  drawn_within (entry ∷ listed) [] within = absurd within
  drawn_within (entry ∷ listed) (n ∷ nodes) within = (
    subst (λ (m : Node). IsSublist entry.1 (candidates_or_false (lookup m))) (sym within.0) within.1.0,
    drawn_within listed nodes within.1.1,
  )

  within_drawn : (listed : List Entry) → AllByRecursion IsDrawnAt listed → AreWithin listed (entries_of lookup (nodes_in listed))
  within_drawn [] drawn = tt
  within_drawn (entry ∷ listed) drawn = (refl, (drawn.0, within_drawn listed drawn.1))

  -- A family within the candidates has their nodes in order.
  pub nodes_of_within : (nodes : List Node) (family : Family) → IsWithin family (family_of nodes lookup) → nodes_in family.nodes ≡ nodes
  nodes_of_within nodes family within = nodes_within family.nodes nodes within

  -- It is drawn from them.
  pub drawn_of_within : (nodes : List Node) (family : Family) → IsWithin family (family_of nodes lookup) → IsDrawnFrom lookup family
  drawn_of_within nodes family within = All-from_recursion IsDrawnAt family.nodes (drawn_within family.nodes nodes within)

  -- What has the nodes in order and is drawn from the candidates is within them.
  pub within_of_drawn : (nodes : List Node) (family : Family) → nodes_in family.nodes ≡ nodes → IsDrawnFrom lookup family
      → IsWithin family (family_of nodes lookup)
  within_of_drawn nodes family same drawn =
      subst (λ (others : List Node). AreWithin family.nodes (entries_of lookup others)) same
      (within_drawn family.nodes (recursion_from_All IsDrawnAt family.nodes drawn))

  -- ---- one node

  among_entries : (nodes : List Node) (n : Node) → Contains nodes n
      → atoms_among (entries_of lookup nodes) n ≡ Some (candidates_or_false (lookup n))
  among_entries [] n found = absurd (omega (arith, found.1))
  among_entries (m ∷ nodes) n found = by (is_same_node m n) refl (first_or_behind m nodes n found) (among_entries nodes n)
    where
      by : (same : Bool) → is_same_node m n ≡ same → (m ≡ n) ⊎ Contains nodes n
          → (Contains nodes n → atoms_among (entries_of lookup nodes) n ≡ Some (candidates_or_false (lookup n)))
          → cond same (Some (candidates_or_false (lookup m))) (atoms_among (entries_of lookup nodes) n) ≡ Some (candidates_or_false (lookup n))
      by true is either later = ap (λ (z : Node). Some (candidates_or_false (lookup z))) ((law_of_nodes m n).0 is)
      by false is (inl here) later = let same = (law_of_nodes m n).1 here in cc
      by false is (inr there) later = later there

  -- The family of the candidates has those of each of its nodes.
  pub atoms_of_candidates : (nodes : List Node) (n : Node) → Contains nodes n
      → atoms_among (family_of nodes lookup).nodes n ≡ Some (candidates_or_false (lookup n))
  atoms_of_candidates nodes n found = among_entries nodes n found

-- ---- candidates that are the same at each node

-- What is drawn from the one candidates is drawn from the others.
pub drawn_from_same : (lookup other : Lookup) → ((n : Node) → lookup n ≡ other n) → (family : Family) → IsDrawnFrom lookup family
    → IsDrawnFrom other family
drawn_from_same lookup other same family drawn =
    All-weaker (IsDrawnAt lookup) (IsDrawnAt other)
    (λ entry has. subst (λ (found : Option (List Atom)). IsSublist entry.1 (candidates_or_false found)) (same entry.0) has) family.nodes drawn
