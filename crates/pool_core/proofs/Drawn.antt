-- Lists that are drawn from others in order, and the first entries for nodes in order.
use Rattle.std.proofs.Common.{◌≡◌, Bool, true, false, cond, inl, inr, List, [], ◌∷◌, map, Some, refl, sym, ap, ◌∙◌, subst, arith}
use Rattle.c_ast.specs.declared.place.Place.{Place}
use Rattle.c_ast.specs.declared.place.Place.TheVariants as place
use Rattle.c_ast.specs.Place.{ComesBefore}
use Rattle.horn_clauses.specs.declared.atom.Atom.{Atom}
use Rattle.horn_clauses.specs.declared.node.Node.{Node}
use Rattle.horn_clauses.specs.Node.{is_same_node, StandsBefore}
use Rattle.horn_clauses.specs.Family.{atoms_among}
use Rattle.horn_clauses.proofs.Laws.{law_of_nodes}
use Rattle.path_product.specs.Agreement.{AreOrdered}
use Rattle.pool_core.proofs.Listings.{Each, IsOneOf, IsListed, Asymmetric, each_one}
use Rattle.houdini.specs.Within.{IsSublist}

-- ---- lists that are drawn from others

pub one_of_drawn : {A : Type 0} (xs ys : List A) → IsSublist xs ys → (a : A) → IsOneOf a xs → IsOneOf a ys
one_of_drawn [] ys drawn a one = absurd one
one_of_drawn (x ∷ xs) [] drawn a one = absurd drawn
one_of_drawn (x ∷ xs) (y ∷ ys) (inl same) a (inl one) = inl (one ∙ same.0)
one_of_drawn (x ∷ xs) (y ∷ ys) (inl same) a (inr one) = inr (one_of_drawn xs ys same.1 a one)
one_of_drawn (x ∷ xs) (y ∷ ys) (inr drawn) a one = inr (one_of_drawn (x ∷ xs) ys drawn a one)

each_drawn : {A : Type 0} (P : A → Type 0) (xs ys : List A) → IsSublist xs ys → Each P ys → Each P xs
each_drawn P [] ys drawn each = tt
each_drawn P (x ∷ xs) [] drawn each = absurd drawn
each_drawn P (x ∷ xs) (y ∷ ys) (inl same) each = (subst P (sym same.0) each.0, each_drawn P xs ys same.1 each.1)
each_drawn P (x ∷ xs) (y ∷ ys) (inr drawn) each = each_drawn P (x ∷ xs) ys drawn each.1

listed_drawn : {A : Type 0} (R : A → A → Type 0) (xs ys : List A) → IsSublist xs ys → IsListed R ys → IsListed R xs
listed_drawn R [] ys drawn listed = tt
listed_drawn R (x ∷ xs) [] drawn listed = absurd drawn
listed_drawn R (x ∷ xs) (y ∷ ys) (inl same) listed =
    (subst (λ z. Each (R z) xs) (sym same.0) (each_drawn (R y) xs ys same.1 listed.0), listed_drawn R xs ys same.1 listed.1)
listed_drawn R (x ∷ xs) (y ∷ ys) (inr drawn) listed = listed_drawn R (x ∷ xs) ys drawn listed.1

past_first : {A : Type 0} (R : A → A → Type 0) → Asymmetric R → (x y a : A) (ys : List A) → x ≡ y → R x a → IsOneOf a (y ∷ ys)
    → IsOneOf a ys
past_first R once x y a ys same before (inl one) = let twice = subst (R x) (one ∙ sym same) before in absurd (once x x twice twice)
past_first R once x y a ys same before (inr one) = one

past_lesser : {A : Type 0} (R : A → A → Type 0) → Asymmetric R → (x z : A) (xs zs : List A) → Each (R x) xs → R z x → (a : A)
    → IsOneOf a (x ∷ xs) → IsOneOf a (z ∷ zs) → IsOneOf a zs
past_lesser R once x z xs zs each before a (inl here) (inl one) = let twice = subst (R z) (sym here ∙ one) before in absurd (once z z twice twice)
past_lesser R once x z xs zs each before a (inr later) (inl one) = absurd (once z x before (subst (R x) one (each_one (R x) xs a later each)))
past_lesser R once x z xs zs each before a inside (inr one) = one

-- An ordered list is drawn from another that has all its elements.
drawn_from_ordered : {A : Type 0} (R : A → A → Type 0) → Asymmetric R → (xs zs : List A) → IsListed R xs → IsListed R zs
    → ((a : A) → IsOneOf a xs → IsOneOf a zs) → IsSublist xs zs
drawn_from_ordered R once [] zs first second has = tt
drawn_from_ordered R once (x ∷ xs) [] first second has = absurd (has x (inl refl))
drawn_from_ordered {A} R once (x ∷ xs) (z ∷ zs) first second has =
    by (has x (inl refl)) (λ among. drawn_from_ordered R once xs zs first.1 second.1 among)
    (λ among. drawn_from_ordered R once (x ∷ xs) zs first second.1 among)
  where
    by : IsOneOf x (z ∷ zs) → (((a : A) → IsOneOf a xs → IsOneOf a zs) → IsSublist xs zs)
        → (((a : A) → IsOneOf a (x ∷ xs) → IsOneOf a zs) → IsSublist (x ∷ xs) zs) → IsSublist (x ∷ xs) (z ∷ zs)
    by (inl same) both others =
        inl (same, both (λ a one. past_first R once x z a zs same (each_one (R x) xs a one first.0) (has a (inr one))))
    by (inr one) both others =
        inr (others (λ a inside. past_lesser R once x z xs zs first.0 (each_one (R z) zs x one second.0) a inside (has a inside)))

-- What is drawn from an ordered list is drawn from each ordered list that has all its elements.
pub drawn_again : {A : Type 0} (R : A → A → Type 0) → Asymmetric R → (xs ys zs : List A) → IsSublist xs ys → IsListed R ys → IsListed R zs
    → ((a : A) → IsOneOf a xs → IsOneOf a zs) → IsSublist xs zs
drawn_again R once xs ys zs drawn ordered others has = drawn_from_ordered R once xs zs (listed_drawn R xs ys drawn ordered) others has

-- ---- nodes in order

before_not_itself : (l : Place) → ComesBefore l l → ⊥
before_not_itself place.Entry before = before
before_not_itself (place.Mark k) before = omega (arith, before)
before_not_itself place.Exit before = before

before_later : (l m r : Place) → ComesBefore l m → ComesBefore m r → ComesBefore l r
before_later place.Entry place.Entry r first second = absurd first
before_later place.Entry (place.Mark j) place.Entry first second = absurd second
before_later place.Entry (place.Mark j) (place.Mark k) first second = tt
before_later place.Entry (place.Mark j) place.Exit first second = tt
before_later place.Entry place.Exit r first second = absurd second
before_later (place.Mark i) place.Entry r first second = absurd first
before_later (place.Mark i) (place.Mark j) place.Entry first second = absurd second
before_later (place.Mark i) (place.Mark j) (place.Mark k) first second = omega (arith, first, second)
before_later (place.Mark i) (place.Mark j) place.Exit first second = tt
before_later (place.Mark i) place.Exit r first second = absurd second
before_later place.Exit m r first second = absurd first

stands_not_before_itself : (n : Node) → StandsBefore n n → ⊥
stands_not_before_itself n (inl before) = before_not_itself n.0 before
stands_not_before_itself n (inr both) = before_not_itself n.1 both.1

stands_later : (l m n : Node) → StandsBefore l m → StandsBefore m n → StandsBefore l n
stands_later l m n (inl first) (inl second) = inl (before_later l.0 m.0 n.0 first second)
stands_later l m n (inl first) (inr second) = inl (subst (ComesBefore l.0) second.0 first)
stands_later l m n (inr first) (inl second) = inl (subst (λ (z : Place). ComesBefore z n.0) (sym first.0) second)
stands_later l m n (inr first) (inr second) = inr (first.0 ∙ second.0, before_later l.1 m.1 n.1 first.1 second.1)

each_behind : (n : Node) (nodes : List Node) → AreOrdered (n ∷ nodes) → Each (StandsBefore n) nodes
each_behind n [] ordered = tt
each_behind n (m ∷ []) ordered = (ordered.0, tt)
each_behind n (m ∷ other ∷ nodes) ordered =
    (ordered.0, each_behind n (other ∷ nodes) (stands_later n m other ordered.0 ordered.1.0, ordered.1.1))

ordered_behind : (n : Node) (nodes : List Node) → AreOrdered (n ∷ nodes) → AreOrdered nodes
ordered_behind n [] ordered = tt
ordered_behind n (m ∷ nodes) ordered = ordered.1

-- A node with its atoms, as families list them.
abbrev Entry : Type 0
Entry = Node × List Atom

abbrev nodes_in : List Entry → List Node
nodes_in = map (λ (entry : Entry). entry.0)

node_listed : (entry : Entry) (listed : List Entry) → IsOneOf entry listed → IsOneOf entry.0 (nodes_in listed)
node_listed entry [] one = absurd one
node_listed entry (first ∷ listed) (inl one) = inl (ap (λ (e : Entry). e.0) one)
node_listed entry (first ∷ listed) (inr one) = inr (node_listed entry listed one)

-- Where nodes stand in order, each entry is the first for its node.
pub first_entry : (listed : List Entry) → AreOrdered (nodes_in listed) → (entry : Entry) → IsOneOf entry listed
    → atoms_among listed entry.0 ≡ Some entry.1
first_entry [] ordered entry one = absurd one
first_entry (first ∷ listed) ordered entry (inl one) =
    here (is_same_node first.0 entry.0) ((law_of_nodes first.0 entry.0).1 (ap (λ (e : Entry). e.0) (sym one)))
  where
    here : (b : Bool) → b ≡ true → cond b (Some first.1) (atoms_among listed entry.0) ≡ Some entry.1
    here true is = ap (λ (e : Entry). Some e.1) (sym one)
    here false is = cc
first_entry (first ∷ listed) ordered entry (inr one) =
    by (is_same_node first.0 entry.0) refl (first_entry listed (ordered_behind first.0 (nodes_in listed) ordered) entry one)
  where
    by : (b : Bool) → is_same_node first.0 entry.0 ≡ b → atoms_among listed entry.0 ≡ Some entry.1
        → cond b (Some first.1) (atoms_among listed entry.0) ≡ Some entry.1
    by true is later =
        let before = each_one (StandsBefore first.0) (nodes_in listed) entry.0 (node_listed entry listed one)
        (each_behind first.0 (nodes_in listed) ordered) in
        absurd (stands_not_before_itself entry.0 (subst (λ (n : Node). StandsBefore n entry.0) ((law_of_nodes first.0 entry.0).0 is) before))
    by false is later = later
