-- What is gathered of the spots of a walk, one after another.
use Rattle.std.proofs.Common.{◌≡◌, ℕ, zero, suc, ◌+◌, ◌<◌, ◌≤◌, Bool, true, false, List, [], ◌∷◌, ◌++◌, map, fold, length, get_or, take, drop, drop-cons, set, add-one, arith, refl, sym, ◌∙◌, ap, append_assoc}
use Rattle.std.specs.Prelude.{ℤ, ◌↔◌, IsTrue, ◌||◌, All}
use Rattle.std.proofs.lemmas.List.{map-append, length-map}
use Rattle.c_ast.specs.declared.trace.Pair.{Pair}
use Rattle.horn_clauses.specs.declared.atom.Atom.{Atom}
use Rattle.horn_clauses.specs.declared.node.Node.{Node}
use Rattle.horn_clauses.specs.Node.{is_same_node, entries}
use Rattle.horn_clauses.proofs.Laws.{law_of_nodes}
use Rattle.walks.specs.declared.position.Position.{Position}
use Rattle.walks.specs.declared.spot.Spot.{Spot}
use Rattle.walks.specs.Walk.{spot_at, positions_of, first_values_at, second_values_at}
use Rattle.c_ast.specs.FitsRun.{FitsRun}
use Rattle.walks.specs.Laws.{IsNarrowPair}
use Rattle.walks.proofs.Laws.{positions_are_narrow}
use Rattle.miners.specs.Mined.{struck}
use Rattle.miners.specs.Kept.{Held, atoms_left, first_atoms}
use Rattle.miners.specs.Gathered.{gathered, with_pair, point_of, is_among, with_node, struck_entry, struck_nodes}
use Rattle.miners.specs.Entries.{gathered_of, entry_of, entries_of, is_had}
use Rattle.miners.proofs.Enumerated.{drop_past}

-- ---- nodes

-- a test that says whether two nodes are one
pub node_test : (b : Bool) (m n : Node) → IsTrue b ↔ (m ≡ n) → b ≡ is_same_node m n
node_test true m n h = sym ((law_of_nodes m n).1 (h.0 refl))
node_test false m n h = by (is_same_node m n) refl
  where
    by : (b : Bool) → is_same_node m n ≡ b → false ≡ b
    by true e = h.1 ((law_of_nodes m n).0 e)
    by false e = refl

among_both : (xs ys : List (Node × List Atom)) (n : Node) → is_among (xs ++ ys) n ≡ (is_among xs n || is_among ys n)
among_both [] ys n = refl
among_both (x ∷ xs) ys n = by (is_same_node x.0 n) (among_both xs ys n)
  where
    by : (b : Bool) → is_among (xs ++ ys) n ≡ (is_among xs n || is_among ys n)
        → (b || is_among (xs ++ ys) n) ≡ ((b || is_among xs n) || is_among ys n)
    by true e = refl
    by false e = e

pub found_among : (constants : List ℤ) (nodes : List Held) (i : ℕ) (x : Held) (n : Node) → i < length nodes → x ≡ get_or nodes i x
    → is_same_node x.node n ≡ true → is_among (entries_of constants (drop i nodes)) n ≡ is_among (entries_of constants nodes) n
    → true ≡ is_among (entries_of constants nodes) n
found_among constants nodes i x n below is same before =
    let first : drop i nodes ≡ x ∷ drop (suc i) nodes = drop-cons nodes i x below ∙ ap (λ t. t ∷ drop (suc i) nodes) (sym is) in
    let found : is_among (entries_of constants (x ∷ drop (suc i) nodes)) n ≡ true = rw same refl in
    sym found ∙ ap (λ t. is_among (entries_of constants t) n) (sym first) ∙ before

pub passed_among : (constants : List ℤ) (nodes : List Held) (i : ℕ) (x : Held) (n : Node) → i < length nodes → x ≡ get_or nodes i x
    → is_same_node x.node n ≡ false → is_among (entries_of constants (drop i nodes)) n ≡ is_among (entries_of constants nodes) n
    → is_among (entries_of constants (drop (i + 1) nodes)) n ≡ is_among (entries_of constants nodes) n
passed_among constants nodes i x n below is other before =
    let first : drop i nodes ≡ x ∷ drop (suc i) nodes = drop-cons nodes i x below ∙ ap (λ t. t ∷ drop (suc i) nodes) (sym is) in
    let passed : is_among (entries_of constants (x ∷ drop (suc i) nodes)) n ≡ is_among (entries_of constants (drop (suc i) nodes)) n = rw other refl in
    rw add-one (sym passed ∙ ap (λ t. is_among (entries_of constants t) n) (sym first) ∙ before)

pub none_among : (constants : List ℤ) (nodes : List Held) (i : ℕ) (n : Node) → length nodes ≤ i
    → is_among (entries_of constants (drop i nodes)) n ≡ is_among (entries_of constants nodes) n
    → false ≡ is_among (entries_of constants nodes) n
none_among constants nodes i n past before =
    ap (λ t. is_among (entries_of constants t) n) (sym (drop_past nodes i past)) ∙ before

-- ---- new nodes

pub had_entries : (constants : List ℤ) (met made : List Held) (n : Node) → is_same_node entries n ≡ true → true ≡ is_had constants met made n
had_entries constants met made n e = rw e refl

pub had_met : (constants : List ℤ) (met made : List Held) (n : Node) → is_same_node entries n ≡ false
    → is_among (entries_of constants met) n ≡ true → true ≡ is_had constants met made n
had_met constants met made n e f = rw (e, among_both (entries_of constants met) (entries_of constants made) n, f) refl

pub had_made : (constants : List ℤ) (met made : List Held) (n : Node) (b : Bool) → is_same_node entries n ≡ false
    → is_among (entries_of constants met) n ≡ false → b ≡ is_among (entries_of constants made) n → b ≡ is_had constants met made n
had_made constants met made n b e f g = rw (e, among_both (entries_of constants met) (entries_of constants made) n, f) g

pub had_node : (constants : List ℤ) (met made : List Held) (s : Spot) → is_had constants met made s.node ≡ true
    → entries_of constants met ++ entries_of constants made
    ≡ with_node constants (entries_of constants met ++ entries_of constants made) s
had_node constants met made s e = rw e refl

pub new_node : (constants : List ℤ) (met made : List Held) (s : Spot) (a : Held) → is_had constants met made s.node ≡ false
    → a.node ≡ s.node → atoms_left constants a ≡ first_atoms constants (point_of s)
    → entries_of constants met ++ entries_of constants (made ++ a ∷ [])
    ≡ with_node constants (entries_of constants met ++ entries_of constants made) s
new_node constants met made s a e at left =
    rw e (ap (λ t. entries_of constants met ++ t) (map-append (entry_of constants) made (a ∷ []))
    ∙ sym (append_assoc (entries_of constants met) (entries_of constants made) (entry_of constants a ∷ []))
    ∙ ap (λ t. (entries_of constants met ++ entries_of constants made) ++ t ∷ [])
    (ap (λ (n : Node). (n, atoms_left constants a)) at ∙ ap (λ (atoms : List Atom). (s.node, atoms)) left))

-- ---- one after another

pub fold_step : {A B C : Type 0} (f : B → C → B) (g : A → C) (xs : List A) (i : ℕ) (d : A) (x y all : B) → i < length xs
    → y ≡ f x (g (get_or xs i d)) → fold f x (map g (drop i xs)) ≡ all → fold f y (map g (drop (i + 1) xs)) ≡ all
fold_step f g xs i d x y all below e h =
    rw add-one (ap (λ t. fold f t (map g (drop (suc i) xs))) e
    ∙ ap (λ t. fold f x (map g t)) (sym (drop-cons xs i d below)) ∙ h)

pub fold_end : {A B C : Type 0} (f : B → C → B) (g : A → C) (xs : List A) (i : ℕ) (x all : B) → length xs ≤ i
    → fold f x (map g (drop i xs)) ≡ all → x ≡ all
fold_end f g xs i x all past h = ap (λ t. fold f x (map g t)) (sym (drop_past xs i past)) ∙ h

-- ---- what a spot leaves

head_of : {A : Type 0} {x y : A} {xs ys : List A} → x ∷ xs ≡ y ∷ ys → x ≡ y
head_of e = cc

others_of : {A : Type 0} {x y : A} {xs ys : List A} → x ∷ xs ≡ y ∷ ys → xs ≡ ys
others_of e = cc

pub struck_in_place : {A B : Type 0} (e : A → B) (h : B → B) (init s : List A) (i : ℕ) (d y : A) → i < length init
    → map e s ≡ map h (map e (take i init)) ++ map e (drop i init) → e y ≡ h (e (get_or s i d))
    → map e (set s i y) ≡ map h (map e (take (i + 1) init)) ++ map e (drop (i + 1) init)
struck_in_place e h init s i d y below is new = rw add-one (step e h init s i d y below is new)
  where
    step : {A B : Type 0} (e : A → B) (h : B → B) (init s : List A) (i : ℕ) (d y : A) → i < length init
        → map e s ≡ map h (map e (take i init)) ++ map e (drop i init) → e y ≡ h (e (get_or s i d))
        → map e (set s i y) ≡ map h (map e (take (suc i) init)) ++ map e (drop (suc i) init)
    step e h [] s i d y below is new = absurd (omega (arith, below))
    step e h (x ∷ init) [] zero d y below is new = cc
    step e h (x ∷ init) [] (suc i) d y below is new = cc
    step e h (x ∷ init) (z ∷ s) zero d y below is new =
        ap (λ t. t ∷ map e s) (new ∙ ap h (head_of is)) ∙ ap (λ t. h (e x) ∷ t) (others_of is)
    step e h (x ∷ init) (z ∷ s) (suc i) d y below is new =
        ap (λ t. t ∷ map e (set s i y)) (head_of is) ∙ ap (λ t. h (e x) ∷ t) (step e h init s i d y (omega (arith, below)) (others_of is) new)

pub struck_here : (constants : List ℤ) (old new : Held) (s : Spot) → is_same_node old.node s.node ≡ true → new.node ≡ old.node
    → atoms_left constants new ≡ struck (atoms_left constants old) (point_of s)
    → entry_of constants new ≡ struck_entry s (entry_of constants old)
struck_here constants old new s e at left =
    rw e (ap (λ (n : Node). (n, atoms_left constants new)) at ∙ ap (λ (atoms : List Atom). (old.node, atoms)) left)

pub stays_here : (constants : List ℤ) (old : Held) (s : Spot) → is_same_node old.node s.node ≡ false
    → entry_of constants old ≡ struck_entry s (entry_of constants old)
stays_here constants old s e = rw e refl

-- ---- narrow values

pub narrow_first : (pair : Pair) (at : Position) (values : List ℤ) → IsNarrowPair pair → values ≡ first_values_at pair at → All FitsRun values
narrow_first pair at values h e = rw e ((positions_are_narrow pair h at).first)

pub narrow_second : (pair : Pair) (at : Position) (values : List ℤ) → IsNarrowPair pair → values ≡ second_values_at pair at → All FitsRun values
narrow_second pair at values h e = rw e ((positions_are_narrow pair h at).second)

-- ---- pairs

pub added_pair : (constants : List ℤ) (params alignment : ℕ) (nodes made all : List Held) (pair : Pair) (walk : List Position)
    → walk ≡ positions_of alignment pair
    → ((cs : List ℤ) → entries_of cs nodes ++ entries_of cs made ≡ fold (with_node cs) (entries_of cs nodes) (map (spot_at pair) walk))
    → ((cs : List ℤ) → entries_of cs all ≡ fold struck_nodes (entries_of cs (nodes ++ made)) (map (spot_at pair) walk))
    → gathered_of constants params alignment all ≡ with_pair (gathered_of constants params alignment nodes) pair
added_pair constants params alignment nodes made all pair walk e new left =
    rw (← e) (ap (gathered constants params alignment)
    (left constants ∙ ap (λ t. fold struck_nodes t (map (spot_at pair) walk)) (map-append (entry_of constants) nodes made ∙ new constants)))

pub fold_next : {A B : Type 0} (f : B → A → B) (xs : List A) (i : ℕ) (z : A) (x y all : B) → i < length xs → z ≡ get_or xs i z
    → y ≡ f x z → fold f x (drop i xs) ≡ all → fold f y (drop (i + 1) xs) ≡ all
fold_next f xs i z x y all below is e h =
    rw add-one (ap (λ t. fold f t (drop (suc i) xs)) e
    ∙ ap (λ t. fold f x t) (sym (drop-cons xs i z below ∙ ap (λ t. t ∷ drop (suc i) xs) (sym is))) ∙ h)

pub fold_past : {A B : Type 0} (f : B → A → B) (xs : List A) (i : ℕ) (x all : B) → length xs ≤ i → fold f x (drop i xs) ≡ all → x ≡ all
fold_past f xs i x all past h = ap (λ t. fold f x t) (sym (drop_past xs i past)) ∙ h

length_all_struck : (nodes : List (Node × List Atom)) (spots : List Spot) → length (fold struck_nodes nodes spots) ≡ length nodes
length_all_struck nodes [] = refl
length_all_struck nodes (spot ∷ spots) = length_all_struck (struck_nodes nodes spot) spots ∙ length-map nodes (struck_entry spot)

pub length_struck : (constants : List ℤ) (new old : List Held) (spots : List Spot)
    → entries_of constants new ≡ fold struck_nodes (entries_of constants old) spots → length new ≡ length old
length_struck constants new old spots e =
    sym (length-map new (entry_of constants)) ∙ ap length e ∙ length_all_struck (entries_of constants old) spots
    ∙ length-map old (entry_of constants)
