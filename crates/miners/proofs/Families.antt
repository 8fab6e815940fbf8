-- What is gathered is what is mined of all points.
use Rattle.std.proofs.Common.{◌≡◌, Bool, true, false, List, [], ◌∷◌, ◌++◌, map, fold, flat_map, length, Option, Some, None, refl, sym, ◌∙◌, ap}
use Rattle.std.specs.Prelude.{ℤ, ◌||◌, nat_le, if◌then◌else◌}
use Rattle.lin_terms.specs.Vectors.{dot}
use Rattle.c_ast.specs.declared.trace.Pair.{Pair}
use Rattle.horn_clauses.specs.declared.atom.Atom.{Atom}
use Rattle.horn_clauses.specs.declared.node.Node.{Node}
use Rattle.horn_clauses.specs.Node.{is_same_node, entries}
use Rattle.horn_clauses.specs.Family.{atoms_among}
use Rattle.horn_clauses.specs.Equalities.{equal_parameters}
use Rattle.horn_clauses.proofs.Laws.{law_of_nodes}
use Rattle.walks.specs.declared.spot.Spot.{Spot}
use Rattle.walks.specs.Walk.{walk_of}
use Rattle.miners.specs.Mined.{equality_of, bounds_of, shapes, bound_shapes, struck, proposed, mined}
use Rattle.miners.specs.Candidates.{points_among, points_at, mined_of, constants_for}
use Rattle.miners.specs.Kept.{first_atoms}
use Rattle.miners.specs.Gathered.{point_of, is_among, with_node, struck_entry, struck_nodes, with_spots, Gathered, nothing_gathered, with_pair, GatheredIsMined}
use Rattle.miners.proofs.Striking.{struck_more, struck-append, struck-flat_map, equality_stays, bounds_stay}
use Rattle.miners.proofs.Leaving.{flat_map_same, int_itself}

-- ---- tests of nodes

same_both : (m n : Node) → is_same_node m n ≡ is_same_node n m
same_both m n = by (is_same_node m n) (is_same_node n m) refl refl
  where
    turn : (m n : Node) → is_same_node m n ≡ true → is_same_node n m ≡ true
    turn m n e = (law_of_nodes n m).1 (sym ((law_of_nodes m n).0 e))

    by : (b c : Bool) → is_same_node m n ≡ b → is_same_node n m ≡ c → b ≡ c
    by true true e f = refl
    by true false e f = sym (turn m n e) ∙ f
    by false true e f = sym e ∙ turn n m f
    by false false e f = refl

same_as : (m n s : Node) → is_same_node m n ≡ true → is_same_node m s ≡ is_same_node s n
same_as m n s e = ap (λ (z : Node). is_same_node z s) ((law_of_nodes m n).0 e) ∙ same_both n s

-- ---- the first point

proposed_stays : (constants point : List ℤ) → struck (proposed constants point) point ≡ proposed constants point
proposed_stays constants point =
    struck-append (flat_map (λ coefs. equality_of coefs (dot coefs point)) (shapes (length point)))
    (flat_map (λ coefs. bounds_of constants coefs (dot coefs point)) (bound_shapes (length point))) point
    ∙ ap (λ t. t ++ struck (flat_map (λ coefs. bounds_of constants coefs (dot coefs point)) (bound_shapes (length point))) point)
    (struck-flat_map (λ coefs. equality_of coefs (dot coefs point)) (shapes (length point)) point
    ∙ flat_map_same (λ coefs. struck (equality_of coefs (dot coefs point)) point) (λ coefs. equality_of coefs (dot coefs point))
    (λ coefs. equality_stays coefs point (dot coefs point) refl) (shapes (length point)))
    ∙ ap (λ t. flat_map (λ coefs. equality_of coefs (dot coefs point)) (shapes (length point)) ++ t)
    (struck-flat_map (λ coefs. bounds_of constants coefs (dot coefs point)) (bound_shapes (length point)) point
    ∙ flat_map_same (λ coefs. struck (bounds_of constants coefs (dot coefs point)) point) (λ coefs. bounds_of constants coefs (dot coefs point))
    (λ coefs. bounds_stay constants coefs point (dot coefs point) (int_itself (dot coefs point))) (bound_shapes (length point)))

first_stays : (constants point : List ℤ) → struck (first_atoms constants point) point ≡ first_atoms constants point
first_stays constants point = by (nat_le (length point) 16)
  where
    by : (b : Bool) → struck (if b then proposed constants point else []) point ≡ (if b then proposed constants point else [])
    by true = proposed_stays constants point
    by false = refl

none_struck : (points : List (List ℤ)) → fold struck [] points ≡ []
none_struck [] = refl
none_struck (point ∷ points) = none_struck points

first_mined : (constants point : List ℤ) (points : List (List ℤ))
    → fold struck (first_atoms constants point) points ≡ (if nat_le (length point) 16 then mined constants point points else [])
first_mined constants point points = by (nat_le (length point) 16)
  where
    by : (b : Bool) → fold struck (if b then proposed constants point else []) points ≡ (if b then mined constants point points else [])
    by true = refl
    by false = none_struck points

-- ---- further points

-- what further points leave of what was mined, or propose where nothing was
abbrev further : List ℤ → Option (List Atom) → List (List ℤ) → Option (List Atom)
further constants None points = mined_of constants points
further constants (Some atoms) points = Some (fold struck atoms points)

further_both : (constants : List ℤ) (had : Option (List Atom)) (ps qs : List (List ℤ))
    → further constants (further constants had ps) qs ≡ further constants had (ps ++ qs)
further_both constants (Some atoms) ps qs = ap Some (sym (struck_more atoms ps qs))
further_both constants None [] qs = refl
further_both constants None (p ∷ ps) qs = by (nat_le (length p) 16)
  where
    by : (b : Bool) → Some (fold struck (if b then mined constants p ps else []) qs) ≡ Some (if b then mined constants p (ps ++ qs) else [])
    by true = ap Some (sym (struck_more (proposed constants p) ps qs))
    by false = ap Some (none_struck qs)

-- ---- what a walk's spots leave at a node

-- what points leave where atoms are
abbrev struck_if : Option (List Atom) → List (List ℤ) → Option (List Atom)
struck_if None points = None
struck_if (Some atoms) points = Some (fold struck atoms points)

abbrev one_if : Bool → List ℤ → List (List ℤ)
one_if true point = point ∷ []
one_if false point = []

among_struck : (s : Spot) (nodes : List (Node × List Atom)) (n : Node)
    → atoms_among (map (struck_entry s) nodes) n ≡ struck_if (atoms_among nodes n) (one_if (is_same_node s.node n) (point_of s))
among_struck s [] n = refl
among_struck s (e ∷ nodes) n = by (is_same_node e.0 n) refl (among_struck s nodes n)
  where
    here : (b : Bool) → Some (if b then struck e.1 (point_of s) else e.1) ≡ struck_if (Some e.1) (one_if b (point_of s))
    here true = refl
    here false = refl

    by : (b : Bool) → is_same_node e.0 n ≡ b
        → atoms_among (map (struck_entry s) nodes) n ≡ struck_if (atoms_among nodes n) (one_if (is_same_node s.node n) (point_of s))
        → (if b then Some (if is_same_node e.0 s.node then struck e.1 (point_of s) else e.1) else atoms_among (map (struck_entry s) nodes) n)
        ≡ struck_if (if b then Some e.1 else atoms_among nodes n) (one_if (is_same_node s.node n) (point_of s))
    by true same h = rw (same_as e.0 n s.node same) (here (is_same_node s.node n))
    by false other h = h

points_first : (s : Spot) (spots : List Spot) (n : Node)
    → points_among n (s ∷ spots) ≡ one_if (is_same_node s.node n) (point_of s) ++ points_among n spots
points_first s spots n = by (is_same_node s.node n)
  where
    by : (b : Bool) → (if b then point_of s ∷ points_among n spots else points_among n spots) ≡ one_if b (point_of s) ++ points_among n spots
    by true = refl
    by false = refl

struck_if_both : (had : Option (List Atom)) (ps qs : List (List ℤ)) → struck_if (struck_if had ps) qs ≡ struck_if had (ps ++ qs)
struck_if_both None ps qs = refl
struck_if_both (Some atoms) ps qs = ap Some (sym (struck_more atoms ps qs))

among_all_struck : (spots : List Spot) (nodes : List (Node × List Atom)) (n : Node)
    → atoms_among (fold struck_nodes nodes spots) n ≡ struck_if (atoms_among nodes n) (points_among n spots)
among_all_struck [] nodes n = nothing (atoms_among nodes n)
  where
    nothing : (had : Option (List Atom)) → had ≡ struck_if had []
    nothing None = refl
    nothing (Some atoms) = refl
among_all_struck (s ∷ spots) nodes n =
    among_all_struck spots (map (struck_entry s) nodes) n
    ∙ ap (λ t. struck_if t (points_among n spots)) (among_struck s nodes n)
    ∙ struck_if_both (atoms_among nodes n) (one_if (is_same_node s.node n) (point_of s)) (points_among n spots)
    ∙ ap (struck_if (atoms_among nodes n)) (sym (points_first s spots n))

-- ---- new nodes

-- what was had at a node, or what the first of the points proposes
abbrev or_first : List ℤ → Option (List Atom) → List (List ℤ) → Option (List Atom)
or_first constants (Some atoms) points = Some atoms
or_first constants None [] = None
or_first constants None (point ∷ points) = Some (first_atoms constants point)

among_end : (nodes : List (Node × List Atom)) (m n : Node) (atoms : List Atom) → is_same_node m n ≡ false
    → atoms_among (nodes ++ (m, atoms) ∷ []) n ≡ atoms_among nodes n
among_end [] m n atoms other = rw other refl
among_end (e ∷ nodes) m n atoms other = ap (λ t. if is_same_node e.0 n then Some e.1 else t) (among_end nodes m n atoms other)

among_new : (nodes : List (Node × List Atom)) (m n : Node) (atoms : List Atom) → is_same_node m n ≡ true → is_among nodes m ≡ false
    → atoms_among (nodes ++ (m, atoms) ∷ []) n ≡ Some atoms
among_new [] m n atoms same none = rw same refl
among_new (e ∷ nodes) m n atoms same none = by (is_same_node e.0 m) refl none (among_new nodes m n atoms same)
  where
    by : (b : Bool) → is_same_node e.0 m ≡ b → (b || is_among nodes m) ≡ false
        → (is_among nodes m ≡ false → atoms_among (nodes ++ (m, atoms) ∷ []) n ≡ Some atoms)
        → (if is_same_node e.0 n then Some e.1 else atoms_among (nodes ++ (m, atoms) ∷ []) n) ≡ Some atoms
    by true f h k = cc
    by false f h k =
        let other : is_same_node e.0 n ≡ false = ap (λ (z : Node). is_same_node e.0 z) (sym ((law_of_nodes m n).0 same)) ∙ f in
        rw other (k h)

none_there : (nodes : List (Node × List Atom)) (m n : Node) → is_same_node m n ≡ true → is_among nodes m ≡ false → atoms_among nodes n ≡ None
none_there [] m n same none = refl
none_there (e ∷ nodes) m n same none = by (is_same_node e.0 m) refl none (none_there nodes m n same)
  where
    by : (b : Bool) → is_same_node e.0 m ≡ b → (b || is_among nodes m) ≡ false
        → (is_among nodes m ≡ false → atoms_among nodes n ≡ None)
        → (if is_same_node e.0 n then Some e.1 else atoms_among nodes n) ≡ None
    by true f h k = cc
    by false f h k =
        let other : is_same_node e.0 n ≡ false = ap (λ (z : Node). is_same_node e.0 z) (sym ((law_of_nodes m n).0 same)) ∙ f in
        rw other (k h)

some_there : (nodes : List (Node × List Atom)) (m n : Node) → is_same_node m n ≡ true → is_among nodes m ≡ true
    → (atoms : List Atom) × (atoms_among nodes n ≡ Some atoms)
some_there [] m n same some = cc
some_there (e ∷ nodes) m n same some = by (is_same_node e.0 m) refl some (some_there nodes m n same)
  where
    by : (b : Bool) → is_same_node e.0 m ≡ b → (b || is_among nodes m) ≡ true
        → (is_among nodes m ≡ true → (atoms : List Atom) × (atoms_among nodes n ≡ Some atoms))
        → (atoms : List Atom) × ((if is_same_node e.0 n then Some e.1 else atoms_among nodes n) ≡ Some atoms)
    by true f h k =
        let here : is_same_node e.0 n ≡ true = ap (λ (z : Node). is_same_node e.0 z) (sym ((law_of_nodes m n).0 same)) ∙ f in
        (e.1, rw here refl)
    by false f h k =
        let other : is_same_node e.0 n ≡ false = ap (λ (z : Node). is_same_node e.0 z) (sym ((law_of_nodes m n).0 same)) ∙ f in
        let r = k h in
        (r.0, rw other r.1)

or_first_of : (constants : List ℤ) (had : Option (List Atom)) (atoms : List Atom) (points : List (List ℤ)) → had ≡ Some atoms
    → or_first constants had points ≡ had
or_first_of constants had atoms points e = rw e refl

-- the node of one spot is put in
among_with_node : (constants : List ℤ) (nodes : List (Node × List Atom)) (s : Spot) (n : Node) → is_same_node entries n ≡ false
    → atoms_among (with_node constants nodes s) n ≡ or_first constants (atoms_among nodes n) (one_if (is_same_node s.node n) (point_of s))
among_with_node constants nodes s n away = by (is_same_node s.node n) (is_same_node entries s.node) (is_among nodes s.node) refl refl refl
  where
    nothing : (had : Option (List Atom)) → had ≡ or_first constants had []
    nothing None = refl
    nothing (Some atoms) = refl

    by : (b c d : Bool) → is_same_node s.node n ≡ b → is_same_node entries s.node ≡ c → is_among nodes s.node ≡ d
        → atoms_among (if c || d then nodes else nodes ++ (s.node, first_atoms constants (point_of s)) ∷ []) n
        ≡ or_first constants (atoms_among nodes n) (one_if b (point_of s))
    by false true d e f g = nothing (atoms_among nodes n)
    by false false true e f g = nothing (atoms_among nodes n)
    by false false false e f g = among_end nodes s.node n (first_atoms constants (point_of s)) e ∙ nothing (atoms_among nodes n)
    by true true d e f g =
        let here : is_same_node entries n ≡ true = ap (λ (z : Node). is_same_node entries z) (sym ((law_of_nodes s.node n).0 e)) ∙ f in cc
    by true false true e f g = let r = some_there nodes s.node n e g in sym (or_first_of constants (atoms_among nodes n) r.0 (point_of s ∷ []) r.1)
    by true false false e f g =
        among_new nodes s.node n (first_atoms constants (point_of s)) e g
        ∙ ap (λ t. or_first constants t (point_of s ∷ [])) (sym (none_there nodes s.node n e g))

or_first_both : (constants : List ℤ) (had : Option (List Atom)) (ps qs : List (List ℤ))
    → or_first constants (or_first constants had ps) qs ≡ or_first constants had (ps ++ qs)
or_first_both constants (Some atoms) ps qs = refl
or_first_both constants None [] qs = refl
or_first_both constants None (p ∷ ps) qs = refl

among_with_nodes : (constants : List ℤ) (spots : List Spot) (nodes : List (Node × List Atom)) (n : Node) → is_same_node entries n ≡ false
    → atoms_among (fold (with_node constants) nodes spots) n ≡ or_first constants (atoms_among nodes n) (points_among n spots)
among_with_nodes constants [] nodes n away = nothing (atoms_among nodes n)
  where
    nothing : (had : Option (List Atom)) → had ≡ or_first constants had []
    nothing None = refl
    nothing (Some atoms) = refl
among_with_nodes constants (s ∷ spots) nodes n away =
    among_with_nodes constants spots (with_node constants nodes s) n away
    ∙ ap (λ t. or_first constants t (points_among n spots)) (among_with_node constants nodes s n away)
    ∙ or_first_both constants (atoms_among nodes n) (one_if (is_same_node s.node n) (point_of s)) (points_among n spots)
    ∙ ap (or_first constants (atoms_among nodes n)) (sym (points_first s spots n))

-- ---- all of it

then_struck : (constants : List ℤ) (had : Option (List Atom)) (points : List (List ℤ))
    → struck_if (or_first constants had points) points ≡ further constants had points
then_struck constants (Some atoms) points = refl
then_struck constants None [] = refl
then_struck constants None (p ∷ ps) =
    ap Some (ap (λ t. fold struck t ps) (first_stays constants p) ∙ first_mined constants p ps)

among_with_spots : (constants : List ℤ) (spots : List Spot) (nodes : List (Node × List Atom)) (n : Node) → is_same_node entries n ≡ false
    → atoms_among (with_spots constants spots nodes) n ≡ further constants (atoms_among nodes n) (points_among n spots)
among_with_spots constants spots nodes n away =
    among_all_struck spots (fold (with_node constants) nodes spots) n
    ∙ ap (λ t. struck_if t (points_among n spots)) (among_with_nodes constants spots nodes n away)
    ∙ then_struck constants (atoms_among nodes n) (points_among n spots)

among_with_pairs : (pairs : List Pair) (g : Gathered) (n : Node) → is_same_node entries n ≡ false
    → atoms_among (fold with_pair g pairs).nodes n ≡ further g.constants (atoms_among g.nodes n) (points_at g.alignment n pairs)
among_with_pairs [] g n away = nothing (atoms_among g.nodes n)
  where
    nothing : (had : Option (List Atom)) → had ≡ further g.constants had []
    nothing None = refl
    nothing (Some atoms) = refl
among_with_pairs (pair ∷ pairs) g n away =
    among_with_pairs pairs (with_pair g pair) n away
    ∙ ap (λ t. further g.constants t (points_at g.alignment n pairs)) (among_with_spots g.constants (walk_of g.alignment pair) g.nodes n away)
    ∙ further_both g.constants (atoms_among g.nodes n) (points_among n (walk_of g.alignment pair)) (points_at g.alignment n pairs)

params_stay : (pairs : List Pair) (g : Gathered) → (fold with_pair g pairs).params ≡ g.params
params_stay [] g = refl
params_stay (pair ∷ pairs) g = params_stay pairs (with_pair g pair)

-- the candidates that are made pair by pair are those mined of all pairs
pub gathered_is_mined : GatheredIsMined
gathered_is_mined subject alignment pairs n = rw (same_both n entries) (by (is_same_node entries n) refl)
  where
    by : (b : Bool) → is_same_node entries n ≡ b
        → (if b then Some (equal_parameters (fold with_pair (nothing_gathered subject alignment) pairs).params)
        else atoms_among (fold with_pair (nothing_gathered subject alignment) pairs).nodes n)
        ≡ (if b then Some (equal_parameters subject.first.params) else mined_of (constants_for subject) (points_at alignment n pairs))
    by true e = ap (λ params. Some (equal_parameters params)) (params_stay pairs (nothing_gathered subject alignment))
    by false e = among_with_pairs pairs (nothing_gathered subject alignment) n e
