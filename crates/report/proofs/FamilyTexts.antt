-- Atoms, nodes and families can be read back.
use Rattle.std.proofs.Common.{◌≡◌, ℕ, ◌≤◌, Bool, true, false, cond, eqb, ◌||◌, List, [], ◌∷◌, ◌++◌, length, refl, sym, ap, arith, ℤ, unsigned_abs}
use Rattle.std.specs.Prelude.{codes, decimal, flat_map}
use Rattle.std.specs.Fmt.{signed_decimal}
use Rattle.std.proofs.lemmas.List.{append_cancel_left}
use Rattle.std.specs.Prelude.{All}
use Rattle.std.proofs.lemmas.List.Elements.{All-head, All-tail}
use Rattle.c_ast.specs.declared.place.Place.{Place}
use Rattle.c_ast.specs.declared.place.Place.TheVariants as place
use Rattle.c_ast.specs.Comparison.{Comparison, IsComparison}
use Rattle.lin_terms.specs.Bounds.{FitsForm}
use Rattle.horn_clauses.specs.declared.atom.Rel.{Rel}
use Rattle.horn_clauses.specs.declared.atom.Rel.TheVariants.{Eq, AtLeast}
use Rattle.horn_clauses.specs.declared.atom.Atom.{Atom}
use Rattle.horn_clauses.specs.declared.atom.Atom.TheVariants.{False, Linear}
use Rattle.horn_clauses.specs.declared.node.Node.{Node}
use Rattle.horn_clauses.specs.declared.family.Family.{Family}
use Rattle.horn_clauses.specs.Obligations.{FitsNode}
use Rattle.report.specs.Determined.{is_digit, IsShort, IsShortSigned, IsShortPlace, IsShortNode, HasShortNodes, HasPlainNames}
use Rattle.report.specs.Fits.{FitsEntry, FitsFamily}
use Rattle.report.specs.Families.{Term, place_text, node_text, node_labels, is_zero, is_below_zero, terms_of, sized_text, first_sign, first_text, later_text, sum_text, rel_text, end_text, atom_text, entry_text, family_text}
use Rattle.report.proofs.Reading.{IsReadable, Begins, Stops, Anything, Each, clash, begins_on, past, closed, fewer, behind, through, many, differ}
use Rattle.report.proofs.Numbers.{number, number_begins, signed}
use Rattle.report.proofs.Labelling.{labels_apart}
use Rattle.report.proofs.Sums.{IsLabel, AreLabels, FitsTerm, opens, sized_opens, sum, AfterSum, coefs_of}

abbrev pub tail_text : Rel × ℤ → List ℕ
tail_text p = end_text p.0 p.1

coefs_short : (coefs : List ℤ) → All (λ coef. unsigned_abs coef ≤ 2) coefs → Each IsShortSigned coefs
coefs_short [] h = tt
coefs_short (c ∷ cs) h =
    let first : unsigned_abs c ≤ 2 = All-head (λ coef. unsigned_abs coef ≤ 2) c cs h in
    (omega (arith, first), coefs_short cs (All-tail (λ coef. unsigned_abs coef ≤ 2) c cs h))

constant_short : (z : ℤ) → FitsForm z → IsShortSigned z
constant_short z h = omega (arith, h)

-- ---- relations and constants
rel_read : IsReadable {A = Rel} (λ r. Unit {0}) rel_text Anything
rel_read = record { read = λ x y s t a b c d e. by x y s t e }
  where
    by : (x y : Rel) (s t : List ℕ) → rel_text x ++ s ≡ rel_text y ++ t → (x ≡ y) × (s ≡ t)
    by Eq Eq s t e = (refl, append_cancel_left (codes " = ") s t e)
    by Eq AtLeast s t e = absurd (differ (codes " = ") (codes " >= ") s t refl e)
    by AtLeast Eq s t e = absurd (differ (codes " >= ") (codes " = ") s t refl e)
    by AtLeast AtLeast s t e = (refl, append_cancel_left (codes " >= ") s t e)

end_read : IsReadable {A = Rel × ℤ} (λ p. Unit {0} × IsShortSigned p.1) tail_text Anything
end_read = behind (λ (r : Rel). Unit {0}) rel_text Anything (λ r. IsShortSigned) (λ r z. signed_decimal z ++ codes "\n") Anything rel_read
    (λ r h. closed IsShortSigned signed_decimal (Stops is_digit) (codes "\n") (λ s. refl) signed) (λ r z s h k c. tt)

end_after : (p : Rel × ℤ) (s : List ℕ) → AfterSum (tail_text p ++ s)
end_after p s = by p.0 p.1
  where
    by : (r : Rel) (z : ℤ) → AfterSum (end_text r z ++ s)
    by Eq z = (61, 32 ∷ ((signed_decimal z ++ codes "\n") ++ s), refl, refl)
    by AtLeast z = (62, 61 ∷ 32 ∷ ((signed_decimal z ++ codes "\n") ++ s), refl, refl)

-- ---- atoms
row_read : IsReadable {A = List Term × (Rel × ℤ)} (λ p. Each FitsTerm p.0 × (Unit {0} × IsShortSigned p.1.1)) (λ p. sum_text p.0 ++ tail_text p.1) Anything
row_read = behind (Each FitsTerm) sum_text AfterSum (λ ts (p : Rel × ℤ). Unit {0} × IsShortSigned p.1) (λ ts. tail_text) Anything sum (λ ts h. end_read) (λ
    ts p s h k c. end_after p s)

terms_fit : (cs : List ℤ) (ls : List (List ℕ)) → Each IsShortSigned cs → Each IsLabel ls → Each FitsTerm (terms_of cs ls)
terms_fit [] ls h k = tt
terms_fit (c ∷ cs) [] h k = tt
terms_fit (c ∷ cs) (l ∷ ls) h k = on (is_zero c) (terms_fit cs ls h.1 k.1)
  where
    on : (b : Bool) → Each FitsTerm (terms_of cs ls) → Each FitsTerm (cond b (terms_of cs ls) (record {
      negative = is_below_zero c;
      size = unsigned_abs c;
      label = l;
    } ∷ terms_of cs ls))
    on true r = r
    on false r = ((h.0, k.0), r)

-- what a sum, or what stands behind one, begins with
abbrev row_opens : ℕ → Bool
row_opens b = eqb b 32 || eqb b 45 || opens b

opens_row : (x : List ℕ) → Begins opens x → Begins row_opens x
opens_row [] h = h
opens_row (b ∷ x) h = on (eqb b 32) (eqb b 45) (opens b) h
  where
    on : (p q r : Bool) → r ≡ true → (p || q || r) ≡ true
    on true q r e = refl
    on false true r e = refl
    on false false r e = e

row_begins : (ts : List Term) (p : Rel × ℤ) → Each FitsTerm ts → Begins row_opens (sum_text ts ++ tail_text p)
row_begins [] p h = by p.0
  where
    by : (r : Rel) → Begins row_opens (end_text r p.1)
    by Eq = refl
    by AtLeast = refl
row_begins (t ∷ ts) p h = begins_on row_opens (first_text t ++ flat_map later_text ts) (tail_text p) (begins_on row_opens (first_text t) (flat_map
    later_text ts) (by t.negative))
  where
    by : (n : Bool) → Begins row_opens (first_sign n ++ sized_text t.size t.label)
    by true = refl
    by false = opens_row (sized_text t.size t.label) (sized_opens (t.size, t.label) h.0)

row_false : (ts : List Term) (p : Rel × ℤ) (s t : List ℕ) → Each FitsTerm ts → codes "  false\n" ++ s ≡ (codes "  " ++ (sum_text ts ++ tail_text p)) ++ t →
    ⊥
row_false ts p s t h e =
    let f : codes "false\n" ++ s ≡ (sum_text ts ++ tail_text p) ++ t = append_cancel_left (codes "  ") (codes "false\n" ++ s) ((sum_text ts ++ tail_text p)
    ++ t) e in
    clash row_opens ((sum_text ts ++ tail_text p) ++ t) (codes "false\n" ++ s) (begins_on row_opens (sum_text ts ++ tail_text p) t (row_begins ts p h))
    refl (sym f)

atom_read : (labels : List (List ℕ)) → AreLabels labels → (x y : Atom) (s t : List ℕ) → FitsNode (length labels) x → FitsNode (length labels) y → atom_text
    labels x ++ s ≡ atom_text labels y ++ t → (x ≡ y) × (s ≡ t)
atom_read labels w False False s t a b e = (refl, append_cancel_left (codes "  false\n") s t e)
atom_read labels w False (Linear ds d r) s t a b e = absurd (row_false (terms_of ds labels) (r, d) s t (terms_fit ds labels (coefs_short ds b.small)
    w.each) e)
atom_read labels w (Linear cs c q) False s t a b e = absurd (row_false (terms_of cs labels) (q, c) t s (terms_fit cs labels (coefs_short cs a.small)
    w.each) (sym e))
atom_read labels w (Linear cs c q) (Linear ds d r) s t a b e =
    let f : (sum_text (terms_of cs labels) ++ end_text q c) ++ s ≡ (sum_text (terms_of ds labels) ++ end_text r d) ++ t = append_cancel_left (codes "  ")
    ((sum_text (terms_of cs labels) ++ end_text q c) ++ s) ((sum_text (terms_of ds labels) ++ end_text r d) ++ t) e in
    let o = row_read.read (terms_of cs labels, (q, c)) (terms_of ds labels, (r, d)) s t (
      terms_fit cs labels (coefs_short cs a.small) w.each,
      (
        tt,
        constant_short c a.fits,
      ),
    ) (terms_fit ds labels (coefs_short ds b.small) w.each, (tt, constant_short d b.fits)) tt tt f in
    let g : cs ≡ ds = coefs_of cs ds labels a.as_many b.as_many w.apart (ap (λ (p : List Term × (Rel × ℤ)). p.0) o.0) in
    let h : c ≡ d = ap (λ (p : List Term × (Rel × ℤ)). p.1.1) o.0 in
    let k : q ≡ r = ap (λ (p : List Term × (Rel × ℤ)). p.1.0) o.0 in
    (rw (g, h, k) refl, o.1)

pub atom : (labels : List (List ℕ)) → AreLabels labels → IsReadable (FitsNode (length labels)) (atom_text labels) Anything
atom labels w = record { read = λ x y s t a b c d e. atom_read labels w x y s t a b e }

abbrev pub is_space : ℕ → Bool
is_space b = eqb b 32

atom_space : (labels : List (List ℕ)) (x : Atom) (s : List ℕ) → Begins is_space (atom_text labels x ++ s)
atom_space labels False s = refl
atom_space labels (Linear cs c r) s = refl

pub atoms : (labels : List (List ℕ)) → AreLabels labels → IsReadable (Each (FitsNode (length labels))) (flat_map (atom_text labels)) (Stops is_space)
atoms labels w = many (FitsNode (length labels)) (atom_text labels) Anything (Stops is_space) (atom labels w) (record {
  ends = λ s h. tt;
  goes = λ x s h.
      tt;
  apart = λ x s t a b e. clash is_space (atom_text labels x ++ s) t (atom_space labels x s) b e;
})

place_digit : (k : ℕ) (s : List ℕ) (b : ℕ) (t : List ℕ) → IsShort k → is_digit b ≡ false → decimal k ++ s ≡ b ∷ t → ⊥
place_digit k s b t h q e = clash is_digit (decimal k ++ s) (b ∷ t) (number_begins k s h) q e

read_place : (x y : Place) (s t : List ℕ) → IsShortPlace x → IsShortPlace y → Stops is_digit s → Stops is_digit t → place_text x ++ s ≡ place_text y ++ t →
    (x ≡ y) × (s ≡ t)
read_place place.Entry place.Entry s t a b c d e = (refl, append_cancel_left (codes "entry") s t e)
read_place place.Entry (place.Mark k) s t a b c d e = absurd (place_digit k t 101 (codes "ntry" ++ s) b refl (sym e))
read_place place.Entry place.Exit s t a b c d e = absurd (differ (codes "entry") (codes "exit") s t refl e)
read_place (place.Mark j) place.Entry s t a b c d e = absurd (place_digit j s 101 (codes "ntry" ++ t) a refl e)
read_place (place.Mark j) (place.Mark k) s t a b c d e = let o = number.read j k s t a b c d e in (ap place.Mark o.0, o.1)
read_place (place.Mark j) place.Exit s t a b c d e = absurd (place_digit j s 101 (codes "xit" ++ t) a refl e)
read_place place.Exit place.Entry s t a b c d e = absurd (differ (codes "exit") (codes "entry") s t refl e)
read_place place.Exit (place.Mark k) s t a b c d e = absurd (place_digit k t 101 (codes "xit" ++ s) b refl (sym e))
read_place place.Exit place.Exit s t a b c d e = (refl, append_cancel_left (codes "exit") s t e)

pub place_read : IsReadable IsShortPlace place_text (Stops is_digit)
place_read = record { read = λ x y s t a b c d e. read_place x y s t a b c d e }

abbrev node_of : Place × Place → Node
node_of p = record { 0 = p.0; 1 = p.1 }

places_read : IsReadable {A = Place × Place} (λ p. IsShortPlace p.0 × IsShortPlace p.1) (λ p. place_text p.0 ++ (codes " " ++ place_text p.1)) (Stops
    is_digit)
places_read = behind IsShortPlace place_text (Stops is_digit) (λ l. IsShortPlace) (λ l r. codes " " ++ place_text r) (Stops is_digit) place_read
    (λ l h. past IsShortPlace place_text (Stops is_digit) (codes " ") place_read) (λ l r s h k c. refl)

pub node_read : IsReadable IsShortNode node_text (Stops is_digit)
node_read = through {A = Node} (λ (p : Place × Place). IsShortPlace p.0 × IsShortPlace p.1) (λ p. place_text p.0 ++ (codes " " ++ place_text p.1)) (Stops
    is_digit)
    (λ n. (n.0, n.1)) (λ x y e. ap node_of e) places_read

-- the labels of each node are apart
pub record IsLabelling (subject : Comparison) : Type 0 where
  pub at : (n : Node) → AreLabels (node_labels subject n)

abbrev pub FitsSpot : Comparison → Node × List Atom → Type 0
FitsSpot w p = IsShortNode p.0 × Each (FitsNode (length (node_labels w p.0))) p.1

pub spot : (w : Comparison) → IsLabelling w → IsReadable (FitsSpot w) (entry_text w) (Stops is_space)
spot w h = past (FitsSpot w) (λ p. node_text p.0 ++ (codes "\n" ++ flat_map (atom_text (node_labels w p.0)) p.1)) (Stops is_space) (codes "node ")
    (behind IsShortNode node_text (Stops is_digit) (λ n. Each (FitsNode (length (node_labels w n)))) (λ n as1. codes "\n" ++ flat_map (atom_text
    (node_labels w n)) as1) (Stops is_space) node_read
    (λ n k. past (Each (FitsNode (length (node_labels w n)))) (flat_map (atom_text (node_labels w n))) (Stops is_space) (codes "\n") (atoms
    (node_labels w n) (h.at n)))
    (λ n y s a b c. refl))

abbrev pub in_family : ℕ → Bool
in_family b = eqb b 110 || eqb b 32

family_ends : (s : List ℕ) → Stops in_family s → Stops is_space s
family_ends [] h = tt
family_ends (b ∷ s) h = on (eqb b 110) (eqb b 32) h
  where
    on : (p q : Bool) → (p || q) ≡ false → q ≡ false
    on true q e = cc
    on false q e = e

pub spots : (w : Comparison) → IsLabelling w → IsReadable (Each (FitsSpot w)) (flat_map (entry_text w)) (Stops in_family)
spots w h = many (FitsSpot w) (entry_text w) (Stops is_space) (Stops in_family) (spot w h) (record {
  ends = family_ends;
  goes = λ x s k. refl;
  apart = λ x
      s t a b e. clash in_family (entry_text w x ++ s) t refl b e;
})

abbrev pub FitsSpots : Comparison → Family → Type 0
FitsSpots w f = Each (FitsSpot w) f.nodes

same_family : (x y : Family) → x.nodes ≡ y.nodes → x ≡ y
same_family x y e = ap (λ (nodes : List (Node × List Atom)). record { nodes = nodes }) e

pub family : (w : Comparison) → IsLabelling w → IsReadable (FitsSpots w) (family_text w) (Stops in_family)
family w h = through {A = Family} (Each (FitsSpot w)) (flat_map (entry_text w)) (Stops in_family) (λ f. f.nodes) same_family (spots w h)

-- ---- families that fit

abbrev pub IsToldFamily : Comparison → Family → Type 0
IsToldFamily w f = FitsFamily w f × HasShortNodes f

each_of : {A : Type 0} (P : A → Type 0) (xs : List A) → All P xs → Each P xs
each_of P [] h = tt
each_of P (x ∷ xs) h = (All-head P x xs h, each_of P xs (All-tail P x xs h))

spots_fit : (w : Comparison) (entries : List (Node × List Atom)) → All (FitsEntry w) entries → All (λ entry. IsShortNode entry.0) entries
    → Each (FitsSpot w) entries
spots_fit w [] h k = tt
spots_fit w (x ∷ xs) h k =
    let first : FitsEntry w x = All-head (FitsEntry w) x xs h in (
      (All-head (λ (entry : Node × List Atom). IsShortNode entry.0) x xs k, each_of (FitsNode (length (node_labels w x.0))) x.1 first.atoms),
      spots_fit w xs (All-tail (FitsEntry w) x xs h) (All-tail (λ (entry : Node × List Atom). IsShortNode entry.0) x xs k),
    )

-- The text of a family can be read back, before what begins with neither `n` nor a space.
pub families : (w : Comparison) → IsComparison w → HasPlainNames w → IsReadable (IsToldFamily w) (family_text w) (Stops in_family)
families w is h =
    fewer (FitsSpots w) (IsToldFamily w) (family_text w) (Stops in_family) (λ f k. spots_fit w f.nodes k.0.entries k.1)
    (family w (record { at = labels_apart w is h }))

-- Families with one text, before such texts, are equal, and so are the texts behind them.
pub family_texts : (w : Comparison) → IsComparison w → HasPlainNames w → (f g : Family) (x y : List ℕ) → FitsFamily w f → FitsFamily w g → HasShortNodes f
    → HasShortNodes g → Stops in_family x → Stops in_family y → family_text w f ++ x ≡ family_text w g ++ y → (f ≡ g) × (x ≡ y)
family_texts w is h f g x y fits others short shorts before after e = (families w is h).read f g x y (fits, short) (others, shorts) before after e
