-- Reasons can be read back, where families can.
use Rattle.std.proofs.Common.{◌≡◌, ◌≢◌, ℕ, Bool, true, false, cond, eqb, leb, ◌&&◌, ◌||◌, List, [], ◌∷◌, ◌++◌, refl, sym, ap, ◌∙◌}
use Rattle.std.specs.Prelude.{codes, decimal}
use Rattle.std.proofs.lemmas.List.{append_assoc, append_cancel_left}
use Rattle.c_ast.specs.declared.place.Place.{Place}
use Rattle.c_ast.specs.declared.place.Place.TheVariants as place
use Rattle.c_ast.specs.declared.place.Side.{Side}
use Rattle.c_ast.specs.declared.place.Side.TheVariants.{A, B, Pre}
use Rattle.c_ast.specs.Comparison.{Comparison}
use Rattle.horn_clauses.specs.declared.node.Node.{Node}
use Rattle.horn_clauses.specs.declared.family.Family.{Family}
use Rattle.sym_paths.specs.declared.limit.PathLimit.{PathLimit}
use Rattle.sym_paths.specs.declared.limit.PathLimit.TheVariants as path
use Rattle.path_product.specs.declared.limit.ProductLimit.{ProductLimit}
use Rattle.path_product.specs.declared.limit.ProductLimit.TheVariants as product
use Rattle.elimination.specs.declared.answer.Limit.{Limit}
use Rattle.elimination.specs.declared.answer.Limit.TheVariants as row
use Rattle.pool_core.specs.declared.verdict.Why.{Why}
use Rattle.pool_core.specs.declared.verdict.Why.TheVariants.{NoCoupling, Product, AtObligation}
use Rattle.report.specs.Families.{place_text, node_text, side_word, family_text}
use Rattle.report.specs.Limits.{path_limit_word, row_limit_word, why_text}
use Rattle.report.specs.Fits.{FitsWhy}
use Rattle.report.specs.Determined.{is_digit, IsShort, IsShortPlace, IsShortNode, IsShortWhy}
use Rattle.report.proofs.FamilyTexts.{IsToldFamily}
use Rattle.report.proofs.Reading.{IsReadable, Passes, Begins, Stops, Anything, clash, past, closed, behind, through, differ, word}
use Rattle.report.proofs.Numbers.{number, number_begins}

-- ---- families

-- what may stand behind a family: nothing, or a line that begins with the byte 97
abbrev pub IsNext : List ℕ → Type 0
IsNext [] = Unit {0}
IsNext (b ∷ s) = b ≡ 97

-- the text of a family determines it and what stands behind it
abbrev pub ReadsFamilies : Comparison → Type 0
ReadsFamilies subject = IsReadable (IsToldFamily subject) (family_text subject) IsNext

-- ---- words

data Word : Type 0 where
  WNone : Word
  WLinear : Word
  WForm : Word
  WUnknowns : Word
  WPaths : Word
  WVariables : Word
  WRow : Word
  WRows : Word

abbrev word_text : Word → List ℕ
word_text WNone = codes "no-coupling"
word_text WLinear = codes "non-linear"
word_text WForm = codes "wide-form"
word_text WUnknowns = codes "many-unknowns"
word_text WPaths = codes "many-paths"
word_text WVariables = codes "many-variables"
word_text WRow = codes "wide-row"
word_text WRows = codes "many-rows"

abbrev same_bytes : List ℕ → List ℕ → Bool
same_bytes [] [] = true
same_bytes [] (c ∷ t) = false
same_bytes (b ∷ s) [] = false
same_bytes (b ∷ s) (c ∷ t) = eqb b c && same_bytes s t

abbrev find_word : List ℕ → Word
find_word t =
    cond (same_bytes t (codes "no-coupling")) WNone (cond (same_bytes t (codes "non-linear")) WLinear (cond (same_bytes t (codes "wide-form")) WForm
    (cond (same_bytes t (codes "many-unknowns")) WUnknowns (cond (same_bytes t (codes "many-paths")) WPaths (cond (same_bytes t
    (codes "many-variables")) WVariables
    (cond (same_bytes t (codes "wide-row")) WRow WRows))))))

abbrev in_word : ℕ → Bool
in_word b = (leb 97 b && leb b 122) || eqb b 45

abbrev all_in : List ℕ → Bool
all_in [] = true
all_in (b ∷ s) = in_word b && all_in s

both_true : (p q : Bool) → (p && q) ≡ true → (p ≡ true) × (q ≡ true)
both_true true true h = (refl, refl)
both_true true false h = cc
both_true false q h = cc

passes : (s : List ℕ) → all_in s ≡ true → Passes in_word s
passes [] h = tt
passes (b ∷ s) h = let o = both_true (in_word b) (all_in s) h in (o.0, passes s o.1)

words_pass : (x : Word) → all_in (word_text x) ≡ true
words_pass WNone = refl
words_pass WLinear = refl
words_pass WForm = refl
words_pass WUnknowns = refl
words_pass WPaths = refl
words_pass WVariables = refl
words_pass WRow = refl
words_pass WRows = refl

words_found : (x : Word) → find_word (word_text x) ≡ x
words_found WNone = refl
words_found WLinear = refl
words_found WForm = refl
words_found WUnknowns = refl
words_found WPaths = refl
words_found WVariables = refl
words_found WRow = refl
words_found WRows = refl

word_read : IsReadable {A = Word} (λ x. Unit {0}) word_text (Stops in_word)
word_read = word in_word word_text find_word (λ x. passes (word_text x) (words_pass x)) words_found

-- ---- places and nodes

place_in : (x y : Place) (s t : List ℕ) → IsShortPlace x → IsShortPlace y → Stops is_digit s → Stops is_digit t
    → place_text x ++ s ≡ place_text y ++ t → (x ≡ y) × (s ≡ t)
place_in place.Entry place.Entry s t a b c d e = (refl, append_cancel_left (codes "entry") s t e)
place_in place.Entry (place.Mark n) s t a b c d e = absurd (clash is_digit (decimal n ++ t) (codes "entry" ++ s) (number_begins n t b) refl (sym e))
place_in place.Entry place.Exit s t a b c d e = absurd (differ (codes "entry") (codes "exit") s t refl e)
place_in (place.Mark m) place.Entry s t a b c d e = absurd (clash is_digit (decimal m ++ s) (codes "entry" ++ t) (number_begins m s a) refl e)
place_in (place.Mark m) (place.Mark n) s t a b c d e = let o = number.read m n s t a b c d e in (ap place.Mark o.0, o.1)
place_in (place.Mark m) place.Exit s t a b c d e = absurd (clash is_digit (decimal m ++ s) (codes "exit" ++ t) (number_begins m s a) refl e)
place_in place.Exit place.Entry s t a b c d e = absurd (differ (codes "exit") (codes "entry") s t refl e)
place_in place.Exit (place.Mark n) s t a b c d e = absurd (clash is_digit (decimal n ++ t) (codes "exit" ++ s) (number_begins n t b) refl (sym e))
place_in place.Exit place.Exit s t a b c d e = (refl, append_cancel_left (codes "exit") s t e)

place_read : IsReadable IsShortPlace place_text (Stops is_digit)
place_read = record { read = place_in }

pair_read : IsReadable {A = Place × Place} (λ p. IsShortPlace p.0 × IsShortPlace p.1) (λ p. place_text p.0 ++ (codes " " ++ place_text p.1)) (Stops is_digit)
pair_read = behind IsShortPlace place_text (Stops is_digit) (λ x. IsShortPlace) (λ x y. codes " " ++ place_text y) (Stops is_digit) place_read
    (λ x h. past IsShortPlace place_text (Stops is_digit) (codes " ") place_read) (λ x y s a b c. refl)

abbrev of_pair : Place × Place → Node
of_pair p = record { 0 = p.0; 1 = p.1 }

node_read : IsReadable IsShortNode node_text (Stops is_digit)
node_read = through {A = Node} (λ (p : Place × Place). IsShortPlace p.0 × IsShortPlace p.1) (λ p. place_text p.0 ++ (codes " " ++ place_text p.1))
    (Stops is_digit)
    (λ n. (n.0, n.1)) (λ x y e. ap of_pair e) pair_read

-- ---- what stands behind the word

data Part : Type 0 where
  Nothing : Part
  ThePre : Part
  ThePlace : Side → Place → Part
  TheNode : Node → Part
  TheRows : ℕ → Family → Part

abbrev place_line : Side → Place → List ℕ
place_line side p = side_word side ++ (codes " " ++ (place_text p ++ codes "\n"))

abbrev rows_lines : Comparison → ℕ → Family → List ℕ
rows_lines subject n left = decimal n ++ (codes "\n" ++ family_text subject left)

abbrev part_text : Comparison → Part → List ℕ
part_text subject Nothing = codes "\n"
part_text subject ThePre = codes " pre\n"
part_text subject (ThePlace side p) = codes " " ++ place_line side p
part_text subject (TheNode n) = codes " " ++ (node_text n ++ codes "\n")
part_text subject (TheRows n left) = codes " " ++ rows_lines subject n left

abbrev FitsPart : Comparison → Part → Type 0
FitsPart subject Nothing = Unit {0}
FitsPart subject ThePre = Unit {0}
FitsPart subject (ThePlace side p) = (side ≢ Pre) × IsShortPlace p
FitsPart subject (TheNode n) = IsShortNode n
FitsPart subject (TheRows n left) = IsShort n × IsToldFamily subject left

side_in : (x y : Side) (s t : List ℕ) → side_word x ++ s ≡ side_word y ++ t → (x ≡ y) × (s ≡ t)
side_in A A s t e = (refl, append_cancel_left (codes "A") s t e)
side_in A B s t e = absurd (differ (codes "A") (codes "B") s t refl e)
side_in A Pre s t e = absurd (differ (codes "A") (codes "pre") s t refl e)
side_in B A s t e = absurd (differ (codes "B") (codes "A") s t refl e)
side_in B B s t e = (refl, append_cancel_left (codes "B") s t e)
side_in B Pre s t e = absurd (differ (codes "B") (codes "pre") s t refl e)
side_in Pre A s t e = absurd (differ (codes "pre") (codes "A") s t refl e)
side_in Pre B s t e = absurd (differ (codes "pre") (codes "B") s t refl e)
side_in Pre Pre s t e = (refl, append_cancel_left (codes "pre") s t e)

side_read : IsReadable {A = Side} (λ b. Unit {0}) side_word Anything
side_read = record { read = λ x y s t a b c d e. side_in x y s t e }

place_part : IsReadable {A = Side × Place} (λ p. Unit {0} × IsShortPlace p.1) (λ p. place_line p.0 p.1) Anything
place_part = behind (λ (b : Side). Unit {0}) side_word Anything (λ b. IsShortPlace) (λ b p. codes " " ++ (place_text p ++ codes "\n")) Anything side_read
    (λ b h. past IsShortPlace (λ p. place_text p ++ codes "\n") Anything (codes " ") (closed IsShortPlace place_text (Stops is_digit) (codes "\n")
    (λ s. refl) place_read))
    (λ b p s h k c. tt)

node_part : IsReadable IsShortNode (λ n. node_text n ++ codes "\n") Anything
node_part = closed IsShortNode node_text (Stops is_digit) (codes "\n") (λ s. refl) node_read

rows_part : (subject : Comparison) → ReadsFamilies subject
    → IsReadable {A = ℕ × Family} (λ p. IsShort p.0 × IsToldFamily subject p.1) (λ p. rows_lines subject p.0 p.1) IsNext
rows_part subject h = behind IsShort decimal (Stops is_digit) (λ n. IsToldFamily subject) (λ n left. codes "\n" ++ family_text subject left) IsNext number
    (λ n k. past (IsToldFamily subject) (family_text subject) IsNext (codes "\n") h) (λ n y s a b c. refl)

-- which part it is, by its first two bytes; a node and a number are not told apart by these
abbrev kind_of : List ℕ → ℕ
kind_of [] = 0
kind_of (b ∷ []) = 0
kind_of (b ∷ c ∷ s) = cond (eqb b 10) 0 (cond (is_digit c || eqb c 101) 3 (cond (eqb c 112) 1 2))

digit_kind : (x : List ℕ) → Begins is_digit x → kind_of (codes " " ++ x) ≡ 3
digit_kind [] h = absurd h
digit_kind (b ∷ x) h = rw h refl

place_kind : (p : Place) (s : List ℕ) → IsShortPlace p → kind_of (codes " " ++ (place_text p ++ s)) ≡ 3
place_kind place.Entry s h = refl
place_kind (place.Mark k) s h = digit_kind (decimal k ++ s) (number_begins k s h)
place_kind place.Exit s h = refl

newline_kind : (s : List ℕ) → kind_of (codes "\n" ++ s) ≡ 0
newline_kind [] = refl
newline_kind (b ∷ s) = refl

side_kind : (side : Side) (s : List ℕ) → side ≢ Pre → kind_of (codes " " ++ (side_word side ++ s)) ≡ 2
side_kind A s h = refl
side_kind B s h = refl
side_kind Pre s h = absurd (h refl)

-- the kind of a part
abbrev kind : Part → ℕ
kind Nothing = 0
kind ThePre = 1
kind (ThePlace side p) = 2
kind (TheNode n) = 3
kind (TheRows n left) = 3

node_starts : (n : Node) (s : List ℕ) → (node_text n ++ codes "\n") ++ s ≡ place_text n.0 ++ (codes " " ++ (place_text n.1 ++ (codes "\n" ++ s)))
node_starts n s = append_assoc (node_text n) (codes "\n") s ∙ append_assoc (place_text n.0) (codes " " ++ place_text n.1) (codes "\n" ++ s)

rows_starts : (subject : Comparison) (n : ℕ) (left : Family) (s : List ℕ) → rows_lines subject n left ++ s
    ≡ decimal n ++ (codes "\n" ++ (family_text subject left ++ s))
rows_starts subject n left s = append_assoc (decimal n) (codes "\n" ++ family_text subject left) s

part_kind : (subject : Comparison) (x : Part) (s : List ℕ) → FitsPart subject x → kind_of (part_text subject x ++ s) ≡ kind x
part_kind subject Nothing s h = newline_kind s
part_kind subject ThePre s h = refl
part_kind subject (ThePlace side p) s h =
    ap (λ z. kind_of (codes " " ++ z)) (append_assoc (side_word side) (codes " " ++ (place_text p ++ codes "\n")) s)
    ∙ side_kind side ((codes " " ++ (place_text p ++ codes "\n")) ++ s) h.0
part_kind subject (TheNode n) s h =
    ap (λ z. kind_of (codes " " ++ z)) (node_starts n s) ∙ place_kind n.0 (codes " " ++ (place_text n.1 ++ (codes "\n" ++ s))) h.0
part_kind subject (TheRows n left) s h =
    ap (λ z. kind_of (codes " " ++ z)) (rows_starts subject n left s)
    ∙ digit_kind (decimal n ++ (codes "\n" ++ (family_text subject left ++ s))) (number_begins n (codes "\n" ++ (family_text subject left ++ s)) h.0)

same_kind : (subject : Comparison) (x y : Part) (s t : List ℕ) → FitsPart subject x → FitsPart subject y
    → part_text subject x ++ s ≡ part_text subject y ++ t → kind x ≡ kind y
same_kind subject x y s t a b e = sym (part_kind subject x s a) ∙ ap kind_of e ∙ part_kind subject y t b

node_rows : (p : Place) (n : ℕ) (s t : List ℕ) → IsShortPlace p → IsShort n → place_text p ++ (codes " " ++ s) ≡ decimal n ++ (codes "\n" ++ t) → ⊥
node_rows place.Entry n s t h k e = clash is_digit (decimal n ++ (codes "\n" ++ t)) (codes "entry" ++ (codes " " ++ s)) (number_begins n
    (codes "\n" ++ t) k) refl (sym e)
node_rows (place.Mark m) n s t h k e = let o = number.read m n (codes " " ++ s) (codes "\n" ++ t) h k refl refl e in differ (codes " ")
    (codes "\n") s t refl o.1
node_rows place.Exit n s t h k e = clash is_digit (decimal n ++ (codes "\n" ++ t)) (codes "exit" ++ (codes " " ++ s)) (number_begins n
    (codes "\n" ++ t) k) refl (sym e)

node_rows_on : (subject : Comparison) (n : Node) (i : ℕ) (left : Family) (s t : List ℕ) → IsShortNode n → IsShort i
    → codes " " ++ ((node_text n ++ codes "\n") ++ s) ≡ codes " " ++ (rows_lines subject i left ++ t) → ⊥
node_rows_on subject n i left s t h k e =
    let f : (node_text n ++ codes "\n") ++ s ≡ rows_lines subject i left ++ t = append_cancel_left (codes " ") ((node_text n ++ codes "\n") ++ s)
    (rows_lines subject i left ++ t) e in
    node_rows n.0 i (place_text n.1 ++ (codes "\n" ++ s)) (family_text subject left ++ t) h.0 k (sym (node_starts n s) ∙ f ∙ rows_starts subject i left t)

part_in : (subject : Comparison) → ReadsFamilies subject → (x y : Part) (s t : List ℕ) → FitsPart subject x → FitsPart subject y → IsNext s → IsNext t
    → part_text subject x ++ s ≡ part_text subject y ++ t → (x ≡ y) × (s ≡ t)
part_in u h Nothing Nothing s t a b c d e = (refl, append_cancel_left (codes "\n") s t e)
part_in u h Nothing ThePre s t a b c d e = let k = same_kind u Nothing ThePre s t a b e in cc
part_in u h Nothing (ThePlace q o) s t a b c d e = let k = same_kind u Nothing (ThePlace q o) s t a b e in cc
part_in u h Nothing (TheNode n) s t a b c d e = let k = same_kind u Nothing (TheNode n) s t a b e in cc
part_in u h Nothing (TheRows n l) s t a b c d e = let k = same_kind u Nothing (TheRows n l) s t a b e in cc
part_in u h ThePre Nothing s t a b c d e = let k = same_kind u ThePre Nothing s t a b e in cc
part_in u h ThePre ThePre s t a b c d e = (refl, append_cancel_left (codes " pre\n") s t e)
part_in u h ThePre (ThePlace q o) s t a b c d e = let k = same_kind u ThePre (ThePlace q o) s t a b e in cc
part_in u h ThePre (TheNode n) s t a b c d e = let k = same_kind u ThePre (TheNode n) s t a b e in cc
part_in u h ThePre (TheRows n l) s t a b c d e = let k = same_kind u ThePre (TheRows n l) s t a b e in cc
part_in u h (ThePlace r p) Nothing s t a b c d e = let k = same_kind u (ThePlace r p) Nothing s t a b e in cc
part_in u h (ThePlace r p) ThePre s t a b c d e = let k = same_kind u (ThePlace r p) ThePre s t a b e in cc
part_in u h (ThePlace r p) (ThePlace q o) s t a b c d e =
    let g = place_part.read (r, p) (q, o) s t (tt, a.1) (tt, b.1) tt tt (append_cancel_left (codes " ") (place_line r p ++ s) (place_line q o ++ t) e) in
    (ap (λ (x : Side × Place). ThePlace x.0 x.1) g.0, g.1)
part_in u h (ThePlace r p) (TheNode n) s t a b c d e = let k = same_kind u (ThePlace r p) (TheNode n) s t a b e in cc
part_in u h (ThePlace r p) (TheRows n l) s t a b c d e = let k = same_kind u (ThePlace r p) (TheRows n l) s t a b e in cc
part_in u h (TheNode n) Nothing s t a b c d e = let k = same_kind u (TheNode n) Nothing s t a b e in cc
part_in u h (TheNode n) ThePre s t a b c d e = let k = same_kind u (TheNode n) ThePre s t a b e in cc
part_in u h (TheNode n) (ThePlace q o) s t a b c d e = let k = same_kind u (TheNode n) (ThePlace q o) s t a b e in cc
part_in u h (TheNode m) (TheNode n) s t a b c d e =
    let g = node_part.read m n s t a b tt tt (append_cancel_left (codes " ") ((node_text m ++ codes "\n") ++ s) ((node_text n ++ codes "\n") ++ t) e) in
    (ap TheNode g.0, g.1)
part_in u h (TheNode m) (TheRows n l) s t a b c d e = absurd (node_rows_on u m n l s t a b.0 e)
part_in u h (TheRows n l) Nothing s t a b c d e = let k = same_kind u (TheRows n l) Nothing s t a b e in cc
part_in u h (TheRows n l) ThePre s t a b c d e = let k = same_kind u (TheRows n l) ThePre s t a b e in cc
part_in u h (TheRows n l) (ThePlace q o) s t a b c d e = let k = same_kind u (TheRows n l) (ThePlace q o) s t a b e in cc
part_in u h (TheRows n l) (TheNode m) s t a b c d e = absurd (node_rows_on u m n l t s b a.0 (sym e))
part_in u h (TheRows m k) (TheRows n l) s t a b c d e =
    let g = (rows_part u h).read (m, k) (n, l) s t a b c d (append_cancel_left (codes " ") (rows_lines u m k ++ s) (rows_lines u n l ++ t) e) in
    (ap (λ (x : ℕ × Family). TheRows x.0 x.1) g.0, g.1)

part : (subject : Comparison) → ReadsFamilies subject → IsReadable (FitsPart subject) (part_text subject) IsNext
part u h = record { read = part_in u h }

part_stops : (subject : Comparison) (y : Part) (s : List ℕ) → Stops in_word (part_text subject y ++ s)
part_stops u Nothing s = refl
part_stops u ThePre s = refl
part_stops u (ThePlace r p) s = refl
part_stops u (TheNode n) s = refl
part_stops u (TheRows n l) s = refl

worded : (subject : Comparison) → ReadsFamilies subject
    → IsReadable {A = Word × Part} (λ p. Unit {0} × FitsPart subject p.1) (λ p. word_text p.0 ++ part_text subject p.1) IsNext
worded u h = behind (λ (x : Word). Unit {0}) word_text (Stops in_word) (λ x. FitsPart u) (λ x. part_text u) IsNext word_read (λ x k. part u h)
    (λ x y s a b c. part_stops u y s)

-- ---- reasons

abbrev of_path : PathLimit → Word
of_path path.NonLinear = WLinear
of_path path.WideForm = WForm
of_path path.ManyUnknowns = WUnknowns
of_path path.ManyPaths = WPaths
of_path path.Memory = WNone

abbrev of_row : Limit → Word
of_row row.WideRow = WRow
of_row row.ManyRows = WRows
of_row row.Memory = WNone

abbrev parts_of : Why → Word × Part
parts_of NoCoupling = (WNone, Nothing)
parts_of (Product (product.AtPre l)) = (of_path l, ThePre)
parts_of (Product (product.AtPlace s p l)) = (of_path l, ThePlace s p)
parts_of (Product (product.ManyVariables n)) = (WVariables, TheNode n)
parts_of (Product (product.WideForm n)) = (WForm, TheNode n)
parts_of (Product (product.ManyUnknowns n)) = (WUnknowns, TheNode n)
parts_of (Product (product.ManyPaths n)) = (WPaths, TheNode n)
parts_of (Product product.Memory) = (WNone, Nothing)
parts_of (AtObligation n left l) = (of_row l, TheRows n left)

abbrev as_path : Word → PathLimit
as_path WNone = path.Memory
as_path WLinear = path.NonLinear
as_path WForm = path.WideForm
as_path WUnknowns = path.ManyUnknowns
as_path WPaths = path.ManyPaths
as_path WVariables = path.Memory
as_path WRow = path.Memory
as_path WRows = path.Memory

abbrev as_node : Node → Word → ProductLimit
as_node n WNone = product.Memory
as_node n WLinear = product.Memory
as_node n WForm = product.WideForm n
as_node n WUnknowns = product.ManyUnknowns n
as_node n WPaths = product.ManyPaths n
as_node n WVariables = product.ManyVariables n
as_node n WRow = product.Memory
as_node n WRows = product.Memory

abbrev as_row : Word → Limit
as_row WNone = row.Memory
as_row WLinear = row.Memory
as_row WForm = row.Memory
as_row WUnknowns = row.Memory
as_row WPaths = row.Memory
as_row WVariables = row.Memory
as_row WRow = row.WideRow
as_row WRows = row.ManyRows

abbrev of_parts : Word → Part → Why
of_parts x Nothing = NoCoupling
of_parts x ThePre = Product (product.AtPre (as_path x))
of_parts x (ThePlace s p) = Product (product.AtPlace s p (as_path x))
of_parts x (TheNode n) = Product (as_node n x)
of_parts x (TheRows n left) = AtObligation n left (as_row x)

path_back : (l : PathLimit) → as_path (of_path l) ≡ l
path_back path.NonLinear = refl
path_back path.WideForm = refl
path_back path.ManyUnknowns = refl
path_back path.ManyPaths = refl
path_back path.Memory = refl

row_back : (l : Limit) → as_row (of_row l) ≡ l
row_back row.WideRow = refl
row_back row.ManyRows = refl
row_back row.Memory = refl

path_word : (l : PathLimit) → l ≢ path.Memory → path_limit_word l ≡ word_text (of_path l)
path_word path.NonLinear h = refl
path_word path.WideForm h = refl
path_word path.ManyUnknowns h = refl
path_word path.ManyPaths h = refl
path_word path.Memory h = absurd (h refl)

row_word : (l : Limit) → l ≢ row.Memory → row_limit_word l ≡ word_text (of_row l)
row_word row.WideRow h = refl
row_word row.ManyRows h = refl
row_word row.Memory h = absurd (h refl)

-- a reason that can be told, with short numbers
pub record IsToldWhy (subject : Comparison) (why : Why) : Type 0 where
  pub fits : FitsWhy subject why
  pub short : IsShortWhy why

module _ (subject : Comparison) where
  whole_why : (y : Why) → FitsWhy subject y → of_parts (parts_of y).0 (parts_of y).1 ≡ y
  whole_why NoCoupling h = refl
  whole_why (Product (product.AtPre l)) h = ap (λ z. Product (product.AtPre z)) (path_back l)
  whole_why (Product (product.AtPlace s p l)) h = ap (λ z. Product (product.AtPlace s p z)) (path_back l)
  whole_why (Product (product.ManyVariables n)) h = refl
  whole_why (Product (product.WideForm n)) h = refl
  whole_why (Product (product.ManyUnknowns n)) h = refl
  whole_why (Product (product.ManyPaths n)) h = refl
  whole_why (Product product.Memory) h = absurd h.kept
  whole_why (AtObligation n left l) h = ap (λ z. AtObligation n left z) (row_back l)

  why_parts : (y : Why) → FitsWhy subject y → why_text subject y ≡ word_text (parts_of y).0 ++ part_text subject (parts_of y).1
  why_parts NoCoupling h = refl
  why_parts (Product (product.AtPre l)) h =
      append_assoc (path_limit_word l) (codes " pre") (codes "\n" ++ []) ∙ ap (λ z. z ++ codes " pre\n") (path_word l h.kept)
  why_parts (Product (product.AtPlace s p l)) h =
      append_assoc (path_limit_word l) (codes " " ++ (side_word s ++ (codes " " ++ place_text p))) (codes "\n" ++ [])
      ∙ ap (λ z. path_limit_word l ++ (codes " " ++ z)) (append_assoc (side_word s) (codes " " ++ place_text p) (codes "\n" ++ []))
      ∙ ap (λ z. z ++ (codes " " ++ place_line s p)) (path_word l h.kept.1)
  why_parts (Product (product.ManyVariables n)) h = refl
  why_parts (Product (product.WideForm n)) h = refl
  why_parts (Product (product.ManyUnknowns n)) h = refl
  why_parts (Product (product.ManyPaths n)) h = refl
  why_parts (Product product.Memory) h = absurd h.kept
  why_parts (AtObligation n left l) h =
      append_assoc (row_limit_word l) (codes " " ++ decimal n) (codes "\n" ++ family_text subject left)
      ∙ ap (λ z. z ++ (codes " " ++ rows_lines subject n left)) (row_word l h.kept)

  fits_parts : (y : Why) → FitsWhy subject y → IsShortWhy y → FitsPart subject (parts_of y).1
  fits_parts NoCoupling h k = tt
  fits_parts (Product (product.AtPre l)) h k = tt
  fits_parts (Product (product.AtPlace s p l)) h k = (h.kept.0, k)
  fits_parts (Product (product.ManyVariables n)) h k = k
  fits_parts (Product (product.WideForm n)) h k = k
  fits_parts (Product (product.ManyUnknowns n)) h k = k
  fits_parts (Product (product.ManyPaths n)) h k = k
  fits_parts (Product product.Memory) h k = tt
  fits_parts (AtObligation n left l) h k = (k.0, (h.left, k.1))

  -- The text of a reason determines the reason and what stands behind it.
  pub why : ReadsFamilies subject → IsReadable (IsToldWhy subject) (why_text subject) IsNext
  why h = record {
    read = λ x y s t a b c d e.
        let o = (worded subject h).read (parts_of x) (parts_of y) s t (tt, fits_parts x a.fits a.short) (tt, fits_parts y b.fits b.short) c d
        (ap (λ z. z ++ s) (sym (why_parts x a.fits)) ∙ e ∙ ap (λ z. z ++ t) (why_parts y b.fits)) in
        (sym (whole_why x a.fits) ∙ ap (λ (p : Word × Part). of_parts p.0 p.1) o.0 ∙ whole_why y b.fits, o.1);
  }
