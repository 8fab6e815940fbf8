-- Sums that are made one row after the other, and the columns that blocks of sums cover.
use Rattle.std.proofs.Common.{lit<, ◌≡◌, ◌↔◌, ℕ, zero, suc, Bool, false, map, ◌+◌, ◌-◌, ◌*◌, ◌<◌, ◌≤◌, ◌^◌, List, [], ◌∷◌, arith, refl, sym, subst, length, get_or, set, drop, min, replicate, ◌∙◌, ⊎_elim}
use Rattle.std.specs.Prelude.{ℤ, pos, negsuc, ◌≤ℤ◌, ◌+ℤ◌, ◌*ℤ◌, unsigned_abs, All}
use Rattle.std.specs.Bool.{OnFalse}
use Rattle.std.specs.List.{AllZip, AllByRecursion}
use Rattle.std.proofs.lemmas.Int.{ints}
use Rattle.std.proofs.lemmas.Bool.{cases_lt}
use Rattle.std.proofs.Math.ListN.{drop_of_length-le}
use Rattle.std.proofs.lemmas.List.{drop_more, get_or_past, get_or-map, get_or-set_same, get_or-set_other}
use Rattle.std.proofs.lemmas.List.Elements.{All-get_or, All-from_get_or, recursion_from_All}
use Rattle.lin_terms.specs.declared.row.Row.{Row}
use Rattle.lin_terms.specs.Vectors.{dot}
use Rattle.lin_terms.specs.Bounds.{FitsRow}
use Rattle.lin_terms.specs.Row.{IsFittingRow, columns_of, HaveOneLength}
use Rattle.lin_terms.proofs.Laws.{get_or-zeros, dot-drop}
use Rattle.farkas_check.specs.Refutes.{column, constants, equalities, MayMultiply, Refutes}
use Rattle.farkas_check.proofs.Wide.{unsigned_abs-product, unsigned_abs-sum}

-- ---- one more product

pub summed : (ms xs : List ℤ) (i : ℕ) (sum product all : ℤ) → i < length ms
    → product ≡ get_or ms i (pos 0) *ℤ get_or xs i (pos 0)
    → sum +ℤ dot (drop i ms) (drop i xs) ≡ all
    → (sum +ℤ product) +ℤ dot (drop (i + 1) ms) (drop (i + 1) xs) ≡ all
summed ms xs i sum product all in_ms is so_far =
    let next = rw (dot-drop ms xs i in_ms, ← is) at so_far in
    omega (arith, ints)

pub grown : (i : ℕ) (sum product : ℤ) → unsigned_abs sum ≤ i * 2 ^ 112 → unsigned_abs product < 2 ^ 112
    → unsigned_abs (sum +ℤ product) ≤ (i + 1) * 2 ^ 112
grown i sum product bound small = omega (arith, unsigned_abs-sum sum product)

-- all products are added
pub summed_all : (ms xs : List ℤ) (i : ℕ) (sum all : ℤ) → length ms ≤ i → sum +ℤ dot (drop i ms) (drop i xs) ≡ all → sum ≡ all
summed_all ms xs i sum all past so_far =
    let at_end = rw (drop_of_length-le ms past) at so_far in omega (arith, ints)

-- ---- the signs

pub signs_more : (rows : List Row) (ms : List ℤ) (i : ℕ) (row : Row) → length ms ≡ length rows → i < length rows
    → row ≡ get_or rows i row → MayMultiply row (get_or ms i (pos 0))
    → AllZip MayMultiply rows ms ↔ AllZip MayMultiply (drop i rows) (drop i ms)
    → AllZip MayMultiply rows ms ↔ AllZip MayMultiply (drop (i + 1) rows) (drop (i + 1) ms)
signs_more rows ms i row as_many below is may so_far =
    let next = rw (drop_more rows i row below, drop_more ms i (pos 0) (omega arith)) at so_far in
    (λ signs. (next.0 signs).1, λ others. next.1 (subst (λ (r : Row). MayMultiply r (get_or ms i (pos 0))) is may, others))

-- a multiplier that its row may not have
pub no_sign : (rows : List Row) (ms : List ℤ) (i : ℕ) (row : Row) → length ms ≡ length rows → i < length rows
    → row ≡ get_or rows i row → (MayMultiply row (get_or ms i (pos 0)) → ⊥)
    → AllZip MayMultiply rows ms ↔ AllZip MayMultiply (drop i rows) (drop i ms) → AllZip MayMultiply rows ms → ⊥
no_sign rows ms i row as_many below is may_not so_far signs =
    let next = rw (drop_more rows i row below, drop_more ms i (pos 0) (omega arith)) at so_far in
    may_not (subst (λ (r : Row). MayMultiply r (get_or ms i (pos 0))) (sym is) (next.0 signs).0)

pub signs_all : (rows : List Row) (ms : List ℤ) (i : ℕ) → length ms ≡ length rows → length rows ≤ i
    → AllZip MayMultiply rows ms ↔ AllZip MayMultiply (drop i rows) (drop i ms) → AllZip MayMultiply rows ms
signs_all rows ms i as_many past so_far =
    let past_ms : length ms ≤ i = omega arith in
    let at_end = rw (drop_of_length-le rows past, drop_of_length-le ms past_ms) at so_far in at_end.1 tt

-- ---- entries that are added to sums

-- the sums before, and of those below a place the products too
pub entries_added : (sums before : List ℤ) (products : ℕ → ℤ) (i : ℕ) (v : ℤ) → i < length sums
    → v ≡ get_or before i (pos 0) +ℤ products i
    → ((k : ℕ) → k < i → get_or sums k (pos 0) ≡ get_or before k (pos 0) +ℤ products k)
    → (k : ℕ) → k < i + 1 → get_or (set sums i v) k (pos 0) ≡ get_or before k (pos 0) +ℤ products k
entries_added sums before products i v in_sums is added k below =
    ⊎_elim (λ (h : k < i). get_or-set_other sums i k v (pos 0) (omega arith) ∙ added k h)
    (λ (h : i ≤ k). let at_i : k ≡ i = omega arith in rw at_i (get_or-set_same sums i v (pos 0) in_sums ∙ is)) (cases_lt k i)

pub entries_left : (sums before : List ℤ) (i : ℕ) (v : ℤ) → ((k : ℕ) → i ≤ k → get_or sums k (pos 0) ≡ get_or before k (pos 0))
    → (k : ℕ) → i + 1 ≤ k → get_or (set sums i v) k (pos 0) ≡ get_or before k (pos 0)
entries_left sums before i v left k past = get_or-set_other sums i k v (pos 0) (omega arith) ∙ left k (omega arith)

-- ---- the sums of a block of columns

pub zeros_sum : (n k : ℕ) (all : ℤ) → get_or (replicate n (pos 0)) k (pos 0) +ℤ all ≡ all
zeros_sum n k all = rw (get_or-zeros n k) (omega (arith, ints))

pub zeros_bound : (n k : ℕ) → unsigned_abs (get_or (replicate n (pos 0)) k (pos 0)) ≤ 0
zeros_bound n k = rw (get_or-zeros n k) (omega arith)

no_row : Row
no_row = record { coefs = []; constant = pos 0; equality = false }

-- the row at a place
pub row_at : List Row → ℕ → Row
row_at rows i = get_or rows i no_row

get_or_any : {X : Type 0} (xs : List X) (i : ℕ) (d e : X) → i < length xs → get_or xs i d ≡ get_or xs i e
get_or_any [] i d e below = absurd (omega arith)
get_or_any (x ∷ xs) zero d e below = refl
get_or_any (x ∷ xs) (suc i) d e below = get_or_any xs i d e (omega arith)

pub row_at-is : (rows : List Row) (i : ℕ) → i < length rows → row_at rows i ≡ get_or rows i (row_at rows i)
unfolding row_at
row_at-is rows i below = get_or_any rows i no_row (get_or rows i no_row) below

pub told_at : {X : Type 0} (g : Row → X) (rows : List Row) (i : ℕ) (e : X) → i < length rows → get_or (map g rows) i e ≡ g (row_at rows i)
unfolding row_at
told_at g rows i e below = get_or-map g rows i no_row e below

row_fits : (rows : List Row) (i : ℕ) → i < length rows → All IsFittingRow rows → IsFittingRow (row_at rows i)
unfolding row_at
row_fits rows i below fit = fit i no_row below

entry_fits : (entries : List ℤ) (k : ℕ) → All FitsRow entries → FitsRow (get_or entries k (pos 0))
entry_fits entries k fit =
    ⊎_elim (λ (h : k < length entries). All-get_or FitsRow entries k (pos 0) h fit)
    (λ (h : length entries ≤ k). let zero : FitsRow (pos 0) = lit< tt in subst FitsRow (sym (get_or_past entries k (pos 0) h)) zero)
    (cases_lt k (length entries))

-- an entry of rows that fit does
pub column_fits : (rows : List Row) (i j : ℕ) → i < length rows → All IsFittingRow rows → FitsRow (get_or (column j rows) i (pos 0))
column_fits rows i j below fit =
    subst FitsRow (sym (told_at (λ row. get_or row.coefs j (pos 0)) rows i (pos 0) below))
    (entry_fits (row_at rows i).coefs j (row_fits rows i below fit).coefs)

pub constant_fits : (rows : List Row) (i : ℕ) → i < length rows → All IsFittingRow rows → FitsRow (get_or (constants rows) i (pos 0))
constant_fits rows i below fit =
    subst FitsRow (sym (told_at (λ row. row.constant) rows i (pos 0) below)) (row_fits rows i below fit).constant

-- past the rows' length an entry is 0
pub column_past : (rows : List Row) (i j : ℕ) → i < length rows → HaveOneLength rows → columns_of rows ≤ j → get_or (column j rows) i (pos 0) ≡ pos 0
unfolding row_at
column_past rows i j below one_length past =
    let long : length (row_at rows i).coefs ≡ columns_of rows = one_length i no_row below in
    told_at (λ row. get_or row.coefs j (pos 0)) rows i (pos 0) below ∙ get_or_past (row_at rows i).coefs j (pos 0) (omega arith)

pub may_at : (rows : List Row) (i : ℕ) (m : ℤ) (equality : Bool) → i < length rows → equality ≡ get_or (equalities rows) i false
    → OnFalse equality (pos 0 ≤ℤ m) ↔ MayMultiply (row_at rows i) m
may_at rows i m equality below is =
    let e = is ∙ told_at (λ row. row.equality) rows i false below in
    (λ may. subst (λ b. OnFalse b (pos 0 ≤ℤ m)) e may, λ may. subst (λ b. OnFalse b (pos 0 ≤ℤ m)) (sym e) may)

pub block_bound : (i j : ℕ) (m old new : ℤ) (rows : List Row) → FitsRow m → i < length rows → All IsFittingRow rows
    → new ≡ old +ℤ (m *ℤ get_or (column j rows) i (pos 0)) → unsigned_abs old ≤ i * 2 ^ 112 → unsigned_abs new ≤ (i + 1) * 2 ^ 112
block_bound i j m old new rows m_fits below fit is bound =
    rw is (grown i old (m *ℤ get_or (column j rows) i (pos 0)) bound
    (unsigned_abs-product m (get_or (column j rows) i (pos 0)) m_fits (column_fits rows i j below fit)))

pub block_summed : (ms : List ℤ) (rows : List Row) (i j : ℕ) (old new all : ℤ) → length ms ≡ length rows → i < length rows
    → new ≡ old +ℤ (get_or ms i (pos 0) *ℤ get_or (column j rows) i (pos 0))
    → old +ℤ dot (drop i ms) (drop i (column j rows)) ≡ all
    → new +ℤ dot (drop (i + 1) ms) (drop (i + 1) (column j rows)) ≡ all
block_summed ms rows i j old new all as_many below made so_far =
    rw made (summed ms (column j rows) i old (get_or ms i (pos 0) *ℤ get_or (column j rows) i (pos 0)) all (omega arith) refl so_far)

added_zero : (x m z : ℤ) → z ≡ pos 0 → x ≡ x +ℤ (m *ℤ z)
added_zero x m z e = rw e (omega (arith, ints))

-- where all columns of the block are added
pub row_added : (rows : List Row) (i first width : ℕ) (m : ℤ) (sums before : List ℤ) → i < length rows → HaveOneLength rows
    → width ≡ min 32 (columns_of rows - first)
    → ((k : ℕ) → k < width → get_or sums k (pos 0) ≡ get_or before k (pos 0) +ℤ (m *ℤ get_or (column (first + k) rows) i (pos 0)))
    → ((k : ℕ) → width ≤ k → get_or sums k (pos 0) ≡ get_or before k (pos 0))
    → (k : ℕ) → k < 32 → get_or sums k (pos 0) ≡ get_or before k (pos 0) +ℤ (m *ℤ get_or (column (first + k) rows) i (pos 0))
row_added rows i first width m sums before below one_length is added left k in_block =
    ⊎_elim (λ (h : k < width). added k h)
    (λ (h : width ≤ k).
    let past : columns_of rows ≤ first + k = omega arith in
    left k h ∙ added_zero (get_or before k (pos 0)) m (get_or (column (first + k) rows) i (pos 0)) (column_past rows i (first + k) below one_length past))
    (cases_lt k width)

-- ---- all columns

-- the sums are those of a block of columns
abbrev pub AreSums : ℕ → List ℤ → List Row → List ℤ → Type 0
AreSums first ms rows sums = (k : ℕ) → k < 32 → get_or sums k (pos 0) ≡ dot ms (column (first + k) rows)

-- the columns of one more block
pub zeros_more : (walk : ℕ) (ms : List ℤ) (rows : List Row) → ((k : ℕ) → k < 32 → dot ms (column (walk * 32 + k) rows) ≡ pos 0)
    → ((j : ℕ) → j < walk * 32 → dot ms (column j rows) ≡ pos 0)
    → (j : ℕ) → j < (walk + 1) * 32 → dot ms (column j rows) ≡ pos 0
zeros_more walk ms rows zeros before j below =
    ⊎_elim (λ (h : j < walk * 32). before j h)
    (λ (h : walk * 32 ≤ j).
    let k : ℕ = j - walk * 32 in
    let is : walk * 32 + k ≡ j = omega arith in
    subst (λ n. dot ms (column n rows) ≡ pos 0) is (zeros k (omega arith)))
    (cases_lt j (walk * 32))

-- a block of sums that are all 0
pub zeros_block : (first : ℕ) (ms : List ℤ) (rows : List Row) (sums : List ℤ) → length sums ≡ 32 → AreSums first ms rows sums
    → All (λ sum. sum ≡ pos 0) sums ↔ ((k : ℕ) → k < 32 → dot ms (column (first + k) rows) ≡ pos 0)
zeros_block first ms rows sums long are_sums = (
  λ zeros k below. sym (are_sums k below) ∙ All-get_or (λ (sum : ℤ). sum ≡ pos 0) sums k (pos 0) (omega arith) zeros,
  λ zeros. All-from_get_or (λ (sum : ℤ). sum ≡ pos 0) sums (pos 0) (λ k below. are_sums k (omega arith) ∙ zeros k (omega arith)),
)

-- past the rows' length a column is 0
dot-past : (n : ℕ) (ms : List ℤ) (rows : List Row) (j : ℕ) → n ≤ j → AllByRecursion (λ row. length row.coefs ≡ n) rows
    → dot ms (column j rows) ≡ pos 0
dot-past n [] rows j past lengths = refl
dot-past n (m ∷ ms) [] j past lengths = refl
dot-past n (m ∷ ms) (row ∷ rows) j past lengths =
    rw (get_or_past row.coefs j (pos 0) (omega (arith, lengths.0)), dot-past n ms rows j past lengths.1) (omega (arith, ints))

pub zeros_all : (covered : ℕ) (ms : List ℤ) (rows : List Row) → HaveOneLength rows → columns_of rows ≤ covered
    → ((j : ℕ) → j < covered → dot ms (column j rows) ≡ pos 0) → (j : ℕ) → dot ms (column j rows) ≡ pos 0
zeros_all covered ms rows one_length enough zeros j =
    let n : ℕ = columns_of rows in
    ⊎_elim (λ (h : j < covered). zeros j h)
    (λ (h : covered ≤ j). dot-past n ms rows j (omega arith) (recursion_from_All (λ (row : Row). length row.coefs ≡ n) rows one_length))
    (cases_lt j covered)

-- blocks that cover all columns
pub refuted : (walks : ℕ) (ms : List ℤ) (rows : List Row) → HaveOneLength rows → columns_of rows ≤ walks * 32 → 0 < walks
    → (0 < walks → AllZip MayMultiply rows ms) → (0 < walks → dot ms (constants rows) ≤ℤ negsuc 0)
    → ((j : ℕ) → j < walks * 32 → dot ms (column j rows) ≡ pos 0) → Refutes rows ms
refuted walks ms rows one_length enough some signs negative zeros = record {
  signs = signs some;
  no_variable = zeros_all (walks * 32) ms rows one_length enough zeros;
  negative_constant = negative some;
}
