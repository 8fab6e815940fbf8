-- The place behind some bytes, and behind more of them.
use Rattle.std.proofs.Common.{◌≡◌, ℕ, suc, ◌+◌, ◌<◌, Bool, true, false, cond, ◌&&◌, ◌||◌, List, [], ◌∷◌, ◌++◌, length, drop, get_or, refl, ◌∙◌, ap, arith, append_assoc}
use Rattle.std.specs.List.{list_any}
use Rattle.std.specs.Prelude.{count_by}
use Rattle.std.proofs.Math.Seq.{drop-cons}
use Rattle.std.proofs.lemmas.List.{append-nil, length-append}
use Rattle.std.proofs.lemmas.List.Sums.{fold-append}
use Rattle.std.proofs.lemmas.List.Folds.{list_all-append}
use Rattle.c_tokens.specs.declared.place.Place.{Place}
use Rattle.c_tokens.specs.Bytes.{is_newline, is_blank}
use Rattle.c_tokens.specs.Places.{last_line}
use Rattle.c_tokens.specs.Steps.{after_byte, after_bytes, place_behind}

pub after_bytes-step : (place next : Place) (bytes : List ℕ) (i : ℕ) (all : Place) → i < length bytes
    → next ≡ after_byte place (get_or bytes i 0) → after_bytes place (drop i bytes) ≡ all
    → after_bytes next (drop (i + 1) bytes) ≡ all
after_bytes-step place next bytes i all lt is so_far =
    let more : i + 1 ≡ suc i = omega arith in
    rw (is, more) (rw (drop-cons bytes i 0 lt) at so_far)

or_false : (b : Bool) → (b || false) ≡ b
or_false true = refl
or_false false = refl

or_assoc : (a b c : Bool) → (a || (b || c)) ≡ ((a || b) || c)
or_assoc true b c = refl
or_assoc false b c = refl

any-more : (bytes : List ℕ) (byte : ℕ) → list_any is_newline (bytes ++ byte ∷ []) ≡ (list_any is_newline bytes || is_newline byte)
any-more [] byte = or_false (is_newline byte)
any-more (b ∷ bytes) byte = rw (any-more bytes byte) (or_assoc (is_newline b) (list_any is_newline bytes) (is_newline byte))

picked : (x y : Bool) (ls ms : List ℕ) (byte : ℕ)
    → cond (x || y) (cond y [] (ls ++ byte ∷ [])) (ms ++ byte ∷ []) ≡ cond y [] (cond x ls ms ++ byte ∷ [])
picked true true ls ms byte = refl
picked true false ls ms byte = refl
picked false true ls ms byte = refl
picked false false ls ms byte = refl

abbrev record_of : ℕ → ℕ → Bool → Place
record_of l c f = record { line = l; column = c; front = f }

-- the newlines with one more byte
count_by-more : (bytes : List ℕ) (byte : ℕ)
    → count_by is_newline (bytes ++ byte ∷ []) ≡ count_by is_newline bytes + cond (is_newline byte) 1 0
count_by-more bytes byte = fold-append _ 0 bytes (byte ∷ [])

-- the last line with one more byte
pub last_line-more : (bytes : List ℕ) (byte : ℕ)
    → last_line (bytes ++ byte ∷ []) ≡ cond (is_newline byte) [] (last_line bytes ++ byte ∷ [])
last_line-more [] byte = rw (or_false (is_newline byte)) refl
last_line-more (b ∷ bytes) byte =
    rw (any-more bytes byte, last_line-more bytes byte, or_assoc (is_newline b) (list_any is_newline bytes) (is_newline byte))
    (picked (is_newline b || list_any is_newline bytes) (is_newline byte) (last_line bytes) (b ∷ bytes) byte)

same_place : (l m c d : ℕ) (f g : Bool) → l ≡ m → c ≡ d → f ≡ g
    → record_of l c f ≡ record_of m d g
same_place l m c d f g lines columns fronts = rw (lines, columns, fronts) refl

and_true : (b : Bool) → (b && true) ≡ b
and_true true = refl
and_true false = refl

by_case : (before : List ℕ) (byte : ℕ) (b : Bool) → is_newline byte ≡ b
    → after_byte (place_behind before) byte ≡ place_behind (before ++ byte ∷ [])
by_case before byte true e =
    rw (last_line-more before byte, count_by-more before byte, e)
    (same_place _ _ _ _ _ _ (omega arith) refl refl)
by_case before byte false e =
    rw (last_line-more before byte, count_by-more before byte, e)
    (same_place _ _ _ _ _ _ (omega arith) (omega (arith, length-append (last_line before) (byte ∷ [])))
    (rw (list_all-append is_blank (last_line before) (byte ∷ []), and_true (is_blank byte)) refl))

-- the place with one more byte
pub place_behind-more : (before : List ℕ) (byte : ℕ) → after_byte (place_behind before) byte ≡ place_behind (before ++ byte ∷ [])
place_behind-more before byte = by_case before byte (is_newline byte) refl

-- the place with more bytes
pub after_bytes-place_behind : (before bytes : List ℕ) → after_bytes (place_behind before) bytes ≡ place_behind (before ++ bytes)
after_bytes-place_behind before [] = rw (append-nil {A = ℕ}) refl
after_bytes-place_behind before (byte ∷ bytes) =
    rw (place_behind-more before byte) (after_bytes-place_behind (before ++ byte ∷ []) bytes ∙ ap place_behind (append_assoc before (byte ∷ []) bytes))
