-- Gaps, and what stands at a place in general.
use Rattle.std.proofs.Common.{◌≡◌, ℕ, ◌<◌, ◌≤◌, Bool, true, false, List, [], ◌∷◌, length, drop, get_or, refl, sym, ◌∙◌, arith, IfOk, Result, Ok, Err, ⊎_elim}
use Rattle.std.specs.Prelude.{not}
use Rattle.std.proofs.lemmas.Bool.Decides.{nat_tests}
use Rattle.std.proofs.lemmas.Bool.{cases_lt}
use Rattle.c_tokens.specs.declared.found.Found.{Found}
use Rattle.c_tokens.specs.declared.gaps.Opening.{Opening}
use Rattle.c_tokens.specs.declared.gaps.Opening.TheVariants.{White, Comment, Line, Other}
use Rattle.c_tokens.specs.Bytes.{is_white, is_newline}
use Rattle.c_tokens.specs.Gaps.{line_len, opening_of, CommentFound, closed, open_ended, FoundBy, Stands}
use Rattle.c_tokens.specs.Scanned.{IsWithin, lexeme_found}
use Rattle.c_tokens.proofs.FoundLaws.{lexeme_found-sound, LexemeFound-within, LexemeFound-one}

white-newline : (byte : ℕ) → is_white byte ≡ false → not (is_newline byte) ≡ true
white-newline byte e = grind (arith, nat_tests)

-- a line that begins with no white space has a byte
pub line-some : (text : List ℕ) → 0 < length text → is_white (get_or text 0 0) ≡ false → 0 < line_len text
line-some [] some e = absurd (omega arith)
line-some (byte ∷ bytes) some e = rw (white-newline byte e) (omega arith)

pub Stands-other : (front : Bool) (text : List ℕ) (found : Found) → 0 < length text → opening_of front text ≡ Other
    → found ≡ lexeme_found text → Stands front text found
Stands-other front text found some opening is =
    rw (opening, is) (lexeme_found-sound text some)

pub IsWithin-other : (text : List ℕ) (found : Found) → 0 < length text → found ≡ lexeme_found text → IsWithin found (length text)
IsWithin-other text found some is = rw is (LexemeFound-within text (lexeme_found text) (lexeme_found-sound text some))

ordered : (m n : ℕ) → (m < n → ⊥) → (n < m → ⊥) → m ≡ n
ordered m n f g =
    ⊎_elim (λ (lt : m < n). absurd (f lt)) (λ (ge : n ≤ m). ⊎_elim (λ (gt : n < m). absurd (g gt)) (λ (le : m ≤ n). omega arith) (cases_lt n m))
    (cases_lt m n)

comment_one : (body : List ℕ) (f g : Found) → CommentFound body f → CommentFound body g → f ≡ g
comment_one body f g (closed m at before) (closed n from earlier) =
    let same : m ≡ n = ordered m n (λ (lt : m < n). earlier m lt at) (λ (gt : n < m). before n gt from) in rw same refl
comment_one body f g (closed m at before) (open_ended refuted) = absurd (refuted m at)
comment_one body f g (open_ended refuted) (closed n from earlier) = absurd (refuted n from)
comment_one body f g (open_ended refuted) (open_ended also) = refl

found_one : (opening : Opening) (text : List ℕ) (f g : Found) → FoundBy opening text f → FoundBy opening text g → f ≡ g
found_one White text f g e h = e ∙ sym h
found_one Comment text f g e h = comment_one (drop 2 text) f g e h
found_one Line text f g e h = e ∙ sym h
found_one Other text f g e h = LexemeFound-one text f g e h

-- one thing at most stands at a place
pub Stands-one : (front : Bool) (text : List ℕ) (f g : Found) → Stands front text f → Stands front text g → f ≡ g
Stands-one front text f g = found_one (opening_of front text) text f g

pub Stands-other_ok : {E : Type 0} (front : Bool) (text : List ℕ) (result : Result Found E) → 0 < length text → opening_of front text ≡ Other
    → IfOk result (λ found. found ≡ lexeme_found text) → IfOk result (Stands front text)
Stands-other_ok front text (Ok found) some opening is = Stands-other front text found some opening is
Stands-other_ok front text (Err e) some opening is = tt

pub IsWithin-other_ok : {E : Type 0} (text : List ℕ) (result : Result Found E) → 0 < length text
    → IfOk result (λ found. found ≡ lexeme_found text) → IfOk result (λ found. IsWithin found (length text))
IsWithin-other_ok text (Ok found) some is = IsWithin-other text found some is
IsWithin-other_ok text (Err e) some is = tt
