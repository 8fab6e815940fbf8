-- What may stand between tokens: white space, comments (ISO C11, 6.4.9) and `#include` lines (6.10.2).
use Rattle.std.specs.Prelude.{◌≡◌, ℕ, ◌+◌, ◌<◌, Bool, ◌&&◌, ◌||◌, ◌==◌, not, nat_eq, if◌then◌else◌, List, take, drop, slice_index, bytes_eq, codes}
use Rattle.std.specs.List.{starts_with, prefix_len}
use Rattle.c_tokens.specs.declared.found.Found.{Found}
use Rattle.c_tokens.specs.declared.found.Found.TheVariants.{Gap, NoToken}
use Rattle.c_tokens.specs.declared.gaps.Opening.{Opening}
use Rattle.c_tokens.specs.declared.gaps.Opening.TheVariants.{White, Comment, Line, Other}
use Rattle.c_tokens.specs.Bytes.{is_white, is_blank, is_newline, word_len}
use Rattle.c_tokens.specs.Lexemes.{LexemeFound}

-- the length of the first line
abbrev pub line_len : List ℕ → ℕ
line_len = prefix_len (λ byte. not (is_newline byte))

-- the text behind its first blanks
abbrev pub behind_blanks : List ℕ → List ℕ
behind_blanks text = drop (prefix_len is_blank text) text

-- the longest word at the front
abbrev pub first_word : List ℕ → List ℕ
first_word text = take (word_len text) text

-- whether a `#`, blanks and the word `include` stand at the front
unfoldable pub is_include : List ℕ → Bool
is_include text =
    slice_index text 0 == 35 && bytes_eq (first_word (behind_blanks (drop 1 text))) (codes "include")

-- what begins at the front of a text: white space, a comment, a line that is skipped (a comment of one line, or an
-- `#include` line, whose `#` has only blanks before it on its line), or something else
unfoldable pub opening_of : Bool → List ℕ → Opening
opening_of front text =
    if is_white (slice_index text 0) then White
    else (if starts_with nat_eq text (codes "/*") then Comment
    else (if starts_with nat_eq text (codes "//") || (front && is_include text) then Line else Other))

-- `*/` stands at the index.
abbrev pub IsEndAt : List ℕ → ℕ → Type 0
IsEndAt body index = (slice_index body index ≡ 42) × (slice_index body (index + 1) ≡ 47)

-- What a comment is whose `/*` stands before this text: it ends at the first `*/`, or is not closed.
pub data CommentFound (body : List ℕ) : Found → Type 0 where
  closed : (len : ℕ) → IsEndAt body len → ((index : ℕ) → index < len → ¬ IsEndAt body index)
      → CommentFound body (Gap (len + 4))
  open_ended : ((index : ℕ) → ¬ IsEndAt body index) → CommentFound body NoToken

-- What stands at the front of a text, by what begins there.
abbrev pub FoundBy : Opening → List ℕ → Found → Type 0
FoundBy White text found = found ≡ Gap 1
FoundBy Comment text found = CommentFound (drop 2 text) found
FoundBy Line text found = found ≡ Gap (line_len text)
FoundBy Other text found = LexemeFound text found

-- What stands at the front of a text that is not empty; `front` says whether it is the front of a line, blanks aside.
abbrev pub Stands : Bool → List ℕ → Found → Type 0
Stands front text found = FoundBy (opening_of front text) text found
