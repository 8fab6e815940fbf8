-- What the program answers for a place, as functions of the text. No contract of a public function cites these: proofs
-- show that they answer what `Lexemes` says.
use Rattle.std.specs.Prelude.{ℕ, ◌<◌, ◌≤◌, ◌==◌, if◌then◌else◌, List, length, take, drop, slice_index, Option, Some, None}
use Rattle.c_tokens.specs.declared.found.Found.{Found}
use Rattle.c_tokens.specs.declared.found.Found.TheVariants.{Gap, Token, NoToken, Unsupported, LiteralRange}
use Rattle.c_tokens.specs.Bytes.{is_digit, is_word_byte, word_len}
use Rattle.c_tokens.specs.Constants.{constant_of}
use Rattle.c_tokens.specs.Tables.{Row, operators}
use Rattle.c_tokens.specs.Lexemes.{token, constant, word_kind, row_at, found_of}

-- The length of what was found, if it has one, is at least 1 and at most this number.
abbrev pub IsWithin : Found → ℕ → Type 0
IsWithin (Gap len) most = (0 < len) × (len ≤ most)
IsWithin (Token kind len) most = (0 < len) × (len ≤ most)
IsWithin NoToken most = Unit {0}
IsWithin (Unsupported len) most = (0 < len) × (len ≤ most)
IsWithin LiteralRange most = Unit {0}

-- what a word is
abbrev pub word_found : List ℕ → Found
word_found word = found_of (token (word_kind word)) (length word)

-- what a constant of this value and this many bytes is, or no token where the bytes are none
abbrev pub value_found : Option ℕ → ℕ → Found
value_found None len = NoToken
value_found (Some value) len = found_of (constant value) len

-- what begins with a digit
abbrev pub constant_found : List ℕ → Found
constant_found text =
    if slice_index (drop (word_len text) text) 0 == 46 then NoToken
    else value_found (constant_of (take (word_len text) text)) (word_len text)

-- what the operator of this row is, or no token where there is none
abbrev pub row_found : Option Row → Found
row_found None = NoToken
row_found (Some row) = found_of (token row.1) (length row.0)

-- what a text begins with in which no gap begins there
unfoldable pub lexeme_found : List ℕ → Found
lexeme_found text =
    if is_digit (slice_index text 0) then constant_found text
    else (if is_word_byte (slice_index text 0) then word_found (take (word_len text) text)
    else row_found (row_at operators text))
