-- The place behind some bytes of a text: its line, its column, and whether it is the front of its line.
use Rattle.std.specs.Prelude.{ℕ, ◌+◌, Bool, if◌then◌else◌, List, [], ◌∷◌, length, count_by}
use Rattle.std.specs.List.{list_any, list_all}
use Rattle.c_tokens.specs.Bytes.{is_blank, is_newline}

-- the bytes behind the last newline
abbrev pub last_line : List ℕ → List ℕ
last_line [] = []
last_line (byte ∷ bytes) = if list_any is_newline (byte ∷ bytes) then last_line bytes else byte ∷ bytes

-- the line behind these bytes: lines end at newlines, and count from 1
abbrev pub line_of : List ℕ → ℕ
line_of before = 1 + count_by is_newline before

-- the column behind these bytes, in bytes from 1
abbrev pub column_of : List ℕ → ℕ
column_of before = 1 + length (last_line before)

-- whether the line has no bytes so far but spaces and tabs
abbrev pub is_line_front : List ℕ → Bool
is_line_front before = list_all is_blank (last_line before)
