-- Which bytes are a keyword, a name, an operator or a constant, and which of these stands at the front of a text
-- (ISO C11, 6.4). Those outside the profile are among them.
use Rattle.std.specs.Prelude.{◌≡◌, ℕ, ◌^◌, ◌≤◌, Bool, true, false, ◌||◌, ◌==◌, nat_eq, nat_lt, if◌then◌else◌, List, ◌∷◌, ◌++◌, length, slice_index, Option, Some, None, bytes_eq, codes, find}
use Rattle.std.specs.List.{list_all, starts_with}
use Rattle.c_tokens.specs.declared.kind.Kind.{Kind}
use Rattle.c_tokens.specs.declared.kind.Kind.TheVariants.{Word, MarkWord, Constant}
use Rattle.c_tokens.specs.declared.found.Found.{Found}
use Rattle.c_tokens.specs.declared.found.Found.TheVariants.{Token, NoToken, Unsupported, LiteralRange}
use Rattle.c_tokens.specs.Tables.{Row, keywords, operators}
use Rattle.c_tokens.specs.Bytes.{is_letter, is_word_byte}
use Rattle.c_tokens.specs.Constants.{SpellsConstant}

-- A lexeme is what the standard calls a token (6.4), of this profile or not.
pub data Lexeme : Type 0 where
  -- a keyword, a name or an operator, with its kind where the profile has it
  token : Option Kind → Lexeme
  -- a constant of this value
  constant : ℕ → Lexeme

-- the first row with this spelling
abbrev pub row_with : List Row → List ℕ → Option Row
row_with rows bytes = find (λ row. bytes_eq row.0 bytes) rows

-- the first row whose spelling stands at the front of the text
abbrev pub row_at : List Row → List ℕ → Option Row
row_at rows text = find (λ row. starts_with nat_eq text row.0) rows

-- the kind in a row, or else that of a word in no row: the mark word, or a name
abbrev pub kind_in : Option Row → List ℕ → Option Kind
kind_in (Some row) word = row.1
kind_in None word = if bytes_eq word (codes "__mark") then Some MarkWord else Some (Word word)

-- the kind of a word, where the profile has it
abbrev pub word_kind : List ℕ → Option Kind
word_kind word = kind_in (row_with keywords word) word

-- The bytes are this lexeme.
pub data Spells : Lexeme → List ℕ → Type 0 where
  -- A word (6.4.1, 6.4.2) is a letter or an underscore, then letters, digits and underscores.
  word : (first : ℕ) (others : List ℕ) → is_letter first ≡ true → list_all is_word_byte others ≡ true
      → Spells (token (word_kind (first ∷ others))) (first ∷ others)
  -- A constant is spelled by 6.4.4.1.
  number : (bytes : List ℕ) (value : ℕ) → SpellsConstant bytes value → Spells (constant value) bytes
  -- An operator (6.4.6) is a row of its table.
  operator : (bytes : List ℕ) (row : Row) → row_with operators bytes ≡ Some row → Spells (token row.1) bytes

-- whether a letter, a digit, an underscore or a point stands at the front
abbrev pub runs_on : List ℕ → Bool
runs_on text = is_word_byte (slice_index text 0) || slice_index text 0 == 46

-- No constant goes on into what stands behind it.
abbrev pub Ends : Lexeme → List ℕ → Type 0
Ends (token kind) behind = Unit {0}
Ends (constant value) behind = runs_on behind ≡ false

-- The lexeme stands at the front of the text with these bytes: they are its longest match (6.4).
pub record LexemeAt (text bytes : List ℕ) (lexeme : Lexeme) : Type 0 where
  pub behind : List ℕ
  pub parts : text ≡ bytes ++ behind
  pub spells : Spells lexeme bytes
  pub longest : (others after : List ℕ) (other : Lexeme) → text ≡ others ++ after → Spells other others
      → length others ≤ length bytes
  pub ends : Ends lexeme behind

-- what a lexeme of this many bytes is to the profile, whose constants are below 2^63
abbrev pub found_of : Lexeme → ℕ → Found
found_of (token (Some kind)) len = Token kind len
found_of (token None) len = Unsupported len
found_of (constant value) len = if nat_lt value (2 ^ 63) then Token (Constant value) len else LiteralRange

-- What stands at the front of a text in which no gap begins there: a lexeme, or none.
pub data LexemeFound (text : List ℕ) : Found → Type 0 where
  lexeme : (bytes : List ℕ) (lexeme : Lexeme) → LexemeAt text bytes lexeme
      → LexemeFound text (found_of lexeme (length bytes))
  none : ((bytes : List ℕ) (lexeme : Lexeme) → ¬ LexemeAt text bytes lexeme) → LexemeFound text NoToken
