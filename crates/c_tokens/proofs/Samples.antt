-- The definitions on small texts.
use Rattle.std.proofs.Common.{◌≡◌, true, false, [], ◌∷◌, Some, None, refl}
use Rattle.std.specs.Prelude.{codes}
use Rattle.c_tokens.specs.declared.kind.Kind.TheVariants as k
use Rattle.c_tokens.specs.declared.found.Found.TheVariants as t
use Rattle.c_tokens.specs.declared.gaps.Opening.TheVariants as o
use Rattle.c_tokens.specs.Bytes.{digit_value}
use Rattle.c_tokens.specs.Places.{line_of, column_of, is_line_front}
use Rattle.c_tokens.specs.Constants.{is_suffix, constant_of}
use Rattle.c_tokens.specs.Tables.{keywords, operators, suffixes}
use Rattle.c_tokens.specs.Lexemes.{word_kind}
use Rattle.c_tokens.specs.Gaps.{is_include, opening_of, line_len}
use Rattle.c_tokens.specs.Scanned.{lexeme_found}

-- Lines and columns count from 1.
place_first : (line_of [] ≡ 1) × (column_of [] ≡ 1)
place_first = (refl, refl)

place_third : (line_of (codes "a\n\n b") ≡ 3) × (column_of (codes "a\n\n b") ≡ 3)
place_third = (refl, refl)

-- Only spaces and tabs stand before the front of a line.
front_blank : is_line_front (codes "a\n \t") ≡ true
front_blank = refl

front_comment : is_line_front (codes "/*\n*/ ") ≡ false
front_comment = refl

front_return : is_line_front (13 ∷ []) ≡ false
front_return = refl

-- Constants have a base and a suffix.
constant_decimal : constant_of (codes "120LL") ≡ Some 120
unfolding constant_of digit_value is_suffix suffixes
constant_decimal = refl

constant_octal : (constant_of (codes "017") ≡ Some 15) × (constant_of (codes "08") ≡ None)
unfolding constant_of digit_value is_suffix suffixes
constant_octal = (refl, refl)

constant_hexadecimal : (constant_of (codes "0Xfl") ≡ Some 15) × (constant_of (codes "0x") ≡ None)
unfolding constant_of digit_value is_suffix suffixes
constant_hexadecimal = (refl, refl)

constant_suffix : (constant_of (codes "5u") ≡ None) × (constant_of (codes "1lL") ≡ None)
unfolding constant_of digit_value is_suffix suffixes
constant_suffix = (refl, refl)

-- Words are keywords, the mark word or names.
word_while : (word_kind (codes "while") ≡ Some k.While) × (word_kind (codes "float") ≡ None)
unfolding keywords
word_while = (refl, refl)

word_mark : (word_kind (codes "__mark") ≡ Some k.MarkWord) × (word_kind (codes "whil") ≡ Some (k.Word (codes "whil")))
unfolding keywords
word_mark = (refl, refl)

-- The longest operator is the one that stands there.
operator_longest : (lexeme_found (codes "<=b") ≡ t.Token k.LessEq 2) × (lexeme_found (codes "<<=b") ≡ t.Unsupported 3)
unfolding lexeme_found operators
operator_longest = (refl, refl)

-- division's operators, behind which no comment begins
operator_division : (lexeme_found (codes "/ /") ≡ t.Token k.Slash 1) × (lexeme_found (codes "/=b") ≡ t.Token k.SlashAssign 2)
    × (lexeme_found (codes "%b") ≡ t.Token k.Percent 1) × (lexeme_found (codes "%=b") ≡ t.Token k.PercentAssign 2)
unfolding lexeme_found operators
operator_division = (refl, refl, refl, refl)

operator_percent : (lexeme_found (codes "%:%:") ≡ t.Unsupported 4) × (lexeme_found (codes "%:%") ≡ t.Unsupported 2)
unfolding lexeme_found operators
operator_percent = (refl, refl)

operator_none : lexeme_found (codes "@") ≡ t.NoToken
unfolding lexeme_found operators
operator_none = refl

-- A constant ends where a token may begin.
constant_place : (lexeme_found (codes "0xE+1") ≡ t.Token (k.Constant 14) 3) × (lexeme_found (codes "1.5") ≡ t.NoToken)
unfolding lexeme_found constant_of digit_value is_suffix suffixes
constant_place = (refl, refl)

-- What begins at a place.
opening_comment : (opening_of false (codes "/*/") ≡ o.Comment) × (opening_of false (codes "//=") ≡ o.Line)
unfolding opening_of
opening_comment = (refl, refl)

opening_include : (opening_of true (codes "# \tinclude<a>/*") ≡ o.Line) × (opening_of false (codes "#include") ≡ o.Other)
unfolding opening_of is_include
opening_include = (refl, refl)

opening_includes : (opening_of true (codes "#includes") ≡ o.Other) × (opening_of true (codes "##include") ≡ o.Other)
unfolding opening_of is_include
opening_includes = (refl, refl)

skipped_line : line_len (codes "#include /*\na") ≡ 11
skipped_line = refl
