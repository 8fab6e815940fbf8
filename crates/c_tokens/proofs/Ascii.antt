-- The bytes of words and of operators are ASCII.
use Rattle.std.proofs.Common.{◌≡◌, ℕ, ◌^◌, Bool, true, false, cond, List, ◌∷◌, Some, None, length, take, drop, refl, subst}
use Rattle.std.specs.Prelude.{IsUtf8, nat_lt}
use Rattle.std.specs.List.{list_all}
use Rattle.std.proofs.Math.Seq.{take-append_seam}
use Rattle.c_tokens.specs.declared.kind.Kind.TheVariants.{Constant}
use Rattle.c_tokens.specs.declared.found.Found.{Found}
use Rattle.c_tokens.specs.declared.found.Found.TheVariants.{Token, Unsupported, LiteralRange}
use Rattle.c_tokens.specs.declared.gaps.Opening.{Opening}
use Rattle.c_tokens.specs.declared.gaps.Opening.TheVariants.{White, Comment, Line, Other}
use Rattle.c_tokens.specs.Tables.{Row, operators}
use Rattle.c_tokens.specs.Lexemes.{Lexeme, token, constant, Spells, word, number, operator, found_of, LexemeFound, lexeme, none}
use Rattle.c_tokens.specs.Gaps.{CommentFound, closed, open_ended, FoundBy, opening_of, Stands}
use Rattle.c_tokens.proofs.Rows.{found-all}
use Rattle.c_tokens.proofs.LexemeLaws.{letter-word, constant-words, operator-sign}
use Rattle.c_tokens.proofs.WordText.{words-utf8, ascii-utf8}

is_ascii_row : Row → Bool
is_ascii_row row = list_all (λ byte. nat_lt byte 128) row.0

operators-ascii : list_all is_ascii_row operators ≡ true
unfolding operators is_ascii_row
operators-ascii = refl

-- a lexeme is text
spelled-utf8 : (one : Lexeme) (bytes : List ℕ) → Spells one bytes → IsUtf8 bytes
unfolding is_ascii_row
spelled-utf8 one bytes (word first others letter all) = words-utf8 (first ∷ others) (rw (letter-word first letter, all) refl)
spelled-utf8 one bytes (number _ value c) = words-utf8 bytes (constant-words bytes value c)
spelled-utf8 one bytes (operator _ row e) =
    subst IsUtf8 (operator-sign bytes row e).same (ascii-utf8 row.0 (found-all _ is_ascii_row operators row operators-ascii e))

outside_len : (one : Lexeme) (n len : ℕ) → found_of one n ≡ Unsupported len → n ≡ len
outside_len (token None) n len e = cc
outside_len (token (Some kind)) n len e = absurd cc
outside_len (constant value) n len e =
    elim (nat_lt value (2 ^ 63)) as (λ b. cond b (Token (Constant value) n) LiteralRange ≡ Unsupported len → n ≡ len) [
      | true ↦ λ f. absurd cc
      | false ↦ λ f. absurd cc
    ] e

lexeme-utf8 : (text : List ℕ) (found : Found) (len : ℕ) → LexemeFound text found → found ≡ Unsupported len → IsUtf8 (take len text)
lexeme-utf8 text found len (lexeme bytes one at) e =
    rw (← outside_len one (length bytes) len e, at.parts, take-append_seam bytes at.behind) (spelled-utf8 one bytes at.spells)
lexeme-utf8 text found len (none refuted) e = absurd cc

comment_inside : (body : List ℕ) (found : Found) (len : ℕ) → CommentFound body found → found ≡ Unsupported len → ⊥
comment_inside body found len (closed n at before) e = cc
comment_inside body found len (open_ended refuted) e = cc

by_opening : (opening : Opening) (text : List ℕ) (found : Found) (len : ℕ) → FoundBy opening text found → found ≡ Unsupported len
    → IsUtf8 (take len text)
by_opening White text found len f e = absurd cc
by_opening Comment text found len f e = absurd (comment_inside (drop 2 text) found len f e)
by_opening Line text found len f e = absurd cc
by_opening Other text found len f e = lexeme-utf8 text found len f e

-- what is outside the profile is text
pub Unsupported-utf8 : (front : Bool) (text : List ℕ) (found : Found) (len : ℕ) → Stands front text found → found ≡ Unsupported len
    → IsUtf8 (take len text)
Unsupported-utf8 front text found len stands e = by_opening (opening_of front text) text found len stands e
