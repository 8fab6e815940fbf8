-- Lexemes and the function that tells them.
use Rattle.std.proofs.Common.{◌≡◌, ℕ, ◌<◌, ◌≤◌, Bool, true, false, cond, ◌&&◌, ◌||◌, List, [], ◌∷◌, ◌++◌, Option, Some, length, get_or, option_map, bytes_eq, refl, sym, ◌∙◌, arith}
use Rattle.std.specs.Prelude.{not, nat_lt}
use Rattle.std.specs.List.{list_all, list_any}
use Rattle.std.proofs.lemmas.Bool.{false≢true}
use Rattle.std.proofs.lemmas.Bool.Decides.{nat_tests}
use Rattle.std.proofs.lemmas.List.Folds.{list_all-append}
use Rattle.c_tokens.specs.Bytes.{is_digit, is_letter, is_word_byte, digit_value, is_digit_in}
use Rattle.c_tokens.specs.Constants.{is_suffix, is_hex_mark, SpellsConstant, decimal, octal, hexadecimal, constant_of}
use Rattle.c_tokens.specs.Tables.{Row, operators, suffixes}
use Rattle.c_tokens.specs.Lexemes.{Lexeme, token, constant, row_with, word_kind, Spells, word, number, operator}
use Rattle.c_tokens.proofs.Both.{and_first, and_second}
use Rattle.c_tokens.proofs.ConstantLaws.{constant_of-whole}
use Rattle.c_tokens.proofs.Rows.{found-passes, found-all, bytes_eq-same}

pub digit-letter : (byte : ℕ) → is_digit byte ≡ true → is_letter byte ≡ false
digit-letter byte e = grind (arith, nat_tests)

pub digit-word : (byte : ℕ) → is_digit byte ≡ true → is_word_byte byte ≡ true
digit-word byte e = rw (digit-letter byte e, e) refl

pub letter-word : (byte : ℕ) → is_letter byte ≡ true → is_word_byte byte ≡ true
letter-word byte e = rw e refl

-- a constant begins with a digit
pub constant-first : (bytes : List ℕ) (value : ℕ) → SpellsConstant bytes value → is_digit (get_or bytes 0 0) ≡ true
constant-first bytes value (decimal first digits suffix digit nonzero all ends) = digit
constant-first bytes value (octal digits suffix all ends) = refl
constant-first bytes value (hexadecimal mark first digits suffix marked digit all ends) = refl

base-word : (base byte : ℕ) → base ≤ 16 → is_digit_in base byte ≡ true → is_word_byte byte ≡ true
unfolding digit_value
base-word base byte few e = grind (arith, nat_tests)

digits-words : (base : ℕ) (digits : List ℕ) → base ≤ 16 → list_all (is_digit_in base) digits ≡ true → list_all is_word_byte digits ≡ true
digits-words base [] few all = refl
digits-words base (digit ∷ digits) few all =
    let here = base-word base digit few (and_first (is_digit_in base digit) (list_all (is_digit_in base) digits) all) in
    let more = digits-words base digits few (and_second (is_digit_in base digit) (list_all (is_digit_in base) digits) all) in
    rw (here, more) refl

mark-word : (byte : ℕ) → is_hex_mark byte ≡ true → is_word_byte byte ≡ true
mark-word byte e = grind (arith, nat_tests)

-- what each of some words passes, bytes that are one of them pass
among : (words : List (List ℕ)) (q : List ℕ → Bool) (bytes : List ℕ) → list_all q words ≡ true
    → list_any (λ each. bytes_eq each bytes) words ≡ true → q bytes ≡ true
among [] q bytes all e = absurd cc
among (each ∷ words) q bytes all e =
    elim (bytes_eq each bytes) as (λ b. bytes_eq each bytes ≡ b
    → (b || list_any (λ each. bytes_eq each bytes) words) ≡ true → q bytes ≡ true) [
      | true ↦ λ here any. rw (← bytes_eq-same each bytes here) (and_first (q each) (list_all q words) all)
      | false ↦ λ here any. among words q bytes (and_second (q each) (list_all q words) all) any
    ] refl e

suffix-words : (suffix : List ℕ) → is_suffix suffix ≡ true → list_all is_word_byte suffix ≡ true
unfolding is_suffix suffixes
suffix-words suffix e = among suffixes (list_all is_word_byte) suffix refl e

both-words : (digits suffix : List ℕ) → list_all is_word_byte digits ≡ true → is_suffix suffix ≡ true
    → list_all is_word_byte (digits ++ suffix) ≡ true
both-words digits suffix all ends = rw (list_all-append is_word_byte digits suffix, all, suffix-words suffix ends) refl

-- a constant has letters and digits alone
pub constant-words : (bytes : List ℕ) (value : ℕ) → SpellsConstant bytes value → list_all is_word_byte bytes ≡ true
constant-words bytes value (decimal first digits suffix digit nonzero all ends) =
    rw (digit-word first digit, both-words digits suffix (digits-words 10 digits (omega arith) all) ends) refl
constant-words bytes value (octal digits suffix all ends) = both-words digits suffix (digits-words 8 digits (omega arith) all) ends
constant-words bytes value (hexadecimal mark first digits suffix marked digit all ends) =
    rw (mark-word mark marked, base-word 16 first (omega arith) digit, both-words digits suffix (digits-words 16 digits (omega arith) all) ends) refl

-- whether a row begins with a byte of no word
abbrev begins_with_sign : Row → Bool
begins_with_sign row = not (is_word_byte (get_or row.0 0 0)) && nat_lt 0 (length row.0)

operators-signs : list_all begins_with_sign operators ≡ true
unfolding operators
operators-signs = refl

-- an operator is no empty text, and begins with a byte of no word
pub record IsSign (bytes : List ℕ) (row : Row) : Type 0 where
  pub same : row.0 ≡ bytes
  pub other : is_word_byte (get_or bytes 0 0) ≡ false
  pub some : 0 < length bytes

pub not-false : (b : Bool) → not b ≡ true → b ≡ false
not-false true e = absurd cc
not-false false e = refl

less : (m n : ℕ) → nat_lt m n ≡ true → m < n
less m n e = grind (arith, nat_tests)

pub operator-sign : (bytes : List ℕ) (row : Row) → row_with operators bytes ≡ Some row → IsSign bytes row
operator-sign bytes row e =
    let same = bytes_eq-same row.0 bytes (found-passes (λ (r : Row). bytes_eq r.0 bytes) operators row e) in
    let sign = found-all (λ (r : Row). bytes_eq r.0 bytes) begins_with_sign operators row operators-signs e in
    record {
      same = same;
      other = rw (← same) (not-false (is_word_byte (get_or row.0 0 0)) (and_first (not (is_word_byte (get_or row.0 0 0))) (nat_lt 0 (length row.0)) sign));
      some = rw (← same) (less 0 (length row.0) (and_second (not (is_word_byte (get_or row.0 0 0))) (nat_lt 0 (length row.0)) sign));
    }

no_letter : (byte : ℕ) → is_word_byte byte ≡ false → is_letter byte ≡ false
no_letter byte e = grind (arith, nat_tests)

no_digit : (byte : ℕ) → is_word_byte byte ≡ false → is_digit byte ≡ false
no_digit byte e = grind (arith, nat_tests)

-- the lexeme that bytes are
abbrev pub lexeme_of : List ℕ → Option Lexeme
lexeme_of bytes =
    cond (is_letter (get_or bytes 0 0)) (Some (token (word_kind bytes)))
    (cond (is_digit (get_or bytes 0 0)) (option_map constant (constant_of bytes))
    (option_map (λ (row : Row). token row.1) (row_with operators bytes)))

pub lexeme_of-spelled : (lexeme : Lexeme) (bytes : List ℕ) → Spells lexeme bytes → lexeme_of bytes ≡ Some lexeme
lexeme_of-spelled lexeme bytes (word first others letter all) = rw letter refl
lexeme_of-spelled lexeme bytes (number _ value c) =
    let digit = constant-first bytes value c in
    rw (digit-letter (get_or bytes 0 0) digit, digit, constant_of-whole bytes value c) refl
lexeme_of-spelled lexeme bytes (operator _ row e) =
    let sign = operator-sign bytes row e in
    rw (no_letter (get_or bytes 0 0) sign.other, no_digit (get_or bytes 0 0) sign.other, e) refl

-- bytes are one lexeme at most
pub Spells-one : (one other : Lexeme) (bytes : List ℕ) → Spells one bytes → Spells other bytes → one ≡ other
Spells-one one other bytes s t = let e = lexeme_of-spelled one bytes s in let f = lexeme_of-spelled other bytes t in cc

constant-some : (bytes : List ℕ) (value : ℕ) → SpellsConstant bytes value → 0 < length bytes
constant-some bytes value (decimal first digits suffix digit nonzero all ends) = omega arith
constant-some bytes value (octal digits suffix all ends) = omega arith
constant-some bytes value (hexadecimal mark first digits suffix marked digit all ends) = omega arith

pub spelled-some : (lexeme : Lexeme) (bytes : List ℕ) → Spells lexeme bytes → 0 < length bytes
spelled-some lexeme bytes (word first others letter all) = omega arith
spelled-some lexeme bytes (number _ value c) = constant-some bytes value c
spelled-some lexeme bytes (operator _ row e) = (operator-sign bytes row e).some

pub spelled-words : (lexeme : Lexeme) (bytes : List ℕ) → Spells lexeme bytes → is_word_byte (get_or bytes 0 0) ≡ true
    → list_all is_word_byte bytes ≡ true
spelled-words lexeme bytes (word first others letter all) w = rw (letter-word first letter, all) refl
spelled-words lexeme bytes (number _ value c) w = constant-words bytes value c
spelled-words lexeme bytes (operator _ row e) w = absurd (false≢true (sym (operator-sign bytes row e).other ∙ w))
