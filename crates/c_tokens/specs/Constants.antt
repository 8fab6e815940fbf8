-- Which bytes are a constant, and of which value (ISO C11, 6.4.4.1).
use Rattle.std.specs.Prelude.{◌≡◌, ◌≢◌, ℕ, ◌+◌, ◌*◌, Bool, true, ◌&&◌, ◌||◌, ◌==◌, if◌then◌else◌, List, [], ◌∷◌, ◌++◌, Option, Some, None, take, drop, slice_index, bytes_eq}
use Rattle.std.specs.List.{list_any, list_all, prefix_len}
use Rattle.c_tokens.specs.Tables.{suffixes}
use Rattle.c_tokens.specs.Bytes.{is_digit, digit_value, is_digit_in}

-- the value of more digits of a base, behind a value
abbrev pub value_from : ℕ → ℕ → List ℕ → ℕ
value_from base value [] = value
value_from base value (digit ∷ digits) = value_from base (value * base + digit_value digit) digits

-- the value of digits of a base
abbrev pub value_in : ℕ → List ℕ → ℕ
value_in base digits = value_from base 0 digits

-- whether the bytes are a suffix
unfoldable pub is_suffix : List ℕ → Bool
is_suffix bytes = list_any (λ suffix. bytes_eq suffix bytes) suffixes

-- the letter of a hexadecimal prefix: x or X
abbrev pub is_hex_mark : ℕ → Bool
is_hex_mark byte = byte == 120 || byte == 88

-- The bytes are a constant of this value.
pub data SpellsConstant : List ℕ → ℕ → Type 0 where
  -- A digit other than 0, then digits.
  decimal : (first : ℕ) (digits suffix : List ℕ) → is_digit first ≡ true → first ≢ 48
      → list_all (is_digit_in 10) digits ≡ true → is_suffix suffix ≡ true
      → SpellsConstant ((first ∷ digits) ++ suffix) (value_in 10 (first ∷ digits))
  -- A digit 0, then digits below 8.
  octal : (digits suffix : List ℕ) → list_all (is_digit_in 8) digits ≡ true → is_suffix suffix ≡ true
      → SpellsConstant ((48 ∷ digits) ++ suffix) (value_in 8 digits)
  -- `0x` or `0X`, then one hexadecimal digit or more.
  hexadecimal : (mark first : ℕ) (digits suffix : List ℕ) → is_hex_mark mark ≡ true
      → is_digit_in 16 first ≡ true → list_all (is_digit_in 16) digits ≡ true → is_suffix suffix ≡ true
      → SpellsConstant (48 ∷ mark ∷ ((first ∷ digits) ++ suffix)) (value_in 16 (first ∷ digits))

-- the value of digits of a base with a suffix, where the bytes are that
abbrev pub number_of : ℕ → List ℕ → Option ℕ
number_of base bytes =
    if is_suffix (drop (prefix_len (is_digit_in base) bytes) bytes)
    then Some (value_in base (take (prefix_len (is_digit_in base) bytes) bytes)) else None

-- whether the bytes begin as a hexadecimal constant
abbrev pub is_hexadecimal : List ℕ → Bool
is_hexadecimal bytes =
    slice_index bytes 0 == 48 && (is_hex_mark (slice_index bytes 1) && is_digit_in 16 (slice_index bytes 2))

-- the value of bytes that begin with a digit, where they are a constant
unfoldable pub constant_of : List ℕ → Option ℕ
constant_of bytes =
    if is_hexadecimal bytes then number_of 16 (drop 2 bytes)
    else (if slice_index bytes 0 == 48 then number_of 8 bytes else number_of 10 bytes)
