-- Classes of bytes (ISO C11, 5.2.1).
use Rattle.std.specs.Prelude.{ℕ, ◌-◌, Bool, ◌&&◌, ◌||◌, ◌==◌, nat_le, nat_lt, if◌then◌else◌, List}
use Rattle.std.specs.List.{prefix_len}

-- space, tab, newline, vertical tab, form feed and carriage return
abbrev pub is_white : ℕ → Bool
is_white byte = byte == 32 || (nat_le 9 byte && nat_le byte 13)

-- space and tab
abbrev pub is_blank : ℕ → Bool
is_blank byte = byte == 32 || byte == 9

-- the byte at which a line ends
abbrev pub is_newline : ℕ → Bool
is_newline byte = byte == 10

-- a decimal digit
abbrev pub is_digit : ℕ → Bool
is_digit byte = nat_le 48 byte && nat_le byte 57

-- a letter or an underscore
abbrev pub is_letter : ℕ → Bool
is_letter byte = (nat_le 65 byte && nat_le byte 90) || (nat_le 97 byte && nat_le byte 122) || byte == 95

-- a letter, a digit or an underscore
abbrev pub is_word_byte : ℕ → Bool
is_word_byte byte = is_letter byte || is_digit byte

-- the value of a digit of a base up to 16, and 16 for any other byte
unfoldable pub digit_value : ℕ → ℕ
digit_value byte =
    if is_digit byte then byte - 48
    else (if nat_le 65 byte && nat_le byte 70 then byte - 55
    else (if nat_le 97 byte && nat_le byte 102 then byte - 87 else 16))

-- whether the byte is a digit of the base
abbrev pub is_digit_in : ℕ → ℕ → Bool
is_digit_in base byte = nat_lt (digit_value byte) base

-- the length of the longest run of letters, digits and underscores at the front
abbrev pub word_len : List ℕ → ℕ
word_len = prefix_len is_word_byte
