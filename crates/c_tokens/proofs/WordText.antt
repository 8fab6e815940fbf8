-- Words are text.
use Rattle.std.proofs.Common.{◌≡◌, ℕ, zero, suc, ◌<◌, Bool, true, List, [], ◌∷◌, arith}
use Rattle.std.specs.Prelude.{IsAscii, IsUtf8, nat_lt}
use Rattle.std.specs.List.{list_all}
use Rattle.std.proofs.lemmas.Bool.Decides.{nat_tests}
use Rattle.std.proofs.lemmas.Str.{IsUtf8-from_ascii}
use Rattle.c_tokens.specs.Bytes.{is_word_byte}
use Rattle.c_tokens.proofs.Both.{and_first, and_second}

ascii_word : (byte : ℕ) → is_word_byte byte ≡ true → byte < 128
ascii_word byte e = grind (arith, nat_tests)

ascii_byte : (byte : ℕ) → nat_lt byte 128 ≡ true → byte < 128
ascii_byte byte e = grind (arith, nat_tests)

all-ascii : (p : ℕ → Bool) → ((byte : ℕ) → p byte ≡ true → byte < 128) → (run : List ℕ) → list_all p run ≡ true → IsAscii run
all-ascii p small [] e i = omega arith
all-ascii p small (byte ∷ bytes) e zero = small byte (and_first (p byte) _ e)
all-ascii p small (byte ∷ bytes) e (suc i) = all-ascii p small bytes (and_second (p byte) _ e) i

pub words-utf8 : (run : List ℕ) → list_all is_word_byte run ≡ true → IsUtf8 run
words-utf8 run e = IsUtf8-from_ascii run (all-ascii is_word_byte ascii_word run e)

pub ascii-utf8 : (run : List ℕ) → list_all (λ byte. nat_lt byte 128) run ≡ true → IsUtf8 run
ascii-utf8 run e = IsUtf8-from_ascii run (all-ascii (λ byte. nat_lt byte 128) ascii_byte run e)
