-- The bytes of a constant, and the function that tells its value.
use Rattle.std.proofs.Common.{◌≡◌, ◌≢◌, ◌⊎◌, ℕ, suc, ◌+◌, ◌≤◌, Bool, true, false, cond, ◌&&◌, ◌||◌, List, [], ◌∷◌, ◌++◌, Some, None, length, take, drop, get_or, eqb, ltb, eq-eqb, true≢false, refl, sym, ◌∙◌, subst, arith, inl, inr, ⊎_elim}
use Rattle.std.specs.List.{list_all, prefix_len}
use Rattle.std.proofs.lemmas.List.{take-append-drop}
use Rattle.std.proofs.Math.Seq.{take-append_seam, drop-append_seam}
use Rattle.std.proofs.lemmas.Bool.{le-ltb, false≢true}
use Rattle.std.proofs.lemmas.Bool.Decides.{nat_tests}
use Rattle.c_tokens.proofs.Both.{and_first, and_second}
use Rattle.c_tokens.specs.Bytes.{is_digit, digit_value, is_digit_in}
use Rattle.c_tokens.specs.Tables.{suffixes}
use Rattle.c_tokens.specs.Constants.{value_in, is_suffix, is_hex_mark, SpellsConstant, decimal, octal, hexadecimal, number_of, is_hexadecimal, constant_of}

-- the length of a run that passes, where none that passes follows
pub prefix_len-run : {X : Type 0} (p : X → Bool) (xs ys : List X) → list_all p xs ≡ true → prefix_len p ys ≡ 0
    → prefix_len p (xs ++ ys) ≡ length xs
prefix_len-run p [] ys all stops = stops
prefix_len-run p (x ∷ xs) ys all stops =
    let here : p x ≡ true = and_first (p x) (list_all p xs) all in
    let more = prefix_len-run p xs ys (and_second (p x) (list_all p xs) all) stops in
    rw (here, more) (omega arith)

all-kept : {X : Type 0} (p : X → Bool) (x : X) (xs : List X) (n : ℕ) (b : Bool) → p x ≡ b
    → list_all p (take n xs) ≡ true → list_all p (take (cond b (1 + n) 0) (x ∷ xs)) ≡ true
all-kept p x xs n true e all = let one : 1 + n ≡ suc n = omega arith in rw (one, e, all) refl
all-kept p x xs n false e all = refl

-- the run at the front passes
pub prefix-passes : {X : Type 0} (p : X → Bool) (xs : List X) → list_all p (take (prefix_len p xs) xs) ≡ true
prefix-passes p [] = refl
prefix-passes p (x ∷ xs) = all-kept p x xs (prefix_len p xs) (p x) refl (prefix-passes p xs)

-- a number of digits and a suffix
number_of-digits : (base : ℕ) (digits suffix : List ℕ) → list_all (is_digit_in base) digits ≡ true
    → prefix_len (is_digit_in base) suffix ≡ 0 → is_suffix suffix ≡ true
    → number_of base (digits ++ suffix) ≡ Some (value_in base digits)
number_of-digits base digits suffix all stops ends =
    rw (prefix_len-run (is_digit_in base) digits suffix all stops, take-append_seam digits suffix, drop-append_seam digits suffix, ends) refl

some_only : {X : Type 0} (b : Bool) (x y : X) → cond b (Some x) None ≡ Some y → (b ≡ true) × (x ≡ y)
some_only true x y e = (refl, cc)
some_only false x y e = absurd cc

-- what a number is made of that begins with this digit
pub record NumberParts (base first : ℕ) (others : List ℕ) (value : ℕ) : Type 0 where
  pub digits : List ℕ
  pub suffix : List ℕ
  pub parts : others ≡ digits ++ suffix
  pub all : list_all (is_digit_in base) digits ≡ true
  pub ends : is_suffix suffix ≡ true
  pub same : value_in base (first ∷ digits) ≡ value

number_of-parts : (base first : ℕ) (others : List ℕ) (value : ℕ) → is_digit_in base first ≡ true
    → number_of base (first ∷ others) ≡ Some value → NumberParts base first others value
number_of-parts base first others value digit e =
    let n : ℕ = prefix_len (is_digit_in base) others in
    let one : 1 + prefix_len (is_digit_in base) others ≡ suc (prefix_len (is_digit_in base) others) = omega arith in
    let found = some_only (is_suffix (drop n others)) (value_in base (first ∷ take n others)) value (rw (digit, one) at e) in
    record {
      digits = take n others;
      suffix = drop n others;
      parts = sym (take-append-drop n others);
      all = prefix-passes (is_digit_in base) others;
      ends = found.0;
      same = found.1;
    }

picked : (p q r s t u : Bool) → ((p && r) || ((q && s) || ((p && t) || ((q && u) || false)))) ≡ true → (p ≡ true) ⊎ (q ≡ true)
picked true q r s t u e = inl refl
picked false true r s t u e = inr refl
picked false false r s t u e = absurd cc

-- a suffix begins with l or L
suffix-letter : (byte : ℕ) (bytes : List ℕ) → is_suffix (byte ∷ bytes) ≡ true → (byte ≡ 108) ⊎ (byte ≡ 76)
unfolding is_suffix suffixes
suffix-letter byte bytes e =
    ⊎_elim (λ (small : eqb 108 byte ≡ true). inl (grind (arith, nat_tests)))
    (λ (great : eqb 76 byte ≡ true). inr (grind (arith, nat_tests)))
    (picked (eqb 108 byte) (eqb 76 byte) _ _ _ _ e)

letter-value : (byte : ℕ) → (byte ≡ 108) ⊎ (byte ≡ 76) → digit_value byte ≡ 16
unfolding digit_value
letter-value byte letter = ⊎_elim (λ (e : byte ≡ 108). rw e refl) (λ (e : byte ≡ 76). rw e refl) letter

letter-mark : (byte : ℕ) → (byte ≡ 108) ⊎ (byte ≡ 76) → is_hex_mark byte ≡ false
letter-mark byte letter = ⊎_elim (λ (e : byte ≡ 108). rw e refl) (λ (e : byte ≡ 76). rw e refl) letter

-- a suffix begins with no digit
suffix-stops : (base : ℕ) (suffix : List ℕ) → base ≤ 16 → is_suffix suffix ≡ true → prefix_len (is_digit_in base) suffix ≡ 0
suffix-stops base [] few e = refl
suffix-stops base (byte ∷ bytes) few e =
    let past : ltb (digit_value byte) base ≡ false = rw (letter-value byte (suffix-letter byte bytes e)) (le-ltb 16 base few) in
    rw past refl

digit-decimal : (byte : ℕ) → is_digit byte ≡ true → is_digit_in 10 byte ≡ true
unfolding digit_value
digit-decimal byte e = rw e (grind (arith, nat_tests))

digit-mark : (byte : ℕ) → is_digit_in 8 byte ≡ true → is_hex_mark byte ≡ false
unfolding digit_value
digit-mark byte e = grind (arith, nat_tests)

no_mark : (digits suffix : List ℕ) → list_all (is_digit_in 8) digits ≡ true → is_suffix suffix ≡ true
    → is_hex_mark (get_or (digits ++ suffix) 0 0) ≡ false
no_mark [] [] all ends = refl
no_mark [] (byte ∷ bytes) all ends = letter-mark byte (suffix-letter byte bytes ends)
no_mark (digit ∷ digits) suffix all ends = digit-mark digit (and_first (is_digit_in 8 digit) (list_all (is_digit_in 8) digits) all)

hex-value : (bytes : List ℕ) → is_hexadecimal bytes ≡ true → constant_of bytes ≡ number_of 16 (drop 2 bytes)
unfolding constant_of
hex-value bytes e = rw e refl

-- the bytes of a constant have its value
pub constant_of-whole : (bytes : List ℕ) (value : ℕ) → SpellsConstant bytes value → constant_of bytes ≡ Some value
unfolding constant_of digit_value
constant_of-whole bytes value (decimal first digits suffix digit nonzero all ends) =
    let other : eqb first 48 ≡ false = grind (arith, nat_tests) in
    rw (other) (number_of-digits 10 (first ∷ digits) suffix (rw (digit-decimal first digit) all) (suffix-stops 10 suffix (omega arith) ends) ends)
constant_of-whole bytes value (octal digits suffix all ends) =
    rw (no_mark digits suffix all ends) (number_of-digits 8 (48 ∷ digits) suffix all (suffix-stops 8 suffix (omega arith) ends) ends)
constant_of-whole bytes value (hexadecimal mark first digits suffix marked digit all ends) =
    hex-value (48 ∷ mark ∷ ((first ∷ digits) ++ suffix)) (rw (marked, digit) refl)
    ∙ (number_of-digits 16 (first ∷ digits) suffix (rw digit all) (suffix-stops 16 suffix (omega arith) ends) ends)

eqb-true : (x y : ℕ) → eqb x y ≡ true → x ≡ y
eqb-true x y e = grind (arith, nat_tests)

decimal_sound : (first : ℕ) (others : List ℕ) (value : ℕ) → is_digit first ≡ true → first ≢ 48
    → number_of 10 (first ∷ others) ≡ Some value → SpellsConstant (first ∷ others) value
decimal_sound first others value digit nonzero e =
    let n = number_of-parts 10 first others value (digit-decimal first digit) e in
    rw (n.parts) (subst (SpellsConstant (first ∷ (n.digits ++ n.suffix))) n.same
    (decimal first n.digits n.suffix digit nonzero n.all n.ends))

octal_sound : (others : List ℕ) (value : ℕ) → number_of 8 (48 ∷ others) ≡ Some value → SpellsConstant (48 ∷ others) value
unfolding digit_value
octal_sound others value e =
    let n = number_of-parts 8 48 others value refl e in
    rw (n.parts) (subst (SpellsConstant (48 ∷ (n.digits ++ n.suffix))) n.same (octal n.digits n.suffix n.all n.ends))

hex_sound : (bytes : List ℕ) (value : ℕ) → is_hexadecimal bytes ≡ true → number_of 16 (drop 2 bytes) ≡ Some value
    → SpellsConstant bytes value
unfolding digit_value
hex_sound [] value h e = absurd cc
hex_sound (b ∷ []) value h e = absurd (false≢true (and_second (eqb b 48) false h))
hex_sound (b ∷ m ∷ []) value h e =
    absurd (false≢true (and_second (is_hex_mark m) false (and_second (eqb b 48) (is_hex_mark m && false) h)))
hex_sound (b ∷ m ∷ d ∷ ds) value h e =
    let zero_led : b ≡ 48 = eqb-true b 48 (and_first (eqb b 48) (is_hex_mark m && is_digit_in 16 d) h) in
    let marks = and_second (eqb b 48) (is_hex_mark m && is_digit_in 16 d) h in
    let digit = and_second (is_hex_mark m) (is_digit_in 16 d) marks in
    let n = number_of-parts 16 d ds value digit e in
    rw (zero_led, n.parts) (subst (SpellsConstant (48 ∷ m ∷ d ∷ (n.digits ++ n.suffix))) n.same
    (hexadecimal m d n.digits n.suffix (and_first (is_hex_mark m) (is_digit_in 16 d) marks) digit n.all n.ends))

by_base : (bytes : List ℕ) (value : ℕ) (hex zero_led : Bool) → is_digit (get_or bytes 0 0) ≡ true
    → is_hexadecimal bytes ≡ hex → eqb (get_or bytes 0 0) 48 ≡ zero_led
    → cond hex (number_of 16 (drop 2 bytes)) (cond zero_led (number_of 8 bytes) (number_of 10 bytes)) ≡ Some value
    → SpellsConstant bytes value
by_base bytes value true z digit h is e = hex_sound bytes value h e
by_base [] value false z digit h is e = absurd cc
by_base (b ∷ bs) value false true digit h is e =
    let zero_led : b ≡ 48 = eqb-true b 48 is in
    rw zero_led (octal_sound bs value (rw zero_led at e))
by_base (b ∷ bs) value false false digit h is e =
    decimal_sound b bs value digit (λ (zero_led : b ≡ 48). absurd (true≢false (sym (eq-eqb b 48 zero_led) ∙ is))) e

-- bytes that have a value are a constant of it
pub constant_of-sound : (bytes : List ℕ) (value : ℕ) → is_digit (get_or bytes 0 0) ≡ true → constant_of bytes ≡ Some value
    → SpellsConstant bytes value
unfolding constant_of
constant_of-sound bytes value digit e = by_base bytes value (is_hexadecimal bytes) (eqb (get_or bytes 0 0) 48) digit refl refl e
