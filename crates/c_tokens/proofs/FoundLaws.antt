-- What stands at a place is what the program answers for it, and nothing else.
use Rattle.std.proofs.Common.{◌≡◌, ◌≢◌, ℕ, suc, ◌+◌, ◌<◌, ◌≤◌, ◌^◌, Bool, true, false, cond, ◌&&◌, ◌||◌, List, [], ◌∷◌, ◌++◌, Option, Some, None, length, take, drop, get_or, eqb, bytes_eq, refl, sym, ◌∙◌, ap, subst, arith}
use Rattle.std.specs.Prelude.{find, not, nat_eq, nat_le, nat_lt}
use Rattle.std.specs.List.{list_all, prefix_len, starts_with}
use Rattle.std.proofs.lemmas.Bool.{false≢true}
use Rattle.std.proofs.lemmas.Bool.Decides.{nat_tests, Decides-eqb}
use Rattle.std.proofs.lemmas.Slice.Eq.{starts_is}
use Rattle.std.proofs.lemmas.List.{take-append-drop, take-append-le, length-append}
use Rattle.std.proofs.lemmas.List.Folds.{length-prefix_len}
use Rattle.std.proofs.Math.Seq.{take-append_seam, drop-append_seam}
use Rattle.c_tokens.specs.declared.found.Found.{Found}
use Rattle.c_tokens.specs.declared.found.Found.TheVariants.{Token, NoToken, LiteralRange}
use Rattle.c_tokens.specs.declared.kind.Kind.TheVariants.{Constant}
use Rattle.c_tokens.specs.Bytes.{is_digit, is_letter, is_word_byte, word_len}
use Rattle.c_tokens.specs.Constants.{constant_of}
use Rattle.c_tokens.specs.Tables.{Row, operators}
use Rattle.c_tokens.specs.Lexemes.{Lexeme, token, constant, row_with, row_at, word_kind, Spells, word, number, operator, Ends, LexemeAt, found_of, LexemeFound, lexeme, none}
use Rattle.c_tokens.specs.Scanned.{IsWithin, word_found, value_found, constant_found, row_found, lexeme_found}
use Rattle.c_tokens.proofs.Both.{and_first, and_second}
use Rattle.c_tokens.proofs.ConstantLaws.{prefix-passes, prefix_len-run, constant_of-whole, constant_of-sound}
use Rattle.c_tokens.proofs.Rows.{found-passes, found-all, bytes_eq-same, bytes_eq-refl}
use Rattle.c_tokens.proofs.LexemeLaws.{not-false, digit-letter, digit-word, letter-word, constant-first, constant-words, operator-sign, Spells-one, spelled-some, spelled-words}

-- a run that passes is no longer than the longest one
prefix_len-most : {X : Type 0} (p : X → Bool) (xs ys : List X) → list_all p xs ≡ true → length xs ≤ prefix_len p (xs ++ ys)
prefix_len-most p [] ys all = omega arith
prefix_len-most p (x ∷ xs) ys all =
    rw (and_first (p x) (list_all p xs) all) (omega (arith, prefix_len-most p xs ys (and_second (p x) (list_all p xs) all)))

prefix_len-none : (p : ℕ → Bool) (ys : List ℕ) → p (get_or ys 0 0) ≡ false → prefix_len p ys ≡ 0
prefix_len-none p [] stops = refl
prefix_len-none p (y ∷ ys) stops = rw stops refl

-- a text goes on with what its front begins with
same_first : (text bytes behind : List ℕ) → text ≡ bytes ++ behind → 0 < length bytes → get_or bytes 0 0 ≡ get_or text 0 0
same_first text [] behind parts some = absurd (omega arith)
same_first text (byte ∷ bytes) behind parts some = rw parts refl

-- no lexeme is longer than the word that the text begins with
word-longest : (text : List ℕ) → is_word_byte (get_or text 0 0) ≡ true → (others after : List ℕ) (other : Lexeme)
    → text ≡ others ++ after → Spells other others → length others ≤ length (take (word_len text) text)
word-longest text w others after other parts spells =
    let first = same_first text others after parts (spelled-some other others spells) in
    let words = spelled-words other others spells (rw first w) in
    rw (length-prefix_len is_word_byte text) (rw parts (prefix_len-most is_word_byte others after words))

word_taken : (first : ℕ) (others : List ℕ) → is_word_byte first ≡ true
    → take (word_len (first ∷ others)) (first ∷ others) ≡ first ∷ take (word_len others) others
word_taken first others w =
    let one : 1 + word_len others ≡ suc (word_len others) = omega arith in rw (w, one) refl

word_spelled : (text : List ℕ) → 0 < length text → is_letter (get_or text 0 0) ≡ true
    → Spells (token (word_kind (take (word_len text) text))) (take (word_len text) text)
word_spelled [] some letter = absurd (omega arith)
word_spelled (first ∷ others) some letter =
    subst (λ (b : List ℕ). Spells (token (word_kind b)) b) (sym (word_taken first others (letter-word first letter)))
    (word first (take (word_len others) others) letter (prefix-passes is_word_byte others))

word_sound : (text : List ℕ) → 0 < length text → is_letter (get_or text 0 0) ≡ true
    → LexemeFound text (word_found (take (word_len text) text))
word_sound text some letter =
    lexeme (take (word_len text) text) (token (word_kind (take (word_len text) text))) (record {
      behind = drop (word_len text) text;
      parts = sym (take-append-drop (word_len text) text);
      spells = word_spelled text some letter;
      longest = word-longest text (letter-word (get_or text 0 0) letter);
      ends = tt;
    })

-- what a constant is that stands where a digit does
record ConstantHere (text : List ℕ) : Type 0 where
  value : ℕ
  found : constant_of (take (word_len text) text) ≡ Some value
  no_point : eqb (get_or (drop (word_len text) text) 0 0) 46 ≡ false

or_first : (a b : Bool) → (a || b) ≡ false → a ≡ false
or_first true b e = absurd cc
or_first false b e = refl

or_second : (a b : Bool) → (a || b) ≡ false → b ≡ false
or_second true b e = absurd cc
or_second false b e = e

constant_here : (text bytes behind : List ℕ) (one : Lexeme) → is_digit (get_or text 0 0) ≡ true → text ≡ bytes ++ behind
    → Spells one bytes → Ends one behind → ConstantHere text
constant_here text bytes behind one digit parts (word first others letter all) ends =
    let same = same_first text (first ∷ others) behind parts (omega arith) in
    absurd (false≢true (sym (digit-letter first (rw same digit)) ∙ letter))
constant_here text bytes behind one digit parts (number _ value c) ends =
    let len : word_len text ≡ length bytes = rw parts (prefix_len-run is_word_byte bytes behind (constant-words bytes value c)
    (prefix_len-none is_word_byte behind (or_first (is_word_byte (get_or behind 0 0)) (eqb (get_or behind 0 0) 46) ends))) in
    record {
      value = value;
      found = rw (len, parts, take-append_seam bytes behind) (constant_of-whole bytes value c);
      no_point = rw (len, parts, drop-append_seam bytes behind) (or_second (is_word_byte (get_or behind 0 0)) (eqb (get_or behind 0 0) 46) ends);
    }
constant_here text bytes behind one digit parts (operator _ row e) ends =
    let sign = operator-sign bytes row e in
    let same = same_first text bytes behind parts sign.some in
    absurd (false≢true (sym sign.other ∙ digit-word (get_or bytes 0 0) (rw same digit)))

no_constant : (text : List ℕ) → is_digit (get_or text 0 0) ≡ true → (ConstantHere text → ⊥) → LexemeFound text NoToken
no_constant text digit refuted =
    none (λ bytes one at. refuted (constant_here text bytes at.behind one digit at.parts at.spells at.ends))

behind_word : (text : List ℕ) → is_word_byte (get_or (drop (word_len text) text) 0 0) ≡ false
behind_word [] = refl
behind_word (first ∷ others) =
    let one : 1 + word_len others ≡ suc (word_len others) = omega arith in
    elim (is_word_byte first) as (λ b. is_word_byte first ≡ b → is_word_byte (get_or (drop (cond b (1 + word_len others) 0) (first ∷ others)) 0 0) ≡ false) [
      | true ↦ λ w. rw one (behind_word others)
      | false ↦ λ w. w
    ] refl

taken_digit : (text : List ℕ) → is_digit (get_or text 0 0) ≡ true → is_digit (get_or (take (word_len text) text) 0 0) ≡ true
taken_digit [] digit = digit
taken_digit (first ∷ others) digit = rw (word_taken first others (digit-word first digit)) digit

value_sound : (text : List ℕ) (value : ℕ) → is_digit (get_or text 0 0) ≡ true
    → constant_of (take (word_len text) text) ≡ Some value → eqb (get_or (drop (word_len text) text) 0 0) 46 ≡ false
    → LexemeFound text (found_of (constant value) (word_len text))
value_sound text value digit found no_point =
    subst (λ (len : ℕ). LexemeFound text (found_of (constant value) len)) (length-prefix_len is_word_byte text)
    (lexeme (take (word_len text) text) (constant value) (record {
      behind = drop (word_len text) text;
      parts = sym (take-append-drop (word_len text) text);
      spells = number (take (word_len text) text) value (constant_of-sound (take (word_len text) text) value (taken_digit text digit) found);
      longest = word-longest text (digit-word (get_or text 0 0) digit);
      ends = rw (behind_word text, no_point) refl;
    }))

answer_sound : (text : List ℕ) (point : Bool) (value : Option ℕ) → is_digit (get_or text 0 0) ≡ true
    → eqb (get_or (drop (word_len text) text) 0 0) 46 ≡ point → constant_of (take (word_len text) text) ≡ value
    → LexemeFound text (cond point NoToken (value_found value (word_len text)))
answer_sound text true value digit p v =
    no_constant text digit (λ (here : ConstantHere text). false≢true (sym here.no_point ∙ p))
answer_sound text false None digit p v =
    no_constant text digit (λ (here : ConstantHere text). let f = here.found in cc)
answer_sound text false (Some value) digit p v = value_sound text value digit v p

starts-parts : (text : List ℕ) (bytes : List ℕ) → starts_with nat_eq text bytes ≡ true → text ≡ bytes ++ drop (length bytes) text
starts-parts text bytes e = (starts_is Decides-eqb text bytes (starts_with nat_eq text bytes) refl).0 e

starts-at : (text bytes behind : List ℕ) → text ≡ bytes ++ behind → starts_with nat_eq text bytes ≡ true
starts-at text bytes behind parts = (starts_is Decides-eqb text bytes (starts_with nat_eq text bytes) refl).1 behind parts

-- whether the other row is no longer, or does not begin with this one
abbrev is_no_longer : Row → Row → Bool
is_no_longer row other = nat_le (length other.0) (length row.0) || not (starts_with nat_eq other.0 row.0)

-- whether no row of a table stands before a longer one that begins with it
abbrev is_longest_first : List Row → Bool
is_longest_first [] = true
is_longest_first (row ∷ rows) = list_all (is_no_longer row) rows && is_longest_first rows

operators-longest_first : is_longest_first operators ≡ true
unfolding operators
operators-longest_first = refl

not_more : (m n : ℕ) → nat_le m n ≡ true → m ≤ n
not_more m n e = grind (arith, nat_tests)

more : (m n : ℕ) → nat_le m n ≡ false → n ≤ m
more m n e = grind (arith, nat_tests)

no_longer-itself : (row : Row) → is_no_longer row row ≡ true
no_longer-itself row =
    let same : nat_le (length row.0) (length row.0) ≡ true = grind (arith, nat_tests) in rw same refl

-- of two fronts of a text the longer one begins with the other
front-front : (text xs ys : List ℕ) → starts_with nat_eq text xs ≡ true → starts_with nat_eq text ys ≡ true → length xs ≤ length ys
    → starts_with nat_eq ys xs ≡ true
front-front text xs ys e f few =
    let same : take (length xs) text ≡ take (length xs) ys = rw (starts-parts text ys f) (take-append-le (length xs) ys (drop (length ys) text) few) in
    rw (← same) e

-- of two rows that stand at the front of a text
no_longer-front : (text : List ℕ) (row other : Row) → is_no_longer row other ≡ true → starts_with nat_eq text row.0 ≡ true
    → starts_with nat_eq text other.0 ≡ true → length other.0 ≤ length row.0
no_longer-front text row other sorted e f =
    elim (nat_le (length other.0) (length row.0)) as (λ b. nat_le (length other.0) (length row.0) ≡ b
    → (b || not (starts_with nat_eq other.0 row.0)) ≡ true → length other.0 ≤ length row.0) [
      | true ↦ λ fewer apart. not_more (length other.0) (length row.0) fewer
      | false ↦ λ longer apart. absurd (false≢true (sym (not-false (starts_with nat_eq other.0 row.0) apart)
          ∙ front-front text row.0 other.0 e f (more (length other.0) (length row.0) longer)))
    ] refl sorted

-- a row that is found and is not the first is found among the others
later : (q : Row → Bool) (head : Row) (rows : List Row) (row : Row) → find q (head ∷ rows) ≡ Some row → head ≢ row → find q rows ≡ Some row
later q head rows row f other =
    elim (q head) as (λ b. cond b (Some head) (find q rows) ≡ Some row → find q rows ≡ Some row) [
      | true ↦ λ got. absurd (other cc)
      | false ↦ λ got. got
    ] f

not_head : (text : List ℕ) (head : Row) (rows : List Row) (row : Row) (same : Bool) → bytes_eq head.0 row.0 ≡ same
    → starts_with nat_eq text head.0 ≡ false → row_at rows text ≡ Some row → row_with rows row.0 ≡ Some row
    → row_with (head ∷ rows) row.0 ≡ Some row
not_head text head rows row true e absent got itself =
    let bytes = bytes_eq-same head.0 row.0 e in
    absurd (false≢true (sym absent ∙ rw bytes (found-passes (λ (r : Row). starts_with nat_eq text r.0) rows row got)))
not_head text head rows row false e absent got itself = rw e itself

-- the first row at the front of a text is no shorter than another that stands there
found-longest : (text : List ℕ) (q : Row → Bool) (rows : List Row) (row other : Row) → is_longest_first rows ≡ true → row_at rows text ≡ Some row
    → find q rows ≡ Some other → starts_with nat_eq text other.0 ≡ true → length other.0 ≤ length row.0
found-longest text q [] row other sorted e f passes = absurd cc
found-longest text q (head ∷ rows) row other sorted e f passes =
    let below = and_first (list_all (is_no_longer head) rows) (is_longest_first rows) sorted in
    let all : list_all (is_no_longer head) (head ∷ rows) ≡ true = rw (no_longer-itself head, below) refl in
    elim (starts_with nat_eq text head.0) as (λ b. starts_with nat_eq text head.0 ≡ b → cond b (Some head) (row_at rows text) ≡ Some row
    → length other.0 ≤ length row.0) [
      | true ↦ λ here got. let same : head ≡ row = cc in
          rw (← same) (no_longer-front text head other (found-all q (is_no_longer head) (head ∷ rows) other all f) here passes)
      | false ↦ λ here got. found-longest text q rows row other
          (and_second (list_all (is_no_longer head) rows) (is_longest_first rows) sorted) got
          (later q head rows other f (λ (same : head ≡ other). false≢true (sym here ∙ ap (λ (r : Row). starts_with nat_eq text r.0) same ∙ passes))) passes
    ] refl e

-- a row that is found and is none of the passed ones
row_none : (p q : Row → Bool) (rows : List Row) (row : Row) → find p rows ≡ None → find q rows ≡ Some row → p row ≡ true → ⊥
row_none p q [] row e f passes = cc
row_none p q (head ∷ rows) row e f passes =
    elim (p head) as (λ b. p head ≡ b → cond b (Some head) (find p rows) ≡ None → ⊥) [
      | true ↦ λ here got. cc
      | false ↦ λ here got. row_none p q rows row got (later q head rows row f (λ (same : head ≡ row). false≢true (sym here ∙ ap p same ∙ passes))) passes
    ] refl e

-- the first row that stands at the front is the first with its spelling
row-itself : (text : List ℕ) (rows : List Row) (row : Row) → row_at rows text ≡ Some row → row_with rows row.0 ≡ Some row
row-itself text [] row e = absurd cc
row-itself text (head ∷ rows) row e =
    elim (starts_with nat_eq text head.0) as (λ b. starts_with nat_eq text head.0 ≡ b → cond b (Some head) (row_at rows text) ≡ Some row
    → row_with (head ∷ rows) row.0 ≡ Some row) [
      | true ↦ λ here got. let same : head ≡ row = cc in rw (same, bytes_eq-refl row.0) refl
      | false ↦ λ here got. not_head text head rows row (bytes_eq head.0 row.0) refl here got (row-itself text rows row got)
    ] refl e

sign-longest : (text : List ℕ) (row : Row) → is_word_byte (get_or text 0 0) ≡ false → row_at operators text ≡ Some row
    → (others after : List ℕ) (other : Lexeme) → text ≡ others ++ after → Spells other others → length others ≤ length row.0
sign-longest text row sign found others after other parts (word first more letter all) =
    let same = same_first text (first ∷ more) after parts (omega arith) in
    absurd (false≢true (sym sign ∙ rw (← same) (letter-word first letter)))
sign-longest text row sign found others after other parts (number _ value c) =
    let same = same_first text others after parts (spelled-some (constant value) others (number others value c)) in
    absurd (false≢true (sym sign ∙ rw (← same) (digit-word (get_or others 0 0) (constant-first others value c))))
sign-longest text row sign found others after other parts (operator _ r e) =
    let same = (operator-sign others r e).same in
    rw (← same) (found-longest text (λ (s : Row). bytes_eq s.0 others) operators row r
    operators-longest_first found e (starts-at text r.0 after (rw same parts)))

sign_none : (text : List ℕ) → is_word_byte (get_or text 0 0) ≡ false → row_at operators text ≡ None
    → (bytes behind : List ℕ) (one : Lexeme) → text ≡ bytes ++ behind → Spells one bytes → ⊥
sign_none text sign found bytes behind one parts (word first more letter all) =
    let same = same_first text (first ∷ more) behind parts (omega arith) in
    false≢true (sym sign ∙ rw (← same) (letter-word first letter))
sign_none text sign found bytes behind one parts (number _ value c) =
    let same = same_first text bytes behind parts (spelled-some (constant value) bytes (number bytes value c)) in
    false≢true (sym sign ∙ rw (← same) (digit-word (get_or bytes 0 0) (constant-first bytes value c)))
sign_none text sign found bytes behind one parts (operator _ r e) =
    let same = (operator-sign bytes r e).same in
    row_none (λ (s : Row). starts_with nat_eq text s.0) (λ (s : Row). bytes_eq s.0 bytes) operators r found e
    (starts-at text r.0 behind (rw same parts))

row_sound : (text : List ℕ) (found : Option Row) → is_word_byte (get_or text 0 0) ≡ false → row_at operators text ≡ found
    → LexemeFound text (row_found found)
row_sound text None sign e = none (λ bytes one at. sign_none text sign e bytes at.behind one at.parts at.spells)
row_sound text (Some row) sign e =
    lexeme row.0 (token row.1) (record {
      behind = drop (length row.0) text;
      parts = starts-parts text row.0 (found-passes (λ (s : Row). starts_with nat_eq text s.0) operators row e);
      spells = operator row.0 row (row-itself text operators row e);
      longest = sign-longest text row sign e;
      ends = tt;
    })

letter_or_digit : (byte : ℕ) → is_word_byte byte ≡ true → is_digit byte ≡ false → is_letter byte ≡ true
letter_or_digit byte w d = grind (arith, nat_tests)

sound_by : (text : List ℕ) (d w : Bool) → 0 < length text → is_digit (get_or text 0 0) ≡ d → is_word_byte (get_or text 0 0) ≡ w
    → LexemeFound text (cond d (constant_found text) (cond w (word_found (take (word_len text) text)) (row_found (row_at operators text))))
sound_by text true w some digit e =
    answer_sound text (eqb (get_or (drop (word_len text) text) 0 0) 46) (constant_of (take (word_len text) text)) digit refl refl
sound_by text false true some digit e = word_sound text some (letter_or_digit (get_or text 0 0) e digit)
sound_by text false false some digit e = row_sound text (row_at operators text) e refl

pub constant_found-is : (text bytes behind : List ℕ) (len : ℕ) (found : Found) → len ≡ word_len text → bytes ≡ take len text
    → behind ≡ drop len text → eqb (get_or behind 0 0) 46 ≡ false → found ≡ value_found (constant_of bytes) len
    → found ≡ constant_found text
constant_found-is text bytes behind len found words front back point is = rw (← words, ← front, ← back, point) is

-- what the program answers stands there
pub lexeme_found-sound : (text : List ℕ) → 0 < length text → LexemeFound text (lexeme_found text)
unfolding lexeme_found
lexeme_found-sound text some = sound_by text (is_digit (get_or text 0 0)) (is_word_byte (get_or text 0 0)) some refl refl

found_of-within : (one : Lexeme) (len most : ℕ) → 0 < len → len ≤ most → IsWithin (found_of one len) most
found_of-within (token None) len most some few = (some, few)
found_of-within (token (Some kind)) len most some few = (some, few)
found_of-within (constant value) len most some few =
    elim (nat_lt value (2 ^ 63)) as (λ b. IsWithin (cond b (Token (Constant value) len) LiteralRange) most) [
      | true ↦ (some, few)
      | false ↦ tt
    ]

pub LexemeFound-within : (text : List ℕ) (found : Found) → LexemeFound text found → IsWithin found (length text)
LexemeFound-within text found (lexeme bytes one at) =
    found_of-within one (length bytes) (length text) (spelled-some one bytes at.spells)
    (omega (arith, length-append bytes at.behind, ap length at.parts))
LexemeFound-within text found (none refuted) = tt

same_length : (text xs ys us vs : List ℕ) → text ≡ xs ++ us → text ≡ ys ++ vs → length xs ≡ length ys → xs ≡ ys
same_length text xs ys us vs p q e = sym (take-append_seam xs us) ∙ rw (← p, q, e) (take-append_seam ys vs)

same_lexeme : (text bytes others : List ℕ) (one other : Lexeme) → LexemeAt text bytes one → LexemeAt text others other
    → found_of one (length bytes) ≡ found_of other (length others)
same_lexeme text bytes others one other at from =
    let long = at.longest others from.behind other from.parts from.spells in
    let short = from.longest bytes at.behind one at.parts at.spells in
    let len : length bytes ≡ length others = omega arith in
    let same = same_length text bytes others at.behind from.behind at.parts from.parts len in
    let spelled = subst (λ (b : List ℕ). Spells one b) same at.spells in
    rw (len, Spells-one one other others spelled from.spells) refl

-- one thing at most stands at a place where no gap begins
pub LexemeFound-one : (text : List ℕ) (f g : Found) → LexemeFound text f → LexemeFound text g → f ≡ g
LexemeFound-one text f g (lexeme bytes one at) (lexeme others other from) = same_lexeme text bytes others one other at from
LexemeFound-one text f g (lexeme bytes one at) (none refuted) = absurd (refuted bytes one at)
LexemeFound-one text f g (none refuted) (lexeme others other from) = absurd (refuted others other from)
LexemeFound-one text f g (none refuted) (none also) = refl
