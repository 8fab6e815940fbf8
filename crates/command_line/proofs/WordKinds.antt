-- What the kind of a word says of the word.
use Rattle.std.proofs.Common.{◌≡◌, ◌≢◌, ◌==◌, ◌++◌, ◌&&◌, append_assoc, ◌+◌, suc, take, drop, ℕ, Bool, true, false, List, [], ◌∷◌, Option, Some, None, refl, sym, ap, ◌∙◌, true≢false, arith}
use Rattle.std.specs.Prelude.{codes, bytes_eq, if◌then◌else◌, option_map}
use Rattle.std.specs.List.{list_any, before_first, after_first, position_or_len}
use Rattle.std.proofs.lemmas.Bool.Decides.{nat_tests}
use Rattle.std.proofs.lemmas.Slice.Eq.{bytes_eq-Decides}
use Rattle.command_line.specs.declared.setting.Setting.{Setting}
use Rattle.command_line.specs.declared.setting.Setting.TheVariants.{Workers, Samples, Marks, Rows, Seed}
use Rattle.command_line.specs.declared.setting.Valued.{Valued}
use Rattle.command_line.specs.declared.setting.Valued.TheVariants.{Number, Pre}
use Rattle.command_line.specs.declared.switch.Switch.{Switch}
use Rattle.command_line.specs.declared.switch.Switch.TheVariants.{Alone, History}
use Rattle.command_line.specs.CommandLine.{IsOperand, switch_name, setting_name, name_of}
use Rattle.command_line.specs.Read.{WordKind, dashes, plain, switch, joined, apart, unknown, is_operand, switch_named, setting_named, option_named, joined_kind, apart_kind, option_kind, bare_kind, kind_of}

-- ---- from a word to its kind

pub kind_of-switch : (option : Switch) → kind_of (switch_name option) ≡ switch option
kind_of-switch Alone = refl
kind_of-switch History = refl

pub kind_of-joined : (option : Valued) (value : List ℕ) → kind_of (name_of option ++ codes "=" ++ value) ≡ joined option value
kind_of-joined (Number Workers) value = refl
kind_of-joined (Number Samples) value = refl
kind_of-joined (Number Marks) value = refl
kind_of-joined (Number Rows) value = refl
kind_of-joined (Number Seed) value = refl
kind_of-joined Pre value = refl

pub kind_of-apart : (option : Valued) → kind_of (name_of option) ≡ apart option
kind_of-apart (Number Workers) = refl
kind_of-apart (Number Samples) = refl
kind_of-apart (Number Marks) = refl
kind_of-apart (Number Rows) = refl
kind_of-apart (Number Seed) = refl
kind_of-apart Pre = refl

no_dash : (byte : ℕ) → byte ≢ 45 → (byte == 45) ≡ false
no_dash byte differs = grind (arith, nat_tests)

pub kind_of-operand : (word : List ℕ) → IsOperand word → kind_of word ≡ plain
kind_of-operand [] is = refl
kind_of-operand (byte ∷ []) is = elim (byte == 45) as (λ t. (if t && false then dashes else plain) ≡ plain) [ true ↦ refl | false ↦ refl ]
kind_of-operand (byte ∷ next ∷ bytes) is = rw (no_dash byte is) refl

-- ---- from a kind to its word

-- What the kind says of the word.
abbrev pub KindSays : List ℕ → WordKind → Type 0
KindSays word dashes = word ≡ codes "--"
KindSays word plain = IsOperand word
KindSays word (switch option) = word ≡ switch_name option
KindSays word (joined option value) = word ≡ name_of option ++ codes "=" ++ value
KindSays word (apart option) = word ≡ name_of option
KindSays word unknown = Unit {0}

by_test : (word : List ℕ) (test : Bool) (one other : WordKind) → (test ≡ true → KindSays word one) → (test ≡ false → KindSays word other)
    → KindSays word (if test then one else other)
by_test word true one other holds fails = holds refl
by_test word false one other holds fails = fails refl

-- What the name of a switch that was looked up says of the name.
abbrev SwitchSays : List ℕ → Option Switch → Type 0
SwitchSays name None = Unit {0}
SwitchSays name (Some option) = name ≡ switch_name option

-- What a name that was looked up says of the name.
abbrev NameSays : List ℕ → Option Setting → Type 0
NameSays name None = Unit {0}
NameSays name (Some setting) = name ≡ setting_name setting

-- The same among all that take a value.
abbrev OptionSays : List ℕ → Option Valued → Type 0
OptionSays name None = Unit {0}
OptionSays name (Some option) = name ≡ name_of option

by_name : (name : List ℕ) (test : Bool) (one other : Option Setting) → (test ≡ true → NameSays name one) → NameSays name other
    → NameSays name (if test then one else other)
by_name name true one other holds fails = holds refl
by_name name false one other holds fails = fails

same_bytes : (one other : List ℕ) → bytes_eq one other ≡ true → one ≡ other
same_bytes one other = (bytes_eq-Decides one other).0

by_switch : (name : List ℕ) (test : Bool) (one other : Option Switch) → (test ≡ true → SwitchSays name one) → SwitchSays name other
    → SwitchSays name (if test then one else other)
by_switch name true one other holds fails = holds refl
by_switch name false one other holds fails = fails

switch_named-says : (name : List ℕ) → SwitchSays name (switch_named name)
switch_named-says name =
    by_switch name (bytes_eq name (codes "--alone")) (Some Alone) _ (same_bytes name (codes "--alone"))
    (by_switch name (bytes_eq name (codes "--history")) (Some History) None (same_bytes name (codes "--history")) tt)

setting_named-says : (name : List ℕ) → NameSays name (setting_named name)
setting_named-says name =
    by_name name (bytes_eq name (codes "--workers")) (Some Workers) _ (same_bytes name (codes "--workers"))
    (by_name name (bytes_eq name (codes "--samples")) (Some Samples) _ (same_bytes name (codes "--samples"))
    (by_name name (bytes_eq name (codes "--marks")) (Some Marks) _ (same_bytes name (codes "--marks"))
    (by_name name (bytes_eq name (codes "--rows")) (Some Rows) _ (same_bytes name (codes "--rows"))
    (by_name name (bytes_eq name (codes "--seed")) (Some Seed) None (same_bytes name (codes "--seed")) tt))))

number_says : (name : List ℕ) (found : Option Setting) → NameSays name found → OptionSays name (option_map Number found)
number_says name None says = tt
number_says name (Some setting) says = says

by_option : (name : List ℕ) (test : Bool) (one other : Option Valued) → (test ≡ true → OptionSays name one) → OptionSays name other
    → OptionSays name (if test then one else other)
by_option name true one other holds fails = holds refl
by_option name false one other holds fails = fails

option_named-says : (name : List ℕ) → OptionSays name (option_named name)
option_named-says name =
    by_option name (bytes_eq name (codes "--pre")) (Some Pre) (option_map Number (setting_named name)) (same_bytes name (codes "--pre"))
    (number_says name (setting_named name) (setting_named-says name))

equals_sign : (byte : ℕ) → (byte == 61) ≡ true → byte ≡ 61
equals_sign byte is = grind (arith, nat_tests)

-- a word with `=` is what stands before the first, the sign, and what stands after it
cut : (byte : ℕ) (bytes : List ℕ) (len place past : ℕ) → place ≡ suc len → past ≡ suc (len + 1)
    → byte ∷ (take len bytes ++ 61 ∷ drop (len + 1) bytes) ≡ take place (byte ∷ bytes) ++ 61 ∷ drop past (byte ∷ bytes)
cut byte bytes len place past is next = rw (is, next) refl

parts_at : (byte : ℕ) (bytes : List ℕ) (test : Bool) → (byte == 61) ≡ test
    → (list_any (λ b. b == 61) bytes ≡ true → bytes ≡ before_first (λ b. b == 61) bytes ++ 61 ∷ after_first (λ b. b == 61) bytes)
    → list_any (λ b. b == 61) (byte ∷ bytes) ≡ true
    → byte ∷ bytes ≡ before_first (λ b. b == 61) (byte ∷ bytes) ++ 61 ∷ after_first (λ b. b == 61) (byte ∷ bytes)
parts_at byte bytes true is later some = rw is (ap (λ b. b ∷ bytes) (equals_sign byte is))
parts_at byte bytes false is later some =
    let len = position_or_len (λ b. b == 61) bytes in
    rw is (ap (λ l. byte ∷ l) (later (rw is at some)) ∙ cut byte bytes len (1 + len) (1 + len + 1) (omega arith) (omega arith))

parts : (word : List ℕ) → list_any (λ b. b == 61) word ≡ true → word ≡ before_first (λ b. b == 61) word ++ 61 ∷ after_first (λ b. b == 61) word
parts [] some = absurd cc
parts (byte ∷ bytes) some = parts_at byte bytes (byte == 61) refl (parts bytes) some

joined_kind-says : (word name value : List ℕ) (found : Option Valued) → word ≡ name ++ 61 ∷ value → OptionSays name found
    → KindSays word (joined_kind found value)
joined_kind-says word name value None whole says = tt
joined_kind-says word name value (Some option) whole says = whole ∙ ap (λ n. n ++ 61 ∷ value) says ∙ sym (append_assoc (name_of option) (codes "=") value)

apart_kind-says : (word : List ℕ) (found : Option Valued) → OptionSays word found → KindSays word (apart_kind found)
apart_kind-says word None says = tt
apart_kind-says word (Some option) says = says

bare_kind-says : (word : List ℕ) (found : Option Switch) (other : WordKind) → SwitchSays word found → KindSays word other
    → KindSays word (bare_kind found other)
bare_kind-says word None other says also = also
bare_kind-says word (Some option) other says also = says

is_operand-says : (word : List ℕ) → is_operand word ≡ true → IsOperand word
is_operand-says [] is = tt
is_operand-says (byte ∷ []) is = tt
is_operand-says (byte ∷ next ∷ bytes) is = λ dash. true≢false (sym is ∙ rw dash refl)

option_kind-says : (word : List ℕ) → KindSays word (option_kind word)
option_kind-says word =
    by_test word (list_any (λ b. b == 61) word)
    (joined_kind (option_named (before_first (λ b. b == 61) word)) (after_first (λ b. b == 61) word)) (apart_kind (option_named word))
    (λ some. joined_kind-says word (before_first (λ b. b == 61) word) (after_first (λ b. b == 61) word) (option_named (before_first (λ b. b == 61) word))
    (parts word some) (option_named-says (before_first (λ b. b == 61) word)))
    (λ _. apart_kind-says word (option_named word) (option_named-says word))

pub kind_of-says : (word : List ℕ) → KindSays word (kind_of word)
kind_of-says word =
    by_test word (bytes_eq word (codes "--")) dashes _ (same_bytes word (codes "--"))
    (λ _. by_test word (is_operand word) plain _ (is_operand-says word)
    (λ _. bare_kind-says word (switch_named word) (option_kind word) (switch_named-says word) (option_kind-says word)))
