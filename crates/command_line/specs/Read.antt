-- Reading a command line word by word, as a plain function. `proofs/Whole.antt` shows that it reads what
-- `CommandLine.antt` says.
use Rattle.std.specs.Prelude.{ℕ, Bool, true, false, not, nat_lt, nat_le, ◌==◌, ◌&&◌, if◌then◌else◌, List, [], ◌∷◌, length, Option, Some, None, is_some, option_map, option_and_then, codes, bytes_eq}
use Rattle.std.specs.Char.{digit_value}
use Rattle.std.specs.List.{list_all, list_any, before_first, after_first}
use Rattle.std.specs.Str.Parse.{digits_value, without_leading_plus}
use Rattle.command_line.specs.declared.setting.Setting.{Setting}
use Rattle.command_line.specs.declared.setting.Setting.TheVariants.{Workers, Samples, Marks, Rows, Seed}
use Rattle.command_line.specs.declared.setting.Valued.{Valued}
use Rattle.command_line.specs.declared.setting.Valued.TheVariants.{Number, Pre}
use Rattle.command_line.specs.declared.switch.Switch.{Switch}
use Rattle.command_line.specs.declared.switch.Switch.TheVariants as switches
use Rattle.command_line.specs.declared.kind.Word.{Word}
use Rattle.command_line.specs.declared.kind.Word.TheVariants.{Dashes, Operand, Bare, Joined, Apart, Unknown}
use Rattle.command_line.specs.declared.given.Given.{Given}
use Rattle.command_line.specs.declared.given.Operands.{Operands}
use Rattle.command_line.specs.declared.given.Operands.TheVariants as names
use Rattle.command_line.specs.declared.reading.Reading.{Reading}
use Rattle.command_line.specs.declared.reading.Expects.{Expects}
use Rattle.command_line.specs.declared.reading.Expects.TheVariants as expects
use Rattle.command_line.specs.declared.words.NoCommand.{NoCommand}
use Rattle.command_line.specs.declared.words.NoCommand.TheVariants.{Usage, Memory}

-- The option of this name, among all without a value.
abbrev pub switch_named : List ℕ → Option Switch
switch_named name =
    if bytes_eq name (codes "--alone") then Some switches.Alone
    else (if bytes_eq name (codes "--history") then Some switches.History else None)

-- The option of this name, among all that take a number.
abbrev pub setting_named : List ℕ → Option Setting
setting_named name =
    if bytes_eq name (codes "--workers") then Some Workers
    else (if bytes_eq name (codes "--samples") then Some Samples
    else (if bytes_eq name (codes "--marks") then Some Marks
    else (if bytes_eq name (codes "--rows") then Some Rows
    else (if bytes_eq name (codes "--seed") then Some Seed else None))))

-- The option of this name, among all that take a value.
abbrev pub option_named : List ℕ → Option Valued
option_named name = if bytes_eq name (codes "--pre") then Some Pre else option_map Number (setting_named name)

-- What a word is, where options are still met.
pub data WordKind : Type 0 where
  dashes : WordKind
  plain : WordKind
  switch : Switch → WordKind
  joined : Valued → List ℕ → WordKind
  apart : Valued → WordKind
  unknown : WordKind

-- The word begins with no dash, or is one dash alone.
abbrev pub is_operand : List ℕ → Bool
is_operand [] = true
is_operand (byte ∷ []) = true
is_operand (byte ∷ next ∷ bytes) = not (byte == 45)

-- Whether the word begins with a dash.
abbrev pub begins_with_dash : List ℕ → Bool
begins_with_dash [] = false
begins_with_dash (byte ∷ bytes) = byte == 45

-- An option with its value after `=`.
abbrev pub joined_kind : Option Valued → List ℕ → WordKind
joined_kind None value = unknown
joined_kind (Some option) value = joined option value

-- An option whose value is the next word.
abbrev pub apart_kind : Option Valued → WordKind
apart_kind None = unknown
apart_kind (Some option) = apart option

-- The word as an option that takes a value; its name ends at the first `=`.
abbrev pub option_kind : List ℕ → WordKind
option_kind word =
    if list_any (λ b. b == 61) word then joined_kind (option_named (before_first (λ b. b == 61) word))
    (after_first (λ b. b == 61) word)
    else apart_kind (option_named word)

-- An option without a value, where the word is one.
abbrev pub bare_kind : Option Switch → WordKind → WordKind
bare_kind None other = other
bare_kind (Some option) other = switch option

-- What the word is.
abbrev pub kind_of : List ℕ → WordKind
kind_of word =
    if bytes_eq word (codes "--") then dashes
    else (if is_operand word then plain else bare_kind (switch_named word) (option_kind word))

-- The kind without the reference to its text.
abbrev pub word_kind : Word → WordKind
word_kind Dashes = dashes
word_kind Operand = plain
word_kind (Bare option) = switch option
word_kind (Joined option value) = joined option value.now
word_kind (Apart option) = apart option
word_kind Unknown = unknown

-- One or more decimal digits.
abbrev pub is_numeral : List ℕ → Bool
is_numeral digits = nat_lt 0 (length digits) && list_all (λ c. nat_lt (digit_value c) 10) digits

-- The number that the word writes, where it fits 64 bits.
abbrev pub value_of : List ℕ → Option ℕ
value_of word =
    if is_numeral (without_leading_plus word)
    && nat_lt (digits_value 10 (without_leading_plus word)) 18446744073709551616
    then Some (digits_value 10 (without_leading_plus word)) else None

-- Whether the word is as long as a condition's text may be.
abbrev pub is_condition : List ℕ → Bool
is_condition word = nat_le 1 (length word) && nat_le (length word) 4096

-- What no words give.
abbrev pub nothing : Given
nothing = record {
  alone = false;
  history = false;
  workers = None;
  samples = None;
  marks = None;
  rows = None;
  seed = None;
  condition = None;
  operands = names.None;
}

-- Whether the switch stood so far.
abbrev pub is_on : Switch → Given → Bool
is_on switches.Alone given = given.alone
is_on switches.History given = given.history

-- The same with the switch on.
abbrev pub turned_on : Switch → Given → Given
turned_on switches.Alone given = record given { alone = true }
turned_on switches.History given = record given { history = true }

-- The option's number so far.
abbrev pub number_of : Setting → Given → Option ℕ
number_of Workers given = given.workers
number_of Samples given = given.samples
number_of Marks given = given.marks
number_of Rows given = given.rows
number_of Seed given = given.seed

-- The same with the option's number.
abbrev pub put : Setting → ℕ → Given → Given
put Workers number given = record given { workers = Some number }
put Samples number given = record given { samples = Some number }
put Marks number given = record given { marks = Some number }
put Rows number given = record given { rows = Some number }
put Seed number given = record given { seed = Some number }

-- The same with the switch on, where it did not stand before.
abbrev pub with_switch : Switch → Given → Option Given
with_switch option given = if is_on option given then None else Some (turned_on option given)

-- The same with the option's number, where the option did not stand before.
abbrev pub with_number : Setting → ℕ → Given → Option Given
with_number setting number given = if is_some (number_of setting given) then None else Some (put setting number given)

-- The same with the option's number, where the word writes one.
abbrev pub with_written : Setting → List ℕ → Given → Option Given
with_written setting word given = option_and_then (λ number. with_number setting number given) (value_of word)

-- The same with a condition, which stands once.
abbrev pub with_condition : List ℕ → Given → Option Given
with_condition text given = if is_some given.condition then None else Some (record given { condition = Some text })

-- The same with the condition that the word is, where it is as long as one may be.
abbrev pub with_text : List ℕ → Given → Option Given
with_text word given = if is_condition word then with_condition word given else None

-- The same with the option's value.
abbrev pub with_value : Valued → List ℕ → Given → Option Given
with_value (Number setting) word given = with_written setting word given
with_value Pre word given = with_text word given

-- One operand more: two at most.
abbrev pub one_more : List ℕ → Operands → Option Operands
one_more word names.None = Some (names.First word)
one_more word (names.First first) = Some (names.Both first word)
one_more word (names.Both first second) = None

-- The same with an operand.
abbrev pub with_operand : List ℕ → Given → Option Given
with_operand word given = option_map (λ more. record given { operands = more }) (one_more word given.operands)

-- What was given, and what the next word is taken for.
abbrev pub reading : Expects → Given → Reading
reading next given = record { given = given; expects = next }

-- Before the first word.
abbrev pub start : Reading
start = reading expects.Word nothing

-- After a word of this kind, where options are still met.
abbrev pub word_step : WordKind → List ℕ → Given → Option Reading
word_step dashes word given = Some (reading expects.Operand given)
word_step plain word given = option_map (reading expects.Word) (with_operand word given)
word_step (switch option) word given = option_map (reading expects.Word) (with_switch option given)
word_step (joined option value) word given = option_map (reading expects.Word) (with_value option value given)
word_step (apart option) word given = Some (reading (expects.Value option) given)
word_step unknown word given = None

-- After a word, by what it is taken for.
abbrev pub expected_step : Expects → List ℕ → Given → Option Reading
expected_step expects.Word word given = word_step (kind_of word) word given
expected_step (expects.Value option) word given =
    if begins_with_dash word then None else option_map (reading expects.Word) (with_value option word given)
expected_step expects.Operand word given = option_map (reading expects.Operand) (with_operand word given)

-- After one more word.
abbrev pub step : List ℕ → Reading → Option Reading
step word now = expected_step now.expects word now.given

-- After all these words.
abbrev pub read : List (List ℕ) → Reading → Option Reading
read [] now = Some now
read (word ∷ words) now = option_and_then (read words) (step word now)

-- A refusal of the words is for this reason; nothing is said of want of memory.
abbrev pub Refuses : Type 0 → NoCommand → Type 0
Refuses Reason Usage = Reason
Refuses Reason Memory = Unit {0}
