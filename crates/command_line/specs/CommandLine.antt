-- The command line: options and the names of two files, in any order.
use Rattle.std.specs.Prelude.{◌≡◌, ◌≢◌, ℕ, suc, ◌<◌, ◌≤◌, Bool, true, false, if◌then◌else◌, ◌++◌, List, [], ◌∷◌, map, codes, option_to_list}
use Rattle.std.specs.Str.Parse.{IsNumeral, digits_value, without_leading_plus}
use Rattle.command_line.specs.declared.setting.Setting.{Setting}
use Rattle.command_line.specs.declared.setting.Setting.TheVariants.{Workers, Samples, Marks, Rows, Seed}
use Rattle.command_line.specs.declared.setting.Valued.{Valued}
use Rattle.command_line.specs.declared.setting.Valued.TheVariants.{Number, Pre}
use Rattle.command_line.specs.declared.switch.Switch.{Switch}
use Rattle.command_line.specs.declared.switch.Switch.TheVariants.{Alone, History}
use Rattle.c_ast.specs.Bounds.{AreBounds}
use Rattle.command_line.specs.ConditionText.{IsConditionText}
use Rattle.command_line.specs.declared.words.Command.{Command}

-- The name of an option without a value.
abbrev pub switch_name : Switch → List ℕ
switch_name Alone = codes "--alone"
switch_name History = codes "--history"

-- The name of an option that takes a number.
abbrev pub setting_name : Setting → List ℕ
setting_name Workers = codes "--workers"
setting_name Samples = codes "--samples"
setting_name Marks = codes "--marks"
setting_name Rows = codes "--rows"
setting_name Seed = codes "--seed"

-- The name of an option that takes a value.
abbrev pub name_of : Valued → List ℕ
name_of (Number setting) = setting_name setting
name_of Pre = codes "--pre"

-- The number that stands where the option is not given.
abbrev pub default_of : Setting → ℕ
default_of Workers = 4
default_of Samples = 100
default_of Marks = 64
default_of Rows = 4000
default_of Seed = 0

-- There are 1 to 64 threads.
abbrev pub AreWorkers : ℕ → Type 0
AreWorkers workers = (1 ≤ workers) × (workers ≤ 64)

-- The word writes the number, one of 64 bits: a plus or none, and one or more decimal digits.
pub record Writes (word : List ℕ) (number : ℕ) : Type 0 where
  pub numeral : IsNumeral 10 (without_leading_plus word)
  pub value : digits_value 10 (without_leading_plus word) ≡ number
  pub fits : number < 18446744073709551616

-- What a word says, or an option's name and its value.
pub data Item : Type 0 where
  switched : Switch → Item
  given : Setting → ℕ → Item
  condition : List ℕ → Item
  operand : List ℕ → Item

-- The word begins with no dash, or is one dash alone.
abbrev pub IsOperand : List ℕ → Type 0
IsOperand [] = Unit {0}
IsOperand (byte ∷ []) = Unit {0}
IsOperand (byte ∷ next ∷ bytes) = byte ≢ 45

-- The word begins with no dash.
abbrev pub HasNoDash : List ℕ → Type 0
HasNoDash [] = Unit {0}
HasNoDash (byte ∷ bytes) = byte ≢ 45

-- The option with this value says the item.
pub data SpellsValue : Valued → List ℕ → Item → Type 0 where
  says_number : (setting : Setting) (value : List ℕ) (n : ℕ) → Writes value n
      → SpellsValue (Number setting) value (given setting n)
  says_text : (value : List ℕ) → IsConditionText value → SpellsValue Pre value (condition value)

-- The words say these items, one after the other. A value is the rest of the word after `=`, or else the next word,
-- which does not begin with a dash. After the word `--` each word is an operand.
pub data Spells : List (List ℕ) → List Item → Type 0 where
  end : Spells [] []
  dashes : (words : List (List ℕ)) → Spells (codes "--" ∷ words) (map operand words)
  plain : (word : List ℕ) (words : List (List ℕ)) (items : List Item) → IsOperand word → Spells words items
      → Spells (word ∷ words) (operand word ∷ items)
  switch : (option : Switch) (words : List (List ℕ)) (items : List Item) → Spells words items
      → Spells (switch_name option ∷ words) (switched option ∷ items)
  joined : (option : Valued) (value : List ℕ) (item : Item) (words : List (List ℕ)) (items : List Item)
      → SpellsValue option value item → Spells words items
      → Spells ((name_of option ++ codes "=" ++ value) ∷ words) (item ∷ items)
  apart : (option : Valued) (value : List ℕ) (item : Item) (words : List (List ℕ)) (items : List Item)
      → SpellsValue option value item → HasNoDash value → Spells words items
      → Spells (name_of option ∷ value ∷ words) (item ∷ items)

-- The operands among the items.
abbrev pub operands : List Item → List (List ℕ)
operands [] = []
operands (switched option ∷ items) = operands items
operands (given setting number ∷ items) = operands items
operands (condition text ∷ items) = operands items
operands (operand word ∷ items) = word ∷ operands items

-- Whether both are one switch.
abbrev pub is_same_switch : Switch → Switch → Bool
is_same_switch Alone Alone = true
is_same_switch History History = true
is_same_switch _ _ = false

-- How often the switch stands among the items.
abbrev pub switches : Switch → List Item → ℕ
switches option [] = 0
switches option (switched other ∷ items) =
    if is_same_switch other option then suc (switches option items) else switches option items
switches option (given setting number ∷ items) = switches option items
switches option (condition text ∷ items) = switches option items
switches option (operand word ∷ items) = switches option items

-- How often a switch stands: once where it is on, otherwise not at all.
abbrev pub times : Bool → ℕ
times true = 1
times false = 0

-- The texts of conditions among the items.
abbrev pub conditions : List Item → List (List ℕ)
conditions [] = []
conditions (switched option ∷ items) = conditions items
conditions (given setting number ∷ items) = conditions items
conditions (condition text ∷ items) = text ∷ conditions items
conditions (operand word ∷ items) = conditions items

-- Whether both are one option.
abbrev pub is_same : Setting → Setting → Bool
is_same Workers Workers = true
is_same Samples Samples = true
is_same Marks Marks = true
is_same Rows Rows = true
is_same Seed Seed = true
is_same _ _ = false

-- The numbers that the option is given.
abbrev pub numbers : Setting → List Item → List ℕ
numbers setting [] = []
numbers setting (switched option ∷ items) = numbers setting items
numbers setting (given other number ∷ items) =
    if is_same other setting then number ∷ numbers setting items else numbers setting items
numbers setting (condition text ∷ items) = numbers setting items
numbers setting (operand word ∷ items) = numbers setting items

-- The option stands at most once, and otherwise has its default.
abbrev pub Sets : Setting → List ℕ → ℕ → Type 0
Sets setting [] number = number ≡ default_of setting
Sets setting (first ∷ []) number = number ≡ first
Sets setting (first ∷ second ∷ others) number = ⊥

-- The words are a command line, and this is what they say: `--alone` stands once, each other option at most once, the
-- history is told exactly where `--history` stands, the numbers are in their ranges, and two files are named, the first
-- of which is not `make`.
pub record IsCommand (words : List (List ℕ)) (command : Command) : Type 0 where
  pub items : List Item
  pub spells : Spells words items
  pub alone_once : switches Alone items ≡ 1
  pub workers : ℕ
  pub some_workers : Sets Workers (numbers Workers items) workers
  pub few_workers : AreWorkers workers
  pub samples : Sets Samples (numbers Samples items) command.settings.samples
  pub marks : Sets Marks (numbers Marks items) command.settings.marks
  pub rows : Sets Rows (numbers Rows items) command.settings.rows
  pub seed : Sets Seed (numbers Seed items) command.settings.seed
  pub within : AreBounds command.settings
  pub told : switches History items ≡ times command.history
  pub pre : conditions items ≡ option_to_list command.condition
  pub files : operands items ≡ command.first ∷ command.second ∷ []
  pub no_make : command.first ≢ codes "make"

-- Words are one command line at most.
abbrev pub IsOneCommand : Type 0
IsOneCommand = (words : List (List ℕ)) (one other : Command) → IsCommand words one → IsCommand words other → one ≡ other
