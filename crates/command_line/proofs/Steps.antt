-- One word: what it leaves to be read, both ways.
use Rattle.std.proofs.Common.{◌≡◌, ℕ, Bool, true, false, List, ◌∷◌, map, Option, Some, None, refl, sym, ap, ◌∙◌, subst}
use Rattle.std.specs.Prelude.{if◌then◌else◌, option_map, option_and_then}
use Rattle.command_line.specs.declared.setting.Setting.{Setting}
use Rattle.command_line.specs.declared.setting.Valued.{Valued}
use Rattle.command_line.specs.declared.setting.Valued.TheVariants.{Number, Pre}
use Rattle.command_line.specs.declared.given.Given.{Given}
use Rattle.command_line.specs.declared.reading.Reading.{Reading}
use Rattle.command_line.specs.declared.reading.Expects.{Expects}
use Rattle.command_line.specs.declared.reading.Expects.TheVariants as expects
use Rattle.command_line.specs.declared.words.Command.{Command}
use Rattle.command_line.specs.CommandLine.{name_of, Item, switched, given, condition, operand, HasNoDash, SpellsValue, says_number, says_text, Spells, dashes, plain, switch, joined, apart}
use Rattle.command_line.specs.Read as read
use Rattle.command_line.specs.Read.{WordKind, kind_of, value_of, is_condition, begins_with_dash, with_switch, with_number, with_written, with_condition, with_text, with_value, with_operand, reading, word_step, expected_step, step}
use Rattle.command_line.proofs.Values.{value_writes, written_value, condition_text, without_dash, dash_missing}
use Rattle.command_line.proofs.WordKinds.{kind_of-switch, kind_of-joined, kind_of-apart, kind_of-operand, KindSays, kind_of-says}
use Rattle.command_line.proofs.Left.{Makes, with_item, moved, moved_back}

-- The words spell the items, by what the first word is taken for.
pub data SpellsFrom : Expects → List (List ℕ) → List Item → Type 0 where
  at_word : (words : List (List ℕ)) (items : List Item) → Spells words items → SpellsFrom expects.Word words items
  at_operand : (words : List (List ℕ)) → SpellsFrom expects.Operand words (map operand words)
  at_value : (option : Valued) (value : List ℕ) (item : Item) (words : List (List ℕ)) (items : List Item) → SpellsValue option value item → HasNoDash value
      → Spells words items → SpellsFrom (expects.Value option) (value ∷ words) (item ∷ items)

-- What was given and the words that are left make the command.
pub record IsLeft (now : Reading) (words : List (List ℕ)) (command : Command) (workers : ℕ) : Type 0 where
  pub items : List Item
  pub spells : SpellsFrom now.expects words items
  pub makes : Makes now.given items command workers

-- ---- from what is left to the step

-- The word is read, and the others are left.
pub record Steps (word : List ℕ) (words : List (List ℕ)) (now : Reading) (command : Command) (workers : ℕ) : Type 0 where
  pub next : Reading
  pub steps : step word now ≡ Some next
  pub left : IsLeft next words command workers

-- the value of an item is put
put_value : (option : Valued) (value : List ℕ) (item : Item) (now next : Given) → SpellsValue option value item → with_item item now ≡ Some next
    → with_value option value now ≡ Some next
put_value _ value _ now next (says_number setting _ number writes) puts =
    ap (option_and_then (λ n. with_number setting n now)) (written_value value number writes) ∙ puts
put_value _ value _ now next (says_text _ is) puts = rw ((condition_text value).1 is) puts

-- a word that says what the first item is
by_item : (word : List ℕ) (words : List (List ℕ)) (now next : Given) (expected after : Expects) (items : List Item) (command : Command) (workers : ℕ)
    (more : Option Given) → expected_step expected word now ≡ option_map (reading after) more → more ≡ Some next → SpellsFrom after words items
    → Makes next items command workers → Steps word words (reading expected now) command workers
by_item word words now next expected after items command workers more steps found spells makes = record {
  next = reading after next;
  steps = steps ∙ ap (option_map (reading after)) found;
  left = record { items = items; spells = spells; makes = makes };
}

of_kind : (word : List ℕ) (now : Given) (kind : WordKind) → kind_of word ≡ kind → expected_step expects.Word word now ≡ word_step kind word now
of_kind word now kind is = ap (λ k. word_step k word now) is

spelled : (word : List ℕ) (words : List (List ℕ)) (now : Given) (items : List Item) (command : Command) (workers : ℕ) → Spells (word ∷ words) items
    → Makes now items command workers → Steps word words (reading expects.Word now) command workers
spelled _ words now _ command workers (dashes _) makes = record {
  next = reading expects.Operand now;
  steps = refl;
  left = record { items = map operand words; spells = at_operand words; makes = makes };
}
spelled word words now _ command workers (plain _ _ items is spells) makes =
    let next = moved (operand word) now items command workers makes in
    by_item word words now next.0 expects.Word expects.Word items command workers (with_operand word now)
    (of_kind word now read.plain (kind_of-operand word is)) next.1 (at_word words items spells) next.2
spelled word words now _ command workers (switch option _ items spells) makes =
    let next = moved (switched option) now items command workers makes in
    by_item word words now next.0 expects.Word expects.Word items command workers (with_switch option now)
    (of_kind word now (read.switch option) (kind_of-switch option)) next.1 (at_word words items spells) next.2
spelled word words now _ command workers (joined option value item _ items says spells) makes =
    let next = moved item now items command workers makes in
    by_item word words now next.0 expects.Word expects.Word items command workers (with_value option value now)
    (of_kind word now (read.joined option value) (kind_of-joined option value))
    (put_value option value item now next.0 says next.1) (at_word words items spells) next.2
spelled word _ now _ command workers (apart option value item words items says no_dash spells) makes = record {
  next = reading (expects.Value option) now;
  steps = of_kind word now (read.apart option) (kind_of-apart option);
  left = record { items = item ∷ items; spells = at_value option value item words items says no_dash spells; makes = makes };
}

-- a value that begins with no dash is taken
taken_value : (option : Valued) (word : List ℕ) (now : Given) → HasNoDash word
    → expected_step (expects.Value option) word now ≡ option_map (reading expects.Word) (with_value option word now)
taken_value option word now no_dash = rw (without_dash word no_dash) refl

by_expected : (word : List ℕ) (words : List (List ℕ)) (now : Given) (expected : Expects) (items : List Item) (command : Command) (workers : ℕ)
    → SpellsFrom expected (word ∷ words) items → Makes now items command workers → Steps word words (reading expected now) command workers
by_expected word words now _ items command workers (at_word _ _ spells) makes = spelled word words now items command workers spells makes
by_expected word words now _ _ command workers (at_operand _) makes =
    let next = moved (operand word) now (map operand words) command workers makes in
    by_item word words now next.0 expects.Operand expects.Operand (map operand words) command workers (with_operand word now) refl next.1
    (at_operand words) next.2
by_expected word words now _ _ command workers (at_value option _ item _ items says no_dash spells) makes =
    let next = moved item now items command workers makes in
    by_item word words now next.0 (expects.Value option) expects.Word items command workers (with_value option word now) (taken_value option word now no_dash)
    (put_value option word item now next.0 says next.1) (at_word words items spells) next.2

-- what is left is read
pub left_steps : (word : List ℕ) (words : List (List ℕ)) (now : Reading) (command : Command) (workers : ℕ) → IsLeft now (word ∷ words) command workers
    → Steps word words now command workers
left_steps word words now command workers left = by_expected word words now.given now.expects left.items command workers left.spells left.makes

-- ---- from the step to what was left

mapped : (after : Expects) (more : Option Given) (next : Reading) → option_map (reading after) more ≡ Some next
    → (made : Given) × (more ≡ Some made) × (reading after made ≡ next)
mapped after None next gives = absurd cc
mapped after (Some made) next gives = (made, refl, cc)

chained : (setting : Setting) (now made : Given) (number : Option ℕ) → option_and_then (λ n. with_number setting n now) number ≡ Some made
    → (found : ℕ) × (number ≡ Some found) × (with_number setting found now ≡ Some made)
chained setting now made None gives = absurd cc
chained setting now made (Some number) gives = (number, refl, gives)

-- the items that are left where options are still met
left_items : (now : Given) (words : List (List ℕ)) (command : Command) (workers : ℕ) → IsLeft (reading expects.Word now) words command workers
    → (items : List Item) × Spells words items × Makes now items command workers
left_items now words command workers left = by left.items left.spells left.makes
  where
    by : (items : List Item) → SpellsFrom expects.Word words items → Makes now items command workers
        → (items : List Item) × Spells words items × Makes now items command workers
    by items (at_word _ _ spells) makes = (items, spells, makes)

worded : (test : Bool) (more : Option Given) (made : Given) → (if test then more else None) ≡ Some made → (test ≡ true) × (more ≡ Some made)
worded true more made puts = (refl, puts)
worded false more made puts = absurd cc

-- a value that was put says an item
said : (option : Valued) (word : List ℕ) (now made : Given) → with_value option word now ≡ Some made
    → (item : Item) × SpellsValue option word item × (with_item item now ≡ Some made)
said (Number setting) word now made puts =
    let value = chained setting now made (value_of word) puts in
    (given setting value.0, says_number setting word value.0 (value_writes word value.0 value.1), value.2)
said Pre word now made puts =
    let put = worded (is_condition word) (with_condition word now) made puts in
    (condition word, says_text word ((condition_text word).0 put.0), put.1)

back_value : (option : Valued) (word : List ℕ) (words : List (List ℕ)) (now made : Given) (command : Command) (workers : ℕ)
    → with_value option word now ≡ Some made → IsLeft (reading expects.Word made) words command workers
    → (item : Item) × (items : List Item) × SpellsValue option word item × Spells words items × Makes now (item ∷ items) command workers
back_value option word words now made command workers puts left =
    let item = said option word now made puts in
    let items = left_items made words command workers left in
    (item.0, items.0, item.1, items.1, moved_back item.0 now made items.0 command workers item.2 items.2)

-- after `--` each word that is left is an operand
dashed : (now : Given) (words : List (List ℕ)) (command : Command) (workers : ℕ) → IsLeft (reading expects.Operand now) words command workers
    → Makes now (map operand words) command workers
dashed now words command workers left = by words left.items left.spells left.makes
  where
    by : (words : List (List ℕ)) (items : List Item) → SpellsFrom expects.Operand words items → Makes now items command workers
        → Makes now (map operand words) command workers
    by words _ (at_operand _) makes = makes

-- an option without its value stood before the words
awaited : (option : Valued) (word : List ℕ) (words : List (List ℕ)) (now : Given) (command : Command) (workers : ℕ) → word ≡ name_of option
    → IsLeft (reading (expects.Value option) now) words command workers → IsLeft (reading expects.Word now) (word ∷ words) command workers
awaited option word words now command workers says left = by words left.items left.spells left.makes
  where
    by : (words : List (List ℕ)) (items : List Item) → SpellsFrom (expects.Value option) words items → Makes now items command workers
        → IsLeft (reading expects.Word now) (word ∷ words) command workers
    by _ _ (at_value _ value item words items spelt no_dash spells) makes = record {
      items = item ∷ items;
      spells = at_word (word ∷ value ∷ words) (item ∷ items)
          (subst (λ w. Spells (w ∷ value ∷ words) (item ∷ items)) (sym says) (apart option value item words items spelt no_dash spells));
      makes = makes;
    }

back_word : (kind : WordKind) (word : List ℕ) (words : List (List ℕ)) (now : Given) (next : Reading) (command : Command) (workers : ℕ) → KindSays word kind
    → word_step kind word now ≡ Some next → IsLeft next words command workers → IsLeft (reading expects.Word now) (word ∷ words) command workers
back_word read.dashes word words now next command workers says steps left =
    let same : reading expects.Operand now ≡ next = cc in
    record {
      items = map operand words;
      spells = at_word (word ∷ words) (map operand words) (subst (λ w. Spells (w ∷ words) (map operand words)) (sym says) (dashes words));
      makes = dashed now words command workers (subst (λ n. IsLeft n words command workers) (sym same) left);
    }
back_word read.plain word words now next command workers says steps left =
    let made = mapped expects.Word (with_operand word now) next steps in
    let items = left_items made.0 words command workers (subst (λ n. IsLeft n words command workers) (sym made.2) left) in
    record {
      items = operand word ∷ items.0;
      spells = at_word (word ∷ words) (operand word ∷ items.0) (plain word words items.0 says items.1);
      makes = moved_back (operand word) now made.0 items.0 command workers made.1 items.2;
    }
back_word (read.switch option) word words now next command workers says steps left =
    let made = mapped expects.Word (with_switch option now) next steps in
    let items = left_items made.0 words command workers (subst (λ n. IsLeft n words command workers) (sym made.2) left) in
    record {
      items = switched option ∷ items.0;
      spells = at_word (word ∷ words) (switched option ∷ items.0)
          (subst (λ w. Spells (w ∷ words) (switched option ∷ items.0)) (sym says) (switch option words items.0 items.1));
      makes = moved_back (switched option) now made.0 items.0 command workers made.1 items.2;
    }
back_word (read.joined option value) word words now next command workers says steps left =
    let made = mapped expects.Word (with_value option value now) next steps in
    let back = back_value option value words now made.0 command workers made.1 (subst (λ n. IsLeft n words command workers) (sym made.2) left) in
    record {
      items = back.0 ∷ back.1;
      spells = at_word (word ∷ words) (back.0 ∷ back.1)
          (subst (λ w. Spells (w ∷ words) (back.0 ∷ back.1)) (sym says) (joined option value back.0 words back.1 back.2 back.3));
      makes = back.4;
    }
back_word (read.apart option) word words now next command workers says steps left =
    let same : reading (expects.Value option) now ≡ next = cc in
    awaited option word words now command workers says (subst (λ n. IsLeft n words command workers) (sym same) left)
back_word read.unknown word words now next command workers says steps left = absurd cc

untested : (test : Bool) (more : Option Reading) (next : Reading) → (if test then None else more) ≡ Some next → (test ≡ false) × (more ≡ Some next)
untested true more next steps = absurd cc
untested false more next steps = (refl, steps)

back_expected : (expected : Expects) (word : List ℕ) (words : List (List ℕ)) (now : Given) (next : Reading) (command : Command) (workers : ℕ)
    → expected_step expected word now ≡ Some next → IsLeft next words command workers → IsLeft (reading expected now) (word ∷ words) command workers
back_expected expects.Word word words now next command workers steps left =
    back_word (kind_of word) word words now next command workers (kind_of-says word) steps left
back_expected (expects.Value option) word words now next command workers steps left =
    let taken = untested (begins_with_dash word) (option_map (reading expects.Word) (with_value option word now)) next steps in
    let made = mapped expects.Word (with_value option word now) next taken.1 in
    let back = back_value option word words now made.0 command workers made.1 (subst (λ n. IsLeft n words command workers) (sym made.2) left) in
    record {
      items = back.0 ∷ back.1;
      spells = at_value option word back.0 words back.1 back.2 (dash_missing word taken.0) back.3;
      makes = back.4;
    }
back_expected expects.Operand word words now next command workers steps left =
    let made = mapped expects.Operand (with_operand word now) next steps in
    let makes = dashed made.0 words command workers (subst (λ n. IsLeft n words command workers) (sym made.2) left) in
    record {
      items = map operand (word ∷ words);
      spells = at_operand (word ∷ words);
      makes = moved_back (operand word) now made.0 (map operand words) command workers made.1 makes;
    }

-- what was read was left
pub steps_left : (word : List ℕ) (words : List (List ℕ)) (now next : Reading) (command : Command) (workers : ℕ) → step word now ≡ Some next
    → IsLeft next words command workers → IsLeft now (word ∷ words) command workers
steps_left word words now next = back_expected now.expects word words now.given next
