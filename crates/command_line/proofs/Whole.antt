-- What is read word by word is what the words spell, both ways.
use Rattle.std.proofs.Common.{◌≡◌, ◌≢◌, ◌≤◌, ◌++◌, ℕ, Bool, true, false, List, [], ◌∷◌, Option, Some, None, refl, sym, ap, ◌∙◌, subst, arith, true≢false}
use Rattle.std.specs.Prelude.{map, drop, length, get_or, ◌<◌, ◌+◌, String, string_bytes, codes, bytes_eq, if◌then◌else◌, option_and_then, option_to_list}
use Rattle.std.proofs.lemmas.List.{drop_more, drop_all}
use Rattle.std.proofs.lemmas.Slice.Eq.{bytes_eq-Decides}
use Rattle.c_ast.specs.Bounds.{Bounds, bounds}
use Rattle.command_line.specs.declared.switch.Switch.{Switch}
use Rattle.command_line.specs.declared.switch.Switch.TheVariants.{Alone, History}
use Rattle.command_line.specs.declared.setting.Setting.{Setting}
use Rattle.command_line.specs.declared.setting.Setting.TheVariants.{Workers, Samples, Marks, Rows, Seed}
use Rattle.command_line.specs.declared.given.Given.{Given}
use Rattle.command_line.specs.declared.given.Operands.{Operands}
use Rattle.command_line.specs.declared.given.Operands.TheVariants as names
use Rattle.command_line.specs.declared.reading.Reading.{Reading}
use Rattle.command_line.specs.declared.reading.Expects.{Expects}
use Rattle.command_line.specs.declared.reading.Expects.TheVariants as expects
use Rattle.command_line.specs.declared.words.Command.{Command}
use Rattle.command_line.specs.declared.words.NoCommand.{NoCommand}
use Rattle.command_line.specs.declared.words.NoCommand.TheVariants.{Usage, Memory}
use Rattle.command_line.specs.Refused.{IsNoCommand}
use Rattle.command_line.specs.CommandLine.{Item, end, numbers, switches, times, Sets, AreWorkers, IsCommand, IsOneCommand, dashes, plain, switch, joined, apart}
use Rattle.command_line.specs.Read.{Refuses, nothing, number_of, reading, start, step, read}
use Rattle.command_line.specs.Says.{chosen, chosen_of, command_of, SaysNumbers, IsEnd, Ends}
use Rattle.command_line.proofs.Left.{Makes, file_list, all_switches, is_on_in, number_in}
use Rattle.command_line.proofs.Steps.{SpellsFrom, at_word, at_operand, at_value, IsLeft, left_steps, steps_left}

-- ---- all words

-- what is left is read to its end
left_read : (words : List (List ℕ)) (now : Reading) (command : Command) (workers : ℕ) → IsLeft now words command workers
    → (last : Reading) × (read words now ≡ Some last) × IsLeft last [] command workers
left_read [] now command workers left = (now, refl, left)
left_read (word ∷ words) now command workers left =
    let first = left_steps word words now command workers left in
    let later = left_read words first.next command workers first.left in
    (later.0, ap (option_and_then (read words)) first.steps ∙ later.1, later.2)

first_step : (words : List (List ℕ)) (stepped : Option Reading) (last : Reading) → option_and_then (read words) stepped ≡ Some last
    → (next : Reading) × (stepped ≡ Some next) × (read words next ≡ Some last)
first_step words None last reads = absurd cc
first_step words (Some next) last reads = (next, refl, reads)

-- what was read to its end was left
read_left : (words : List (List ℕ)) (now last : Reading) (command : Command) (workers : ℕ) → read words now ≡ Some last
    → IsLeft last [] command workers → IsLeft now words command workers
read_left [] now last command workers reads left =
    let same : now ≡ last = cc in subst (λ n. IsLeft n [] command workers) (sym same) left
read_left (word ∷ words) now last command workers reads left =
    let first = first_step words (step word now) last reads in
    steps_left word words now first.0 command workers first.1 (read_left words first.0 last command workers first.2 left)

-- ---- the options' numbers

-- a number that was chosen is set, and the other way round
chosen_sets : (setting : Setting) (so_far : Option ℕ) (number : ℕ) → chosen setting so_far ≡ number → Sets setting (option_to_list so_far ++ []) number
chosen_sets setting None number is = sym is
chosen_sets setting (Some given) number is = sym is

sets_chosen : (setting : Setting) (so_far : Option ℕ) (number : ℕ) → Sets setting (option_to_list so_far ++ []) number → chosen setting so_far ≡ number
sets_chosen setting None number sets = sym sets
sets_chosen setting (Some given) number sets = sym sets

says_sets : (now : Given) (command : Command) (numbers : SaysNumbers now command.settings) (setting : Setting)
    → Sets setting (option_to_list (number_of setting now) ++ []) (number_in (chosen_of Workers now) command setting)
says_sets now command numbers Workers = chosen_sets Workers now.workers (chosen_of Workers now) refl
says_sets now command numbers Samples = chosen_sets Samples now.samples command.settings.samples numbers.samples
says_sets now command numbers Marks = chosen_sets Marks now.marks command.settings.marks numbers.marks
says_sets now command numbers Rows = chosen_sets Rows now.rows command.settings.rows numbers.rows
says_sets now command numbers Seed = chosen_sets Seed now.seed command.settings.seed numbers.seed

-- ---- the files

-- the command of two files
abbrev made_of : Bounds → Option (List ℕ) → Bool → List ℕ → List ℕ → Command
made_of numbers text told first second = record { settings = numbers; condition = text; history = told; first = first; second = second }

-- What the command says of its files, its condition and the history.
record Names (now : Operands) (text : Option (List ℕ)) (told : Bool) (command : Command) : Type 0 where
  pub files : file_list now ++ [] ≡ command.first ∷ command.second ∷ []
  pub no_make : command.first ≢ codes "make"
  pub texts : text ≡ command.condition
  pub tells : told ≡ command.history

command_names : (now : Operands) (text : Option (List ℕ)) (told : Bool) (command : Command)
    → command_of command.settings text told now ≡ Some command → Names now text told command
command_names names.None text told command is = absurd cc
command_names (names.First first) text told command is = absurd cc
command_names (names.Both first second) text told command is = by (bytes_eq first (codes "make")) refl is
  where
    by : (test : Bool) → bytes_eq first (codes "make") ≡ test
        → (if test then None else Some (made_of command.settings text told first second)) ≡ Some command
        → Names (names.Both first second) text told command
    by true make is = absurd cc
    by false make is =
        let same : made_of command.settings text told first second ≡ command = cc in
        record {
          files = ap (λ (c : Command). c.first ∷ c.second ∷ []) same;
          no_make = λ e. true≢false (sym ((bytes_eq-Decides first (codes "make")).1 (ap (λ (c : Command). c.first) same ∙ e)) ∙ make);
          texts = ap (λ (c : Command). c.condition) same;
          tells = ap (λ (c : Command). c.history) same;
        }

names_command : (now : Operands) (text : Option (List ℕ)) (told : Bool) (command : Command) → Names now text told command
    → command_of command.settings text told now ≡ Some command
names_command names.None text told command says = let is = says.files in absurd cc
names_command (names.First first) text told command says = let is = says.files in absurd cc
names_command (names.Both first second) text told command says =
    let is = says.files in
    let firsts : first ≡ command.first = cc in
    let seconds : second ≡ command.second = cc in
    rw (firsts, seconds, says.texts, says.tells) (by (bytes_eq command.first (codes "make")) refl)
  where
    by : (test : Bool) → bytes_eq command.first (codes "make") ≡ test
        → (if test then None else Some (made_of command.settings command.condition command.history command.first command.second)) ≡ Some command
    by true make = absurd (says.no_make ((bytes_eq-Decides command.first (codes "make")).0 make))
    by false make = refl

-- a text, or none, is found in its list
one_text : (a b : Option (List ℕ)) → option_to_list a ++ [] ≡ option_to_list b → a ≡ b
one_text None None is = refl
one_text None (Some y) is = absurd cc
one_text (Some x) None is = absurd cc
one_text (Some x) (Some y) is = cc

text_list : (a : Option (List ℕ)) → option_to_list a ++ [] ≡ option_to_list a
text_list None = refl
text_list (Some x) = refl

-- ---- the end of the words

same_turn : (one other : Bool) → times one ≡ times other → one ≡ other
same_turn true true is = refl
same_turn true false is = absurd cc
same_turn false true is = absurd cc
same_turn false false is = refl

-- at the end a switch stood as often as it was on
no_more : (turns : ℕ) → turns + 0 ≡ turns
no_more turns = omega arith

end_turns : (now : Given) (command : Command) → now.alone ≡ true → now.history ≡ command.history → (option : Switch)
    → all_switches option now [] ≡ times (is_on_in command option)
end_turns now command stood told Alone = no_more (times now.alone) ∙ ap times stood
end_turns now command stood told History = no_more (times now.history) ∙ ap times told

at_end : (now : Given) (command : Command) (workers : ℕ) (expected : Expects) → IsEnd expected → Makes now [] command workers
    → IsLeft (reading expected now) [] command workers
at_end now command workers expects.Word ended makes = record { items = []; spells = at_word [] [] end; makes = makes }
at_end now command workers (expects.Value option) ended makes = absurd ended
at_end now command workers expects.Operand ended makes = record { items = []; spells = at_operand []; makes = makes }

ended_at : (now : Given) (command : Command) (workers : ℕ) (expected : Expects) (words : List (List ℕ)) (items : List Item) → words ≡ []
    → SpellsFrom expected words items → Makes now items command workers → IsEnd expected × Makes now [] command workers
ended_at now command workers _ _ _ none (at_word _ _ end) makes = (tt, makes)
ended_at now command workers _ _ _ none (at_word _ _ (dashes _)) makes = absurd cc
ended_at now command workers _ _ _ none (at_word _ _ (plain _ _ _ _ _)) makes = absurd cc
ended_at now command workers _ _ _ none (at_word _ _ (switch _ _ _ _)) makes = absurd cc
ended_at now command workers _ _ _ none (at_word _ _ (joined _ _ _ _ _ _ _)) makes = absurd cc
ended_at now command workers _ _ _ none (at_word _ _ (apart _ _ _ _ _ _ _ _)) makes = absurd cc
ended_at now command workers _ _ _ none (at_operand []) makes = (tt, makes)
ended_at now command workers _ _ _ none (at_operand (word ∷ words)) makes = absurd cc
ended_at now command workers _ _ _ none (at_value _ _ _ _ _ _ _ _) makes = absurd cc

ends_left : (last : Reading) (command : Command) → Ends last command → (workers : ℕ) × IsLeft last [] command workers × (command.first ≢ codes "make")
ends_left last command ends =
    let says = ends.says in
    let names = command_names last.given.operands last.given.condition last.given.history command says.files in
    let workers = chosen_of Workers last.given in
    let makes : Makes last.given [] command workers = record {
      turns = end_turns last.given command says.alone names.tells;
      sets = says_sets last.given command says.numbers;
      pre = text_list last.given.condition ∙ ap option_to_list names.texts;
      within = says.numbers.within;
      few_workers = says.numbers.workers;
      names = names.files;
    } in
    (workers, at_end last.given command workers last.expects ends.end makes, names.no_make)

left_ends : (last : Reading) (command : Command) (workers : ℕ) → IsLeft last [] command workers → command.first ≢ codes "make" → Ends last command
left_ends last command workers left no_make =
    let ended = ended_at last.given command workers last.expects [] left.items refl left.spells left.makes in
    let makes = ended.1 in
    let names : Names last.given.operands last.given.condition last.given.history command = record {
      files = makes.names;
      no_make = no_make;
      texts = one_text last.given.condition command.condition makes.pre;
      tells = same_turn last.given.history command.history (sym (no_more (times last.given.history)) ∙ makes.turns History);
    } in
    record {
      end = ended.0;
      says = record {
        alone = same_turn last.given.alone true (sym (no_more (times last.given.alone)) ∙ makes.turns Alone);
        numbers = record {
          workers = subst AreWorkers (sym (sets_chosen Workers last.given.workers workers (makes.sets Workers))) makes.few_workers;
          samples = sets_chosen Samples last.given.samples command.settings.samples (makes.sets Samples);
          marks = sets_chosen Marks last.given.marks command.settings.marks (makes.sets Marks);
          rows = sets_chosen Rows last.given.rows command.settings.rows (makes.sets Rows);
          seed = sets_chosen Seed last.given.seed command.settings.seed (makes.sets Seed);
          within = makes.within;
        };
        files = names_command last.given.operands last.given.condition last.given.history command names;
      };
    }

-- ---- a command line

command_sets : (words : List (List ℕ)) (command : Command) (is : IsCommand words command) (setting : Setting)
    → Sets setting (numbers setting is.items) (number_in is.workers command setting)
command_sets words command is Workers = is.some_workers
command_sets words command is Samples = is.samples
command_sets words command is Marks = is.marks
command_sets words command is Rows = is.rows
command_sets words command is Seed = is.seed

-- no switch stood before the first word
no_turns : (turns : ℕ) → 0 + turns ≡ turns
no_turns turns = omega arith

command_turns : (words : List (List ℕ)) (command : Command) (is : IsCommand words command) (option : Switch)
    → all_switches option nothing is.items ≡ times (is_on_in command option)
command_turns words command is Alone = no_turns (switches Alone is.items) ∙ is.alone_once
command_turns words command is History = no_turns (switches History is.items) ∙ is.told

no_number : (setting : Setting) → number_of setting nothing ≡ None
no_number Workers = refl
no_number Samples = refl
no_number Marks = refl
no_number Rows = refl
no_number Seed = refl

command_left : (words : List (List ℕ)) (command : Command) (is : IsCommand words command) → IsLeft start words command is.workers
command_left words command is = record {
  items = is.items;
  spells = at_word words is.items is.spells;
  makes = record {
    turns = command_turns words command is;
    sets = λ setting. rw (no_number setting) (command_sets words command is setting);
    pre = is.pre;
    within = is.within;
    few_workers = is.few_workers;
    names = is.files;
  };
}

-- The words are read, and this is what they say.
pub record Reads (words : List (List ℕ)) (command : Command) : Type 0 where
  pub last : Reading
  pub reads : read words start ≡ Some last
  pub ends : Ends last command

-- a command line is read
pub command_reads : (words : List (List ℕ)) (command : Command) → IsCommand words command → Reads words command
command_reads words command is =
    let later = left_read words start command is.workers (command_left words command is) in
    record { last = later.0; reads = later.1; ends = left_ends later.0 command is.workers later.2 is.no_make }

-- what is read is a command line
pub reads_command : (words : List (List ℕ)) (last : Reading) (command : Command) → read words start ≡ Some last → Ends last command → IsCommand words command
reads_command words last command reads ends =
    let ended = ends_left last command ends in
    let left = read_left words start last command ended.0 reads ended.1 in
    by left.items left.spells ended.0 left.makes ended.2
  where
    by : (items : List Item) → SpellsFrom expects.Word words items → (workers : ℕ) → Makes nothing items command workers → command.first ≢ codes "make"
        → IsCommand words command
    by items (at_word _ _ spells) workers makes no_make = record {
      items = items;
      spells = spells;
      alone_once = sym (no_turns (switches Alone items)) ∙ makes.turns Alone;
      workers = workers;
      some_workers = makes.sets Workers;
      few_workers = makes.few_workers;
      samples = makes.sets Samples;
      marks = makes.sets Marks;
      rows = makes.sets Rows;
      seed = makes.sets Seed;
      within = makes.within;
      told = sym (no_turns (switches History items)) ∙ makes.turns History;
      pre = makes.pre;
      files = makes.names;
      no_make = no_make;
    }

-- words that cannot be read to their end are no command line
pub unread : (words : List (List ℕ)) → read words start ≡ None → (command : Command) → ¬ IsCommand words command
unread words fails command is = let reads = (command_reads words command is).reads in absurd cc

-- nor are words that say nothing at their end
pub unsaid : (words : List (List ℕ)) (last : Reading) → read words start ≡ Some last → ((command : Command) → ¬ Ends last command)
    → (command : Command) → ¬ IsCommand words command
unsaid words last reads none command is =
    let found = command_reads words command is in
    let again = found.reads in
    let same : found.last ≡ last = cc in
    none command (subst (λ n. Ends n command) same found.ends)

-- ---- one command

-- what was read makes one command at most
one_end : (last : Reading) (one other : Command) → Ends last one → Ends last other → one ≡ other
one_end last one other ends also =
    let numbers = ends.says.numbers in
    let others = also.says.numbers in
    let samples : one.settings.samples ≡ other.settings.samples = sym numbers.samples ∙ others.samples in
    let marks : one.settings.marks ≡ other.settings.marks = sym numbers.marks ∙ others.marks in
    let rows : one.settings.rows ≡ other.settings.rows = sym numbers.rows ∙ others.rows in
    let seed : one.settings.seed ≡ other.settings.seed = sym numbers.seed ∙ others.seed in
    let settings : one.settings ≡ other.settings =
    ap (λ n. bounds n one.settings.marks one.settings.rows one.settings.seed) samples
    ∙ ap (λ n. bounds other.settings.samples n one.settings.rows one.settings.seed) marks
    ∙ ap (λ n. bounds other.settings.samples other.settings.marks n one.settings.seed) rows
    ∙ ap (λ n. bounds other.settings.samples other.settings.marks other.settings.rows n) seed in
    let files : command_of one.settings last.given.condition last.given.history last.given.operands ≡ Some one = ends.says.files in
    let other_files : command_of other.settings last.given.condition last.given.history last.given.operands ≡ Some other = also.says.files in
    let moved : Some one ≡ Some other = sym files ∙ ap (λ b. command_of b last.given.condition last.given.history last.given.operands) settings ∙ other_files in
    cc

pub one_command_only : IsOneCommand
one_command_only words one other is also =
    let reads = command_reads words one is in
    let others = command_reads words other also in
    let first = reads.reads in
    let second = others.reads in
    let same : others.last ≡ reads.last = cc in
    one_end reads.last one other reads.ends (subst (λ n. Ends n other) same others.ends)

-- ---- the loop

-- the next word of those that are left
pub next_word : {Z : Type 0} (words : List (String Z)) (place : ℕ) (word : String Z) (now : Reading) → place < length words → word ≡ get_or words place word
    → read (map string_bytes (drop place words)) now ≡ option_and_then (read (map string_bytes (drop (place + 1) words))) (step (string_bytes word) now)
next_word words place word now inside is =
    ap (λ left. read (map string_bytes left) now) (drop_more words place word inside)
    ∙ ap (λ w. option_and_then (read (map string_bytes (drop (place + 1) words))) (step (string_bytes w) now)) (sym is)

-- no word is left
pub no_word : {Z : Type 0} (words : List (String Z)) (place : ℕ) (now : Reading) → length words ≤ place
    → read (map string_bytes (drop place words)) now ≡ Some now
no_word words place now outside = ap (λ left. read (map string_bytes left) now) (drop_all place words outside)

-- a refusal of one word is one of all
pub refused_word : (words left : List (List ℕ)) (word : List ℕ) (now : Reading) (fault : NoCommand)
    → option_and_then (read left) (step word now) ≡ read words start → Refuses (step word now ≡ None) fault → IsNoCommand words fault
refused_word words left word now Usage all refuses = unread words (sym all ∙ ap (option_and_then (read left)) refuses)
refused_word words left word now Memory all refuses = tt
