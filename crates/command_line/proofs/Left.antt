-- The items that are left when some words were read.
use Rattle.std.proofs.Common.{◌≡◌, ◌≢◌, ◌+◌, ◌++◌, ℕ, suc, Bool, true, false, List, [], ◌∷◌, Option, Some, None, refl, sym, ap, ◌∙◌, subst, arith}
use Rattle.std.specs.Prelude.{if◌then◌else◌, option_to_list, option_map, is_some}
use Rattle.c_ast.specs.Bounds.{AreBounds}
use Rattle.command_line.specs.declared.switch.Switch.{Switch}
use Rattle.command_line.specs.declared.switch.Switch.TheVariants.{Alone, History}
use Rattle.command_line.specs.declared.setting.Setting.{Setting}
use Rattle.command_line.specs.declared.setting.Setting.TheVariants.{Workers, Samples, Marks, Rows, Seed}
use Rattle.command_line.specs.declared.given.Given.{Given}
use Rattle.command_line.specs.declared.given.Operands.{Operands}
use Rattle.command_line.specs.declared.given.Operands.TheVariants as names
use Rattle.command_line.specs.declared.words.Command.{Command}
use Rattle.command_line.specs.CommandLine.{Item, switched, given, condition, operand, operands, switches, times, conditions, numbers, Sets, AreWorkers}
use Rattle.command_line.specs.Read.{is_on, turned_on, number_of, put, with_switch, with_number, with_condition, with_operand, one_more}

-- the names so far
abbrev pub file_list : Operands → List (List ℕ)
file_list names.None = []
file_list (names.First first) = first ∷ []
file_list (names.Both first second) = first ∷ second ∷ []

-- the option's numbers, those so far and those of the items
abbrev pub all_numbers : Setting → Given → List Item → List ℕ
all_numbers setting now items = option_to_list (number_of setting now) ++ numbers setting items

-- how often the switch stands, so far and among the items
abbrev pub all_switches : Switch → Given → List Item → ℕ
all_switches option now items = times (is_on option now) + switches option items

-- whether the switch is on in a command
abbrev pub is_on_in : Command → Switch → Bool
is_on_in command Alone = true
is_on_in command History = command.history

-- the options' numbers of a command
abbrev pub number_in : ℕ → Command → Setting → ℕ
number_in workers command Workers = workers
number_in workers command Samples = command.settings.samples
number_in workers command Marks = command.settings.marks
number_in workers command Rows = command.settings.rows
number_in workers command Seed = command.settings.seed

-- What was given and the items that are left make the command.
pub record Makes (now : Given) (items : List Item) (command : Command) (workers : ℕ) : Type 0 where
  pub turns : (option : Switch) → all_switches option now items ≡ times (is_on_in command option)
  pub sets : (setting : Setting) → Sets setting (all_numbers setting now items) (number_in workers command setting)
  pub pre : option_to_list now.condition ++ conditions items ≡ option_to_list command.condition
  pub within : AreBounds command.settings
  pub few_workers : AreWorkers workers
  pub names : file_list now.operands ++ operands items ≡ command.first ∷ command.second ∷ []

-- what was given with one item more
abbrev pub with_item : Item → Given → Option Given
with_item (switched option) now = with_switch option now
with_item (given setting number) now = with_number setting number now
with_item (condition text) now = with_condition text now
with_item (operand word) now = with_operand word now

-- ---- numbers

-- where the option has no number, the next one is put
moved_numbers : (setting other : Setting) (number : ℕ) (now : Given) (items : List Item) → number_of setting now ≡ None
    → all_numbers other now (given setting number ∷ items) ≡ all_numbers other (put setting number now) items
moved_numbers Workers Workers number now items is = rw is refl
moved_numbers Workers Samples number now items is = refl
moved_numbers Workers Marks number now items is = refl
moved_numbers Workers Rows number now items is = refl
moved_numbers Workers Seed number now items is = refl
moved_numbers Samples Workers number now items is = refl
moved_numbers Samples Samples number now items is = rw is refl
moved_numbers Samples Marks number now items is = refl
moved_numbers Samples Rows number now items is = refl
moved_numbers Samples Seed number now items is = refl
moved_numbers Marks Workers number now items is = refl
moved_numbers Marks Samples number now items is = refl
moved_numbers Marks Marks number now items is = rw is refl
moved_numbers Marks Rows number now items is = refl
moved_numbers Marks Seed number now items is = refl
moved_numbers Rows Workers number now items is = refl
moved_numbers Rows Samples number now items is = refl
moved_numbers Rows Marks number now items is = refl
moved_numbers Rows Rows number now items is = rw is refl
moved_numbers Rows Seed number now items is = refl
moved_numbers Seed Workers number now items is = refl
moved_numbers Seed Samples number now items is = refl
moved_numbers Seed Marks number now items is = refl
moved_numbers Seed Rows number now items is = refl
moved_numbers Seed Seed number now items is = rw is refl

-- a number among those that set an option is the only one
sole : (setting : Setting) (so_far : Option ℕ) (number set : ℕ) (others : List ℕ) → Sets setting (option_to_list so_far ++ number ∷ others) set
    → so_far ≡ None
sole setting None number set others sets = refl
sole setting (Some first) number set others sets = absurd sets

own_numbers : (setting : Setting) (number : ℕ) (items : List Item) → numbers setting (given setting number ∷ items) ≡ number ∷ numbers setting items
own_numbers Workers number items = refl
own_numbers Samples number items = refl
own_numbers Marks number items = refl
own_numbers Rows number items = refl
own_numbers Seed number items = refl

-- ---- switches

counted : (turns : ℕ) → 0 + suc turns ≡ 1 + turns
counted turns = omega arith

-- a switch that stands among the items and was off is turned on
moved_turns : (option other : Switch) (now : Given) (items : List Item) → is_on option now ≡ false
    → all_switches other now (switched option ∷ items) ≡ all_switches other (turned_on option now) items
moved_turns Alone Alone now items is = rw is (counted (switches Alone items))
moved_turns Alone History now items is = refl
moved_turns History Alone now items is = refl
moved_turns History History now items is = rw is (counted (switches History items))

not_before : (before : Bool) (others : ℕ) (last : Bool) → times before + suc others ≡ times last → before ≡ false
not_before true others true is = absurd (omega arith)
not_before true others false is = absurd (omega arith)
not_before false others last is = refl

-- a switch that stands among the items was off
was_off : (option : Switch) (now : Given) (items : List Item) (last : Bool) → all_switches option now (switched option ∷ items) ≡ times last
    → is_on option now ≡ false
was_off Alone now items last is = not_before now.alone (switches Alone items) last is
was_off History now items last is = not_before now.history (switches History items) last is

-- ---- conditions

-- a text among those of one condition at most is the only one
sole_text : (so_far given_text : Option (List ℕ)) (text : List ℕ) (others : List (List ℕ)) → option_to_list so_far ++ text ∷ others ≡ option_to_list given_text
    → so_far ≡ None
sole_text None given_text text others is = refl
sole_text (Some first) None text others is = absurd cc
sole_text (Some first) (Some one) text others is = absurd cc

-- ---- operands

no_third : (first second third : List ℕ) (one other : List ℕ) (others : List (List ℕ)) → first ∷ second ∷ third ∷ others ≢ one ∷ other ∷ []
no_third first second third one other others is = absurd cc

moved_names : (word : List ℕ) (now : Operands) (others : List (List ℕ)) (one other : List ℕ) → file_list now ++ word ∷ others ≡ one ∷ other ∷ []
    → (next : Operands) × (one_more word now ≡ Some next) × (file_list next ++ others ≡ one ∷ other ∷ [])
moved_names word names.None others one other is = (names.First word, refl, is)
moved_names word (names.First first) others one other is = (names.Both first word, refl, is)
moved_names word (names.Both first second) others one other is = absurd (no_third first second word one other others is)

joined_names : (word : List ℕ) (now next : Operands) (others : List (List ℕ)) → one_more word now ≡ Some next
    → file_list now ++ word ∷ others ≡ file_list next ++ others
joined_names word names.None next others is = let same : names.First word ≡ next = cc in ap (λ l. file_list l ++ others) same
joined_names word (names.First first) next others is = let same : names.Both first word ≡ next = cc in ap (λ l. file_list l ++ others) same
joined_names word (names.Both first second) next others is = absurd cc

-- ---- what a step leaves

-- numbers stay where a switch, a condition or an operand is given
other_numbers : (setting : Setting) (now : Given) (switch other : Bool) (text : Option (List ℕ)) (more : Operands)
    → number_of setting (record now { alone = switch; history = other; condition = text; operands = more }) ≡ number_of setting now
other_numbers Workers now switch other text more = refl
other_numbers Samples now switch other text more = refl
other_numbers Marks now switch other text more = refl
other_numbers Rows now switch other text more = refl
other_numbers Seed now switch other text more = refl

-- numbers, the condition and the operands stay where a switch is turned on
turned_stay : (option : Switch) (now : Given)
    → ((setting : Setting) → number_of setting (turned_on option now) ≡ number_of setting now)
    × ((turned_on option now).condition ≡ now.condition) × ((turned_on option now).operands ≡ now.operands)
turned_stay Alone now = (λ setting. other_numbers setting now true now.history now.condition now.operands, refl, refl)
turned_stay History now = (λ setting. other_numbers setting now now.alone true now.condition now.operands, refl, refl)

-- switches, the condition and the operands stay where a number is given
others_stay : (setting : Setting) (number : ℕ) (now : Given)
    → ((put setting number now).alone ≡ now.alone) × ((put setting number now).history ≡ now.history)
    × ((put setting number now).condition ≡ now.condition) × ((put setting number now).operands ≡ now.operands)
others_stay Workers number now = (refl, refl, refl, refl)
others_stay Samples number now = (refl, refl, refl, refl)
others_stay Marks number now = (refl, refl, refl, refl)
others_stay Rows number now = (refl, refl, refl, refl)
others_stay Seed number now = (refl, refl, refl, refl)

still_on : (option : Switch) (setting : Setting) (number : ℕ) (now : Given) → is_on option (put setting number now) ≡ is_on option now
still_on Alone setting number now = (others_stay setting number now).0
still_on History setting number now = (others_stay setting number now).1

-- switches stay where a condition or an operand is given
other_turns : (option : Switch) (now : Given) (text : Option (List ℕ)) (more : Operands)
    → is_on option (record now { condition = text; operands = more }) ≡ is_on option now
other_turns Alone now text more = refl
other_turns History now text more = refl

-- The option of the first item that is left has its numbers.
own_sets : (setting : Setting) (number : ℕ) (now : Given) (items : List Item) (command : Command)
    (workers : ℕ) → Makes now (given setting number ∷ items) command workers
    → Sets setting (option_to_list (number_of setting now) ++ number ∷ numbers setting items)
    (number_in workers command setting)
own_sets setting number now items command workers makes =
    let so_far = option_to_list (number_of setting now) in
    subst (λ l. Sets setting (so_far ++ l) (number_in workers command setting))
    (own_numbers setting number items) (makes.sets setting)

-- ---- one item

-- the first item left is given next
pub moved : (item : Item) (now : Given) (items : List Item) (command : Command) (workers : ℕ) → Makes now (item ∷ items) command workers
    → (next : Given) × (with_item item now ≡ Some next) × Makes next items command workers
moved (switched option) now items command workers makes =
    let off : is_on option now ≡ false = was_off option now items (is_on_in command option) (makes.turns option) in
    let stay = turned_stay option now in
    let turned_text : (turned_on option now).condition ≡ now.condition = stay.1 in
    let turned_files : (turned_on option now).operands ≡ now.operands = stay.2 in (
      turned_on option now,
      rw off refl,
      record {
        turns = λ other. sym (moved_turns option other now items off) ∙ makes.turns other;
        sets = λ setting. subst (λ n. Sets setting (option_to_list n ++ numbers setting items) (number_in workers command setting))
            (sym (stay.0 setting)) (makes.sets setting);
        pre = rw turned_text makes.pre;
        within = makes.within;
        few_workers = makes.few_workers;
        names = rw turned_files makes.names;
      },
    )
moved (given setting number) now items command workers makes =
    let own = own_sets setting number now items command workers makes in
    let none : number_of setting now ≡ None =
    sole setting (number_of setting now) number (number_in workers command setting) (numbers setting items) own in
    let stay = others_stay setting number now in
    let put_text : (put setting number now).condition ≡ now.condition = stay.2 in
    let put_files : (put setting number now).operands ≡ now.operands = stay.3 in (
      put setting number now,
      rw none refl,
      record {
        turns = λ option. ap (λ t. times t + switches option items) (still_on option setting number now) ∙ makes.turns option;
        sets = λ other. subst (λ l. Sets other l (number_in workers command other)) (moved_numbers setting other number now items none) (makes.sets other);
        pre = rw put_text makes.pre;
        within = makes.within;
        few_workers = makes.few_workers;
        names = rw put_files makes.names;
      },
    )
moved (condition text) now items command workers makes =
    let none : now.condition ≡ None = sole_text now.condition command.condition text (conditions items) makes.pre in
    let next : Given = record now { condition = Some text } in (
      next,
      rw none refl,
      record {
        turns = λ option. ap (λ t. times t + switches option items) (other_turns option now (Some text) now.operands) ∙ makes.turns option;
        sets = λ setting. subst (λ n. Sets setting (option_to_list n ++ numbers setting items) (number_in workers command setting))
            (sym (other_numbers setting now now.alone now.history (Some text) now.operands)) (makes.sets setting);
        pre = rw none at makes.pre;
        within = makes.within;
        few_workers = makes.few_workers;
        names = makes.names;
      },
    )
moved (operand word) now items command workers makes =
    let next = moved_names word now.operands (operands items) command.first command.second makes.names in (
      record now { operands = next.0 },
      ap (option_map (λ more. record now { operands = more })) next.1,
      record {
        turns = λ option. ap (λ t. times t + switches option items) (other_turns option now now.condition next.0) ∙ makes.turns option;
        sets = λ setting. subst (λ n. Sets setting (option_to_list n ++ numbers setting items) (number_in workers command setting))
            (sym (other_numbers setting now now.alone now.history now.condition next.0)) (makes.sets setting);
        pre = makes.pre;
        within = makes.within;
        few_workers = makes.few_workers;
        names = next.2;
      },
    )

turned : (before : Bool) (made next : Given) → (if before then None else Some made) ≡ Some next → (before ≡ false) × (made ≡ next)
turned true made next gives = absurd cc
turned false made next gives = (refl, cc)

numbered : (so_far : Option ℕ) (made next : Given) → (if is_some so_far then None else Some made) ≡ Some next → (so_far ≡ None) × (made ≡ next)
numbered None made next gives = (refl, cc)
numbered (Some number) made next gives = absurd cc

worded : (so_far : Option (List ℕ)) (made next : Given) → (if is_some so_far then None else Some made) ≡ Some next → (so_far ≡ None) × (made ≡ next)
worded None made next gives = (refl, cc)
worded (Some text) made next gives = absurd cc

named : (now next : Given) (more : Option Operands) → option_map (λ names. record now { operands = names }) more ≡ Some next
    → (names : Operands) × (more ≡ Some names) × (record now { operands = names } ≡ next)
named now next None gives = absurd cc
named now next (Some names) gives = (names, refl, cc)

-- the item that was given was the first one left
pub moved_back : (item : Item) (now next : Given) (items : List Item) (command : Command) (workers : ℕ) → with_item item now ≡ Some next
    → Makes next items command workers → Makes now (item ∷ items) command workers
moved_back (switched option) now next items command workers gives makes =
    let before = turned (is_on option now) (turned_on option now) next gives in
    let made : Makes (turned_on option now) items command workers = subst (λ g. Makes g items command workers) (sym before.1) makes in
    let stay = turned_stay option now in
    let turned_text : (turned_on option now).condition ≡ now.condition = stay.1 in
    let turned_files : (turned_on option now).operands ≡ now.operands = stay.2 in
    record {
      turns = λ other. moved_turns option other now items before.0 ∙ made.turns other;
      sets = λ setting. subst (λ n. Sets setting (option_to_list n ++ numbers setting items) (number_in workers command setting))
          (stay.0 setting) (made.sets setting);
      pre = rw turned_text at made.pre;
      within = made.within;
      few_workers = made.few_workers;
      names = rw turned_files at made.names;
    }
moved_back (given setting number) now next items command workers gives makes =
    let before = numbered (number_of setting now) (put setting number now) next gives in
    let made : Makes (put setting number now) items command workers = subst (λ g. Makes g items command workers) (sym before.1) makes in
    let stay = others_stay setting number now in
    let put_text : (put setting number now).condition ≡ now.condition = stay.2 in
    let put_files : (put setting number now).operands ≡ now.operands = stay.3 in
    record {
      turns = λ option. ap (λ t. times t + switches option items) (sym (still_on option setting number now)) ∙ made.turns option;
      sets = λ other. subst (λ l. Sets other l (number_in workers command other)) (sym (moved_numbers setting other number now items before.0))
          (made.sets other);
      pre = rw put_text at made.pre;
      within = made.within;
      few_workers = made.few_workers;
      names = rw put_files at made.names;
    }
moved_back (condition text) now next items command workers gives makes =
    let before = worded now.condition (record now { condition = Some text }) next gives in
    let none : now.condition ≡ None = before.0 in
    let made : Makes (record now { condition = Some text }) items command workers = subst (λ g. Makes g items command workers) (sym before.1) makes in
    record {
      turns = λ option. ap (λ t. times t + switches option items) (sym (other_turns option now (Some text) now.operands)) ∙ made.turns option;
      sets = λ setting. subst (λ n. Sets setting (option_to_list n ++ numbers setting items) (number_in workers command setting))
          (other_numbers setting now now.alone now.history (Some text) now.operands) (made.sets setting);
      pre = rw none made.pre;
      within = made.within;
      few_workers = made.few_workers;
      names = made.names;
    }
moved_back (operand word) now next items command workers gives makes =
    let before = named now next (one_more word now.operands) gives in
    let made : Makes (record now { operands = before.0 }) items command workers = subst (λ g. Makes g items command workers) (sym before.2) makes in
    record {
      turns = λ option. ap (λ t. times t + switches option items) (sym (other_turns option now now.condition before.0)) ∙ made.turns option;
      sets = λ setting. subst (λ n. Sets setting (option_to_list n ++ numbers setting items) (number_in workers command setting))
          (other_numbers setting now now.alone now.history now.condition before.0) (made.sets setting);
      pre = made.pre;
      within = made.within;
      few_workers = made.few_workers;
      names = joined_names word now.operands before.0 (operands items) before.1 ∙ made.names;
    }
