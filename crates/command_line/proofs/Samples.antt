-- The definitions on small command lines.
use Rattle.std.proofs.Common.{ℕ, true, false, List, [], ◌∷◌, Some, None, refl, arith}
use Rattle.std.specs.Prelude.{codes}
use Rattle.c_ast.specs.Bounds.{AreBounds, bounds}
use Rattle.command_line.specs.declared.switch.Switch.TheVariants.{Alone, History}
use Rattle.command_line.specs.declared.setting.Setting.TheVariants.{Samples, Seed}
use Rattle.command_line.specs.declared.setting.Valued.TheVariants.{Number, Pre}
use Rattle.command_line.specs.declared.words.Command.{Command}
use Rattle.command_line.specs.CommandLine.{switched, given, condition, operand, Writes, says_number, says_text, end, dashes, plain, switch, joined, apart, IsCommand}
use Rattle.command_line.proofs.Whole.{unread}

abbrev command : ℕ → ℕ → ℕ → ℕ → List ℕ → List ℕ → Command
command samples marks rows seed first second = record {
  settings = bounds samples marks rows seed;
  condition = None;
  history = false;
  first = first;
  second = second;
}

some_bounds : AreBounds (bounds 100 64 4000 0)
some_bounds = record {
  some_samples = omega arith;
  few_samples = omega arith;
  some_marks = omega arith;
  few_marks = omega arith;
  some_rows = omega arith;
  few_rows = omega arith;
}

other_bounds : AreBounds (bounds 7 64 4000 12)
other_bounds = record {
  some_samples = omega arith;
  few_samples = omega arith;
  some_marks = omega arith;
  few_marks = omega arith;
  some_rows = omega arith;
  few_rows = omega arith;
}

-- --alone A.c B.c
no_options : IsCommand (codes "--alone" ∷ codes "A.c" ∷ codes "B.c" ∷ []) (command 100 64 4000 0 (codes "A.c") (codes "B.c"))
no_options = record {
  items = switched Alone ∷ operand (codes "A.c") ∷ operand (codes "B.c") ∷ [];
  spells = switch Alone _ _ (plain _ _ _ (λ dash. cc) (plain _ _ _ (λ dash. cc) end));
  alone_once = refl;
  workers = 4;
  some_workers = refl;
  few_workers = (omega arith, omega arith);
  samples = refl;
  marks = refl;
  rows = refl;
  seed = refl;
  within = some_bounds;
  told = refl;
  pre = refl;
  files = refl;
  no_make = λ make. cc;
}

seven : Writes (codes "+07") 7
seven = record { numeral = (omega arith, (omega arith, (omega arith, tt))); value = refl; fits = omega arith }

twelve : Writes (codes "12") 12
twelve = record { numeral = (omega arith, (omega arith, (omega arith, tt))); value = refl; fits = omega arith }

-- - --samples=+07 --alone --seed 12 -- --
mixed : IsCommand (codes "-" ∷ codes "--samples=+07" ∷ codes "--alone" ∷ codes "--seed" ∷ codes "12" ∷ codes "--" ∷ codes "--" ∷ [])
    (command 7 64 4000 12 (codes "-") (codes "--"))
mixed = record {
  items = operand (codes "-") ∷ given Samples 7 ∷ switched Alone ∷ given Seed 12 ∷ operand (codes "--") ∷ [];
  spells = plain _ _ _ tt
      (joined (Number Samples) (codes "+07") (given Samples 7) _ _ (says_number Samples _ 7 seven)
      (switch Alone _ _ (apart (Number Seed) (codes "12") (given Seed 12) _ _ (says_number Seed _ 12 twelve) (λ dash. cc) (dashes _))));
  alone_once = refl;
  workers = 4;
  some_workers = refl;
  few_workers = (omega arith, omega arith);
  samples = refl;
  marks = refl;
  rows = refl;
  seed = refl;
  within = other_bounds;
  told = refl;
  pre = refl;
  files = refl;
  no_make = λ make. cc;
}

-- --pre=n=-1 A.c --alone B.c
conditional : IsCommand (codes "--pre=n=-1" ∷ codes "A.c" ∷ codes "--alone" ∷ codes "B.c" ∷ [])
    (record (command 100 64 4000 0 (codes "A.c") (codes "B.c")) { condition = Some (codes "n=-1") })
conditional = record {
  items = condition (codes "n=-1") ∷ operand (codes "A.c") ∷ switched Alone ∷ operand (codes "B.c") ∷ [];
  spells = joined Pre (codes "n=-1") (condition (codes "n=-1")) _ _ (says_text _ (omega arith, omega arith))
      (plain _ _ _ (λ dash. cc) (switch Alone _ _ (plain _ _ _ (λ dash. cc) end)));
  alone_once = refl;
  workers = 4;
  some_workers = refl;
  few_workers = (omega arith, omega arith);
  samples = refl;
  marks = refl;
  rows = refl;
  seed = refl;
  within = some_bounds;
  told = refl;
  pre = refl;
  files = refl;
  no_make = λ make. cc;
}

-- --history A.c --alone -- --history
told : IsCommand (codes "--history" ∷ codes "A.c" ∷ codes "--alone" ∷ codes "--" ∷ codes "--history" ∷ [])
    (record (command 100 64 4000 0 (codes "A.c") (codes "--history")) { history = true })
told = record {
  items = switched History ∷ operand (codes "A.c") ∷ switched Alone ∷ operand (codes "--history") ∷ [];
  spells = switch History _ _ (plain _ _ _ (λ dash. cc) (switch Alone _ _ (dashes _)));
  alone_once = refl;
  workers = 4;
  some_workers = refl;
  few_workers = (omega arith, omega arith);
  samples = refl;
  marks = refl;
  rows = refl;
  seed = refl;
  within = some_bounds;
  told = refl;
  pre = refl;
  files = refl;
  no_make = λ make. cc;
}

-- --history --alone A.c --history B.c
told_twice : (any : Command) → ¬ IsCommand (codes "--history" ∷ codes "--alone" ∷ codes "A.c" ∷ codes "--history" ∷ codes "B.c" ∷ []) any
told_twice = unread (codes "--history" ∷ codes "--alone" ∷ codes "A.c" ∷ codes "--history" ∷ codes "B.c" ∷ []) refl

-- --history=1 --alone A.c B.c
told_by_value : (any : Command) → ¬ IsCommand (codes "--history=1" ∷ codes "--alone" ∷ codes "A.c" ∷ codes "B.c" ∷ []) any
told_by_value = unread (codes "--history=1" ∷ codes "--alone" ∷ codes "A.c" ∷ codes "B.c" ∷ []) refl

-- --alone A.c B.c --pre -n
condition_with_dash : (any : Command) → ¬ IsCommand (codes "--alone" ∷ codes "A.c" ∷ codes "B.c" ∷ codes "--pre" ∷ codes "-n" ∷ []) any
condition_with_dash = unread (codes "--alone" ∷ codes "A.c" ∷ codes "B.c" ∷ codes "--pre" ∷ codes "-n" ∷ []) refl

-- --pre= A.c --alone B.c
no_text : (any : Command) → ¬ IsCommand (codes "--pre=" ∷ codes "A.c" ∷ codes "--alone" ∷ codes "B.c" ∷ []) any
no_text = unread (codes "--pre=" ∷ codes "A.c" ∷ codes "--alone" ∷ codes "B.c" ∷ []) refl

-- --alone= A.c B.c
faulty_switch : (any : Command) → ¬ IsCommand (codes "--alone=" ∷ codes "A.c" ∷ codes "B.c" ∷ []) any
faulty_switch = unread (codes "--alone=" ∷ codes "A.c" ∷ codes "B.c" ∷ []) refl

-- --samples --marks 5
value_with_dash : (any : Command) → ¬ IsCommand (codes "--samples" ∷ codes "--marks" ∷ codes "5" ∷ []) any
value_with_dash = unread (codes "--samples" ∷ codes "--marks" ∷ codes "5" ∷ []) refl

-- a third operand
three_files : (any : Command) → ¬ IsCommand (codes "A.c" ∷ codes "--" ∷ codes "--alone" ∷ codes "C.c" ∷ []) any
three_files = unread (codes "A.c" ∷ codes "--" ∷ codes "--alone" ∷ codes "C.c" ∷ []) refl

-- an option twice
samples_twice : (any : Command) → ¬ IsCommand (codes "--samples=5" ∷ codes "--samples" ∷ codes "5" ∷ []) any
samples_twice = unread (codes "--samples=5" ∷ codes "--samples" ∷ codes "5" ∷ []) refl
