-- What a step of reading answers. Only proofs and the contracts of private functions cite this.
use Rattle.std.specs.Prelude.{◌≡◌, Result, Ok, Err, Option, Some, None}
use Rattle.c_reader.specs.declared.fault.ReadFault.{ReadFault}
use Rattle.c_reader.specs.Faults.{Refuses}

-- What a function returned, seen by view, is what is wanted, or memory ran out. `Grammar` comes where nothing is
-- wanted.
abbrev pub Gives : {X Y : Type 0} → (X → Y) → Result X ReadFault → Option Y → Type 0
Gives view (Ok x) wanted = wanted ≡ Some (view x)
Gives view (Err fault) wanted = Refuses (wanted ≡ None) fault
