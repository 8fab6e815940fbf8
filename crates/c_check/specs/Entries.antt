-- The parts of the table in the program, seen as what is in scope. Its `Model` and proofs alone speak of them.
use Rattle.std.specs.Prelude.{◌≡◌, ℕ, List, [], ◌∷◌, ◌++◌, length, map, reverse, Option, option_map, find, bytes_eq, string_bytes, String}
use Rattle.std.specs.HashMap.{HashMap, get_by_text}
use Rattle.c_check.specs.declared.table.Slot.{Slot}
use Rattle.c_check.specs.declared.table.Entry.{Entry}
use Rattle.c_check.specs.Resolves.{Binding}
use Rattle.c_check.specs.Table.{Table, around}

-- the variable of an entry
abbrev pub binding_of : Entry → Binding
binding_of entry = record { name = string_bytes entry.name; number = entry.number }

-- the table of blocks, the innermost first, and the newest entry of each first
abbrev pub table_of : List (List Entry) → Table
table_of blocks = around (map (map binding_of) blocks)

-- A name with the variable that it stands for, and with the number of blocks around the variable's.
pub record NamedSlot : Type 0 where
  pub name : List ℕ
  pub slot : Slot

-- an entry's name with its variable, in a block with so many blocks around it
abbrev pub named : ℕ → Entry → NamedSlot
named depth entry = record {
  name = string_bytes entry.name;
  slot = record { number = entry.number; depth = depth };
}

-- what the entries declare, in a block with so many blocks around it
abbrev pub slots_in : ℕ → List Entry → List NamedSlot
slots_in depth entries = map (named depth) entries

-- the variable that a name stands for
abbrev pub slot_of : List NamedSlot → List ℕ → Option Slot
slot_of slots name =
    option_map (λ found. found.slot) (find (λ other. bytes_eq name other.name) slots)

-- what blocks declare, the innermost block first, and the newest entry of each first
abbrev pub slots_of : List (List Entry) → List NamedSlot
slots_of [] = []
slots_of (block ∷ blocks) = slots_in (length blocks) block ++ slots_of blocks

-- Each entry has the variable that its name stood for before it.
abbrev pub HasHidden : ℕ → List Entry → List NamedSlot → Type 0
HasHidden depth [] behind = Unit {0}
HasHidden depth (entry ∷ entries) behind =
    (entry.hidden ≡ slot_of (slots_in depth entries ++ behind) (string_bytes entry.name))
    × HasHidden depth entries behind

-- Each entry of blocks has the variable that its name stood for before it.
abbrev pub HaveHidden : List (List Entry) → Type 0
HaveHidden [] = Unit {0}
HaveHidden (block ∷ blocks) = HasHidden (length blocks) block (slots_of blocks) × HaveHidden blocks

-- the newest stands last in the program
abbrev pub turned : List (List Entry) → List (List Entry)
turned blocks = reverse (map reverse blocks)

-- The map has the newest variable of each name, and each entry the one that it hides.
pub record IsTable {Y S : Type 0} (newest : HashMap (String Y) Slot S) (blocks : List (List Entry)) : Type 0 where
  pub current : (name : List ℕ) → get_by_text newest name ≡ slot_of (slots_of blocks) name
  pub hidden : HaveHidden blocks
