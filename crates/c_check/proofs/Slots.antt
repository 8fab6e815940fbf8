-- The table of the program finds what its blocks declare.
use Rattle.std.proofs.Common.{◌≡◌, ℕ, ◌<◌, Bool, true, false, cond, ◌||◌, List, [], ◌∷◌, ◌++◌, length, map, reverse, Option, Some, None, nat_eq, String, HashMap, IsSome, rules, refl, sym, ap, ◌∙◌, arith}
use Rattle.std.specs.Prelude.{slice_set, option_map, find, bytes_eq, string_bytes}
use Rattle.std.specs.HashMap.{get_by_text}
use Rattle.std.specs.Map.{update}
use Rattle.std.specs.Cmp.Lexicographic.{bytes_decides, nat_list_eq_equiv}
use Rattle.std.proofs.lemmas.List.{reverse-append, length-reverse, length-map}
use Rattle.c_check.specs.declared.table.Slot.{Slot}
use Rattle.c_check.specs.declared.table.Entry.{Entry}
use Rattle.c_check.specs.Resolves.{Binding, Bindings, number_of}
use Rattle.c_check.specs.Faults.{holds_name}
use Rattle.c_check.specs.Table.{in_all, names_of}
use Rattle.c_check.specs.Entries.{binding_of, NamedSlot, named, slots_in, slot_of, slots_of, turned, IsTable}

-- ---- what a name stands for

number_step : (holds : Bool) (slot : Slot) (found : Option Binding) (others : Option NamedSlot) (binding : Binding) (first : NamedSlot)
    → binding.number ≡ first.slot.number
    → option_map (λ (some_binding : Binding). some_binding.number) found ≡ option_map (λ (some_slot : Slot). some_slot.number)
    (option_map (λ (found_slot : NamedSlot). found_slot.slot) others)
    → option_map (λ (some_binding : Binding). some_binding.number) (cond holds (Some binding) found) ≡ option_map (λ (some_slot : Slot). some_slot.number)
    (option_map (λ (found_slot : NamedSlot). found_slot.slot) (cond holds (Some first) others))
number_step true slot found others binding first same rest = ap Some same
number_step false slot found others binding first same rest = rest

number_in : (name : List ℕ) (depth : ℕ) (entries : List Entry) (behind : List NamedSlot) (scope : Bindings)
    → number_of scope name ≡ option_map (λ (some_slot : Slot). some_slot.number) (slot_of behind name)
    → number_of (map binding_of entries ++ scope) name ≡ option_map (λ (some_slot : Slot). some_slot.number) (slot_of (slots_in depth entries ++ behind) name)
number_in name depth [] behind scope is = is
number_in name depth (entry ∷ entries) behind scope is =
    number_step (bytes_eq name (string_bytes entry.name)) (named depth entry).slot
    (find (λ (other : Binding). bytes_eq name other.name) (map binding_of entries ++ scope))
    (find (λ (other : NamedSlot). bytes_eq name other.name) (slots_in depth entries ++ behind)) (binding_of entry) (named depth entry) refl
    (number_in name depth entries behind scope is)

-- the number of a name's variable is that of its slot
pub number_of_slot : (name : List ℕ) (blocks : List (List Entry))
    → number_of (in_all (map (map binding_of) blocks)) name ≡ option_map (λ (some_slot : Slot). some_slot.number) (slot_of (slots_of blocks) name)
number_of_slot name [] = refl
number_of_slot name (block ∷ blocks) = number_in name (length blocks) block (slots_of blocks) (in_all (map (map binding_of) blocks))
    (number_of_slot name blocks)

-- ---- the innermost block

-- the slot that was found lies in fewer blocks
abbrev FindsBelow : ℕ → Option Slot → Type 0
FindsBelow depth None = Unit {0}
FindsBelow depth (Some slot) = slot.depth < depth

below_more : (depth : ℕ) (more : ℕ) (found : Option Slot) → depth < more → FindsBelow depth found → FindsBelow more found
below_more depth more None less below = tt
below_more depth more (Some slot) less below = omega (arith, below)

below_step : (holds : Bool) (depth : ℕ) (first : NamedSlot) (others : Option NamedSlot) → first.slot.depth < depth
    → FindsBelow depth (option_map (λ (found_slot : NamedSlot). found_slot.slot) others)
    → FindsBelow depth (option_map (λ (found_slot : NamedSlot). found_slot.slot) (cond holds (Some first) others))
below_step true depth first others less below = less
below_step false depth first others less below = below

below_in : (name : List ℕ) (depth more : ℕ) (entries : List Entry) (behind : List NamedSlot) → depth < more → FindsBelow more (slot_of behind name)
    → FindsBelow more (slot_of (slots_in depth entries ++ behind) name)
below_in name depth more [] behind less below = below
below_in name depth more (entry ∷ entries) behind less below =
    below_step (bytes_eq name (string_bytes entry.name)) more (named depth entry)
    (find (λ (other : NamedSlot). bytes_eq name other.name) (slots_in depth entries ++ behind)) less
    (below_in name depth more entries behind less below)

slots_below : (name : List ℕ) (blocks : List (List Entry)) → FindsBelow (length blocks) (slot_of (slots_of blocks) name)
slots_below name [] = tt
slots_below name (block ∷ blocks) =
    below_in name (length blocks) (length (block ∷ blocks)) block (slots_of blocks) (omega arith)
    (below_more (length blocks) (length (block ∷ blocks)) (slot_of (slots_of blocks) name) (omega arith) (slots_below name blocks))

-- whether what was found lies in this many blocks
abbrev found_at : ℕ → Option Slot → Bool
found_at depth None = false
found_at depth (Some slot) = nat_eq slot.depth depth

found_below : (depth : ℕ) (found : Option Slot) → FindsBelow depth found → found_at depth found ≡ false
found_below depth None below = refl
found_below depth (Some slot) below = search (arith, below)

found_step : (holds : Bool) (depth : ℕ) (first : NamedSlot) (others : Option NamedSlot) (held : Bool) → first.slot.depth ≡ depth
    → found_at depth (option_map (λ (found_slot : NamedSlot). found_slot.slot) others) ≡ held
    → found_at depth (option_map (λ (found_slot : NamedSlot). found_slot.slot) (cond holds (Some first) others)) ≡ (holds || held)
found_step true depth first others held same rest = rw same (search arith)
found_step false depth first others held same rest = rest

found_in : (name : List ℕ) (depth : ℕ) (entries : List Entry) (behind : List NamedSlot) → FindsBelow depth (slot_of behind name)
    → found_at depth (slot_of (slots_in depth entries ++ behind) name) ≡ holds_name (names_of (map binding_of entries)) name
found_in name depth [] behind below = found_below depth (slot_of behind name) below
found_in name depth (entry ∷ entries) behind below =
    found_step (bytes_eq name (string_bytes entry.name)) depth (named depth entry)
    (find (λ (other : NamedSlot). bytes_eq name other.name) (slots_in depth entries ++ behind))
    (holds_name (names_of (map binding_of entries)) name) refl (found_in name depth entries behind below)

-- the innermost block declares a name where what the name stands for lies in no fewer blocks
pub found_in_block : (name : List ℕ) (block : List Entry) (blocks : List (List Entry))
    → found_at (length blocks) (slot_of (slots_of (block ∷ blocks)) name) ≡ holds_name (names_of (map binding_of block)) name
found_in_block name block blocks = found_in name (length blocks) block (slots_of blocks) (slots_below name blocks)

pub declares_some : (name : List ℕ) (block : List Entry) (blocks : List (List Entry)) (slot : Slot) → slot_of (slots_of (block ∷ blocks)) name ≡ Some slot
    → nat_eq slot.depth (length blocks) ≡ holds_name (names_of (map binding_of block)) name
declares_some name block blocks slot is = sym (ap (found_at (length blocks)) is) ∙ found_in_block name block blocks

pub declares_none : (name : List ℕ) (block : List Entry) (blocks : List (List Entry)) → slot_of (slots_of (block ∷ blocks)) name ≡ None
    → false ≡ holds_name (names_of (map binding_of block)) name
declares_none name block blocks is = sym (ap (found_at (length blocks)) is) ∙ found_in_block name block blocks

-- ---- changes

-- a block is put behind those around it
pub turned-push : (blocks : List (List Entry)) (block : List Entry) → turned (blocks ++ block ∷ []) ≡ reverse block ∷ turned blocks
turned-push blocks block = ap reverse (map-push blocks) ∙ reverse-append (map reverse blocks) (reverse block ∷ [])
  where
    map-push : (others : List (List Entry)) → map reverse (others ++ block ∷ []) ≡ map reverse others ++ reverse block ∷ []
    map-push [] = refl
    map-push (first ∷ others) = ap (λ (list : List (List Entry)). reverse first ∷ list) (map-push others)

set_step : (holds : Bool) (name : List ℕ) (entry : List ℕ) (written : Option Slot) (first : NamedSlot) (others : Option NamedSlot)
    → bytes_eq entry name ≡ holds → written ≡ Some first.slot
    → cond (bytes_eq entry name) written (option_map (λ (found_slot : NamedSlot). found_slot.slot) others) ≡ option_map
    (λ (found_slot : NamedSlot). found_slot.slot) (cond (bytes_eq name entry) (Some first) others)
set_step true name entry written first others same is = rw (nat_list_eq_equiv.symm name entry, same) is
set_step false name entry written first others same is = rw (nat_list_eq_equiv.symm name entry, same) refl

back_step : (holds : Bool) (name : List ℕ) (entry : List ℕ) (written : Option Slot) (first : NamedSlot) (others : List NamedSlot)
    → bytes_eq entry name ≡ holds → written ≡ slot_of others entry
    → first.name ≡ entry → cond (bytes_eq entry name) written (slot_of (first ∷ others) name) ≡ slot_of others name
back_step true name entry written first others same is at = rw same (is ∙ ap (slot_of others) ((bytes_decides entry name).0 same))
back_step false name entry written first others same is at = rw (same, at, nat_list_eq_equiv.symm name entry, same) refl

module _ {Y S : Type 0} where
  -- a new block declares nothing
  pub enters : (newest : HashMap (String Y) Slot S) (blocks : List (List Entry)) → IsTable newest blocks → IsTable newest ([] ∷ blocks)
  enters newest blocks is = record { current = is.current; hidden = (tt, is.hidden) }

  -- an empty block ends
  pub leaves : (newest : HashMap (String Y) Slot S) (blocks : List (List Entry)) → IsTable newest ([] ∷ blocks) → IsTable newest blocks
  leaves newest blocks is = record { current = is.current; hidden = is.hidden.1 }

  -- the map gets the newest variable, which keeps the one that it hides
  pub declares : (old new : HashMap (String Y) Slot S) (entry : Entry) (slot : Slot) (block : List Entry) (blocks : List (List Entry))
      → IsTable old (block ∷ blocks)
      → slot ≡ (named (length blocks) entry).slot → entry.hidden ≡ get_by_text old (string_bytes entry.name)
      → ((name : List ℕ) → get_by_text new name ≡ update bytes_eq (get_by_text old) (string_bytes entry.name) (Some slot) name)
      → IsTable new ((entry ∷ block) ∷ blocks)
  declares old new entry slot block blocks is newest hides sets = record {
    current = λ name.
        sets name ∙ ap (λ (old_slot : Option Slot). cond (bytes_eq (string_bytes entry.name) name) (Some slot) old_slot) (is.current name)
        ∙ set_step (bytes_eq (string_bytes entry.name) name) name (string_bytes entry.name) (Some slot) (named (length blocks) entry)
        (find (λ (other : NamedSlot). bytes_eq name other.name) (slots_in (length blocks) block ++ slots_of blocks)) refl (ap Some newest);
    hidden = ((hides ∙ is.current (string_bytes entry.name), is.hidden.0), is.hidden.1);
  }

  -- the map gets back what the newest variable hides
  pub restores : (old new : HashMap (String Y) Slot S) (entry : Entry) (block : List Entry) (blocks : List (List Entry))
      → IsTable old ((entry ∷ block) ∷ blocks)
      → ((name : List ℕ) → get_by_text new name ≡ update bytes_eq (get_by_text old) (string_bytes entry.name) entry.hidden name)
      → IsTable new (block ∷ blocks)
  restores old new entry block blocks is sets = record {
    current = λ name.
        sets name ∙ ap (λ (old_slot : Option Slot). cond (bytes_eq (string_bytes entry.name) name) entry.hidden old_slot) (is.current name)
        ∙ back_step (bytes_eq (string_bytes entry.name) name) name (string_bytes entry.name) entry.hidden (named (length blocks) entry)
        (slots_in (length blocks) block ++ slots_of blocks) refl is.hidden.0.0 refl;
    hidden = (is.hidden.0.1, is.hidden.1);
  }

-- what a block declares last is in the map
pub newest_is_some : {Y S : Type 0} (newest : HashMap (String Y) Slot S) (entry : Entry) (block : List Entry) (blocks : List (List Entry))
    → IsTable newest ((entry ∷ block) ∷ blocks)
    → IsSome (get_by_text newest (string_bytes entry.name))
newest_is_some newest entry block blocks is =
    let current = is.current (string_bytes entry.name) in
    rw (current, nat_list_eq_equiv.refl (string_bytes entry.name)) (search rules)

pub length-turned : (blocks : List (List Entry)) → length (turned blocks) ≡ length blocks
length-turned blocks = length-reverse (map reverse blocks) ∙ length-map blocks reverse

-- the last of a list becomes another
pub set_last : {X : Type 0} (xs : List X) (x y : X) → slice_set (xs ++ x ∷ []) (length xs) y ≡ xs ++ y ∷ []
set_last [] x y = refl
set_last (z ∷ xs) x y = ap (λ list. z ∷ list) (set_last xs x y)

-- a map with the same entries has the same table
pub same_entries : {Y S : Type 0} (old new : HashMap (String Y) Slot S) (blocks : List (List Entry)) → new.entries ≡ old.entries → IsTable old blocks
    → IsTable new blocks
same_entries old new blocks same is = record {
  current = λ name. rw same (is.current name);
  hidden = is.hidden;
}

-- the innermost block is put behind those around it, and an empty one stands in its place
pub blocks-entered : (now pushed outer : List (List Entry)) (at : ℕ) (inner replaced new block : List Entry) → inner ≡ [] → now ≡ slice_set pushed at replaced
    → pushed ≡ outer ++ new ∷ [] → at ≡ length outer → replaced ≡ block → (reverse inner ∷ turned now) ≡ [] ∷ (reverse block ∷ turned outer)
blocks-entered now pushed outer at inner replaced new block empty sets pushes last same =
    let outer_now : now ≡ outer ++ block ∷ [] = rw (pushes, last, same) at sets ∙ set_last outer new block in
    ap (λ (entries : List Entry). reverse entries ∷ turned now) empty ∙ ap (λ (blocks : List (List Entry)). [] ∷ turned blocks) outer_now
    ∙ ap (λ (blocks : List (List Entry)). [] ∷ blocks) (turned-push outer block)
