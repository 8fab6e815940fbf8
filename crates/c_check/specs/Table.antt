-- A table of the variables in scope, block by block (ISO C11, 6.2.1). Contracts inside the crate and proofs alone speak
-- of it: to callers the variables in scope are the `Bindings` of `Resolves`.
use Rattle.std.specs.Prelude.{List, [], ◌∷◌, ◌++◌, map}
use Rattle.c_check.specs.Resolves.{Binding, Bindings}
use Rattle.c_check.specs.Occurrences.{Names}

-- What the innermost block declares, and what each block around it does, all newest first.
pub record Table : Type 0 where
  pub block : Bindings
  pub outer : List Bindings

-- the table of one block that declares nothing
abbrev pub nothing_in_scope : Table
nothing_in_scope = record { block = []; outer = [] }

-- the variables of all these blocks, the innermost first
abbrev pub in_all : List Bindings → Bindings
in_all [] = []
in_all (block ∷ blocks) = block ++ in_all blocks

-- the variables in scope
abbrev pub scope_of : Table → Bindings
scope_of table = table.block ++ in_all table.outer

-- the names of variables
abbrev pub names_of : Bindings → Names
names_of scope = map (λ other. other.name) scope

-- the names that the innermost block declares
abbrev pub block_names : Table → Names
block_names table = names_of table.block

-- the table where the innermost block declares one more variable
abbrev pub with_binding : Binding → Table → Table
with_binding first table = record { block = first ∷ table.block; outer = table.outer }

-- the table where a block begins
abbrev pub entered_table : Table → Table
entered_table table = record { block = []; outer = table.block ∷ table.outer }

-- the table of these blocks, the innermost first
abbrev pub around : List Bindings → Table
around [] = nothing_in_scope
around (block ∷ blocks) = record { block = block; outer = blocks }

-- the table where the innermost block ends
abbrev pub left_table : Table → Table
left_table table = around table.outer
