-- Files of functions, by recursive descent. `room` is the greatest depth of what stands in the functions' blocks. Only
-- proofs and the contracts of private functions cite these: `Units` says which tokens spell a file.
use Rattle.std.specs.Prelude.{ℕ, zero, suc, if◌then◌else◌, List, [], ◌∷◌, ◌++◌, length, Option, Some, None, option_to_list}
use Rattle.c_ast.specs.RawTree.{RawFunction}
use Rattle.c_ast.specs.RawView.{raw_joined}
use Rattle.c_tokens.specs.declared.token.Token.{Token}
use Rattle.c_tokens.specs.declared.fixed.Fixed.TheVariants as fixed
use Rattle.c_reader.specs.ReadExpressions.{◌>>=◌}
use Rattle.c_reader.specs.Fronts.{behind_sign, begins, is_either}
use Rattle.c_reader.specs.ReadDeclarations.{Reads, unless, name_at, behind_type, parameters_at}
use Rattle.c_reader.specs.ReadStatements.{entries_at, statement_at}

-- the tokens without the qualifiers at the front
abbrev pub unqualified : List Token → List Token
unqualified [] = []
unqualified (first ∷ others) =
    if is_either fixed.Extern fixed.Static first.kind then unqualified others else first ∷ others

-- the rest of a declaration of `__mark`, behind that word
unfoldable pub mark_declaration_at : List Token → Option (List Token)
mark_declaration_at tokens =
    behind_sign fixed.OpenRound tokens >>= λ head. behind_type head >>= λ others.
    unless (begins fixed.CloseRound others) others name_at >>= λ x.
    behind_sign fixed.CloseRound x.1 >>= λ last. behind_sign fixed.Semicolon last

-- the rest of a function, from its name on
unfoldable pub function_at : ℕ → List Token → Reads RawFunction
function_at room tokens =
    name_at tokens >>= λ x. behind_sign fixed.OpenRound x.1 >>= λ head. parameters_at head >>= λ params.
    behind_sign fixed.OpenCurly params.1 >>= λ block. entries_at room (statement_at room) block >>= λ entries.
    Some (record { name = x.0.name; line = x.0.line; params = params.0; body = raw_joined entries.0 }, entries.1)

-- a function, or nothing for a declaration of `__mark`, by the tokens behind that word, if it stands first
abbrev pub item_by : ℕ → Option (List Token) → List Token → Reads (Option RawFunction)
item_by room (Some others) tokens = mark_declaration_at others >>= λ after. Some (None, after)
item_by room None tokens = function_at room tokens >>= λ x. Some (Some x.0, x.1)

-- a function or a declaration of `__mark`, without its qualifiers
unfoldable pub item_at : ℕ → List Token → Reads (Option RawFunction)
item_at room tokens =
    behind_type (unqualified tokens) >>= λ others. item_by room (behind_sign fixed.MarkWord others) others

-- The functions of all tokens. The count is greater than the number of the tokens wherever it is told.
abbrev pub items_within : ℕ → ℕ → List Token → Option (List RawFunction)
items_within room zero tokens = None
items_within room (suc n) [] = Some []
items_within room (suc n) (first ∷ others) =
    item_at room (first ∷ others) >>= λ x. items_within room n x.1 >>= λ funcs. Some (option_to_list x.0 ++ funcs)

-- the functions of all tokens, where the statements in their blocks have at most this depth
unfoldable pub unit_at : ℕ → List Token → Option (List RawFunction)
unit_at room tokens = items_within room (suc (length tokens)) tokens
