-- Statements at the front of tokens, by recursive descent. `room` is the greatest depth of what is read. Only proofs
-- and the contracts of private functions cite these: `Statements` says which tokens spell a statement.
use Rattle.std.specs.Prelude.{ℕ, zero, suc, pos, ◌-◌, if◌then◌else◌, List, [], ◌∷◌, length, Option, Some, None}
use Rattle.c_ast.specs.declared.expr.BinOp.{BinOp}
use Rattle.c_ast.specs.RawTree as tree
use Rattle.c_ast.specs.RawTree.{RawCondition}
use Rattle.c_ast.specs.RawView.{raw_joined, raw_one, raw_optional, raw_branches}
use Rattle.c_tokens.specs.declared.kind.Kind.{Kind}
use Rattle.c_tokens.specs.declared.kind.Kind.TheVariants as k
use Rattle.c_tokens.specs.declared.token.Token.{Token}
use Rattle.c_tokens.specs.declared.fixed.Fixed.TheVariants as fixed
use Rattle.c_reader.specs.ReadExpressions.{◌>>=◌}
use Rattle.c_reader.specs.Declarations.{Statement}
use Rattle.c_reader.specs.Statements.{update_of, step_of, updated}
use Rattle.c_tokens.specs.Fixed.{is_kind_of}
use Rattle.c_reader.specs.Fronts.{first_of, lowered, behind_sign, begins, behind_either}
use Rattle.c_reader.specs.ReadDeclarations.{Reads, shallow_at, optional, unless, name_at, begins_type, declaration_at}

-- `x++` and its like, where the depth of `x + 1` is at most this
unfoldable pub increment_at : ℕ → List ℕ → ℕ → BinOp → ℕ → List Token → Reads Statement
increment_at room name line op operator_line tokens =
    lowered room >>= λ inside. lowered inside >>= λ operands.
    Some (updated name line op operator_line (tree.Num (pos 1)), tokens)

-- the statement that a sign with an operation makes of the name before it
abbrev pub update_by : ℕ → List ℕ → ℕ → Option BinOp → Option BinOp → ℕ → List Token → Reads Statement
update_by room name line (Some op) step operator_line tokens =
    shallow_at (room - 1) tokens >>= λ x. Some (updated name line op operator_line x.0, x.1)
update_by room name line None step operator_line tokens =
    step >>= λ op. increment_at room name line op operator_line tokens

-- the rest of an assignment behind its name, by its first token
abbrev pub change_by : ℕ → List ℕ → ℕ → Token → List Token → Reads Statement
change_by room name line first others =
    if is_kind_of fixed.Assign first.kind then (shallow_at room others >>= λ x. Some (tree.Assign name line x.0, x.1))
    else update_by room name line (update_of first.kind) (step_of first.kind) first.line others

-- the rest of an assignment behind its name, where its expression has at most this depth
unfoldable pub change_at : ℕ → List ℕ → ℕ → List Token → Reads Statement
change_at room name line tokens = first_of tokens >>= λ x. change_by room name line x.0 x.1

-- an assignment by the kind and the line of its first token
abbrev pub simple_by : ℕ → Kind → ℕ → List Token → Reads Statement
simple_by room (k.Word name) line others = change_at room name line others
simple_by room kind line others =
    step_of kind >>= λ op. name_at others >>= λ x. increment_at room x.0.name x.0.line op line x.1

-- an assignment, where its depth is at most this
unfoldable pub simple_at : ℕ → List Token → Reads Statement
simple_at room tokens =
    lowered room >>= λ inside. first_of tokens >>= λ x. simple_by inside x.0.kind x.0.line x.1

-- the constant of this kind of token, and the tokens behind it
abbrev pub constant_by : Kind → List Token → Reads ℕ
constant_by (k.Constant value) others = Some (value, others)
constant_by _ others = None

-- the constant that stands first, and the tokens behind it
abbrev pub constant_at : List Token → Reads ℕ
constant_at tokens = first_of tokens >>= λ x. constant_by x.0.kind x.1

-- the number of a mark behind its word, in parentheses
unfoldable pub mark_at : List Token → Reads ℕ
mark_at tokens =
    behind_sign fixed.OpenRound tokens >>= λ others. constant_at others >>= λ x.
    behind_sign fixed.CloseRound x.1 >>= λ after. Some (x.0, after)

-- a condition by the tokens behind the word of a mark, if it stands first
abbrev pub condition_by : ℕ → Option (List Token) → List Token → Reads RawCondition
condition_by room None tokens = shallow_at room tokens >>= λ x. Some (record { mark = None; cond = x.0 }, x.1)
condition_by room (Some others) tokens =
    mark_at others >>= λ x. behind_either fixed.Amp fixed.AmpAmp x.1 >>= λ after. shallow_at room after >>= λ y.
    Some (record { mark = Some x.0; cond = y.0 }, y.1)

-- the condition of a loop, where its depth is at most this
unfoldable pub condition_at : ℕ → List Token → Reads RawCondition
condition_at room tokens = condition_by room (behind_sign fixed.MarkWord tokens) tokens

-- the first part of the head of a `for`
unfoldable pub start_at : ℕ → List Token → Reads Statement
start_at room tokens = if begins_type tokens then declaration_at room tokens else simple_at room tokens

-- A statement behind its first word. `inside` reads a statement that stands in it, and `room` is the greatest depth of
-- what stands in it.
unfoldable pub if_at : ℕ → (List Token → Reads Statement) → List Token → Reads Statement
if_at room inside tokens =
    behind_sign fixed.OpenRound tokens >>= λ head. shallow_at room head >>= λ cond.
    behind_sign fixed.CloseRound cond.1 >>= λ body. inside body >>= λ first.
    optional (behind_sign fixed.Else first.1) first.1 inside >>= λ second.
    Some (raw_branches cond.0 (raw_one first.0) second.0, second.1)

-- the rest of a `while` behind its word; `inside` is how the statement in it is read
unfoldable pub while_at : ℕ → (List Token → Reads Statement) → List Token → Reads Statement
while_at room inside tokens =
    behind_sign fixed.OpenRound tokens >>= λ head. condition_at room head >>= λ cond.
    behind_sign fixed.CloseRound cond.1 >>= λ rest_of. inside rest_of >>= λ body.
    Some (tree.While cond.0 (raw_one body.0), body.1)

-- the rest of a `do` behind its word
unfoldable pub do_at : ℕ → (List Token → Reads Statement) → List Token → Reads Statement
do_at room inside tokens =
    inside tokens >>= λ body. behind_sign fixed.While body.1 >>= λ word.
    behind_sign fixed.OpenRound word >>= λ head. condition_at room head >>= λ cond.
    behind_sign fixed.CloseRound cond.1 >>= λ last. behind_sign fixed.Semicolon last >>= λ after.
    Some (tree.Do (raw_one body.0) cond.0, after)

-- the three parts of the head of a `for`, with their parentheses
unfoldable pub head_at : ℕ → List Token → Reads (Option Statement × Option RawCondition × Option Statement)
head_at room tokens =
    behind_sign fixed.OpenRound tokens >>= λ head.
    unless (begins fixed.Semicolon head) head (start_at room) >>= λ start.
    behind_sign fixed.Semicolon start.1 >>= λ middle.
    unless (begins fixed.Semicolon middle) middle (condition_at room) >>= λ cond.
    behind_sign fixed.Semicolon cond.1 >>= λ last.
    unless (begins fixed.CloseRound last) last (simple_at room) >>= λ step.
    behind_sign fixed.CloseRound step.1 >>= λ body. Some ((start.0, cond.0, step.0), body)

-- the rest of a `for` behind its word
unfoldable pub for_at : ℕ → (List Token → Reads Statement) → List Token → Reads Statement
for_at room inside tokens =
    head_at room tokens >>= λ head. inside head.1 >>= λ body.
    Some (tree.For (raw_optional head.0.0) head.0.1 (raw_optional head.0.2) (raw_one body.0), body.1)

-- this, where a `;` stands first
abbrev pub ended : {X : Type 0} → X → List Token → Reads X
ended x tokens = behind_sign fixed.Semicolon tokens >>= λ others. Some (x, others)

-- an entry of a block: a declaration where a type stands first, and otherwise a statement
unfoldable pub entry_at : ℕ → (List Token → Reads Statement) → List Token → Reads Statement
entry_at room inside tokens =
    if begins_type tokens then (declaration_at room tokens >>= λ x. ended x.0 x.1) else inside tokens

-- what stands before a `}`, by the tokens behind one, if it stands first
abbrev pub entries_by : {X : Type 0} → Option (List Token) → Reads (List X) → Reads (List X)
entries_by (Some others) entries = Some ([], others)
entries_by None entries = entries

-- Entries up to a `}`. The count is greater than the number of the tokens wherever it is told.
abbrev pub entries_within : (List Token → Reads Statement) → ℕ → List Token → Reads (List Statement)
entries_within item zero tokens = None
entries_within item (suc n) tokens =
    entries_by (behind_sign fixed.CloseCurly tokens)
    (item tokens >>= λ x. entries_within item n x.1 >>= λ y. Some (x.0 ∷ y.0, y.1))

-- the entries of a block behind its `{`, and the tokens behind its `}`
unfoldable pub entries_at : ℕ → (List Token → Reads Statement) → List Token → Reads (List Statement)
entries_at room inside tokens = entries_within (entry_at room inside) (suc (length tokens)) tokens

-- the block behind its `{`
unfoldable pub block_at : ℕ → (List Token → Reads Statement) → List Token → Reads Statement
block_at room inside tokens = entries_at room inside tokens >>= λ x. Some (tree.Block (raw_joined x.0), x.1)

-- a statement in which no other stands, by its first token, and that token's kind
abbrev pub short_by : ℕ → Kind → Token → List Token → Reads Statement
short_by room k.Semicolon first others = Some (tree.Empty, others)
short_by room k.Break first others = ended (tree.Break first.line) others
short_by room k.Continue first others = ended (tree.Continue first.line) others
short_by room k.Return first others = shallow_at room others >>= λ x. ended (tree.Return x.0) x.1
short_by room k.MarkWord first others = mark_at others >>= λ x. ended (tree.Mark x.0) x.1
short_by room _ first others = simple_at (suc room) (first ∷ others) >>= λ x. ended x.0 x.1

-- a statement in which no other stands
abbrev pub short_at : ℕ → List Token → Reads Statement
short_at zero tokens = None
short_at (suc room) [] = None
short_at (suc room) (first ∷ others) = short_by room first.kind first others

-- a statement by its first token, and that token's kind
abbrev pub statement_by : ℕ → (List Token → Reads Statement) → Kind → Token → List Token → Reads Statement
statement_by room inside k.OpenCurly first others = block_at room inside others
statement_by room inside k.If first others = if_at room inside others
statement_by room inside k.While first others = while_at room inside others
statement_by room inside k.Do first others = do_at room inside others
statement_by room inside k.For first others = for_at room inside others
statement_by room inside kind first others = short_by room kind first others

-- the statement at the front, where its depth is at most this
unfoldable pub statement_at : ℕ → List Token → Reads Statement
statement_at zero tokens = None
statement_at (suc room) [] = None
statement_at (suc room) (first ∷ others) = statement_by room (statement_at room) first.kind first others
