-- What is read, by what stands first.
use Rattle.std.proofs.Common.{◌≡◌, Bool, true, false, ℕ, suc, pos, ◌<◌, ◌≤◌, ◌^◌, nat_lt, if◌then◌else◌, List, ◌∷◌, Option, Some, None, refl, ap, sym, ◌∙◌, arith}
use Rattle.std.proofs.lemmas.Bool.Decides.{nat_tests}
use Rattle.std.proofs.lemmas.Option.{same_Some}
use Rattle.c_ast.specs.RawTree.{RawExpression, Num, Named, Un, Bin, Cond}
use Rattle.c_ast.specs.declared.expr.UnOp.{UnOp}
use Rattle.c_ast.specs.declared.expr.BinOp.{BinOp}
use Rattle.c_tokens.specs.declared.kind.Kind.{Kind}
use Rattle.c_tokens.specs.declared.kind.Kind.TheVariants as k
use Rattle.c_tokens.specs.declared.token.Token.{Token}
use Rattle.c_reader.specs.Expressions.{unary_of}
use Rattle.c_reader.specs.ReadExpressions.{NextOperator, ◌>>=◌, Reading, next_operator, operand_by, joined_by, chosen_by, operand_at, further_at, level_at, choice_at, expression_at}
use Rattle.c_tokens.specs.declared.fixed.Fixed.TheVariants as fixed
use Rattle.c_reader.specs.Fronts.{behind_sign}
use Rattle.c_reader.proofs.Parts.{under_sign}
use Rattle.c_reader.proofs.Equations.{operand_at-cons, level_at-is, expression_at-is, further_at-is, choice_at-is}

-- ---- operands, by the kind of the first token

operand_at-kind : (token : Token) (others : List Token) (kind : Kind) → token.kind ≡ kind
    → operand_at (token ∷ others) ≡ operand_by kind token.line others (expression_at others) (operand_at others)
operand_at-kind token others kind is =
    operand_at-cons token others
    ∙ ap (λ (kind : Kind). operand_by kind token.line others (expression_at others) (operand_at others)) is

pub operand_at-name : (token : Token) (others : List Token) (name : List ℕ) → token.kind ≡ k.Word name
    → operand_at (token ∷ others) ≡ Some (Named name token.line, others)
operand_at-name token others name is = operand_at-kind token others (k.Word name) is

pub operand_at-constant : (token : Token) (others : List Token) (value : ℕ) → token.kind ≡ k.Constant value
    → value < 2 ^ 63 → operand_at (token ∷ others) ≡ Some (Num (pos value), others)
operand_at-constant token others value is below =
    let small : nat_lt value (2 ^ 63) ≡ true = grind (arith, nat_tests, below) in
    let read : Reading = Some (Num (pos value), others) in
    operand_at-kind token others (k.Constant value) is ∙ ap (λ (test : Bool). if test then read else None) small

pub operand_at-wide : (token : Token) (others : List Token) (value : ℕ) → token.kind ≡ k.Constant value
    → 2 ^ 63 ≤ value → operand_at (token ∷ others) ≡ None
operand_at-wide token others value is least =
    let wide : nat_lt value (2 ^ 63) ≡ false = grind (arith, nat_tests, least) in
    let read : Reading = Some (Num (pos value), others) in
    operand_at-kind token others (k.Constant value) is ∙ ap (λ (test : Bool). if test then read else None) wide

-- what was read, without the bracket behind it
abbrev pub closed : Reading → Reading
closed inside = inside >>= λ x. behind_sign fixed.CloseRound x.1 >>= λ after. Some (x.0, after)

pub operand_at-bracket : (token : Token) (others : List Token) → token.kind ≡ k.OpenRound
    → operand_at (token ∷ others) ≡ closed (expression_at others)
operand_at-bracket token others is = operand_at-kind token others k.OpenRound is

-- A sign is none of the other first tokens.
operand_by-sign : (kind : Kind) (line : ℕ) (others : List Token) (inside operand : Reading) (op : UnOp)
    → unary_of kind ≡ Some op → operand_by kind line others inside operand ≡ under_sign operand op
operand_by-sign k.Plus line others inside operand op is = ap (under_sign operand) (same_Some _ op is)
operand_by-sign k.Minus line others inside operand op is = ap (under_sign operand) (same_Some _ op is)
operand_by-sign k.Bang line others inside operand op is = ap (under_sign operand) (same_Some _ op is)
operand_by-sign kind line others inside operand op is = absurd cc

pub operand_at-sign : (token : Token) (others : List Token) (op : UnOp) → unary_of token.kind ≡ Some op
    → operand_at (token ∷ others) ≡ under_sign (operand_at others) op
operand_at-sign token others op is =
    operand_at-cons token others
    ∙ operand_by-sign token.kind token.line others (expression_at others) (operand_at others) op is

operand_by-none : (kind : Kind) (line : ℕ) (others : List Token) (inside operand : Reading)
    → ((name : List ℕ) → kind ≡ k.Word name → ⊥) → ((value : ℕ) → kind ≡ k.Constant value → ⊥)
    → (kind ≡ k.OpenRound → ⊥) → unary_of kind ≡ None → operand_by kind line others inside operand ≡ None
operand_by-none (k.Word name) line others inside operand no_word no_constant no_bracket is = absurd (no_word name refl)
operand_by-none (k.Constant value) line others inside operand no_word no_constant no_bracket is = absurd (no_constant value refl)
operand_by-none k.OpenRound line others inside operand no_word no_constant no_bracket is = absurd (no_bracket refl)
operand_by-none kind line others inside operand no_word no_constant no_bracket is =
    ap (λ (sign : Option UnOp). sign >>= under_sign operand) is

pub operand_at-none : (token : Token) (others : List Token) → ((name : List ℕ) → token.kind ≡ k.Word name → ⊥)
    → ((value : ℕ) → token.kind ≡ k.Constant value → ⊥) → (token.kind ≡ k.OpenRound → ⊥) → unary_of token.kind ≡ None
    → operand_at (token ∷ others) ≡ None
operand_at-none token others no_word no_constant no_bracket is =
    operand_at-cons token others
    ∙ operand_by-none token.kind token.line others (expression_at others) (operand_at others) no_word no_constant no_bracket is

-- ---- levels

-- a level whose operand is known
pub level_at-operand : (level : ℕ) (tokens others : List Token) (e : RawExpression) → operand_at tokens ≡ Some (e, others)
    → level_at level tokens ≡ further_at level e others
level_at-operand level tokens others e is =
    level_at-is level tokens ∙ ap (λ (reading : Reading). reading >>= λ x. further_at level x.0 x.1) is

-- the right operand of an operator, and what goes on from its operation
abbrev pub operation_from : ℕ → RawExpression → ℕ → BinOp → ℕ → Reading → Reading
operation_from level left at op line right = right >>= λ x. further_at level (Bin op line left x.0) x.1

pub further_at-next : (level : ℕ) (left : RawExpression) (tokens : List Token) (at : ℕ) (op : BinOp) (line : ℕ)
    (others : List Token) → next_operator level tokens ≡ Some (at, op, line, others)
    → further_at level left tokens ≡ operation_from level left at op line (level_at (suc at) others)
further_at-next level left tokens at op line others is =
    further_at-is level left tokens
    ∙ ap (λ (next : Option NextOperator). joined_by left tokens next level_at (further_at level)) is

pub further_at-none : (level : ℕ) (left : RawExpression) (tokens : List Token) → next_operator level tokens ≡ None
    → further_at level left tokens ≡ Some (left, tokens)
further_at-none level left tokens is =
    further_at-is level left tokens
    ∙ ap (λ (next : Option NextOperator). joined_by left tokens next level_at (further_at level)) is

-- ---- expressions

-- an expression whose or-expression is known
pub expression_at-level : (tokens others : List Token) (e : RawExpression) → level_at 1 tokens ≡ Some (e, others)
    → expression_at tokens ≡ choice_at e others
expression_at-level tokens others e is =
    expression_at-is tokens ∙ ap (λ (reading : Reading). reading >>= λ x. choice_at x.0 x.1) is

-- the second value of a choice
abbrev pub choice_to : RawExpression → RawExpression → Reading → Reading
choice_to cond e second = second >>= λ y. Some (Cond cond e y.0, y.1)

-- both values of a choice, from the first
abbrev pub choice_from : RawExpression → Reading → Reading
choice_from cond first = first >>= λ x. behind_sign fixed.Colon x.1 >>= λ after. choice_to cond x.0 (expression_at after)

pub choice_at-asked : (cond : RawExpression) (tokens others : List Token) → behind_sign fixed.Question tokens ≡ Some others
    → choice_at cond tokens ≡ choice_from cond (expression_at others)
choice_at-asked cond tokens others is =
    choice_at-is cond tokens ∙ ap (λ (others : Option (List Token)). chosen_by cond tokens others expression_at) is

pub choice_at-none : (cond : RawExpression) (tokens : List Token) → behind_sign fixed.Question tokens ≡ None
    → choice_at cond tokens ≡ Some (cond, tokens)
choice_at-none cond tokens is =
    choice_at-is cond tokens ∙ ap (λ (others : Option (List Token)). chosen_by cond tokens others expression_at) is

-- ---- what the program reads, from its parts

-- a name at the front
pub reads-name : (tokens others : List Token) (token : Token) (name : List ℕ) → tokens ≡ token ∷ others
    → token.kind ≡ k.Word name → operand_at tokens ≡ Some (Named name token.line, others)
reads-name tokens others token name parts is = ap operand_at parts ∙ operand_at-name token others name is

-- a constant at the front
pub reads-constant : (tokens others : List Token) (token : Token) (value : ℕ) → tokens ≡ token ∷ others
    → token.kind ≡ k.Constant value → value < 2 ^ 63 → operand_at tokens ≡ Some (Num (pos value), others)
reads-constant tokens others token value parts is below =
    ap operand_at parts ∙ operand_at-constant token others value is below

-- an expression, and what is behind its bracket
abbrev pub bracketed : RawExpression → List Token → Reading
bracketed e others = Some (e, others)

-- an expression in brackets
pub reads-bracket : (tokens others after : List Token) (token : Token) (e : RawExpression) (last : Option (List Token))
    → tokens ≡ token ∷ others → token.kind ≡ k.OpenRound → expression_at others ≡ Some (e, after)
    → last ≡ behind_sign fixed.CloseRound after → operand_at tokens ≡ (last >>= bracketed e)
reads-bracket tokens others after token e last parts is inside closing =
    ap operand_at parts ∙ operand_at-bracket token others is ∙ ap closed inside
    ∙ ap (λ (found : Option (List Token)). found >>= bracketed e) (sym closing)

-- a sign and its operand
pub reads-sign : (tokens others after : List Token) (token : Token) (op : UnOp) (e : RawExpression)
    → tokens ≡ token ∷ others → unary_of token.kind ≡ Some op → operand_at others ≡ Some (e, after)
    → operand_at tokens ≡ Some (Un op e, after)
reads-sign tokens others after token op e parts is operand =
    ap operand_at parts ∙ operand_at-sign token others op is ∙ ap (λ (reading : Reading). under_sign reading op) operand

-- one more operation of a level
pub reads-operation : (level : ℕ) (tokens others behind_it after : List Token) (left right : RawExpression)
    (at above : ℕ) (op : BinOp) (line : ℕ) → level_at level tokens ≡ further_at level left others
    → Some (at, op, line, behind_it) ≡ next_operator level others → above ≡ suc at
    → level_at above behind_it ≡ Some (right, after)
    → level_at level tokens ≡ further_at level (Bin op line left right) after
reads-operation level tokens others behind_it after left right at above op line reads next is operand =
    reads ∙ further_at-next level left others at op line behind_it (sym next)
    ∙ ap (operation_from level left at op line) (ap (λ (l : ℕ). level_at l behind_it) (sym is) ∙ operand)

-- a choice with both values
pub reads-choice : (tokens others behind_it after later last : List Token) (cond e f : RawExpression)
    → level_at 1 tokens ≡ Some (cond, others) → Some behind_it ≡ behind_sign fixed.Question others
    → expression_at behind_it ≡ Some (e, after) → Some later ≡ behind_sign fixed.Colon after
    → expression_at later ≡ Some (f, last) → expression_at tokens ≡ Some (Cond cond e f, last)
reads-choice tokens others behind_it after later last cond e f is asked first colon second =
    expression_at-level tokens others cond is ∙ choice_at-asked cond others behind_it (sym asked)
    ∙ ap (choice_from cond) first
    ∙ ap (λ (found : Option (List Token)). found >>= λ found_behind. choice_to cond e (expression_at found_behind)) (sym colon)
    ∙ ap (choice_to cond e) second
