-- Why each step of reading is refused.
use Rattle.std.proofs.Common.{◌≡◌, ℕ, suc, ◌+◌, ◌-◌, ◌<◌, max, List, ◌∷◌, Some, None, Result, Err, IfErr, ap, sym, ◌∙◌, arith}
use Rattle.c_ast.specs.RawTree.{RawExpression, Un, Bin, Cond}
use Rattle.c_ast.specs.declared.expr.UnOp.{UnOp}
use Rattle.c_ast.specs.declared.expr.BinOp.{BinOp}
use Rattle.c_tokens.specs.declared.kind.Kind.TheVariants as k
use Rattle.c_tokens.specs.declared.token.Token.{Token}
use Rattle.c_reader.specs.declared.fault.ReadFault.{ReadFault}
use Rattle.c_reader.specs.declared.fault.ReadFault.TheVariants.{Deep, Grammar, Memory}
use Rattle.c_reader.specs.Faults.{Refuses}
use Rattle.c_reader.specs.Expressions.{unary_of, expression_depth}
use Rattle.c_reader.specs.ReadExpressions.{◌>>=◌, Reading, next_operator, operand_at, further_at, level_at, choice_at, expression_at, IsDeeper}
use Rattle.c_tokens.specs.declared.fixed.Fixed.TheVariants as fixed
use Rattle.c_reader.specs.Fronts.{behind_sign}
use Rattle.c_reader.proofs.Reading.{stepped}
use Rattle.c_reader.proofs.Equations.{level_at-is, expression_at-is}
use Rattle.c_reader.proofs.Depths.{depth-positive, further_at-depth, choice_at-depth}
use Rattle.c_reader.proofs.Readings.{operand_at-bracket, operand_at-sign, further_at-next, expression_at-level, choice_to, choice_at-asked}
use Rattle.std.proofs.lemmas.Option.{same_Some}

Refuses-as : {P Q : Type 0} → (P → Q) → (fault : ReadFault) → Refuses P fault → Refuses Q fault
Refuses-as f Deep refused = refused
Refuses-as f Grammar refused = f refused
Refuses-as f Memory refused = refused

-- A fault that is handed on has a reason that follows from the first one.
pub handed_on : {T P Q : Type 0} → (P → Q) → (answer : Result T ReadFault) (given fault : ReadFault) → answer ≡ Err given
    → given ≡ fault → Refuses P fault → IfErr answer (Refuses Q)
handed_on f answer given fault is same refused = rw (is, same) (Refuses-as f fault refused)

-- The reason of a fault that is `Grammar` holds.
pub grammar-by : (fault : ReadFault) (reason : Type 0) → fault ≡ Grammar → Refuses reason fault → reason
grammar-by Deep reason is refused = absurd refused
grammar-by Grammar reason is refused = refused
grammar-by Memory reason is refused = absurd cc

-- No expression has depth 0.
pub deeper-zero : (room : ℕ) (reading : Reading) → room ≡ 0 → IsDeeper room reading
deeper-zero room reading none e others is = omega (arith, none, depth-positive e)

pub deeper-same : (room : ℕ) (reading other : Reading) → reading ≡ other → IsDeeper room other → IsDeeper room reading
deeper-same room reading other same deeper e others is = deeper e others (sym same ∙ is)

-- Nothing is read there.
pub deeper-none : (room : ℕ) (reading : Reading) → reading ≡ None → IsDeeper room reading
deeper-none room reading none e others is = absurd (cc (none, is))

-- Equal readings have one depth.
same-depth : (x y : RawExpression × List Token) → Some x ≡ Some y → expression_depth x.0 ≡ expression_depth y.0
same-depth x y is = ap (λ (z : RawExpression × List Token). expression_depth z.0) (same_Some x y is)

-- A reading that begins with a step is deeper than `room`, where each reading with an answer of the step is.
deeper-step : (room : ℕ) (reading step : Reading) (go_on : RawExpression × List Token → Reading) → reading ≡ (step >>= go_on)
    → ((x : RawExpression × List Token) (e : RawExpression) (others : List Token) → step ≡ Some x → go_on x ≡ Some (e, others)
    → room < expression_depth e) → IsDeeper room reading
deeper-step room reading step go_on same deeper e others is =
    let parts = stepped step go_on (e, others) (sym same ∙ is) in
    deeper parts.0 e others parts.1 parts.2

-- ---- operands

pub deeper-bracket : (room : ℕ) (token : Token) (others : List Token) → token.kind ≡ k.OpenRound
    → IsDeeper room (expression_at others) → IsDeeper room (operand_at (token ∷ others))
deeper-bracket room token others is deeper =
    deeper-step room (operand_at (token ∷ others)) (expression_at others) (λ x. behind_sign fixed.CloseRound x.1 >>= λ after. Some (x.0, after))
    (operand_at-bracket token others is) λ x e last found goes.
    let parts = stepped (behind_sign fixed.CloseRound x.1) (λ after. Some (x.0, after)) (e, last) goes in
    omega (arith, deeper x.0 x.1 found, same-depth (x.0, parts.0) (e, last) parts.2)

pub deeper-sign : (room : ℕ) (token : Token) (others : List Token) (op : UnOp) → unary_of token.kind ≡ Some op
    → IsDeeper (room - 1) (operand_at others) → IsDeeper room (operand_at (token ∷ others))
deeper-sign room token others op is deeper =
    deeper-step room (operand_at (token ∷ others)) (operand_at others) (λ x. Some (Un op x.0, x.1))
    (operand_at-sign token others op is) λ x e last found goes.
    omega (arith, deeper x.0 x.1 found, same-depth (Un op x.0, x.1) (e, last) goes)

-- ---- levels

pub deeper-level : (room level : ℕ) (tokens : List Token) → IsDeeper room (operand_at tokens) → IsDeeper room (level_at level tokens)
deeper-level room level tokens deeper =
    deeper-step room (level_at level tokens) (operand_at tokens) (λ x. further_at level x.0 x.1) (level_at-is level tokens)
    λ x e last found goes. omega (arith, deeper x.0 x.1 found, further_at-depth level x.0 x.1 e last goes)

-- An operation is deeper than both of its operands.
pub deeper-operation : (room level : ℕ) (left : RawExpression) (tokens : List Token) (at : ℕ) (op : BinOp) (line : ℕ)
    (others : List Token) → next_operator level tokens ≡ Some (at, op, line, others)
    → ((x : RawExpression × List Token) → level_at (suc at) others ≡ Some x
    → room < max (expression_depth left) (expression_depth x.0) + 1) → IsDeeper room (further_at level left tokens)
deeper-operation room level left tokens at op line others next deeper =
    deeper-step room (further_at level left tokens) (level_at (suc at) others) (λ x. further_at level (Bin op line left x.0) x.1)
    (further_at-next level left tokens at op line others next)
    λ x e last found goes. omega (arith, deeper x found, further_at-depth level (Bin op line left x.0) x.1 e last goes)

-- ---- expressions

pub deeper-expression : (room : ℕ) (tokens : List Token) → IsDeeper room (level_at 1 tokens) → IsDeeper room (expression_at tokens)
deeper-expression room tokens deeper =
    deeper-step room (expression_at tokens) (level_at 1 tokens) (λ x. choice_at x.0 x.1) (expression_at-is tokens)
    λ x e last found goes. omega (arith, deeper x.0 x.1 found, choice_at-depth x.0 x.1 e last goes)

-- A choice is deeper than its three parts.
pub deeper-choice : (room : ℕ) (tokens others behind_it : List Token) (cond : RawExpression)
    → level_at 1 tokens ≡ Some (cond, others) → behind_sign fixed.Question others ≡ Some behind_it
    → ((x y : RawExpression × List Token) (after : List Token) → expression_at behind_it ≡ Some x
    → behind_sign fixed.Colon x.1 ≡ Some after → expression_at after ≡ Some y
    → room < max (expression_depth cond) (max (expression_depth x.0) (expression_depth y.0)) + 1)
    → IsDeeper room (expression_at tokens)
deeper-choice room tokens others behind_it cond is asked deeper =
    deeper-step room (expression_at tokens) (expression_at behind_it)
    (λ x. behind_sign fixed.Colon x.1 >>= λ after. choice_to cond x.0 (expression_at after))
    (expression_at-level tokens others cond is ∙ choice_at-asked cond others behind_it asked) λ x e last found goes.
    let colon = stepped (behind_sign fixed.Colon x.1) (λ after. choice_to cond x.0 (expression_at after)) (e, last) goes in
    let second = stepped (expression_at colon.0) (λ y. Some (Cond cond x.0 y.0, y.1)) (e, last) colon.2 in
    omega (
      arith,
      deeper x second.0 colon.0 found colon.1 second.1,
      same-depth (Cond cond x.0 second.0.0, second.0.1) (e, last) second.2,
    )

-- No `:` stands behind the first value.
pub deeper-no_colon : (room : ℕ) (tokens others behind_it after : List Token) (cond f : RawExpression)
    → level_at 1 tokens ≡ Some (cond, others) → Some behind_it ≡ behind_sign fixed.Question others
    → expression_at behind_it ≡ Some (f, after) → None ≡ behind_sign fixed.Colon after → IsDeeper room (expression_at tokens)
deeper-no_colon room tokens others behind_it after cond f is asked first none =
    deeper-choice room tokens others behind_it cond is (sym asked) λ x y later found colon second.
    let same : after ≡ x.1 = ap (λ (z : RawExpression × List Token). z.1) (same_Some (f, after) x (sym first ∙ found)) in
    absurd (cc (none ∙ ap (behind_sign fixed.Colon) same ∙ colon))

-- The second value is too deep.
pub deeper-second : (room inside : ℕ) (tokens others behind_it after further : List Token) (cond f : RawExpression)
    → level_at 1 tokens ≡ Some (cond, others) → Some behind_it ≡ behind_sign fixed.Question others
    → expression_at behind_it ≡ Some (f, after) → Some further ≡ behind_sign fixed.Colon after → inside + 1 ≡ room
    → IsDeeper inside (expression_at further) → IsDeeper room (expression_at tokens)
deeper-second room inside tokens others behind_it after further cond f is asked first colon below deeper =
    deeper-choice room tokens others behind_it cond is (sym asked) λ x y later found colon' second.
    let same : after ≡ x.1 = ap (λ (z : RawExpression × List Token). z.1) (same_Some (f, after) x (sym first ∙ found)) in
    let same_later : further ≡ later = same_Some further later (colon ∙ ap (behind_sign fixed.Colon) same ∙ colon') in
    omega (arith, below, deeper y.0 y.1 (ap expression_at same_later ∙ second))
