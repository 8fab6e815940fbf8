-- Expressions that are all of their tokens.
use Rattle.std.proofs.Common.{◌≡◌, ℕ, ◌<◌, ◌≤◌, max, List, [], ◌∷◌, ◌++◌, length, Some, None, refl, ap, sym, subst, ◌∙◌, inl, inr, arith}
use Rattle.std.specs.Prelude.{IsErrOf, Result, Err}
use Rattle.std.proofs.lemmas.Bool.{cases_lt}
use Rattle.std.proofs.lemmas.List.{append-nil}
use Rattle.std.proofs.lemmas.Option.{same_Some}
use Rattle.c_ast.specs.RawTree.{RawExpression}
use Rattle.c_tokens.specs.declared.token.Token.{Token}
use Rattle.c_reader.specs.declared.fault.ReadFault.{ReadFault}
use Rattle.c_reader.specs.declared.fault.ReadFault.TheVariants.{Grammar}
use Rattle.c_reader.specs.Faults.{Refuses}
use Rattle.c_reader.specs.Expressions.{SpellsExpression, expression_depth, HasOneExpression}
use Rattle.c_reader.specs.ReadDeclarations.{shallow_at}
use Rattle.c_reader.proofs.Shallow.{shallow-sound, shallow-complete}
use Rattle.c_reader.proofs.Refusals.{grammar-by}

-- What spells an expression is read as it to its end, where its depth leaves room.
pub whole-complete : (room : ℕ) (tokens : List Token) (e : RawExpression) → SpellsExpression e tokens
    → expression_depth e ≤ room → shallow_at room tokens ≡ Some (e, [])
whole-complete room tokens e spells low =
    subst (λ (l : List Token). shallow_at room l ≡ Some (e, [])) (append-nil tokens)
    (shallow-complete room e tokens [] spells tt low)

-- Two expressions that one list of tokens spells are equal.
pub whole-one : HasOneExpression
whole-one tokens first second spells others =
    let room = max (expression_depth first) (expression_depth second) in
    let read : Some (first, []) ≡ Some (second, []) = sym (whole-complete room tokens first spells (omega arith))
    ∙ whole-complete room tokens second others (omega arith) in
    ap (λ (x : RawExpression × List Token). x.0) (same_Some (first, []) (second, []) read)

no_tokens : (tokens : List Token) → length tokens ≡ 0 → tokens ≡ []
no_tokens [] none = refl
no_tokens (first ∷ others) none = absurd (omega arith)

-- What is read to the end of all tokens is spelled by them, and is no deeper than its room.
pub whole-sound : (room : ℕ) (tokens : List Token) (e : RawExpression) (others : List Token)
    → shallow_at room tokens ≡ Some (e, others) → length others ≡ 0
    → SpellsExpression e tokens × (expression_depth e ≤ room)
whole-sound room tokens e others read empty =
    let none = no_tokens others empty in
    let first = shallow-sound room tokens (e, others) read in
    let whole : tokens ≡ first.at.front =
    first.at.parts ∙ ap (λ (l : List Token). first.at.front ++ l) none ∙ append-nil first.at.front in
    (subst (SpellsExpression e) (sym whole) first.at.spells, first.within)

-- Where no shallow expression is read, or one with tokens behind it, what they spell is too deep.
deeper-by : (room : ℕ) (tokens : List Token) (e : RawExpression) → SpellsExpression e tokens
    → (shallow_at room tokens ≡ Some (e, []) → ⊥) → room < expression_depth e
deeper-by room tokens e spells other = elim (cases_lt room (expression_depth e)) [
  | inl deep ↦ deep
  | inr low ↦ absurd (other (whole-complete room tokens e spells low))
]

pub refused-expression : {X : Type 0} (room : ℕ) (tokens : List Token) (e : RawExpression) (fault : ReadFault)
    (answer : Result X ReadFault) (given : ReadFault) → answer ≡ Err given → given ≡ fault → IsErrOf answer Grammar
    → Refuses (shallow_at room tokens ≡ None) fault → SpellsExpression e tokens → room < expression_depth e
refused-expression room tokens e fault answer given is same is_grammar refused spells =
    let grammar : fault ≡ Grammar = cc in
    let none = grammar-by fault (shallow_at room tokens ≡ None) grammar refused in
    deeper-by room tokens e spells (λ read. cc (none, read))

pub unfinished-expression : (room : ℕ) (tokens others : List Token) (e other : RawExpression)
    → shallow_at room tokens ≡ Some (other, others) → (length others ≡ 0 → ⊥) → SpellsExpression e tokens
    → room < expression_depth e
unfinished-expression room tokens others e other read some spells =
    deeper-by room tokens e spells (λ whole.
    some (ap (λ (x : RawExpression × List Token). length x.1) (same_Some (other, others) (e, []) (sym read ∙ whole))))
