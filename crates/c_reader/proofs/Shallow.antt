-- Expressions of at most a depth.
use Rattle.std.proofs.Common.{◌≡◌, ℕ, ◌<◌, ◌≤◌, Bool, true, false, List, ◌++◌, Some, None, nat_le, if◌then◌else◌, refl, sym, arith}
use Rattle.std.proofs.lemmas.Bool.Decides.{nat_tests}
use Rattle.c_ast.specs.RawTree.{RawExpression}
use Rattle.c_tokens.specs.declared.token.Token.{Token}
use Rattle.c_reader.specs.declared.fault.ReadFault.{ReadFault}
use Rattle.c_reader.specs.declared.fault.ReadFault.TheVariants.{Deep, Grammar, Memory}
use Rattle.c_reader.specs.Faults.{Refuses}
use Rattle.c_reader.specs.Expressions.{SpellsExpression, EndsExpression, expression_depth}
use Rattle.c_reader.specs.ReadExpressions.{◌>>=◌, expression_at, IsDeeper}
use Rattle.c_reader.specs.ReadDeclarations.{Reads, shallow_at}
use Rattle.c_reader.proofs.ExpressionSoundness.{expression_sound}
use Rattle.c_reader.proofs.ExpressionCompleteness.{expression_complete}
use Rattle.c_reader.proofs.Reading.{step, stepped, given, Front}

deeper : (room depth : ℕ) → room < depth → nat_le depth room ≡ false
deeper room depth less = grind (arith, nat_tests)

low : (room depth : ℕ) → depth ≤ room → nat_le depth room ≡ true
low room depth less = grind (arith, nat_tests)

low-from_test : (room depth : ℕ) → nat_le depth room ≡ true → depth ≤ room
low-from_test room depth test = grind (arith, nat_tests)

-- Where all that could be read is deeper, nothing shallow is read.
none-shallow : (room : ℕ) (reading : Reads RawExpression) → IsDeeper room reading
    → (reading >>= λ x. if nat_le (expression_depth x.0) room then Some x else None) ≡ None
none-shallow room None deep = refl
none-shallow room (Some x) deep = rw (deeper room (expression_depth x.0) (deep x.0 x.1 refl)) refl

pub shallow-refuses : (fault : ReadFault) (room : ℕ) (tokens : List Token)
    → Refuses (IsDeeper room (expression_at tokens)) fault → Refuses (shallow_at room tokens ≡ None) fault
unfolding shallow_at
shallow-refuses Deep room tokens refused = refused
shallow-refuses Grammar room tokens refused = none-shallow room (expression_at tokens) refused
shallow-refuses Memory room tokens refused = tt

-- An expression that is read is spelled so, and is shallow.
pub record ShallowAt (room : ℕ) (tokens : List Token) (e : RawExpression) (after : List Token) : Type 0 where
  pub at : Front SpellsExpression tokens e after
  pub within : expression_depth e ≤ room

tested : (room : ℕ) (x read : RawExpression × List Token) (test : Bool) → nat_le (expression_depth x.0) room ≡ test
    → (if test then Some x else None) ≡ Some read → (x ≡ read) × (expression_depth x.0 ≤ room)
tested room x read true is found = (given found, low-from_test room (expression_depth x.0) is)
tested room x read false is found = absurd cc

pub expression-front : (tokens : List Token) (read : RawExpression × List Token) → expression_at tokens ≡ Some read
    → Front SpellsExpression tokens read.0 read.1
expression-front tokens read found =
    let at = expression_sound tokens read.1 read.0 found in
    record { front = at.front; parts = at.parts; spells = at.spells }

pub shallow-sound : (room : ℕ) (tokens : List Token) (read : RawExpression × List Token)
    → shallow_at room tokens ≡ Some read → ShallowAt room tokens read.0 read.1
unfolding shallow_at
shallow-sound room tokens read found =
    let read_first = stepped (expression_at tokens) _ read found in
    let kept = tested room read_first.0 read (nat_le (expression_depth read_first.0.0) room) refl read_first.2 in
    rw (sym kept.0) (record { at = expression-front tokens read_first.0 read_first.1; within = kept.1 })

pub shallow-complete : (room : ℕ) (e : RawExpression) (us after : List Token) → SpellsExpression e us
    → EndsExpression after → expression_depth e ≤ room → shallow_at room (us ++ after) ≡ Some (e, after)
unfolding shallow_at
shallow-complete room e us after spells ends less =
    step _ (e, after) (expression_complete e us after spells ends) (rw (low room (expression_depth e) less) refl)
