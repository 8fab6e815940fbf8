-- A text is read as one function at most, or else is refused for one reason at most.
use Rattle.std.proofs.Common.{◌≡◌, ◌≢◌, ℕ, ◌<◌, ◌≤◌, List, [], ◌∷◌, length, Some, None, refl, sym, ap, ◌∙◌, subst, arith}
use Rattle.c_ast.specs.Function.{Function}
use Rattle.c_ast.specs.RawTree.{RawFunction}
use Rattle.c_tokens.specs.declared.token.Token.{Token}
use Rattle.c_tokens.specs.declared.fault.TokenFault.{TokenFault}
use Rattle.c_reader.specs.declared.fault.ReadFault.{ReadFault}
use Rattle.c_reader.specs.Units.{SpellsUnit}
use Rattle.c_reader.proofs.Laws.{unit-one}
use Rattle.c_check.specs.declared.fault.CheckFault.{CheckFault}
use Rattle.c_check.specs.declared.fault.CheckFault.TheVariants as check
use Rattle.c_check.proofs.Laws.{same_function}
use Rattle.c_check.specs.Checked.{HoldsOne, IsCheckFault, Checks, fault_in, variables_of}
use Rattle.c_source.specs.declared.fault.TextFault.{TextFault}
use Rattle.c_source.specs.declared.fault.TextFault.TheVariants as refusal
use Rattle.c_source.specs.TextFaults.{of_check}
use Rattle.c_source.specs.Reads.{Parses, Reads, SpellNoUnit, IsUnchecked, IsRefusal, IsTextFault, HasOneReading, HasOneRefusal, ReadIsNotRefused, RefusalIsNoWant}
use Rattle.c_source.proofs.Answering.{IsDetermined}
use Rattle.c_source.proofs.Unread.{tokens_once, not_both, first_fault_once, first_fault-no_want, unread_once, unread-no_want, not_unread}

-- ---- refusals of the checker

pub check_refused : (text : List ℕ) (unit : List RawFunction) → Parses text unit → (fault : CheckFault) → IsCheckFault unit fault
    → IsTextFault text (of_check fault)
check_refused text unit parses check.NoFunction reason = record { unit = unit; parses = parses; reason = reason; no_want = λ same. cc }
check_refused text unit parses (check.ManyFunctions count) reason = record { unit = unit; parses = parses; reason = reason; no_want = λ same. cc }
check_refused text unit parses (check.Undeclared name line) reason = record { unit = unit; parses = parses; reason = reason; no_want = λ same. cc }
check_refused text unit parses (check.Twice name line) reason = record { unit = unit; parses = parses; reason = reason; no_want = λ same. cc }
check_refused text unit parses (check.Outside line) reason = record { unit = unit; parses = parses; reason = reason; no_want = λ same. cc }
check_refused text unit parses (check.MarkRange mark) reason = record { unit = unit; parses = parses; reason = reason; no_want = λ same. cc }
check_refused text unit parses (check.MarkTwice mark) reason = record { unit = unit; parses = parses; reason = reason; no_want = λ same. cc }
check_refused text unit parses (check.Divisor line) reason = record { unit = unit; parses = parses; reason = reason; no_want = λ same. cc }
check_refused text unit parses (check.ManyVariables count) reason = record { unit = unit; parses = parses; reason = reason; no_want = λ same. cc }
check_refused text unit parses check.Memory reason = tt

-- ---- one tree

pub parsed_once : (text : List ℕ) (first second : List RawFunction) → Parses text first → Parses text second → first ≡ second
parsed_once text first second one other =
    let same = tokens_once text one.tokens other.tokens one.are other.are in
    unit-one other.tokens first second (subst (λ (tokens : List Token). SpellsUnit tokens first) same one.spells) other.spells

-- ---- a function that is checked has no fault

pub one_function : (unit : List RawFunction) (f g : RawFunction) → HoldsOne unit f → HoldsOne unit g → f ≡ g
one_function unit f g first second = let same : f ∷ [] ≡ g ∷ [] = sym first ∙ second in cc

no_fault : (unit : List RawFunction) (made : Function) (fault : CheckFault) → Checks unit made
    → (f : RawFunction) × HoldsOne unit f × (fault_in f ≡ Some fault) → ⊥
no_fault unit made fault checks broken =
    let same = one_function unit checks.0 broken.0 checks.1 broken.1 in
    let none : fault_in broken.0 ≡ None = subst (λ (f : RawFunction). fault_in f ≡ None) same checks.2.faultless in
    let clash : None ≡ Some fault = sym none ∙ broken.2 in cc

no_check_fault : (unit : List RawFunction) (made : Function) (fault : CheckFault) → Checks unit made → fault ≢ check.Memory → IsCheckFault unit fault → ⊥
no_check_fault unit made check.NoFunction checks want reason = let clash : [] ≡ checks.0 ∷ [] = sym reason ∙ checks.1 in cc
no_check_fault unit made (check.ManyFunctions count) checks want reason =
    let one : length unit ≡ 1 = ap length checks.1 in omega (arith, reason.0, reason.1)
no_check_fault unit made (check.Undeclared name line) checks want reason = no_fault unit made (check.Undeclared name line) checks reason
no_check_fault unit made (check.Twice name line) checks want reason = no_fault unit made (check.Twice name line) checks reason
no_check_fault unit made (check.Outside line) checks want reason = no_fault unit made (check.Outside line) checks reason
no_check_fault unit made (check.MarkRange mark) checks want reason = no_fault unit made (check.MarkRange mark) checks reason
no_check_fault unit made (check.MarkTwice mark) checks want reason = no_fault unit made (check.MarkTwice mark) checks reason
no_check_fault unit made (check.Divisor line) checks want reason = no_fault unit made (check.Divisor line) checks reason
no_check_fault unit made (check.ManyVariables count) checks want reason =
    let same = one_function unit checks.0 reason.0 checks.1 reason.1 in
    let few : length (variables_of reason.0) ≤ 64 = subst (λ (f : RawFunction). length (variables_of f) ≤ 64) same checks.2.few in
    omega (arith, reason.3, reason.4)
no_check_fault unit made check.Memory checks want reason = want refl

-- ---- a text that is read is not refused

some_unit : (text : List ℕ) (unit : List RawFunction) (parses : Parses text unit) → ¬ SpellNoUnit parses.tokens
some_unit text unit parses none = let deeper = none unit parses.spells in let shallow = parses.shallow in omega arith

unread_parses : (text : List ℕ) (unit : List RawFunction) (fault : ReadFault) → Parses text unit → ¬ IsRefusal text (refusal.Reader fault)
unread_parses text unit fault parses = not_unread SpellNoUnit text parses.tokens fault parses.are parses.nested (some_unit text unit parses)

pub not_refused : ReadIsNotRefused
not_refused text made (refusal.Token fault) reads first = not_both text fault reads.parses.tokens first reads.parses.are
not_refused text made (refusal.Reader fault) reads unread = unread_parses text reads.unit fault reads.parses unread
not_refused text made (refusal.Check fault) reads unchecked =
    let same = parsed_once text unchecked.unit reads.unit unchecked.parses reads.parses in
    no_check_fault reads.unit made fault reads.checks unchecked.no_want (subst (λ (unit : List RawFunction). IsCheckFault unit fault) same unchecked.reason)
not_refused text made refusal.Memory reads none = none

-- ---- one function

checked_once : (unit : List RawFunction) (first second : Function) → Checks unit first → Checks unit second → first ≡ second
checked_once unit first second one other = same_function unit first second one other

pub reading_once : HasOneReading
reading_once text first second one other =
    let same = parsed_once text one.unit other.unit one.parses other.parses in
    checked_once other.unit first second (subst (λ (unit : List RawFunction). Checks unit first) same one.checks) other.checks

-- ---- each part has one fault at most

-- What a fault of the checker says of the file: no function, many, or one with a fault or with too many variables.
data Broken (unit : List RawFunction) : CheckFault → Type 0 where
  no_function : unit ≡ [] → Broken unit check.NoFunction
  many_functions : (n : ℕ) → 2 ≤ n → length unit ≡ n → Broken unit (check.ManyFunctions n)
  one_fault : (f : RawFunction) (first : CheckFault) → HoldsOne unit f → fault_in f ≡ Some first → Broken unit first
  many_variables : (f : RawFunction) (n : ℕ) → HoldsOne unit f → fault_in f ≡ None → length (variables_of f) ≡ n → Broken unit (check.ManyVariables n)

broken : (unit : List RawFunction) (first : CheckFault) → first ≢ check.Memory → IsCheckFault unit first → Broken unit first
broken unit check.NoFunction want is = no_function is
broken unit (check.ManyFunctions n) want is = many_functions n is.0 is.1
broken unit (check.Undeclared name line) want is = one_fault is.0 (check.Undeclared name line) is.1 is.2
broken unit (check.Twice name line) want is = one_fault is.0 (check.Twice name line) is.1 is.2
broken unit (check.Outside line) want is = one_fault is.0 (check.Outside line) is.1 is.2
broken unit (check.MarkRange mark) want is = one_fault is.0 (check.MarkRange mark) is.1 is.2
broken unit (check.MarkTwice mark) want is = one_fault is.0 (check.MarkTwice mark) is.1 is.2
broken unit (check.Divisor line) want is = one_fault is.0 (check.Divisor line) is.1 is.2
broken unit (check.ManyVariables n) want is = many_variables is.0 n is.1 is.2 is.3
broken unit check.Memory want is = absurd (want refl)

one_is_not_none : (unit : List RawFunction) (f : RawFunction) → HoldsOne unit f → unit ≢ []
one_is_not_none unit f holds none = let clash : f ∷ [] ≡ [] = sym holds ∙ none in cc

one_is_not_many : (unit : List RawFunction) (f : RawFunction) (n : ℕ) → HoldsOne unit f → 2 ≤ n → length unit ≢ n
one_is_not_many unit f n holds many is = let one : length unit ≡ 1 = ap length holds in omega (arith, one, is)

broken_once : (unit : List RawFunction) (one other : CheckFault) → Broken unit one → Broken unit other → one ≡ other
broken_once unit one other (no_function _) (no_function _) = refl
broken_once unit one other (no_function empty) (many_functions n two is) = absurd (let zero : length unit ≡ 0 = ap length empty in omega (arith, zero, is))
broken_once unit one other (no_function empty) (one_fault f first holds is) = absurd (one_is_not_none unit f holds empty)
broken_once unit one other (no_function empty) (many_variables f n holds is count) = absurd (one_is_not_none unit f holds empty)
broken_once unit one other (many_functions n two is) (no_function empty) = absurd (let zero : length unit ≡ 0 = ap length empty in omega (arith, zero, is))
broken_once unit one other (many_functions n two is) (many_functions m _ also) = ap (λ (n : ℕ). check.ManyFunctions n) (sym is ∙ also)
broken_once unit one other (many_functions n two is) (one_fault f first holds _) = absurd (one_is_not_many unit f n holds two is)
broken_once unit one other (many_functions n two is) (many_variables f _ holds _ _) = absurd (one_is_not_many unit f n holds two is)
broken_once unit one other (one_fault f first holds is) (no_function empty) = absurd (one_is_not_none unit f holds empty)
broken_once unit one other (one_fault f first holds _) (many_functions n two is) = absurd (one_is_not_many unit f n holds two is)
broken_once unit one other (one_fault f first holds is) (one_fault g second also_holds also) =
    let same = one_function unit f g holds also_holds in
    let clash : Some first ≡ Some second = sym is ∙ ap fault_in same ∙ also in cc
broken_once unit one other (one_fault f first holds is) (many_variables g n also_holds also _) =
    absurd (let clash : Some first ≡ None = sym is ∙ ap fault_in (one_function unit f g holds also_holds) ∙ also in cc)
broken_once unit one other (many_variables f n holds is count) (no_function empty) = absurd (one_is_not_none unit f holds empty)
broken_once unit one other (many_variables f n holds is count) (many_functions m two also) = absurd (one_is_not_many unit f m holds two also)
broken_once unit one other (many_variables f n holds is _) (one_fault g second also_holds also) =
    absurd (let clash : None ≡ Some second = sym is ∙ ap fault_in (one_function unit f g holds also_holds) ∙ also in cc)
broken_once unit one other (many_variables f n holds is count) (many_variables g m also_holds also also_count) =
    ap (λ (n : ℕ). check.ManyVariables n) (sym count ∙ ap (λ (f : RawFunction). length (variables_of f)) (one_function unit f g holds also_holds) ∙ also_count)

unchecked_once : (text : List ℕ) (one other : CheckFault) → IsUnchecked text one → IsUnchecked text other → one ≡ other
unchecked_once text one other is also =
    let same = parsed_once text is.unit also.unit is.parses also.parses in
    broken_once also.unit one other (broken also.unit one is.no_want (subst (λ (unit : List RawFunction). IsCheckFault unit one) same is.reason))
    (broken also.unit other also.no_want also.reason)

-- ---- a text has one refusal at most

pub refusal_once : HasOneRefusal
refusal_once text (refusal.Token one) (refusal.Token other) is also =
    ap (λ (fault : TokenFault). refusal.Token fault) (first_fault_once text one other is also)
refusal_once text (refusal.Token one) (refusal.Reader other) is also = absurd (not_both text one also.tokens is also.are)
refusal_once text (refusal.Token one) (refusal.Check other) is also = absurd (not_both text one also.parses.tokens is also.parses.are)
refusal_once text (refusal.Reader one) (refusal.Token other) is also = absurd (not_both text other is.tokens also is.are)
refusal_once text (refusal.Reader one) (refusal.Reader other) is also =
    ap (λ (fault : ReadFault). refusal.Reader fault) (unread_once SpellNoUnit text one other is also)
refusal_once text (refusal.Reader one) (refusal.Check other) is also = absurd (unread_parses text also.unit one also.parses is)
refusal_once text (refusal.Check one) (refusal.Token other) is also = absurd (not_both text other is.parses.tokens also is.parses.are)
refusal_once text (refusal.Check one) (refusal.Reader other) is also = absurd (unread_parses text is.unit other is.parses also)
refusal_once text (refusal.Check one) (refusal.Check other) is also =
    ap (λ (fault : CheckFault). refusal.Check fault) (unchecked_once text one other is also)
refusal_once text refusal.Memory other is also = absurd is
refusal_once text (refusal.Token one) refusal.Memory is also = absurd also
refusal_once text (refusal.Reader one) refusal.Memory is also = absurd also
refusal_once text (refusal.Check one) refusal.Memory is also = absurd also

pub refusal-no_want : RefusalIsNoWant
refusal-no_want text (refusal.Token fault) is = first_fault-no_want text fault is
refusal-no_want text (refusal.Reader fault) is = unread-no_want SpellNoUnit text fault is
refusal-no_want text (refusal.Check fault) is = is.no_want
refusal-no_want text refusal.Memory is = is

pub determined : (text : List ℕ) → IsDetermined Function (Reads text) (IsRefusal text)
determined text = record { made_once = reading_once text; refused_once = refusal_once text; not_both = not_refused text }
