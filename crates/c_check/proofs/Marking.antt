-- The marks that were named, in either order.
use Rattle.std.proofs.Common.{◌≡◌, ℕ, ◌<◌, Bool, true, false, ◌||◌, not, List, [], ◌∷◌, ◌++◌, reverse, Some, None, nat_eq, refl, sym, ap, ◌∙◌, arith}
use Rattle.std.specs.List.{list_any}
use Rattle.std.proofs.lemmas.List.{reverse-append}
use Rattle.std.proofs.lemmas.Bool.{lt-ltb}
use Rattle.std.proofs.lemmas.List.Folds.{list_any-append}
use Rattle.c_check.specs.declared.fault.CheckFault.TheVariants as fault
use Rattle.c_check.specs.Occurrences.{Marked}
use Rattle.c_check.specs.Faults.{holds_mark, fault_of}

or_turned : (left right : Bool) → (left || right) ≡ (right || left)
or_turned true true = refl
or_turned true false = refl
or_turned false true = refl
or_turned false false = refl

same_turned : (other mark : ℕ) → nat_eq other mark ≡ nat_eq mark other
same_turned other mark = grind arith

or_false : (holds : Bool) → (holds || false) ≡ holds
or_false true = refl
or_false false = refl

-- a list and the same from its end hold a mark alike
pub holds_turned : (marks : List ℕ) (mark : ℕ) → holds_mark (reverse marks) mark ≡ list_any (nat_eq mark) marks
holds_turned [] mark = refl
holds_turned (first ∷ marks) mark =
    ap (λ (list : List ℕ). holds_mark list mark) (reverse-append (first ∷ []) marks)
    ∙ list_any-append (λ (other : ℕ). nat_eq other mark) (reverse marks) (first ∷ [])
    ∙ ap (λ holds. holds_mark (reverse marks) mark || holds) (or_false (nat_eq first mark))
    ∙ ap (λ holds. holds || nat_eq first mark) (holds_turned marks mark) ∙ ap (λ holds. list_any (nat_eq mark) marks || holds) (same_turned first mark)
    ∙ or_turned (list_any (nat_eq mark) marks) (nat_eq mark first)

pub turned-push : (marks : List ℕ) (mark : ℕ) → reverse (marks ++ mark ∷ []) ≡ mark ∷ reverse marks
turned-push marks mark = reverse-append marks (mark ∷ [])

false_not : (holds : Bool) → not holds ≡ false → holds ≡ true
false_not true is = refl
false_not false is = sym is

true_not : (holds : Bool) → not holds ≡ true → holds ≡ false
true_not true is = sym is
true_not false is = refl

pub not-false : {holds : Bool} → not holds ≡ false → holds ≡ true
not-false {holds} is = false_not holds is

pub not-true : {holds : Bool} → not holds ≡ true → holds ≡ false
not-true {holds} is = true_not holds is

pub is_twice : (marks : List ℕ) (mark : ℕ) → mark < 1000000 → holds_mark marks mark ≡ true → fault_of marks (Marked mark) ≡ Some (fault.MarkTwice mark)
is_twice marks mark below holds = rw (lt-ltb mark 1000000 below, holds) refl

pub is_new : (marks : List ℕ) (mark : ℕ) → mark < 1000000 → holds_mark marks mark ≡ false → fault_of marks (Marked mark) ≡ None
is_new marks mark below holds = rw (lt-ltb mark 1000000 below, holds) refl
