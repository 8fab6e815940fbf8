-- Lists of multipliers for obligations, one after the other.
use Rattle.std.proofs.Common.{◌≡◌, ℕ, suc, ◌+◌, ◌<◌, ◌≤◌, List, [], ◌∷◌, ◌++◌, length, length-append, take, drop, get_or, refl, sym, ap, ◌∙◌, subst, add-suc, arith}
use Rattle.std.specs.Prelude.{◌↔◌, ℤ, Result, Ok, Err, All, IsTrue}
use Rattle.std.specs.Result.{is_ok}
use Rattle.std.specs.List.{flat_map}
use Rattle.std.proofs.Math.ListN.{drop_of_length-le}
use Rattle.std.proofs.Math.Seq.{take-append-add}
use Rattle.std.proofs.lemmas.List.{drop_more, drop-drop, take-append-le, take-append-drop}
use Rattle.std.proofs.lemmas.List.Elements.{All-nil, All-cons}
use Rattle.lin_terms.specs.declared.row.Row.{Row}
use Rattle.std.proofs.lemmas.Slice.Zip.{AllZip-long}
use Rattle.lin_terms.specs.Row.{IsFittingRow, HaveOneLength}
use Rattle.farkas_check.specs.Refutes.{Refutes, IsRefutable, IsCheckable, MayMultiply}
use Rattle.horn_clauses.specs.declared.family.Family.{Family}
use Rattle.horn_clauses.specs.Obligations.{Obligation, rows_of, obligations_of, atoms_or_none, FitsNode, CanOblige}
use Rattle.horn_clauses.specs.Family.{atoms_at}
use Rattle.horn_clauses.specs.declared.clause.Clause.{Clause}
use Rattle.horn_clauses.specs.declared.clause.Product.{Product}
use Rattle.horn_clauses.specs.declared.clause.Proofs.{Proofs}
use Rattle.coupling_check.specs.Checks.{IsProvedBy, AreProved, Checks, FailsAt, ChecksUpTo, AreProvedUpTo, FailsFrom, Reaches, CanCheckClause}
use Rattle.coupling_check.proofs.Shapes.{some_all}
use Rattle.coupling_check.specs.Laws.{CheckedIsRefutable, FailingIsUnproved}

-- ---- what it says

module _ (family : Family) where
  abbrev IsRefutableOne : Obligation → Type 0
  IsRefutableOne obligation = IsRefutable (rows_of family obligation)

  proved_are_refutable : (obligations : List Obligation) (lists : List (List ℤ)) → AreProved family obligations lists → All IsRefutableOne obligations
  proved_are_refutable [] lists proved = All-nil IsRefutableOne
  proved_are_refutable (obligation ∷ obligations) [] proved = absurd proved
  proved_are_refutable (obligation ∷ obligations) (multipliers ∷ lists) proved =
      All-cons IsRefutableOne obligation obligations (record { multipliers = multipliers; refutes = proved.0.refutes })
      (proved_are_refutable obligations lists proved.1)

pub checked_is_refutable : CheckedIsRefutable
checked_is_refutable product family proofs checked = proved_are_refutable family (obligations_of family product) proofs.lists checked

-- ---- what the check may be asked

pub checkable_of : (rows : List Row) (multipliers : List ℤ) → HaveOneLength rows → All IsFittingRow rows → IsProvedBy rows multipliers
    → IsCheckable rows multipliers
checkable_of rows multipliers one_length fit proved = record {
  many = proved.many;
  one_length = one_length;
  as_many = AllZip-long MayMultiply rows multipliers proved.refutes.signs;
  rows_fit = fit;
  multipliers_fit = proved.fit;
}

pub proved_of : (rows : List Row) (multipliers : List ℤ) → IsCheckable rows multipliers → Refutes rows multipliers → IsProvedBy rows multipliers
proved_of rows multipliers can refutes = record { many = can.many; fit = can.multipliers_fit; refutes = refutes }

-- ---- lists of obligations that are joined

module _ (family : Family) where
  -- both parts are proved, the second by the lists behind those of the first
  pub split_proved : (first second : List Obligation) (lists : List (List ℤ)) → AreProved family (first ++ second) lists
      → AreProved family first lists × AreProved family second (drop (length first) lists)
  split_proved [] second lists proved = (tt, proved)
  split_proved (obligation ∷ first) second [] proved = absurd proved
  split_proved (obligation ∷ first) second (multipliers ∷ lists) proved =
      let later = split_proved first second lists proved.1 in ((proved.0, later.0), later.1)

  pub join_proved : (first second : List Obligation) (lists : List (List ℤ)) → AreProved family first lists
      → AreProved family second (drop (length first) lists) → AreProved family (first ++ second) lists
  join_proved [] second lists proved later = later
  join_proved (obligation ∷ first) second [] proved later = absurd proved
  join_proved (obligation ∷ first) second (multipliers ∷ lists) proved later = (proved.0, join_proved first second lists proved.1 later)

  behind : (first : List Obligation) (lists : List (List ℤ)) (number next : ℕ) → next ≡ number + length first
      → drop (length first) (drop number lists) ≡ drop next lists
  behind first lists number next until = drop-drop (length first) number lists ∙ ap (λ (n : ℕ). drop n lists) (sym until)

  -- a failure of the first, and one behind them
  fails_early : (first second : List Obligation) (lists : List (List ℤ)) (number : ℕ) → FailsAt family first lists number
      → FailsAt family (first ++ second) lists number
  fails_early first second lists number failing =
      let below : suc number ≤ length first = omega (arith, failing.inside) in
      let fronts = take-append-le number first second (omega (arith, below)) in
      record {
        inside = omega (arith, failing.inside, length-append first second);
        proved = subst (λ (some : List Obligation). AreProved family some lists) (sym fronts) failing.proved;
        fails = λ proved.
            failing.fails (subst (λ (some : List Obligation). AreProved family some lists) (take-append-le (suc number) first second below) proved);
      }

  fails_later : (first second : List Obligation) (lists : List (List ℤ)) (number : ℕ) → AreProved family first lists
      → FailsAt family second (drop (length first) lists) number → FailsAt family (first ++ second) lists (length first + number)
  fails_later first second lists number proved failing = record {
    inside = omega (arith, failing.inside, length-append first second);
    proved = subst (λ (some : List Obligation). AreProved family some lists) (sym (take-append-add first second number))
        (join_proved first (take number second) lists proved failing.proved);
    fails = λ all.
        failing.fails (split_proved first (take (suc number) second) lists
        (subst (λ (some : List Obligation). AreProved family some lists) (take-append-add first second (suc number))
        (rw add-suc all))).1;
  }

  -- where the first are proved, the second tell
  pub then_reaches : (first second : List Obligation) (lists : List (List ℤ)) (number next : ℕ) (answer : Result ℕ ℕ)
      → AreProvedUpTo family first lists number next → Reaches family second lists next answer → Reaches family (first ++ second) lists number answer
  then_reaches first second lists number next (Ok end) proved later = record {
    proved = join_proved first second (drop number lists) proved.proved
        (subst (λ (xs : List (List ℤ)). AreProved family second xs) (sym (behind first lists number next proved.until)) later.proved);
    until = omega (arith, proved.until, later.until, length-append first second);
  }
  then_reaches first second lists number next (Err failing) proved later = record {
    place = length first + later.place;
    fails = fails_later first second (drop number lists) later.place proved.proved
        (subst (λ (xs : List (List ℤ)). FailsAt family second xs later.place) (sym (behind first lists number next proved.until)) later.fails);
    until = omega (arith, proved.until, later.until);
  }

  -- where one of the first fails, the second are not asked
  pub stops : (first second : List Obligation) (lists : List (List ℤ)) (number failing : ℕ) → FailsFrom family first lists number failing
      → Reaches family (first ++ second) lists number (Err failing)
  stops first second lists number failing fails =
      record { place = fails.place; fails = fails_early first second (drop number lists) fails.place fails.fails; until = fails.until }

  -- one more that fails, and the end
  module _ (X : Type 0) (made : X → List Obligation) (xs : List X) (lists : List (List ℤ)) (number : ℕ) where
    -- what is told from place i and number `next` on is told of all
    abbrev pub Leads : ℕ → ℕ → Type 0
    Leads i next = (answer : Result ℕ ℕ) → Reaches family (flat_map made (drop i xs)) lists next answer
        → Reaches family (flat_map made xs) lists number answer

    module _ (i next : ℕ) (x : X) (below : i < length xs) (is : x ≡ get_or xs i x) (so_far : Leads i next) where
      from_here : drop i xs ≡ x ∷ drop (i + 1) xs
      from_here = drop_more xs i x below ∙ ap (λ (y : X). y ∷ drop (i + 1) xs) (sym is)

      told_here : (answer : Result ℕ ℕ) → Reaches family (made x ++ flat_map made (drop (i + 1) xs)) lists next answer
          → Reaches family (flat_map made xs) lists number answer
      told_here answer here =
          so_far answer (subst (λ (ys : List X). Reaches family (flat_map made ys) lists next answer) (sym from_here) here)

      pub leads_on : (behind_it : ℕ) → AreProvedUpTo family (made x) lists next behind_it → Leads (i + 1) behind_it
      leads_on behind_it proved =
          λ answer later. told_here answer (then_reaches (made x) (flat_map made (drop (i + 1) xs)) lists next behind_it answer proved later)

      pub leads_to_failure : (failing : ℕ) → FailsFrom family (made x) lists next failing → Reaches family (flat_map made xs) lists number (Err failing)
      leads_to_failure failing fails = told_here (Err failing) (stops (made x) (flat_map made (drop (i + 1) xs)) lists next failing fails)

    pub leads_to_end : (i next : ℕ) → length xs ≤ i → Leads i next → Reaches family (flat_map made xs) lists number (Ok next)
    leads_to_end i next past so_far =
        so_far (Ok next) (subst (λ (ys : List X). Reaches family (flat_map made ys) lists next (Ok next)) (sym (drop_of_length-le xs past))
        (record { proved = tt; until = omega arith }))

-- ---- where one fails

pub failing_is_unproved : FailingIsUnproved
failing_is_unproved family obligations lists number failing =
    λ proved.
    failing.fails (split_proved family (take (suc number) obligations) (drop (suc number) obligations) lists
    (subst (λ (all : List Obligation). AreProved family all lists) (sym (take-append-drop (suc number) obligations)) proved)).0

-- All is proved exactly where the check comes to a count.
pub counts_where_checked : (product : Product) (family : Family) (proofs : Proofs) (answer : Result ℕ ℕ) → ChecksUpTo product family proofs answer
    → IsTrue (is_ok answer) ↔ Checks product family proofs
counts_where_checked product family proofs (Ok count) all = (λ is. all.0, λ checked. refl)
counts_where_checked product family proofs (Err number) failing =
    (λ never. cc, λ checked. absurd (failing_is_unproved family (obligations_of family product) proofs.lists number failing checked))

-- ---- what may be checked

pub can_oblige_all : (family : Family) (clause : Clause) → CanCheckClause family clause
    → All (CanOblige family clause) (atoms_or_none (atoms_at family clause.to))
can_oblige_all family clause can =
    let fit = some_all (FitsNode can.end) (atoms_at family clause.to) can.at_end in
    λ k d inside. record {
      start = can.start;
      end = can.end;
      at_start = can.at_start;
      at_end = fit k d inside;
      between = can.between;
      few_at_start = can.few_at_start;
      few_at_end = can.few_at_end;
    }
