-- At values of both sides a clause leads exactly where the condition's case and a path of each side lead.
use Rattle.std.proofs.Common.{◌≡◌, ℕ, ◌-◌, ◌≤◌, List, [], ◌∷◌, ◌++◌, length, map, All, refl, sym, ap, subst, ◌∙◌, length-append, arith}
use Rattle.std.specs.Prelude.{ℤ}
use Rattle.std.proofs.lemmas.List.Elements.{All-nil, All-head, All-weaker}
use Rattle.lin_terms.specs.declared.form.Form.{Form}
use Rattle.lin_terms.specs.declared.row.Row.{Row}
use Rattle.lin_terms.specs.Form.{value_at}
use Rattle.lin_terms.specs.Row.{Holds}
use Rattle.c_ast.specs.declared.place.Place.{Place}
use Rattle.horn_clauses.specs.declared.node.Node.{Node}
use Rattle.horn_clauses.specs.Clause.{columns_in, LeadsTo}
use Rattle.sym_paths.specs.Walk.{Path}
use Rattle.sym_paths.specs.Points.{ReachedFrom}
use Rattle.sym_paths.specs.Nodes.{End}
use Rattle.sym_paths.specs.Condition.{HoldAt}
use Rattle.sym_paths.specs.Fits.{FitsInputs}
use Rattle.sym_paths.proofs.Laws.{values_are_those, rows_hold_there}
use Rattle.path_product.specs.Clauses.{columns_of, coupled}
use Rattle.path_product.proofs.Begins.{EndsAs, IsRightFrom}
use Rattle.path_product.proofs.Coupling.{AreAsMany, parts_lead, IsShown, clause_shown}

-- ---- the condition's case

-- The numbers are as many as the rows have unknowns, and the rows hold with them.
record HoldsExactly (v : ℕ) (d : List ℤ) (condition : List Row) : Type 0 where
  unknowns : List ℤ
  long : length unknowns ≡ columns_in v condition [] - v
  holds : All (Holds (d ++ unknowns)) condition

holds_exactly : (v : ℕ) (d : List ℤ) (condition : List Row) → length d ≡ v → HoldAt d condition → HoldsExactly v d condition
holds_exactly v d [] first hold = record { unknowns = []; long = omega arith; holds = All-nil (Holds (d ++ [])) }
holds_exactly v d (row ∷ condition) first (unknowns, hold) =
    let all = length-append d unknowns in
    let here = All-head (λ (r : Row). length r.coefs ≡ length (d ++ unknowns)) row condition hold.columns in
    record { unknowns = unknowns; long = omega (arith, all, here, first); holds = hold.holds }

-- rows that fit have as many columns as the first of them
inputs_columns : (v : ℕ) (condition : List Row) → FitsInputs v condition
    → All (λ row. length row.coefs ≡ columns_in v condition []) condition × (v ≤ columns_in v condition [])
inputs_columns v [] fits = (All-nil (λ (row : Row). length row.coefs ≡ v), omega arith)
inputs_columns v (row ∷ condition) fits =
    let here = All-head (λ (r : Row). length r.coefs ≡ fits.columns) row condition fits.over.lengths in (
      All-weaker (λ (r : Row). length r.coefs ≡ fits.columns) (λ (r : Row). length r.coefs ≡ length row.coefs) (λ r is. is ∙ sym here) (row ∷ condition)
          fits.over.lengths,
      omega (arith, here, fits.over.enough),
    )

hold_at : (v : ℕ) (d p : List ℤ) (condition : List Row) → FitsInputs v condition → length d ≡ v → length p ≡ columns_in v condition [] - v
    → All (Holds (d ++ p)) condition → HoldAt d condition
hold_at v d p condition fits first long hold =
    let columns = inputs_columns v condition fits in
    let all = length-append d p in
    let same : columns_in v condition [] ≡ length (d ++ p) = omega (arith, columns.1, all, first, long) in (
      p,
      record {
        columns = All-weaker (λ (row : Row). length row.coefs ≡ columns_in v condition []) (λ (row : Row). length row.coefs ≡ length (d ++ p))
            (λ row is. is ∙ same) condition columns.0;
        holds = hold;
      },
    )

-- ---- one clause

module _ (from : Node) (v w : ℕ) (d e : List ℤ) (first : length d ≡ v) (second : length e ≡ w) (R S : Place → List ℤ → Type 0)
    (condition : List Row) (x y : Path End) where
  -- The clause leads to values with which both sides end.
  pub record Leads : Type 0 where
    pub left : List ℤ
    pub right : List ℤ
    pub of_first : R x.value.place left
    pub of_second : S y.value.place right
    pub leads : LeadsTo (d ++ e) (left ++ right) (coupled from v w condition x y)

  pub coupled_leads : HoldAt d condition → ReachedFrom d (EndsAs R) x → ReachedFrom e (EndsAs S) y → Leads
  coupled_leads hold reached_x reached_y = record {
    left = reached_x.has.0;
    right = reached_y.has.0;
    of_first = reached_x.has.2;
    of_second = reached_y.has.2;
    leads = (
      p.unknowns ++ (reached_x.extends.behind ++ reached_y.extends.behind),
      parts_lead (columns_of v w condition x y) d e p.unknowns reached_x.extends.behind reached_y.extends.behind many from condition x y p.holds
          (subst (λ (z : List ℤ). All (Holds z) x.state.rows) reached_x.extends.is
          (rows_hold_there reached_x.longer x.state.rows reached_x.whole.holds))
          (subst (λ (z : List ℤ). All (Holds z) y.state.rows) reached_y.extends.is
          (rows_hold_there reached_y.longer y.state.rows reached_y.whole.holds))
          reached_x.has.0 reached_y.has.0
          (subst (λ (z : List ℤ). map (λ (form : Form). value_at form z) x.value.forms ≡ reached_x.has.0) reached_x.extends.is
          (values_are_those reached_x.longer x.value.forms reached_x.has.0 reached_x.has.1))
          (subst (λ (z : List ℤ). map (λ (form : Form). value_at form z) y.value.forms ≡ reached_y.has.0) reached_y.extends.is
          (values_are_those reached_y.longer y.value.forms reached_y.has.0 reached_y.has.1)),
    );
  }
    where
      p : HoldsExactly v d condition
      p = holds_exactly v d condition first hold

      many : AreAsMany (columns_of v w condition x y) d e p.unknowns reached_x.extends.behind reached_y.extends.behind
      many =
          let long_x = ap (λ (z : List ℤ). length z) reached_x.extends.is in
          let long_y = ap (λ (z : List ℤ). length z) reached_y.extends.is in
          let all_x = length-append d reached_x.extends.behind in
          let all_y = length-append e reached_y.extends.behind in
          record {
            first = first;
            second = second;
            condition = p.long;
            left = omega (arith, long_x, all_x, reached_x.whole.exact, first);
            right = omega (arith, long_y, all_y, reached_y.whole.exact, second);
          }

  -- The clause shows that the condition's case holds, and that both sides end with the values that it gives.
  pub record ShowsMoves (after : List ℤ) : Type 0 where
    pub meets : HoldAt d condition
    pub left : List ℤ
    pub right : List ℤ
    pub of_first : R x.value.place left
    pub of_second : S y.value.place right
    pub both : after ≡ left ++ right

  pub coupled_shows : FitsInputs v condition → IsRightFrom d (EndsAs R) x → IsRightFrom e (EndsAs S) y → (after : List ℤ)
      → LeadsTo (d ++ e) after (coupled from v w condition x y) → ShowsMoves after
  coupled_shows fits right_x right_y after leads = record {
    meets = hold_at v d shown.p condition fits first shown.many.condition shown.shows.meets;
    left = end_x.0;
    right = end_y.0;
    of_first = end_x.2;
    of_second = end_y.2;
    both = shown.shows.values
        ∙ ap (λ (z : List ℤ). z ++ map (λ (form : Form). value_at form (e ++ shown.b)) y.value.forms)
        (values_are_those (d ++ shown.a) x.value.forms end_x.0 end_x.1)
        ∙ ap (λ (z : List ℤ). end_x.0 ++ z) (values_are_those (e ++ shown.b) y.value.forms end_y.0 end_y.1);
  }
    where
      shown : IsShown (columns_of v w condition x y) condition x y d e after
      shown = clause_shown from (columns_of v w condition x y) condition x y d e first second after leads

      end_x : EndsAs R (d ++ shown.a) x.value
      end_x =
          let all = length-append d shown.a in
          right_x (d ++ shown.a) (record { behind = shown.a; is = refl })
          (record { room = omega (arith, all, first, shown.many.left); holds = shown.shows.first })

      end_y : EndsAs S (e ++ shown.b) y.value
      end_y =
          let all = length-append e shown.b in
          right_y (e ++ shown.b) (record { behind = shown.b; is = refl })
          (record { room = omega (arith, all, second, shown.many.right); holds = shown.shows.second })
