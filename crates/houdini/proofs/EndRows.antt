-- What may be asked of a clause's end.
use Rattle.std.proofs.Common.{◌≡◌, ℕ, ◌+◌, ◌≤◌, ◌^◌, Bool, List, [], ◌∷◌, length, get_or, sym, subst, refl, arith}
use Rattle.std.specs.Prelude.{if◌then◌else◌, Option, None, Some, All, IsSomeAnd}
use Rattle.std.proofs.lemmas.List.Elements.{All-nil}
use Rattle.lin_terms.specs.declared.form.Form.{Form}
use Rattle.lin_terms.specs.declared.row.Row.{Row}
use Rattle.lin_terms.specs.Row.{EntriesAreBelow}
use Rattle.horn_clauses.specs.declared.atom.Atom.{Atom}
use Rattle.horn_clauses.specs.declared.atom.Atom.TheVariants.{False}
use Rattle.horn_clauses.specs.declared.clause.Clause.{Clause}
use Rattle.horn_clauses.specs.declared.family.Family.{Family}
use Rattle.horn_clauses.specs.declared.node.Node.{Node}
use Rattle.horn_clauses.specs.Node.{is_same_node}
use Rattle.horn_clauses.specs.Family.{atoms_at}
use Rattle.horn_clauses.specs.Clause.{columns_in, FitsClause}
use Rattle.horn_clauses.specs.Obligations.{atoms_or_none, CanOblige, FitsNode}
use Rattle.horn_clauses.proofs.Laws.{law_of_nodes}
use Rattle.coupling_check.specs.Checks.{CanCheckClause}
use Rattle.houdini.specs.Failures.{end_of}

-- the columns of forms alone
columns_of_forms : (width : ℕ) (rows : List Row) (forms : List Form) → width ≤ columns_in width rows forms → columns_in width rows forms ≤ width + 16
    → All (λ form. length form.coefs ≡ columns_in width rows forms) forms
    → (All (λ form. length form.coefs ≡ columns_in width [] forms) forms) × (width ≤ columns_in width [] forms) × (columns_in width [] forms ≤ width + 16)
columns_of_forms width [] forms enough few long = (long, enough, few)
columns_of_forms width (row ∷ rows) [] enough few long = (All-nil (λ (form : Form). length form.coefs ≡ width), omega arith, omega arith)
columns_of_forms width (row ∷ rows) (form ∷ forms) enough few long =
    let same : length form.coefs ≡ length row.coefs = long 0 form (omega arith) in
    (subst (λ (n : ℕ). All (λ (each : Form). length each.coefs ≡ n) (form ∷ forms)) (sym same) long, omega (arith, same), omega (arith, same))

end_fits : (start end : ℕ) (clause : Clause) → FitsClause start end clause → FitsClause start end (end_of clause).clause
end_fits start end clause fits =
    let columns = columns_of_forms start clause.rows clause.after fits.enough fits.few fits.forms in
    record {
      rows = All-nil (λ (row : Row). length row.coefs ≡ columns_in start [] clause.after);
      forms = columns.0;
      enough = columns.1;
      few = columns.2;
      after = fits.after;
      rows_fit = All-nil (EntriesAreBelow (2 ^ 50));
      forms_fit = fits.forms_fit;
    }

nothing_fits : (start : ℕ) (node : Node) → IsSomeAnd (if is_same_node node node then Some [] else None) (All (FitsNode start))
nothing_fits start node =
    subst (λ (same : Bool). IsSomeAnd (if same then Some [] else None) (All (FitsNode start))) (sym ((law_of_nodes node node).1 refl))
    (All-nil (FitsNode start))

can_ask : (family : Family) (clause : Clause) (atom : Atom) → CanOblige family clause atom
    → CanOblige (end_of clause).family (end_of clause).clause atom
can_ask family clause atom can = record {
  start = can.start;
  end = can.end;
  at_start = nothing_fits can.start clause.from;
  at_end = can.at_end;
  between = end_fits can.start can.end clause can.between;
  few_at_start = can.few_at_start;
  few_at_end = can.few_at_end;
}

pub can_ask_all : (family : Family) (clause : Clause) (atoms : List Atom) → All (CanOblige family clause) atoms
    → All (CanOblige (end_of clause).family (end_of clause).clause) atoms
can_ask_all family clause atoms can k d inside = can_ask family clause (get_or atoms k d) (can k d inside)

-- ---- what may be checked may be obliged

some_all : (P : Atom → Type 0) (found : Option (List Atom)) → IsSomeAnd found (All P) → All P (atoms_or_none found)
some_all P None all = absurd all
some_all P (Some atoms) all = all

pub can_oblige_all : (family : Family) (clause : Clause) → CanCheckClause family clause
    → All (CanOblige family clause) (atoms_or_none (atoms_at family clause.to))
can_oblige_all family clause can =
    let fit = some_all (FitsNode can.end) (atoms_at family clause.to) can.at_end in
    λ k d inside. record {
      start = can.start;
      end = can.end;
      at_start = can.at_start;
      at_end = fit k d inside;
      between = can.between;
      few_at_start = can.few_at_start;
      few_at_end = can.few_at_end;
    }

-- of the start alone
pub can_oblige_start : (family : Family) (clause : Clause) → CanCheckClause family clause → CanOblige family clause False
can_oblige_start family clause can = record {
  start = can.start;
  end = can.end;
  at_start = can.at_start;
  at_end = tt;
  between = can.between;
  few_at_start = can.few_at_start;
  few_at_end = can.few_at_end;
}
