use Rattle.std.proofs.Common.{◌≡◌, ℕ, ◌<◌, sym, subst, length}
use Rattle.std.proofs.lemmas.Result.{IfOk-weaker}
use Rattle.lin_terms.specs.declared.row.Row.{Row}
use Rattle.lin_terms.specs.Row.{EntriesAreBelow, IsNoWider}
use Rattle.lin_terms.specs.Tight.{tight_of, HaveSameSolutions}
use Rattle.lin_terms.proofs.TightLemmas.{tight_keeps, tight_columns, tight_no_wider, no_wider_below}
use Rattle.lin_terms.proofs.row.tight.Goals as goal

pub returns-clause-keeps : goal.returns-clause-keeps
returns-clause-keeps c =
    let row : Row = c.args.row.now in
    IfOk-weaker c.made_tight.result (λ (made : Row). made ≡ tight_of row) (λ (made : Row). HaveSameSolutions made row)
    (λ made e. subst (λ (other : Row). HaveSameSolutions other row) (sym e) (tight_keeps row)) c.made_tight.ensures

pub returns-clause-columns : goal.returns-clause-columns
returns-clause-columns c =
    let row : Row = c.args.row.now in
    IfOk-weaker c.made_tight.result (λ (made : Row). made ≡ tight_of row) (λ (made : Row). length made.coefs ≡ length row.coefs)
    (λ made e. subst (λ (other : Row). length other.coefs ≡ length row.coefs) (sym e) (tight_columns row)) c.made_tight.ensures

pub returns-clause-no_wider : goal.returns-clause-no_wider
returns-clause-no_wider c =
    let row : Row = c.args.row.now in
    IfOk-weaker c.made_tight.result (λ (made : Row). made ≡ tight_of row) (λ (made : Row). IsNoWider made row)
    (λ made e. subst (λ (other : Row). IsNoWider other row) (sym e) (tight_no_wider row)) c.made_tight.ensures

pub returns-clause-bounds : goal.returns-clause-bounds
returns-clause-bounds c =
    let row : Row = c.args.row.now in
    IfOk-weaker c.made_tight.result (λ (made : Row). made ≡ tight_of row)
    (λ (made : Row). (bound : ℕ) → 0 < bound → EntriesAreBelow bound row → EntriesAreBelow bound made)
    (λ made e bound positive below. subst (EntriesAreBelow bound) (sym e)
    (no_wider_below (tight_of row) row bound positive (tight_no_wider row) (tight_columns row) below)) c.made_tight.ensures
