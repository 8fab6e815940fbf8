use Rattle.std.proofs.Common.{◌∙◌, ap, sym, rules, FitsSigned, w64, to_z-of_z, List, subst, ◌↔◌, IsTrue}
use Rattle.std.specs.Int.{w128}
use Rattle.std.specs.Prelude.{ℤ}
use Rattle.lin_terms.specs.Form.{are_zeros}
use Rattle.lin_terms.specs.Row.{Allows}
use Rattle.lin_terms.proofs.Rows.{decides}
use Rattle.lin_terms.proofs.row.Row.decided.Goals as goal

pub returns-then-are_zeros : goal.returns-then-are_zeros
returns-then-are_zeros c =
    let fits : FitsSigned w64 c.args.self.now.constant = search rules in
    let wide : FitsSigned w128 c.from.result = search rules in
    let is = simp to_z-of_z at c.from.ensures in
    let told = subst (λ (z : ℤ). IsTrue c.allows.result ↔ Allows c.args.self.now.equality z) is (simp to_z-of_z at c.allows.ensures) in
    let zeros = sym (ap (λ (entries : List ℤ). are_zeros entries) c.as_slice.ensures) ∙ sym c.are_zeros.ensures ∙ c.if-are_zeros.true in
    decides c.args.self.now c.allows.result zeros told
