use Rattle.std.proofs.Common.{rules, ◌≡◌, ◌++◌, length, take, min, OnOk}
use Rattle.std.specs.Prelude.{Result, Ok, Err}
use Rattle.path_product.proofs.Placing.{joins_fitted}
use Rattle.path_product.proofs.columns.push_fitted.Goals as goal

on_ok : {T E : Type 0} {P Q : Type 0} (r : Result T E) → (P → Q) → OnOk r P → OnOk r Q
on_ok (Ok x) f p = f p
on_ok (Err x) f p = p

pub returns : goal.returns
returns c =
    let count : c.min-taken.result ≡ min (length c.args.numbers.now) c.args.count = search rules in
    let first : c.extend_from_slice.new.self.items ≡ c.args.made.now.items ++ take c.min-taken.result c.args.numbers.now = search rules in
    on_ok c.push_zeros.result (λ more.
    joins_fitted c.args.made.now.items c.extend_from_slice.new.self.items c.push_zeros.new.made.items c.args.numbers.now c.args.count c.min-taken.result count
    first more) c.push_zeros.ensures
