-- The file holds one function.
use Rattle.std.proofs.Common.{◌≡◌, List, [], ◌∷◌, map, ap, sym, ◌∙◌, subst, All}
use Rattle.std.proofs.lemmas.List.Elements.{All-head}
use Rattle.c_ast.specs.RawTree.{RawFunction}
use Rattle.c_ast.specs.RawShape.{IsShaped}
use Rattle.c_ast.specs.RawView.{raw_function_of}
use Rattle.c_check.proofs.Answering.{one_of}
use Rattle.c_check.proofs.unit.check.Goals as goal

pub check_function-requires : goal.check_function-requires
check_function-requires c =
    let one = one_of c.as_slice.result.now c.func-item.result c.in-len1.len_at_least c.in-len1.len_below c.func-item.is in
    let unit : map raw_function_of c.args.raw.funcs ≡ raw_function_of c.func-item.result ∷ [] = ap (map raw_function_of) (sym c.as_slice.ensures ∙ one) in
    record {
      shaped = All-head IsShaped (raw_function_of c.func-item.result) []
          (subst (λ (funcs : List RawFunction). All IsShaped funcs) unit c.requires.shaped);
    }
