use Rattle.std.proofs.Common.{map, ap, ◌∙◌}
use Rattle.std.specs.Option.{option_to_list}
use Rattle.std.proofs.lemmas.List.{map-append}
use Rattle.std.proofs.lemmas.Result.{IfOk-weaker}
use Rattle.sym_paths.specs.Arrivals.{made_of}
use Rattle.sym_paths.proofs.Joining.{both_same}
use Rattle.sym_paths.proofs.division.two_ways.Goals as goal

pub returns-clause-exact : goal.returns-clause-exact
returns-clause-exact c = IfOk-weaker c.both.result _ _ (λ made same.
    ap (map made_of) same ∙ map-append made_of (option_to_list c.in_ok-first.first) (option_to_list c.in_ok-second.second)
    ∙ both_same c.in_ok-first.ensures.exact c.in_ok-second.ensures.exact) c.both.ensures
