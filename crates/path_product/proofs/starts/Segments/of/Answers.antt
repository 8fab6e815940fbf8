use Rattle.std.proofs.Common.{◌∙◌, List, ap, sym}
use Rattle.c_ast.specs.declared.place.Place.{Place}
use Rattle.sym_paths.proofs.Laws.{cases_fit}
use Rattle.path_product.specs.Starts.{starts_among}
use Rattle.path_product.proofs.StartsFit.{starts_fit}
use Rattle.path_product.proofs.starts.Segments.of.Goals as goal

pub invariant_of-result : goal.invariant_of-result
invariant_of-result c =
    starts_fit cases_fit c.args.graph.now c.op.ensures.formed c.in_ok-starts.starts
    (ap (λ (places : List Place). starts_among c.args.graph.now places) (sym (c.as_slice.ensures.value ∙ c.in_ok-places.ensures.places))
    ∙ c.in_ok-starts.ensures.made)
