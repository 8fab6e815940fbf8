use Rattle.std.proofs.Common.{ap, ◌∙◌}
use Rattle.c_ast.specs.Bounds.{Bounds}
use Rattle.workers.proofs.Searching.{can_search, kept_is_linear, finds_coupling, finds_none, finds_limit}
use Rattle.workers.proofs.search.search.Goals as goal

pub greatest-requires : goal.greatest-requires
greatest-requires g c =
    can_search c.args.subject.now c.first.ensures.formed c.args.alignment c.args.graphs.now.first c.args.graphs.now.second c.args.product.now
    c.requires.product c.args.family c.requires.family

pub couple-requires-clause-linear : goal.couple-requires-clause-linear
couple-requires-clause-linear g c =
    kept_is_linear c.args.subject.now c.first.ensures.formed c.args.alignment c.args.graphs.now.first c.args.graphs.now.second c.args.product.now
    c.requires.product c.args.family c.rows-rows.result c.in_ok-family.field-0 c.in_ok-family.ensures.answers c.in-Kept.family c.in-Kept.proofs
    c.requires.family c.in-Kept.is

pub returns-in_ok-coupled-in-Kept-clause-found : goal.returns-in_ok-coupled-in-Kept-clause-found
returns-in_ok-coupled-in-Kept-clause-found g c candidates indexes pairs over at mined =
    finds_coupling c.args.subject.now c.first.ensures.formed c.args.alignment c.args.graphs.now.first c.args.graphs.now.second c.args.product.now
    c.requires.product c.args.family c.rows-rows.result c.in_ok-family.field-0 c.in_ok-family.ensures.answers candidates indexes pairs over at mined
    c.in-Kept.family c.in-Kept.proofs c.in_ok-coupled-in-Kept.coupled c.in-Kept.is c.in_ok-coupled-in-Kept.ensures

pub returns-in-NoCoupling-clause-found : goal.returns-in-NoCoupling-clause-found
returns-in-NoCoupling-clause-found g c candidates indexes pairs over at mined =
    finds_none c.args.subject.now c.first.ensures.formed c.args.alignment c.args.graphs.now.first c.args.graphs.now.second c.args.product.now
    c.requires.product c.args.family c.rows-rows.result c.in_ok-family.field-0 c.in_ok-family.ensures.answers candidates indexes pairs over at mined
    c.in-NoCoupling.is

pub returns-in-Limit-clause-found : goal.returns-in-Limit-clause-found
returns-in-Limit-clause-found g c candidates indexes pairs over at mined =
    finds_limit c.args.subject.now c.first.ensures.formed c.args.alignment c.args.graphs.now.first c.args.graphs.now.second c.args.product.now
    c.requires.product c.args.family c.rows-rows.result c.in_ok-family.field-0 c.in_ok-family.ensures.answers candidates indexes pairs over at mined
    c.in-Limit.obligation c.in-Limit.left c.in-Limit.limit
    (c.rows-rows.ensures.number ∙ ap (λ (settings : Bounds). settings.rows) c.settings.ensures) c.in-Limit.is
