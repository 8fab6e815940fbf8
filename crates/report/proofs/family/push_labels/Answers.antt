use Rattle.std.proofs.Common.{refl, sym, subst}
use Rattle.c_ast.specs.declared.place.Place.{Place}
use Rattle.c_ast.specs.Function.{program_of}
use Rattle.c_ast.specs.Scope.{IsPlace}
use Rattle.c_ast.specs.Step.{start}
use Rattle.report.proofs.family.push_labels.Goals as goal

pub push_scope-requires : goal.push_scope-requires
push_scope-requires c =
    subst (λ (l : Place). IsPlace (program_of c.args.func.now) l) (sym c.in-Entry.is)
    (record { work = start (program_of c.args.func.now); from = refl })
