use Rattle.std.proofs.Common.{sym}
use Rattle.c_reader.specs.Declarations.{SpellsParameter}
use Rattle.c_reader.specs.ReadDeclarations.{parameter_at}
use Rattle.c_reader.proofs.DeclarationSoundness.{parameter_at-sound}
use Rattle.c_reader.proofs.ListLoops.{listed-start, listed-more, listed-shorter}
use Rattle.c_reader.proofs.declaration.read_listed.Goals as goal

pub loop-made-init : goal.loop-made-init
loop-made-init c = rw c.new-made.ensures (listed-start parameter_at c.args.tokens.now)

pub loop-made-smaller : goal.loop-made-smaller
loop-made-smaller c =
    listed-shorter SpellsParameter parameter_at _ _ _ _ parameter_at-sound c.in_ok-var.ensures (sym c.in-Some.ensures.behind)

pub loop-made-preserved : goal.loop-made-preserved
loop-made-preserved c =
    listed-more SpellsParameter parameter_at _ _ _ _ _ _ _ parameter_at-sound c.loop-made.invariant c.in_ok-var.ensures
    (sym c.in-Some.ensures.behind) c.in_ok-push.ensures.ok
