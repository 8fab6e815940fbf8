use Rattle.std.proofs.Common.{map, [], ◌∷◌, ap, sym, ◌∙◌}
use Rattle.std.proofs.lemmas.List.{map-append}
use Rattle.c_ast.specs.RawView.{raw_declared_of}
use Rattle.c_reader.specs.ReadDeclarations.{declarator_at, listed_at}
use Rattle.c_reader.proofs.DeclarationSoundness.{SpellsShallowDeclarator, declarator_at-sound}
use Rattle.c_reader.proofs.ListLoops.{listed-start, listed-last, listed-more, listed-shorter}
use Rattle.c_reader.proofs.declaration.read_declarators.Goals as goal

pub loop-made-init : goal.loop-made-init
loop-made-init c = rw c.new-made.ensures (listed-start (declarator_at c.args.room) c.args.tokens.now)

pub returns-in_default : goal.returns-in_default
returns-in_default c =
    listed-last (declarator_at c.args.room) (map raw_declared_of c.loop-made.made) (map raw_declared_of c.push.new.self)
    c.loop-made.others.now c.in_ok-declarator.after.now (raw_declared_of c.in_ok-declarator.declarator)
    (listed_at (declarator_at c.args.room) c.args.tokens.now) c.loop-made.invariant c.in_ok-declarator.ensures
    (sym (rw c.in_default.is at c.behind_sign.ensures.behind))
    (ap (map raw_declared_of) c.in_ok-push.ensures.ok ∙ map-append raw_declared_of c.loop-made.made (c.in_ok-declarator.declarator ∷ []))

pub loop-made-smaller : goal.loop-made-smaller
loop-made-smaller c =
    listed-shorter (SpellsShallowDeclarator c.args.room) (declarator_at c.args.room) _ _ _ _
    (declarator_at-sound c.args.room) c.in_ok-declarator.ensures (sym c.in-Some.ensures.behind)

pub loop-made-preserved : goal.loop-made-preserved
loop-made-preserved c =
    listed-more (SpellsShallowDeclarator c.args.room) (declarator_at c.args.room) (map raw_declared_of c.loop-made.made)
    (map raw_declared_of c.push.new.self) _ _ _ _ _ (declarator_at-sound c.args.room) c.loop-made.invariant
    c.in_ok-declarator.ensures (sym c.in-Some.ensures.behind)
    (ap (map raw_declared_of) c.in_ok-push.ensures.ok ∙ map-append raw_declared_of c.loop-made.made (c.in_ok-declarator.declarator ∷ []))
