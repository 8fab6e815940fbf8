use Rattle.sym_paths.proofs.entries.copied_choice.Goals as goal

pub returns-in_ok-made-clause-sound : goal.returns-in_ok-made-clause-sound
returns-in_ok-made-clause-sound c room graph first second = c.in_ok-made.ensures.sound room graph first

pub returns-in_ok-made-2-clause-sound : goal.returns-in_ok-made-2-clause-sound
returns-in_ok-made-2-clause-sound c room graph first second = c.in_ok-made-2.ensures.sound room graph second
