use Rattle.sym_paths.proofs.entries.copied_entry.Goals as goal

pub returns-in_ok-rows-in-Given-clause-sound : goal.returns-in_ok-rows-in-Given-clause-sound
returns-in_ok-rows-in-Given-clause-sound c room graph = c.in_ok-next-in-Given.ensures.sound room graph
