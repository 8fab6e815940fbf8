use Rattle.std.proofs.Common.{◌≡◌, drop}
use Rattle.re_base.specs.MemFiles.{text_of, texts_of}
use Rattle.re_base.proofs.mem_files.find.Given as goal

abbrev pub invariant-loop-held : goal.invariant-loop-held
invariant-loop-held l = text_of (texts_of l.files) l.name ≡ text_of (texts_of (drop l.held-index l.files)) l.name
