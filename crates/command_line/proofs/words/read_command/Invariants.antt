use Rattle.std.proofs.Common.{◌≡◌, map, string_bytes, drop}
use Rattle.command_line.specs.Read.{read, start}
use Rattle.command_line.proofs.words.read_command.Given as goal

-- what was read and what is left
abbrev pub invariant-loop-word : goal.invariant-loop-word
invariant-loop-word l = read (map string_bytes (drop l.word-index l.words)) l.reading ≡ read (map string_bytes l.words) start
