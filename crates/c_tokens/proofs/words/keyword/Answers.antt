use Rattle.std.proofs.Common.{ap, map, bytes_eq}
use Rattle.c_tokens.specs.Tables.{seen, keywords}
use Rattle.c_tokens.proofs.Rows.{find-table}
use Rattle.c_tokens.proofs.words.keyword.Goals as goal

pub returns : goal.returns
unfolding keywords
returns c = find-table (λ row. bytes_eq row.0 c.args.word.now) c.as_slice.result.now _ keywords c.row_with.ensures (ap (map seen) c.as_slice.ensures)
