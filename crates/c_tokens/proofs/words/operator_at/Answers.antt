use Rattle.std.proofs.Common.{ap, map}
use Rattle.std.specs.Prelude.{nat_eq}
use Rattle.std.specs.List.{starts_with}
use Rattle.c_tokens.specs.Tables.{seen, operators}
use Rattle.c_tokens.proofs.Rows.{find-table}
use Rattle.c_tokens.proofs.words.operator_at.Goals as goal

pub returns : goal.returns
unfolding operators
returns c = find-table (λ row. starts_with nat_eq c.args.text.now row.0) c.as_slice.result.now _ operators c.row_at.ensures (ap (map seen) c.as_slice.ensures)
