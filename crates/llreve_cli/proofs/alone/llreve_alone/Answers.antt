use Rattle.llreve_cli.proofs.Telling.{verdict_kept, refusal_kept, answered, status_within, equivalent_told}
use Rattle.llreve_cli.proofs.Telling.{different_told, unknown_told, refused_told, unread_told, write_failed}
use Rattle.llreve_cli.proofs.Telling.{exact_told, compared_told, apart_told, coupled_told}
use Rattle.llreve_cli.proofs.alone.llreve_alone.Goals as goal

pub tell-requires-clause-verdict : goal.tell-requires-clause-verdict
tell-requires-clause-verdict g c = verdict_kept _ c.judge-judged.result c.judge-judged.ensures

pub tell-requires-clause-refusal : goal.tell-requires-clause-refusal
tell-requires-clause-refusal g c = refusal_kept _ c.judge-judged.result c.judge-judged.ensures

pub returns-clause-answer : goal.returns-clause-answer
returns-clause-answer g c = (answered c.judge-judged.result c.judge-judged.ensures c.tell.ensures).told

pub returns-clause-statuses : goal.returns-clause-statuses
returns-clause-statuses g c = status_within (answered c.judge-judged.result c.judge-judged.ensures c.tell.ensures)

pub returns-clause-equivalent : goal.returns-clause-equivalent
returns-clause-equivalent g c = equivalent_told (answered c.judge-judged.result c.judge-judged.ensures c.tell.ensures)

pub returns-clause-different : goal.returns-clause-different
returns-clause-different g c = different_told (answered c.judge-judged.result c.judge-judged.ensures c.tell.ensures)

pub returns-clause-unknown : goal.returns-clause-unknown
returns-clause-unknown g c = unknown_told (answered c.judge-judged.result c.judge-judged.ensures c.tell.ensures)

pub returns-clause-refused : goal.returns-clause-refused
returns-clause-refused g c = refused_told (answered c.judge-judged.result c.judge-judged.ensures c.tell.ensures)

pub returns-clause-unread : goal.returns-clause-unread
returns-clause-unread g c = unread_told (answered c.judge-judged.result c.judge-judged.ensures c.tell.ensures)

pub returns-clause-unwritten : goal.returns-clause-unwritten
returns-clause-unwritten g c = write_failed (answered c.judge-judged.result c.judge-judged.ensures c.tell.ensures)

pub returns-clause-exact : goal.returns-clause-exact
returns-clause-exact g c = exact_told (answered c.judge-judged.result c.judge-judged.ensures c.tell.ensures)

pub returns-clause-compared : goal.returns-clause-compared
returns-clause-compared g c = compared_told (answered c.judge-judged.result c.judge-judged.ensures c.tell.ensures)

pub returns-clause-apart : goal.returns-clause-apart
returns-clause-apart g c = apart_told (answered c.judge-judged.result c.judge-judged.ensures c.tell.ensures)

pub returns-clause-coupled : goal.returns-clause-coupled
returns-clause-coupled g c = coupled_told (answered c.judge-judged.result c.judge-judged.ensures c.tell.ensures)

pub returns-clause-memory : goal.returns-clause-memory
returns-clause-memory g c = (answered c.judge-judged.result c.judge-judged.ensures c.tell.ensures).memory
