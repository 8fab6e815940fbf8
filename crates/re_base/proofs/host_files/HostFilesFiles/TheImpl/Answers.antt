-- Of the files of the system nothing is told, so only what the counts and the length say is left of the trait's clauses.
use Rattle.std.proofs.Common.{refl}
use Rattle.std.proofs.lemmas.Result.{IfOk-weaker}
use Rattle.re_base.proofs.host_files.HostFilesFiles.TheImpl.Goals as goal

pub read-tells : goal.read-tells
read-tells g c = record {
  told = λ _. refl;
  counts = λ _. c.ensures.later;
  whole = IfOk-weaker c.result _ _ (λ _ _. tt) c.ensures.short;
  short = c.ensures.short;
  long = λ _. tt;
  failed = c.ensures.failed;
}
