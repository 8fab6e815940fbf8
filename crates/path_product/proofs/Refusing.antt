-- What a refusal that is handed on tells.
use Rattle.std.proofs.Common.{◌≡◌, sym, subst, IfErr}
use Rattle.std.specs.Prelude.{Result, Ok, Err}
use Rattle.std.specs.Result.{IsErrAnd}

pub refused : (T E : Type 0) (P : E → Type 0) (first : E) (result : Result T E) (gives : E → Type 0) → IsErrAnd result gives
    → ((other : E) → gives other → other ≡ first) → P first → IfErr result P
refused T E P first (Ok value) gives given same told = tt
refused T E P first (Err other) gives given same told = subst P (sym (same other given)) told
