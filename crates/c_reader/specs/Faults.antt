-- Why tokens were refused. Only proofs and the contracts of private functions cite this.
use Rattle.c_reader.specs.declared.fault.ReadFault.{ReadFault}
use Rattle.c_reader.specs.declared.fault.ReadFault.TheVariants.{Deep, Grammar, Memory}

-- The fault is `Grammar`, for this reason, or memory ran out.
abbrev pub Refuses : Type 0 → ReadFault → Type 0
Refuses reason Deep = ⊥
Refuses reason Grammar = reason
Refuses reason Memory = Unit {0}
