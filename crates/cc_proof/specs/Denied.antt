-- Why facts are not taken, as the code has it.
use Rattle.std.specs.Prelude.{ℤ, Option}
use Rattle.cc_program.specs.declared.program.Program.{Program}
use Rattle.cc_proof.specs.Broken.{IsFirst}
use Rattle.cc_proof.specs.declared.denied.Denied.{Denied}
use Rattle.cc_proof.specs.declared.denied.Denied.TheVariants as denied
use Rattle.cc_rules_grow.specs.CcStateFacts.declared.facts.Facts.{Facts}
use Rattle.cc_rules_grow.specs.CcStateOperators.Domains.{Domain}

module _ {I : Type 0} (d : Domain I) (ends : I → Option (ℤ × ℤ)) (p : Program) (facts : Facts I) where
  -- the constraint is the first that they break
  abbrev pub IsDenied : Denied → Type 0
  IsDenied (denied.Broken broken) = IsFirst d ends p facts broken
  IsDenied denied.NoMemory = Unit {0}
