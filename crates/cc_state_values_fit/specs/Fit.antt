-- Sets of registers that fit their types, and what else is asked so that what expressions give is of theirs.
use Rattle.std.specs.Prelude.{◌≡◌, ℕ, List, Some, Option, slice_get}
use Rattle.std.specs.List.{Contains}
use Rattle.cc_program.specs.CcNum.declared.int_type.IntType.{IntType}
use Rattle.cc_program.specs.CcNum.declared.target.Target.{Target}
use Rattle.cc_state_reads.specs.CcPlaces.declared.abs.Abs.{Abs}
use Rattle.cc_state_reads.specs.CcPlaces.declared.addrs.Addrs.{Addrs}
use Rattle.cc_program.specs.declared.func.Func.{Func}
use Rattle.cc_program.specs.declared.program.Program.{Program}
use Rattle.cc_program.specs.declared.value.Address.{Address}
use Rattle.cc_state.specs.Shape.{MayPoint, IsSetIn}
use Rattle.cc_state_reads.specs.CcStateFacts.declared.facts.Key.{Key}
use Rattle.cc_state_reads.specs.CcStateKeys.Addressed.{IsAddressed}
use Rattle.cc_state_reads.specs.CcStateOperators.Domains.{Domain, IsWhole}
use Rattle.cc_state_reads.specs.CcSyntax.Types.{Named}
use Rattle.cc_state_reads.specs.CcSyntax.Values.{ValueType, scalar_value}

-- for each type there is the set of all its values
abbrev pub HasWholes : {I : Type 0} → Domain I → Target → Type 0
HasWholes {I = I} d target = (t : IntType) → (x : I) × IsWhole d t target x

-- the text takes the address of each of some keys
abbrev pub AreAddressed : Program → List Key → Type 0
AreAddressed p keys = (k : Key) → Contains keys k → IsAddressed p k

-- the set of each register is one of values of its type, with addresses that may stand there
abbrev pub RegistersFit : {I : Type 0} → Domain I → Program → Func → (ℕ → Option (Abs I)) → Type 0
RegistersFit {I = I} d p f register = (r : ℕ) (local : Named) (t : ValueType) (y : Abs I) → slice_get f.locals r ≡ Some local → scalar_value local.1 ≡ Some t → register r ≡ Some y → IsSetIn p d t y

-- each address of a set is one that a pointer of a type may have
abbrev pub AllMayPoint : Program → ValueType → Addrs → Type 0
AllMayPoint p t s = (a : Address) → Contains s.members a → MayPoint p t a
