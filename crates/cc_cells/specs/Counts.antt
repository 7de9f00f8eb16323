-- Numbers of scalars, as the machine counts them.
use Rattle.std.specs.Prelude.{ℕ, ◌-◌, ◌^◌, min, length, List}
use Rattle.cc_program.specs.declared.types.CType.{CType}
use Rattle.cc_program.specs.declared.types.Structure.{Structure}
use Rattle.cc_typed.specs.CcSyntax.Types.{Named}
use Rattle.cc_cells.specs.Scalars.{zeros, member_zeros, structure_zeros}

-- up to the end of their type, beyond which no list goes
abbrev pub counted : ℕ → ℕ
counted n = min n (2 ^ 64 - 1)

-- how many scalars a type has
abbrev pub count_of : List Structure → CType → ℕ
count_of structures t = length (zeros structures t)

abbrev pub member_count : List Structure → List Named → ℕ
member_count structures members = length (member_zeros (structure_zeros structures) members)
