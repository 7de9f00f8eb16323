-- Values that are natural numbers.
use Rattle.std.specs.Prelude.{ℕ, pos, Option, Some}
use Rattle.cc_program.specs.declared.value.Value.{Value}
use Rattle.cc_program.specs.declared.value.Value.TheVariants.{Int}

abbrev pub number : ℕ → Option Value
number n = Some (Int (pos n))
