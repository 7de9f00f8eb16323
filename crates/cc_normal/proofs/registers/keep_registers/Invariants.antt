use Rattle.std.proofs.Common.{◌≡◌, ℕ, ◌<◌, Bool, Some, length}
use Rattle.std.specs.Prelude.{slice_get}
use Rattle.cc_syntax.specs.Registers.{is_register}
use Rattle.cc_normal.proofs.registers.keep_registers.Given as goal

abbrev pub invariant-loop-i : goal.invariant-loop-i
invariant-loop-i l = (length l.kept ≡ 256) × ((local : ℕ) → (is : Bool) → local < l.i → slice_get l.kept local ≡ Some is → is ≡ is_register l.f local)
