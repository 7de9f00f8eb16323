-- Sets without values, of the kind of what cells of a declared type hold.
use Rattle.std.specs.Prelude.{◌≡◌, ℤ, Bool, true, false, []}
use Rattle.cc_state_reads.specs.CcPlaces.declared.abs.Abs.{Abs}
use Rattle.cc_state_reads.specs.CcPlaces.declared.abs.Abs.TheVariants as abs
use Rattle.cc_program.specs.declared.types.CType.{CType, fold-CType}
use Rattle.cc_program.specs.declared.types.Shape.TheOpen as shape

-- whether the scalars of a type are pointers: it is one, or an array of them of any depth
abbrev pub addresses_step : shape.Shape-F Bool Bool (Unit {0}) → Bool
addresses_step shape.Void = false
addresses_step (shape.Int t) = false
addresses_step (shape.Pointer to) = true
addresses_step (shape.Array of n) = of
addresses_step (shape.Struct s) = false
addresses_step (shape.Func sig) = false

unfoldable pub holds_addresses : CType → Bool
holds_addresses t = fold-CType Bool Bool (Unit {0}) addresses_step (λ t. t.shape) (λ sig. tt) t

-- the empty set of addresses, or of integers
abbrev pub IsNone : {I : Type 0} → (I → ℤ → Type 0) → Bool → Abs I → Type 0
IsNone has true (abs.Ints x) = ⊥
IsNone has true (abs.Addrs s) = s.members ≡ []
IsNone has false (abs.Ints x) = (n : ℤ) → has x n → ⊥
IsNone has false (abs.Addrs s) = ⊥
