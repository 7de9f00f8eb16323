-- What an expression is found to be, and the devices that it accesses.
use Rattle.std.specs.Prelude.{◌≡◌, ℕ, Bool, true, false}
use Rattle.cc_accessed_operands.specs.Accessed.{of_place, accesses, place_access}
use Rattle.cc_designators.specs.Designators.{TypedExpr, IsPlace, IsValue, IsFunction, IsIntrinsic, IsAddress}
use Rattle.cc_operands.specs.Operands.{Operand}
use Rattle.cc_program.specs.declared.expr.Expr.{Expr}
use Rattle.cc_operands.specs.CcSyntax.Values.{PlaceType, DevicePlace, ObjectPlace, FunctionPlace}

-- an expression accesses each device that another, which stands in it, accesses
abbrev pub Keeps : Expr → Expr → Type 0
Keeps e part = (d : ℕ) → accesses d part ≡ true → accesses d e ≡ true

-- an operand that is a constant expression without a value (C99 6.6) accesses no device, so that nothing is lost where an operator
-- does not evaluate it
abbrev pub TrapsWithoutAccess : Operand → Type 0
TrapsWithoutAccess x = x.traps ≡ true → (d : ℕ) → accesses d x.value ≡ false

-- whether what is designated accesses the device; a place does so as it will be read or written
abbrev pub designated_accesses : ℕ → TypedExpr → Bool
designated_accesses d (IsPlace a t) = of_place (place_access d a)
designated_accesses d (IsValue x) = accesses d x.value
designated_accesses d (IsFunction f sig) = false
designated_accesses d (IsIntrinsic i at) = false
designated_accesses d (IsAddress n t at) = false

abbrev pub IsDevicePlace : PlaceType → Type 0
IsDevicePlace (DevicePlace constant t) = Unit {0}
IsDevicePlace (ObjectPlace constant volatile t) = ⊥
IsDevicePlace (FunctionPlace sig) = ⊥

-- a place that is a device is known as one, so that its address is not taken; and what is known of a value
abbrev pub IsKnownPlace : TypedExpr → Type 0
IsKnownPlace (IsPlace a t) = (d : ℕ) → (place_access d a).is_device ≡ true → IsDevicePlace t
IsKnownPlace (IsValue x) = TrapsWithoutAccess x
IsKnownPlace (IsFunction f sig) = Unit {0}
IsKnownPlace (IsIntrinsic i at) = Unit {0}
IsKnownPlace (IsAddress n t at) = Unit {0}

-- what is made of something keeps its accesses, and is known
pub record KeepsDesignated (r : TypedExpr) (accessed : ℕ → Bool) : Type 0 where
  pub known : IsKnownPlace r
  pub kept : (d : ℕ) → accessed d ≡ true → designated_accesses d r ≡ true

abbrev pub KeepsOperand : Operand → (ℕ → Bool) → Type 0
KeepsOperand r accessed = KeepsDesignated (IsValue r) accessed
