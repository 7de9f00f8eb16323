-- `*(volatile T *)n`, T an integer type: the device at the address n.
use Rattle.std.specs.Prelude.{ℕ, ℤ, pos, negsuc, Bool, true, false, List, length, position, Option, Some, None, Ok, Err, if◌then◌else◌}
use Rattle.cc_designators.specs.Casts.{fits_pointer, no_device}
use Rattle.cc_designators.specs.Designators.{TypedExpr, IsPlace, IsAddress}
use Rattle.cc_designators.specs.Postfix.{indirection}
use Rattle.cc_program.specs.CcNum.declared.int_type.IntType.{IntType}
use Rattle.cc_program.specs.CcNum.declared.target.Target.{Target}
use Rattle.cc_scopes.specs.CcOperands.declared.rule.Rule.TheVariants as rule
use Rattle.cc_program.specs.declared.expr.Place.{Device as DeviceAt}
use Rattle.cc_program.specs.declared.object.Device.{Device}
use Rattle.cc_program.specs.declared.types.CType.{CType}
use Rattle.cc_program.specs.declared.types.Shape.{Shape, Int, out-Shape}
use Rattle.cc_program.specs.declared.types.Shape.TheOpen as shape
use Rattle.cc_program.specs.declared.types.Sig.{Sig}
use Rattle.cc_scopes.specs.State.{State, with_declared}
use Rattle.cc_scopes.specs.Verdicts.{Found, whole, and_then}
use Rattle.cc_scopes.specs.declared.unit.Declared.{Declared}
use Rattle.cc_scopes.specs.CcUnit.declared.unit.Linkage.TheVariants as linkage
use Rattle.cc_scopes.specs.CcUnit.declared.unit.UnitKind.{UnitKind}
use Rattle.cc_scopes.specs.CcUnit.declared.unit.UnitKind.TheVariants as kind
use Rattle.cc_scopes.specs.CcSyntax.Sound.{is_same_device}
use Rattle.cc_scopes.specs.CcSyntax.Values.{DevicePlace}
use Rattle.cc_typed_terms.specs.Values.{valued}

abbrev pub as_number : ℤ → ℕ
as_number (pos n) = n
as_number (negsuc n) = 0

abbrev pub device_of : ℤ → Bool → IntType → Device
device_of n constant t = record { name = None; number = as_number n; int = t; constant = constant }

-- a device without a name is declared by its use; equal ones are one
abbrev pub declared_device : Device → Declared
declared_device d = record {
  name = None;
  linkage = linkage.Internal;
  ctype = record { constant = d.constant; volatile = true; shape = Int d.int };
  first = None;
  tentative = false;
  definitions = 0;
  kind = kind.Device d;
}

abbrev pub names_device : Device → UnitKind → Bool
names_device d (kind.Device e) = is_same_device d e
names_device d (kind.Object leaves) = false
names_device d (kind.Func entry body) = false

abbrev pub number_of : Device → List Declared → Option ℕ
number_of d xs = position (λ x. names_device d x.kind) xs

abbrev pub device_place : ℕ → Device → TypedExpr
device_place i d = IsPlace (DeviceAt i) (DevicePlace d.constant d.int)

abbrev pub with_device : Device → State → Option ℕ → TypedExpr × State
with_device d s (Some i) = (device_place i d, s)
with_device d s None = (device_place (length s.names) d, with_declared (declared_device d) s)

abbrev pub device_found : Target → ℕ → ℤ → Device → State → Found TypedExpr
device_found target at n d s = if fits_pointer target n then Ok (with_device d s (number_of d s.names)) else whole at s (Err rule.Device)

-- another type than a volatile integer is behind a null alone
abbrev pub register_found : Target → ℕ → ℤ → CType → State → CType → shape.Shape-F Shape CType Sig → Found TypedExpr
register_found target at n t s to (shape.Int i) = if to.volatile then device_found target at n (device_of n to.constant i) s else whole at s (no_device n t)
register_found target at n t s to _ = whole at s (no_device n t)

abbrev pub address_found : Target → ℕ → ℤ → CType → State → shape.Shape-F Shape CType Sig → Found TypedExpr
address_found target at n t s (shape.Pointer to) = register_found target at n t s to (out-Shape to.shape)
address_found target at n t s _ = whole at s (Err rule.Device)

-- an integer constant that is cast to a pointer
abbrev pub cast_constant : TypedExpr → Option (ℤ × CType)
cast_constant (IsAddress n t place) = Some (n, t)
cast_constant _ = None

-- `*a`, where the operand begins at the second place: a device where a is an integer constant that is cast to a pointer
abbrev pub starred_by : Target → ℕ → ℕ → TypedExpr → State → Option (ℤ × CType) → Found TypedExpr
starred_by target at inner x s (Some a) = address_found target at a.0 a.1 s (out-Shape a.1.shape)
starred_by target at inner x s None = and_then (valued inner x s) (λ p s. whole at s (indirection p))

abbrev pub starred : Target → ℕ → ℕ → TypedExpr → State → Found TypedExpr
starred target at inner x s = starred_by target at inner x s (cast_constant x)
