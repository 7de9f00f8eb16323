-- Typed units whose devices without a name are all accessed.
use Rattle.std.specs.Prelude.{◌≡◌, ◌⊎◌, ℕ, true, false, not, nat_lt, List, Option, Some, is_some, slice_get}
use Rattle.cc_accessed_operands.specs.Accessed.{list_accesses}
use Rattle.cc_accessed_terms.specs.Accounted.{is_numbered_kind}
use Rattle.cc_program.specs.declared.func.Entry.{Entry}
use Rattle.cc_program.specs.declared.func.Func.{Func}
use Rattle.cc_program.specs.declared.object.Device.{Device}
use Rattle.cc_relocated_units.specs.Units.{is_register_type}
use Rattle.cc_things.specs.Things.{is_device_kind, is_external_linkage}
use Rattle.cc_type.specs.CcUnit.declared.unit.TypedUnit.{TypedUnit}
use Rattle.cc_type.specs.CcUnit.declared.unit.UnitKind.{UnitKind}
use Rattle.cc_type.specs.CcUnit.declared.unit.UnitKind.TheVariants as kind
use Rattle.cc_type.specs.CcUnit.declared.unit.UnitName.{UnitName}

-- a function of the unit that has a body, which reads or writes the device of that number
pub record IsAccessedIn (names : List UnitName) (i : ℕ) : Type 0 where
  pub number : ℕ
  pub name : UnitName
  pub entry : Option Entry
  pub func : Func
  pub there : slice_get names number ≡ Some name
  pub defined : name.kind ≡ kind.Func entry (Some func)
  pub accesses : list_accesses i func.body ≡ true

-- something is defined twice there, which units that are linked may not have (C99 6.9, 5)
pub record HasTwice (names : List UnitName) : Type 0 where
  pub number : ℕ
  pub name : UnitName
  pub there : slice_get names number ≡ Some name
  pub twice : nat_lt 1 name.count ≡ true

-- ---- names as those of a text: what their types and counts tell linking (6.2.2, 6.9)

pub record IsFitDevice (n : UnitName) (d : Device) : Type 0 where
  pub named : d.name ≡ n.name
  pub register : is_register_type n.ctype ≡ true

-- it is defined where it has a body
pub record IsFitFunction (n : UnitName) (f : Option Func) : Type 0 where
  pub named : is_some n.name ≡ true
  pub plain : is_register_type n.ctype ≡ false
  pub defined : nat_lt 0 n.count ≡ is_some f

-- an object that another source defines has no type that a device has
abbrev pub FitsKind : UnitName → UnitKind → Type 0
FitsKind n (kind.Object leaves) = is_register_type n.ctype ≡ true → nat_lt 0 n.count ≡ true
FitsKind n (kind.Device d) = IsFitDevice n d
FitsKind n (kind.Func by f) = IsFitFunction n f

-- what has external linkage has a name; what has none is defined once where it is no device
pub record IsFit (n : UnitName) : Type 0 where
  pub kind : FitsKind n n.kind
  pub external : is_external_linkage n.linkage ≡ true → is_some n.name ≡ true
  pub nameless : is_some n.name ≡ false → nat_lt 0 n.count ≡ not (is_device_kind n.kind)
  pub once : is_some n.name ≡ false → nat_lt 1 n.count ≡ false

-- each device without a name is accessed, where the unit may be linked
pub record AccessesItsDevices (u : TypedUnit) : Type 0 where
  pub fit : (i : ℕ) (n : UnitName) → slice_get u.names i ≡ Some n → IsFit n
  pub accessed : (i : ℕ) (n : UnitName) → slice_get u.names i ≡ Some n → is_numbered_kind n.kind ≡ true → IsAccessedIn u.names i ⊎ HasTwice u.names
