-- What is so of each thing that has a place in memory of its own, whatever is told of it later: devices are such, and the unit defines none of them; functions have functions' types
-- (C99 6.2.2, 6.7.5.3, 6.9.2). The names are those of the objects that the unit defines.
use Rattle.std.specs.Prelude.{◌≡◌, true, false, List, Option, Some}
use Rattle.std.specs.List.{list_any}
use Rattle.std.specs.Str.{bytes_eq}
use Rattle.cc_program.specs.CcNum.declared.target.Target.{Target}
use Rattle.cc_typed_bodies.specs.CcOperands.Qualified.{is_function_type}
use Rattle.cc_program.specs.declared.object.Device.{Device}
use Rattle.cc_program.specs.declared.types.CType.{CType}
use Rattle.cc_program.specs.declared.types.Shape.{out-Shape}
use Rattle.cc_program.specs.declared.types.Shape.TheOpen as shape
use Rattle.cc_typed_bodies.specs.CcScopes.State.{Name}
use Rattle.cc_typed_bodies.specs.CcScopes.declared.unit.Declared.{Declared}
use Rattle.cc_typed_bodies.specs.CcSyntax.Sound.{is_device}
use Rattle.cc_typed_bodies.specs.CcUnit.declared.unit.UnitKind.{UnitKind}
use Rattle.cc_typed_bodies.specs.CcUnit.declared.unit.UnitKind.TheVariants as kind

module _ (target : Target) (defined : List Name) where
  pub record IsDeviceEntry (x : Option Name) (t : CType) (d : Device) : Type 0 where
    pub fits : is_device target d ≡ true
    pub named : d.name ≡ x
    pub int : out-Shape t.shape ≡ shape.Int d.int
    pub constant : t.constant ≡ d.constant
    pub volatile : t.volatile ≡ true
    pub undefined : (y : Name) → x ≡ Some y → list_any (bytes_eq y) defined ≡ false

  abbrev pub IsEntryOf : Option Name → CType → UnitKind → Type 0
  IsEntryOf x t (kind.Object leaves) = Unit {0}
  IsEntryOf x t (kind.Device d) = IsDeviceEntry x t d
  IsEntryOf x t (kind.Func entry body) = is_function_type t ≡ true

  abbrev pub IsEntry : Declared → Type 0
  IsEntry d = IsEntryOf d.name d.ctype d.kind
