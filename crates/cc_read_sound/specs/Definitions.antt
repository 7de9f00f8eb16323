-- What the definition of a function leaves: an entry that has a body, which is sound over each view that knows what there is behind it (C99 6.9.1).
use Rattle.std.specs.Prelude.{◌≡◌, ◌⊎◌, ℕ, true, false, List, [], map, Some, Ok, slice_get}
use Rattle.cc_type.specs.CcOperands.Qualified.{is_function_type}
use Rattle.cc_program.specs.declared.func.Entry.{Entry}
use Rattle.cc_program.specs.declared.func.Func.{Func}
use Rattle.cc_program.specs.declared.program.Roles.{Roles}
use Rattle.cc_program.specs.declared.stmt.Stmt.{Stmt}
use Rattle.cc_program.specs.declared.types.CType.{CType}
use Rattle.cc_program.specs.declared.types.Shape.{out-Shape}
use Rattle.cc_program.specs.declared.types.Shape.TheOpen as shape
use Rattle.cc_program.specs.declared.types.Sig.{Sig}
use Rattle.cc_program.specs.declared.value.Leaf.{Leaf}
use Rattle.cc_type.specs.CcScopes.State.{State, Name}
use Rattle.cc_type.specs.CcScopes.declared.unit.Declared.{Declared}
use Rattle.cc_relocated_units.specs.Units.{IsSoundFunction}
use Rattle.cc_type.specs.CcSyntax.Views.{View}
use Rattle.cc_type.specs.CcUnit.declared.unit.UnitKind.{UnitKind}
use Rattle.cc_type.specs.CcUnit.declared.unit.UnitKind.TheVariants as kind

-- no object has a function's type
abbrev pub AreApart : List Declared → Type 0
AreApart names = (i : ℕ) (d : Declared) (leaves : List Leaf) → slice_get names i ≡ Some d → d.kind ≡ kind.Object leaves → is_function_type d.ctype ≡ false

-- a body of a function that has this type
abbrev pub IsSoundAt : View → CType → Func → Type 0
IsSoundAt v t f = (sig : Sig) → out-Shape t.shape ≡ shape.Func sig → IsSoundFunction v sig f
