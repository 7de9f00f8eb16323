-- Functions and typed units whose expressions are folded.
use Rattle.std.specs.Prelude.{◌≡◌, ℕ, true, Option, Some, slice_get}
use Rattle.cc_lower_sound.specs.Folded.{are_folded}
use Rattle.cc_program.specs.CcNum.declared.target.Target.{Target}
use Rattle.cc_program.specs.declared.func.Entry.{Entry}
use Rattle.cc_program.specs.declared.func.Func.{Func}
use Rattle.cc_program.specs.declared.types.CType.{CType}
use Rattle.cc_type.specs.CcUnit.declared.unit.TypedUnit.{TypedUnit}
use Rattle.cc_type.specs.CcUnit.declared.unit.UnitKind.TheVariants as kind
use Rattle.cc_type.specs.CcUnit.declared.unit.UnitName.{UnitName}

abbrev pub HasFoldedBody : Target → CType → Func → Type 0
HasFoldedBody target t f = are_folded target f.body ≡ true

-- each function of the unit that has a body
abbrev pub IsFoldedUnit : Target → TypedUnit → Type 0
IsFoldedUnit target u = (i : ℕ) (n : UnitName) (entry : Option Entry) (f : Func) → slice_get u.names i ≡ Some n → n.kind ≡ kind.Func entry (Some f) → are_folded target f.body ≡ true
