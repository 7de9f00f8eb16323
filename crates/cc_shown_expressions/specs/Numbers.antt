-- Types, structures, values and places with other numbers of structures: those that a translation unit gives them, in order
-- of first appearance (C99 6.7.2.3), for each of a program's.
use Rattle.std.specs.Prelude.{ℕ, map}
use Rattle.cc_program.specs.declared.types.CType.{CType, fold-CType}
use Rattle.cc_program.specs.declared.types.Shape.{Shape, fold-Shape, Void, Int, Pointer, Array, Struct, Func}
use Rattle.cc_program.specs.declared.types.Shape.TheOpen as shape
use Rattle.cc_program.specs.declared.types.Sig.{Sig, roll-Sig, fold-Sig}
use Rattle.cc_program.specs.declared.types.Structure.{Structure}
use Rattle.cc_terms.specs.CcSyntax.Types.{Named}
use Rattle.cc_terms.specs.CcSyntax.Values.{ValueType, NoValue, Integer, ToObject, ToFunction, PlaceType, DevicePlace, ObjectPlace, FunctionPlace}

module _ (number : ℕ → ℕ) where
  abbrev pub shape_step : shape.Shape-F Shape CType Sig → Shape
  shape_step shape.Void = Void
  shape_step (shape.Int t) = Int t
  shape_step (shape.Pointer to) = Pointer to
  shape_step (shape.Array of n) = Array of n
  shape_step (shape.Struct i) = Struct (number i)
  shape_step (shape.Func sig) = Func sig

  abbrev pub type_step : shape.CType-F Shape CType Sig → CType
  type_step t = record { constant = t.constant; volatile = t.volatile; shape = t.shape }

  abbrev pub sig_step : shape.Sig-F Shape CType Sig → Sig
  sig_step s = roll-Sig s

  unfoldable pub type_numbered : CType → CType
  type_numbered t = fold-CType Shape CType Sig shape_step type_step sig_step t

  unfoldable pub shape_numbered : Shape → Shape
  shape_numbered s = fold-Shape Shape CType Sig shape_step type_step sig_step s

  unfoldable pub sig_numbered : Sig → Sig
  sig_numbered s = fold-Sig Shape CType Sig shape_step type_step sig_step s

  abbrev pub named_numbered : Named → Named
  named_numbered m = (m.0, type_numbered m.1)

  abbrev pub structure_numbered : Structure → Structure
  structure_numbered s = record { tag = s.tag; members = map named_numbered s.members }

  abbrev pub value_numbered : ValueType → ValueType
  value_numbered NoValue = NoValue
  value_numbered (Integer t) = Integer t
  value_numbered (ToObject constant volatile t) = ToObject constant volatile (type_numbered t)
  value_numbered (ToFunction sig) = ToFunction (sig_numbered sig)

  abbrev pub place_type_numbered : PlaceType → PlaceType
  place_type_numbered (DevicePlace constant t) = DevicePlace constant t
  place_type_numbered (ObjectPlace constant volatile t) = ObjectPlace constant volatile (type_numbered t)
  place_type_numbered (FunctionPlace sig) = FunctionPlace (sig_numbered sig)
