-- Types of values, and of places, that are one: of what is pointed to, and of an object, the flags say whether it is const and
-- volatile; the outermost qualifiers in its type say nothing (C99 6.3.2.1, 6.5.16.1).
use Rattle.std.specs.Prelude.{◌≡◌, Bool, true, Option, Some}
use Rattle.cc_program.specs.declared.types.CType.{CType}
use Rattle.cc_states.specs.CcSyntax.SameTypes.{alike}
use Rattle.cc_states.specs.CcSyntax.Values.{ValueType, ToObject, PlaceType, ObjectPlace}

pub data TypesAgree : Option ValueType → Option ValueType → Type 0 where
  EqualTypes : (t : Option ValueType) → TypesAgree t t
  Pointers : (constant volatile : Bool) (t u : CType) → alike t u ≡ true → TypesAgree (Some (ToObject constant volatile t)) (Some (ToObject constant volatile u))

pub data PlacesAgree : Option PlaceType → Option PlaceType → Type 0 where
  EqualPlaces : (t : Option PlaceType) → PlacesAgree t t
  Objects : (constant volatile : Bool) (t u : CType) → alike t u ≡ true → PlacesAgree (Some (ObjectPlace constant volatile t)) (Some (ObjectPlace constant volatile u))
