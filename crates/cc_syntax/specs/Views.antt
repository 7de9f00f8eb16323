-- What the type of an expression stands on: structures, how large they are, and what the numbers of static objects, devices and
-- functions name. A program is such a view. A unit that is still read has one too, in which a structure's number says nothing of
-- where its parts stand (C99 6.5, 6.7.2.1).
use Rattle.std.specs.Prelude.{ℕ, List, Option, option_map, slice_get}
use Rattle.cc_program.specs.CcNum.declared.target.Target.{Target}
use Rattle.cc_program.specs.declared.program.Program.{Program}
use Rattle.cc_program.specs.declared.types.CType.{CType}
use Rattle.cc_program.specs.declared.types.Structure.{Structure}
use Rattle.cc_syntax.specs.Kinds.{Kind, kind_of, extent_in}
use Rattle.cc_syntax.specs.Operators.{function_type}
use Rattle.cc_syntax.specs.Values.{ValueType, PlaceType, DevicePlace, object_place}

pub record View : Type 0 where
  pub target : Target
  pub structures : List Structure
  -- of a structure that there is, its bytes where it is complete
  pub extents : ℕ → Option (Option ℕ)
  pub statics : ℕ → Option PlaceType
  pub devices : ℕ → Option PlaceType
  -- of a function that is no handler, a pointer to it
  pub functions : ℕ → Option ValueType

abbrev pub of_program : Program → View
of_program p = record {
  target = p.target;
  structures = p.structures;
  extents = extent_in p.structures p.target;
  statics = λ i. option_map (λ o. object_place o.ctype) (slice_get p.objects i);
  devices = λ i. option_map (λ d. DevicePlace d.constant d.int) (slice_get p.devices i);
  functions = λ i. function_type (slice_get p.funcs i);
}

abbrev pub kind_in : View → CType → Option Kind
kind_in v t = kind_of v.target v.extents t
