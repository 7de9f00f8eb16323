-- The unit that is left behind its last item.
use Rattle.std.specs.Prelude.{map}
use Rattle.cc_scopes.specs.State.{State}
use Rattle.cc_scopes.specs.CcUnit.declared.ids.Ids.{Ids}
use Rattle.cc_scopes.specs.CcUnit.declared.unit.TypedUnit.{TypedUnit}
use Rattle.cc_numbering.specs.Names.{own_ids, name_in}
use Rattle.cc_numbering.specs.Numbers.{order_of, numbers_of}
use Rattle.cc_numbering.specs.Structures.{structures_in}

abbrev pub ids_of : State → Ids
ids_of s = record { structures = numbers_of s; names = own_ids 0 s.names }

abbrev pub unit_left : State → TypedUnit
unit_left s = record { structures = structures_in (numbers_of s) s.structures (order_of s); names = map (name_in (ids_of s)) s.names }
