-- What a source has, with the names and ids of the program that it is linked into.
use Rattle.std.specs.Prelude.{ℕ, List, [], map, zip, Option, unwrap_or}
use Rattle.cc_program.specs.declared.func.Entry.{Entry}
use Rattle.cc_program.specs.declared.func.Func.{Func}
use Rattle.cc_program.specs.declared.object.Device.{Device}
use Rattle.cc_program.specs.declared.object.Object.{Object}
use Rattle.cc_program.specs.declared.types.CType.{CType}
use Rattle.cc_program.specs.declared.types.Structure.{Structure}
use Rattle.cc_program.specs.declared.value.Leaf.{Leaf}
use Rattle.cc_unit.specs.Renumbered.{type_renumbered, sig_renumbered, stmt_renumbered, leaf_renumbered}
use Rattle.cc_unit.specs.declared.ids.Ids.{Ids}

-- members never clash, so they keep their names (C99 6.2.3, 1)
abbrev pub member_with : List ℕ → List ℕ × CType → List ℕ × CType
member_with structures m = (m.0, type_renumbered structures m.1)

-- one that is only named has no members
abbrev pub structure_with : List ℕ → List ℕ → Option (List (List ℕ × CType)) → Structure
structure_with tag structures members = record { tag = tag; members = map (member_with structures) (unwrap_or members []) }

abbrev pub device_with : Option (List ℕ) → Device → Device
device_with name d = record { name = name; number = d.number; int = d.int; constant = d.constant }

abbrev pub object_with : List ℕ → Ids → CType → List Leaf → Object
object_with name ids t init = record { name = name; ctype = type_renumbered ids.structures t; init = map (leaf_renumbered ids) init }

-- a local and its new name
abbrev pub local_with : List ℕ → List ℕ × (List ℕ × CType) → List ℕ × CType
local_with structures l = (l.0, type_renumbered structures l.1.1)

abbrev pub func_with : List ℕ → List (List ℕ) → Option Entry → Ids → Func → Func
func_with name names entry ids f = record {
  name = name;
  sig = sig_renumbered ids.structures f.sig;
  entry = entry;
  params = f.params;
  locals = map (local_with ids.structures) (zip names f.locals);
  body = map (stmt_renumbered ids) f.body;
}
