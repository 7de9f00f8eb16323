-- What a translation unit means (C99 6.9).
use Rattle.std.specs.Prelude.{List, Result, Ok, Err}
use Rattle.cc_program.specs.CcNum.declared.target.Target.{Target}
use Rattle.cc_numbering.specs.Units.{unit_left}
use Rattle.cc_program.specs.declared.program.Roles.{Roles}
use Rattle.cc_scopes.specs.State.{State, Name, at_first}
use Rattle.cc_scopes.specs.Verdicts.{Found, and_then, Checked, checked}
use Rattle.cc_scopes.specs.declared.verdict.Fault.{Fault}
use Rattle.cc_typed_bodies.specs.CcSpecifiers.declared.storage.Where.TheVariants as stands
use Rattle.cc_terms.specs.InTurn.{in_turn}
use Rattle.cc_tree.specs.declared.at.At.{At}
use Rattle.cc_tree.specs.declared.unit.Item.{Item}
use Rattle.cc_tree.specs.declared.unit.Item.TheVariants as item
use Rattle.cc_tree.specs.declared.unit.Unit.{Unit as UnitTree}
use Rattle.cc_type.specs.Defined.{defined_names}
use Rattle.cc_type.specs.Functions.{function_found}
use Rattle.cc_typed_bodies.specs.Declarations.{declaration}
use Rattle.cc_typed_bodies.specs.CcUnit.declared.unit.TypedUnit.{TypedUnit}

module _ (target : Target) (roles : Roles) (defined : List Name) where
  abbrev pub item_found : Item → State → Found Checked
  item_found (item.Decl d) s = and_then (declaration target roles defined stands.AtFile d s) (λ es s. Ok (checked, s))
  item_found (item.Func specs d attrs body) s = function_found target roles defined specs d attrs body s

  abbrev pub item_next : At Item → Checked → State → Found Checked
  item_next i done s = item_found i.node s

  abbrev pub items_found : List (At Item) → State → Found Checked
  items_found is s = in_turn item_next is checked s

abbrev pub unit_found : Found Checked → Result TypedUnit Fault
unit_found (Ok found) = Ok (unit_left found.1)
unit_found (Err fault) = Err fault

-- the typed unit of a tree, or the fault that is carried
unfoldable pub unit_of : Target → Roles → UnitTree → Result TypedUnit Fault
unit_of target roles u = unit_found (items_found target roles (defined_names u) u.items at_first)
