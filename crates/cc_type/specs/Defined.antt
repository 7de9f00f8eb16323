-- The objects that a unit defines: those that it declares at file scope other than by `extern` alone (C99 6.9.2).
use Rattle.std.specs.Prelude.{List, [], option_to_list, Option, Some, if◌then◌else◌}
use Rattle.std.specs.List.{flat_map}
use Rattle.cc_typed_bodies.specs.CcObjects.Categories.{storage_in, is_given}
use Rattle.cc_scopes.specs.State.{Name}
use Rattle.cc_tree.specs.Scopes.{name_of}
use Rattle.cc_tree.specs.declared.at.At.{At}
use Rattle.cc_tree.specs.declared.unit.Init.{Init}
use Rattle.cc_tree.specs.declared.unit.Item.{Item}
use Rattle.cc_tree.specs.declared.unit.Item.TheVariants as item
use Rattle.cc_tree.specs.declared.unit.Unit.{Unit as UnitTree}
use Rattle.cc_program.specs.CcWords.declared.word.Word.{Word}
use Rattle.cc_program.specs.CcWords.declared.word.Word.TheVariants as w

abbrev pub name_in : At Init → List Name
name_in i = option_to_list (name_of i.node.declr.node)

abbrev pub given_in : At Init → List Name
given_in i = if is_given i then name_in i else []

abbrev pub defined_with : Option Word → List (At Init) → List Name
defined_with (Some w.Typedef) is = []
defined_with (Some w.Extern) is = flat_map given_in is
defined_with _ is = flat_map name_in is

-- a function is no object
abbrev pub defined_by : Item → List Name
defined_by (item.Decl d) = defined_with (storage_in d.specs) d.inits
defined_by (item.Func specs d attrs body) = []

abbrev pub defined_names : UnitTree → List Name
defined_names u = flat_map (λ i. defined_by i.node) u.items
