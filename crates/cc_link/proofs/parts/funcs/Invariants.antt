use Rattle.std.proofs.Common.{◌≡◌, map, take}
use Rattle.std.specs.Prelude.{filter_map}
use Rattle.cc_linked_names.specs.Given.{given_name}
use Rattle.cc_things.specs.View.{thing_view}
use Rattle.cc_link.specs.Linked.{func_at}
use Rattle.cc_link.proofs.parts.funcs.Given as goal

abbrev pub invariant-loop-function : goal.invariant-loop-function
invariant-loop-function l = l.funcs.items ≡ filter_map (func_at (map thing_view l.things) (given_name l.given) l.roles l.ids) (take l.function-index l.function-items)
