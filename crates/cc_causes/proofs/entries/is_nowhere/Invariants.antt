use Rattle.std.proofs.Common.{◌≡◌, false, map}
use Rattle.std.specs.List.{list_any}
use Rattle.cc_causes.specs.Entries.{is_named}
use Rattle.cc_definitions.specs.Definitions.{numbers_below}
use Rattle.cc_linked_names.specs.Given.{given_name}
use Rattle.cc_things.specs.View.{thing_view}
use Rattle.cc_causes.proofs.entries.is_nowhere.Given as goal

abbrev pub invariant-loop-number : goal.invariant-loop-number
invariant-loop-number l = list_any (is_named (map thing_view l.things) (given_name l.given) l.name) (numbers_below l.number) ≡ false
