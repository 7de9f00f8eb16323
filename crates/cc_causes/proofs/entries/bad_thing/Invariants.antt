use Rattle.std.proofs.Common.{◌≡◌, None, map}
use Rattle.std.specs.Prelude.{find}
use Rattle.cc_definitions.specs.Definitions.{numbers_below}
use Rattle.cc_causes.specs.Entries.{is_bad_handler}
use Rattle.cc_linked_names.specs.Given.{given_name}
use Rattle.cc_things.specs.View.{thing_view}
use Rattle.cc_causes.proofs.entries.bad_thing.Given as goal

abbrev pub invariant-loop-number : goal.invariant-loop-number
invariant-loop-number l = find (is_bad_handler (map thing_view l.things) l.roles (given_name l.given)) (numbers_below l.number) ≡ None
