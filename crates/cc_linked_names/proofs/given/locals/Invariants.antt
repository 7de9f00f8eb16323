use Rattle.std.proofs.Common.{◌≡◌, ◌++◌, ℕ, List, drop, map}
use Rattle.cc_linked_names.proofs.Giving.{names_in}
use Rattle.cc_linked_names.specs.Given.{locals_for}
use Rattle.cc_names.specs.Holds.{Holds}
use Rattle.cc_names.specs.View.{HaveSame}
use Rattle.cc_things.specs.View.{thing_view}
use Rattle.cc_linked_names.proofs.given.locals.Given as goal

abbrev pub invariant-loop-number : goal.invariant-loop-number
invariant-loop-number l = (reserved given had : List (List ℕ)) → Holds l.initial.taken reserved given → HaveSame l.file had →
    Holds l.taken reserved (given ++ names_in l.locals.items)
    × (locals_for (map thing_view l.things) reserved had given l.functions
    ≡ l.locals.items ++ locals_for (map thing_view l.things) reserved had (given ++ names_in l.locals.items) (drop l.number-index l.functions))
