use Rattle.std.proofs.Common.{◌≡◌, map, take}
use Rattle.cc_names.specs.Names.{Own}
use Rattle.cc_names.specs.View.{wishes_of}
use Rattle.cc_linked_names.proofs.wishes.wishes_in.Given as goal

abbrev pub invariant-loop-local : goal.invariant-loop-local
invariant-loop-local l = wishes_of l.wishes.items ≡ map (λ x. Own x.0) (take l.local-index l.local-items)
