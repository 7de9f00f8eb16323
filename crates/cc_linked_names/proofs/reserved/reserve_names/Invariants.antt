use Rattle.std.proofs.Common.{[], ◌++◌, ℕ, List, take}
use Rattle.cc_names.specs.Holds.{Holds}
use Rattle.cc_linked_names.proofs.reserved.reserve_names.Given as goal

abbrev pub invariant-loop-name : goal.invariant-loop-name
invariant-loop-name l = (reserved : List (List ℕ)) → Holds l.initial.taken reserved [] → Holds l.taken (reserved ++ take l.name-index l.names) []
