use Rattle.std.proofs.Common.{[], ◌++◌, ℕ, List, take, map}
use Rattle.cc_names.specs.Holds.{Holds}
use Rattle.cc_rewrite_names.proofs.reservations.reserve_funcs.Given as goal

abbrev pub invariant-loop-f : goal.invariant-loop-f
invariant-loop-f l = (reserved : List (List ℕ)) → Holds l.initial.taken reserved [] → Holds l.taken (reserved ++ map (λ x. x.name) (take l.f-index l.funcs)) []
