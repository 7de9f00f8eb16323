use Rattle.std.proofs.Common.{[], ◌++◌, ℕ, List, take}
use Rattle.std.specs.List.{flat_map}
use Rattle.cc_names.specs.Holds.{Holds}
use Rattle.cc_syntax.specs.Names.{local_names}
use Rattle.cc_rewrite_names.proofs.reservations.reserve_locals.Given as goal

abbrev pub invariant-loop-f : goal.invariant-loop-f
invariant-loop-f l = (reserved : List (List ℕ)) → Holds l.initial.taken reserved [] → Holds l.taken (reserved ++ flat_map (λ x. local_names x.locals) (take l.f-index l.funcs)) []
