use Rattle.std.proofs.Common.{◌≡◌, take, map, max}
use Rattle.std.specs.List.{fold}
use Rattle.cc_lower_numbers.specs.Temporaries.{temporary_count}
use Rattle.cc_lower_numbers.proofs.names.most_temporaries.Given as goal

abbrev pub invariant-loop-f : goal.invariant-loop-f
invariant-loop-f l = l.most ≡ fold max 0 (map temporary_count (take l.f-index l.f-items))
