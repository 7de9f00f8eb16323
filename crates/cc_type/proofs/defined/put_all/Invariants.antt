use Rattle.std.proofs.Common.{◌≡◌, ◌++◌, take}
use Rattle.std.specs.List.{flat_map}
use Rattle.cc_type.specs.Defined.{name_in}
use Rattle.cc_type.proofs.defined.put_all.Given as goal

abbrev pub invariant-loop-i : goal.invariant-loop-i
invariant-loop-i l = l.names.items ≡ l.initial.names.items ++ flat_map name_in (take l.i-index l.inits)
