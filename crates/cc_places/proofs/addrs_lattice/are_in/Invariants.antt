use Rattle.std.proofs.Common.{take}
use Rattle.std.specs.List.{Contains}
use Rattle.cc_program.specs.declared.value.Address.{Address}
use Rattle.cc_places.specs.Sets.{HasAddress}
use Rattle.cc_places.proofs.addrs_lattice.are_in.Given as goal

abbrev pub invariant-loop-member : goal.invariant-loop-member
invariant-loop-member l = (m : Address) → Contains (take l.member-index l.members) m → HasAddress l.set m
