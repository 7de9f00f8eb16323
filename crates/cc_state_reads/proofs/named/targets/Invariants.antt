use Rattle.std.proofs.Common.{◌≡◌, take}
use Rattle.std.specs.List.{flat_map}
use Rattle.cc_state_reads.specs.Named.{target_class}
use Rattle.cc_state_reads.proofs.named.targets.Given as goal

abbrev pub invariant-loop-member : goal.invariant-loop-member
invariant-loop-member l = l.classes.items ≡ flat_map (target_class l.p) (take l.member-index l.members)
