use Rattle.std.proofs.Common.{◌≡◌, take}
use Rattle.std.specs.List.{filter}
use Rattle.cc_state_reads.specs.Named.{is_among}
use Rattle.cc_state_reads.proofs.named.those_among.Given as goal

abbrev pub invariant-loop-key : goal.invariant-loop-key
invariant-loop-key l = l.found.items ≡ filter (is_among l.classes) (take l.key-index l.keys)
