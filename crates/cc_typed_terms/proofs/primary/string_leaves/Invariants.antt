use Rattle.std.proofs.Common.{◌≡◌, map, take}
use Rattle.cc_typed_terms.specs.Primary.{char_leaf}
use Rattle.cc_typed_terms.proofs.primary.string_leaves.Given as goal

abbrev pub invariant-loop-byte : goal.invariant-loop-byte
invariant-loop-byte l = l.leaves.items ≡ map (char_leaf l.target) (take l.byte-index l.bytes)
