use Rattle.std.proofs.Common.{◌≡◌, map, take}
use Rattle.cc_places.specs.Kept.{starred_part}
use Rattle.cc_places.proofs.address.starred_path.Given as goal

abbrev pub invariant-loop-part : goal.invariant-loop-part
invariant-loop-part l = l.parts.items ≡ map starred_part (take l.part-index l.path)
