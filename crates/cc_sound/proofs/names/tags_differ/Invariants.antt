use Rattle.std.proofs.Common.{◌≡◌, length, map}
use Rattle.cc_program.specs.CcWords.Names.{are_distinct}
use Rattle.cc_sound.proofs.names.tags_differ.Given as goal

abbrev pub invariant-loop-left : goal.invariant-loop-left
invariant-loop-left l = are_distinct (map (λ s. s.tag) l.left) ≡ are_distinct (map (λ s. s.tag) l.fn.structures)

abbrev pub decreases-loop-left : goal.decreases-loop-left
decreases-loop-left l = length l.left
