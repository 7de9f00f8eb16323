use Rattle.std.proofs.Common.{◌≡◌, [], length, take, drop}
use Rattle.cc_typed.specs.CcSyntax.Sizes.{AreSized}
use Rattle.cc_typed.specs.CcSyntax.Sound.{are_structures as are_structures_of}
use Rattle.cc_sound.proofs.program.are_structures.Given as goal

abbrev pub invariant-loop-i : goal.invariant-loop-i
invariant-loop-i l =
    AreSized (take l.i l.structures) l.target
    × (are_structures_of (take l.i l.structures) (length l.structures) l.target (drop l.i l.structures) ≡ are_structures_of [] (length l.structures) l.target l.structures)
