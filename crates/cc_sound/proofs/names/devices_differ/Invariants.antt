use Rattle.std.proofs.Common.{◌≡◌, ◌++◌, length, map}
use Rattle.cc_program.specs.CcWords.Names.{are_distinct}
use Rattle.cc_typed.specs.CcSyntax.Names.{device_names, file_names, intrinsic_names}
use Rattle.cc_sound.proofs.names.devices_differ.Given as goal

abbrev pub invariant-loop-left : goal.invariant-loop-left
invariant-loop-left l =
    are_distinct (device_names l.left ++ (map (λ o. o.name) l.p.objects ++ (map (λ f. f.name) l.p.funcs ++ intrinsic_names l.p.roles))) ≡ are_distinct (file_names l.p)

abbrev pub decreases-loop-left : goal.decreases-loop-left
decreases-loop-left l = length l.left
