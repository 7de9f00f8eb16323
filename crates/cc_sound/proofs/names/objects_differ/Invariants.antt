use Rattle.std.proofs.Common.{◌≡◌, ◌++◌, length, map}
use Rattle.cc_program.specs.CcWords.Names.{are_distinct}
use Rattle.cc_typed.specs.CcSyntax.Names.{intrinsic_names}
use Rattle.cc_sound.proofs.names.objects_differ.Given as goal

abbrev pub invariant-loop-left : goal.invariant-loop-left
invariant-loop-left l =
    are_distinct (map (λ o. o.name) l.left ++ (map (λ f. f.name) l.p.funcs ++ intrinsic_names l.p.roles))
    ≡ are_distinct (map (λ o. o.name) l.fn.objects ++ (map (λ f. f.name) l.p.funcs ++ intrinsic_names l.p.roles))

abbrev pub decreases-loop-left : goal.decreases-loop-left
decreases-loop-left l = length l.left
