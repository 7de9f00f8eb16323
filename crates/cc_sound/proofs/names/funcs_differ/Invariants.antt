use Rattle.std.proofs.Common.{◌≡◌, ◌++◌, length, map}
use Rattle.cc_program.specs.CcWords.Names.{are_distinct}
use Rattle.cc_typed.specs.CcSyntax.Names.{intrinsic_names}
use Rattle.cc_sound.proofs.names.funcs_differ.Given as goal

abbrev pub invariant-loop-left : goal.invariant-loop-left
invariant-loop-left l = are_distinct (map (λ f. f.name) l.left ++ intrinsic_names l.roles) ≡ are_distinct (map (λ f. f.name) l.fn.funcs ++ intrinsic_names l.roles)

abbrev pub decreases-loop-left : goal.decreases-loop-left
decreases-loop-left l = length l.left
