use Rattle.std.proofs.Common.{take}
use Rattle.std.specs.List.{All}
use Rattle.cc_typed.specs.CcSyntax.Programs.{IsInitial}
use Rattle.cc_sound.proofs.program.are_initial.Given as goal

abbrev pub invariant-loop-object : goal.invariant-loop-object
invariant-loop-object l = All (λ o. IsInitial l.p o.ctype o.init) (take l.object-index l.object-items)
