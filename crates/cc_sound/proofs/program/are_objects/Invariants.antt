use Rattle.std.proofs.Common.{◌≡◌, take, true}
use Rattle.std.specs.List.{list_all}
use Rattle.cc_typed.specs.CcSyntax.Sound.{is_object}
use Rattle.cc_sound.proofs.program.are_objects.Given as goal

abbrev pub invariant-loop-object : goal.invariant-loop-object
invariant-loop-object l = list_all (is_object l.p) (take l.object-index l.object-items) ≡ true
