use Rattle.std.proofs.Common.{◌≡◌, take, true}
use Rattle.std.specs.List.{list_all}
use Rattle.cc_typed.specs.CcSyntax.Sound.{is_local}
use Rattle.cc_sound.proofs.program.are_locals.Given as goal

abbrev pub invariant-loop-t : goal.invariant-loop-t
invariant-loop-t l = list_all (is_local l.p) (take l.t-index l.locals) ≡ true
