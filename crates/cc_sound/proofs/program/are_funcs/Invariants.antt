use Rattle.std.proofs.Common.{◌≡◌, take, true}
use Rattle.std.specs.List.{list_all}
use Rattle.cc_sound.specs.Functions.{is_func}
use Rattle.cc_sound.proofs.program.are_funcs.Given as goal

abbrev pub invariant-loop-f : goal.invariant-loop-f
invariant-loop-f l = list_all (is_func l.p) (take l.f-index l.f-items) ≡ true
