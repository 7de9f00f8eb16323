use Rattle.std.proofs.Common.{◌≡◌, take, true}
use Rattle.std.specs.List.{list_all}
use Rattle.cc_typed.specs.CcSyntax.Sound.{is_member}
use Rattle.cc_sound.proofs.program.all_members.Given as goal

abbrev pub invariant-loop-t : goal.invariant-loop-t
invariant-loop-t l = list_all (is_member l.before l.count l.target) (take l.t-index l.members) ≡ true
