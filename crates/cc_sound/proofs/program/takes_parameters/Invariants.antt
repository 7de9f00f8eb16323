use Rattle.std.proofs.Common.{◌≡◌, take, true}
use Rattle.std.specs.List.{list_all}
use Rattle.cc_typed.specs.CcSyntax.Kinds.{is_plain_scalar}
use Rattle.cc_typed.specs.CcSyntax.Programs.{kind_in}
use Rattle.cc_sound.proofs.program.takes_parameters.Given as goal

abbrev pub invariant-loop-t : goal.invariant-loop-t
invariant-loop-t l = list_all (λ t. is_plain_scalar (kind_in l.p t)) (take l.t-index l.params) ≡ true
