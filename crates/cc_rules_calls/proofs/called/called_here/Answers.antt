use Rattle.std.proofs.Common.{◌≡◌}
use Rattle.std.proofs.lemmas.Result.{IfOk-weaker}
use Rattle.cc_rules_calls.specs.Called.{functions_in}
use Rattle.cc_rules_calls.proofs.called.called_here.Goals as goal

pub value_of-requires : goal.value_of-requires
value_of-requires g c = record { sized = c.requires.sized; sets = c.requires.sets; pure = c.requires.pure }

pub returns : goal.returns
returns g c = IfOk-weaker c.functions_in.result (λ functions. functions.items ≡ functions_in c.in_ok-set.set) _ (λ functions e. (c.in_ok-set.set, c.in_ok-set.ensures.value, e)) c.functions_in.ensures
