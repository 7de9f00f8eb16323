use Rattle.std.proofs.Common.{◌++◌, slice_get, ap, ◌∙◌}
use Rattle.std.specs.Option.{option_to_list}
use Rattle.cc_rules_calls.proofs.Listed.{flat_on}
use Rattle.cc_rules_calls.proofs.entries.sets_of.Goals as goal

pub loop-register-preserved : goal.loop-register-preserved
loop-register-preserved g c =
    flat_on (λ r. option_to_list (slice_get c.args.sets.now r)) c.args.registers.now c.loop-register.register-index 0 c.loop-register.locals.items c.put_set.new.sets.items c.loop-register-test.true c.loop-register.invariant
    (c.in_ok-put_set.ensures ∙ ap (λ o. c.loop-register.locals.items ++ option_to_list o) c.at.ensures)
