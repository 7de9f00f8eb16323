use Rattle.std.proofs.Common.{◌<◌, length, get_or, arith}
use Rattle.std.proofs.lemmas.List.{get_or_default}
use Rattle.cc_make.specs.Source.{call}
use Rattle.cc_make.proofs.Parts.{nothing, put_more}
use Rattle.cc_make.proofs.source.put_calls.Goals as goal

pub loop-number-preserved : goal.loop-number-preserved
loop-number-preserved c =
    let counters = c.args.counters.now in
    let i = c.loop-number.number in
    let l : i < length counters = omega (arith, c.loop-number-test.true) in
    put_more (λ number counter. call number) counters i (get_or counters i nothing) l (get_or_default counters i nothing (get_or counters i nothing) l) c.args.text.now.items c.loop-number.text.items c.put_call.new.text.items c.loop-number.invariant c.in_ok-put_call.ensures
