use Rattle.std.proofs.Common.{slice_get}
use Rattle.cc_rules_calls.specs.Here.{asked_of_one}
use Rattle.cc_rules_calls.proofs.Listed.{flat_on}
use Rattle.cc_rules_calls.proofs.entries.asked_of_functions.Goals as goal

pub put_called-requires : goal.put_called-requires
put_called-requires g c = record {
  keys = c.requires.keys;
  few_keys = c.requires.few_keys;
  few_locals = c.requires.few_locals;
  functions = c.requires.functions;
  there = c.requires.there c.loop-id.id-index 0 c.loop-id-test.true;
}

pub loop-id-preserved : goal.loop-id-preserved
loop-id-preserved g c =
    flat_on (λ h. asked_of_one c.args.here.now h (slice_get c.args.functions.now h) c.args.sets.now) c.args.ids.now c.loop-id.id-index 0 c.loop-id.asked.items c.put_called.new.asked.items c.loop-id-test.true c.loop-id.invariant
    c.in_ok-put_called.ensures
