use Rattle.std.proofs.Common.{arith, sym}
use Rattle.cc_rules_calls.proofs.Far.{far_parameter}
use Rattle.cc_rules_calls.proofs.entries.parameter_key.Goals as goal

pub returns-in-Err : goal.returns-in-Err
returns-in-Err c = sym (far_parameter c.args.function c.args.parameter (omega (arith, c.in-Err.ensures)) c.args.p.now c.requires.few_locals)
