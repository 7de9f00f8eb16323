use Rattle.std.proofs.Common.{take, refl}
use Rattle.cc_rules_asked.specs.CcRules.Rules.{handlers_from}
use Rattle.cc_rules_functions.proofs.Gets.{stands}
use Rattle.cc_rules_made.proofs.HandlersMade.{next_handlers, all_handlers}
use Rattle.cc_rules_made.proofs.handlers.handlers_of.Goals as goal

pub put_handler-requires : goal.put_handler-requires
put_handler-requires c =
    c.requires.functions.each c.loop-id.id c.index-functions-id.result (stands c.args.functions.now c.args.functions.now c.loop-id.id c.index-functions-id.result refl c.loop-id-test.true c.index-functions-id.is)

pub loop-id-preserved : goal.loop-id-preserved
loop-id-preserved c =
    next_handlers c.args.p.now c.args.functions.now c.loop-id.id c.index-functions-id.result c.put_handler.new.handlers.items c.requires.functions c.loop-id-test.true c.index-functions-id.is
    (c.in_ok-put_handler.ensures (handlers_from 0 (take c.loop-id.id c.args.p.now.funcs)) c.loop-id.invariant)

pub returns : goal.returns
returns c = all_handlers c.args.p.now c.args.functions.now c.loop-id.id c.loop-id.handlers.items c.requires.functions c.loop-id-test.false c.loop-id.invariant
