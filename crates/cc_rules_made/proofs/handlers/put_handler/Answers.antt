use Rattle.std.proofs.Common.{sym}
use Rattle.cc_rules_made.proofs.HandlersMade.{none_more, one_more}
use Rattle.cc_rules_made.proofs.handlers.put_handler.Goals as goal
use Rattle.cc_rules_asked.specs.CcSyntax.Operators.{is_handler}

pub returns-then-not-is_handler : goal.returns-then-not-is_handler
returns-then-not-is_handler c ids z = none_more c.args.p.now c.args.handlers.now.items (is_handler c.args.f.now.func.now) c.args.id ids (sym c.if-not-is_handler.ensures) z

pub returns : goal.returns
returns c ids z =
    one_more c.args.p.now c.args.handlers.now.items c.push.new.self.items c.handler_of.result (is_handler c.args.f.now.func.now) c.args.id ids (sym c.if-not-is_handler.ensures) c.handler_of.ensures c.in_ok-push.ensures.items z
