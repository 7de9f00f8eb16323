use Rattle.std.proofs.Common.{refl}
use Rattle.cc_rules_made.proofs.HandlersMade.{is_handler_of}
use Rattle.cc_rules_made.proofs.handlers.handler_of.Goals as goal

pub register_count-requires : goal.register_count-requires
register_count-requires c = c.requires.few

pub returns : goal.returns
returns c = is_handler_of c.args.p.now c.args.id c.args.f.now _ c.requires refl c.level_of.ensures refl c.register_count.ensures
