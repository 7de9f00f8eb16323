use Rattle.std.proofs.Common.{◌++◌, ℕ, List, ap, sym, subst, ◌∙◌}
use Rattle.std.specs.List.{flat_map}
use Rattle.cc_rules_again.specs.Again.{entry_readers}
use Rattle.cc_rules_asked.specs.Handlers.{AreHandlersOf}
use Rattle.cc_rules_readers.proofs.Rules.{handler_entry, handlers_on, handlers_all}
use Rattle.cc_rules_readers.proofs.calls.put_handler_readers.Goals as goal

pub put_entry_readers-requires : goal.put_entry_readers-requires
put_entry_readers-requires c = record {
  rules = c.requires.rules;
  index = c.requires.index;
  entry = handler_entry c.args.rules.now.program.now c.all-handlers.result.now c.loop-handler.handler-index _ (subst (AreHandlersOf c.args.rules.now.program.now) (sym c.all-handlers.ensures) c.requires.rules.handlers) c.loop-handler-test.true;
}

pub loop-handler-preserved : goal.loop-handler-preserved
loop-handler-preserved c =
    handlers_on c.args.rules.now.program.now (entry_readers c.args.rules.now.program.now) c.all-handlers.result.now c.loop-handler.handler-index _ c.args.list.now.items c.loop-handler.list.items c.put_entry_readers.new.list.items (subst (AreHandlersOf c.args.rules.now.program.now) (sym c.all-handlers.ensures) c.requires.rules.handlers) c.loop-handler-test.true c.loop-handler.invariant
    c.in_ok-put_entry_readers.ensures

pub returns : goal.returns
returns c =
    c.loop-handler.invariant
    ∙ ap (λ (xs : List ℕ). c.args.list.now.items ++ flat_map (entry_readers c.args.rules.now.program.now) xs) (handlers_all c.args.rules.now.program.now c.all-handlers.result.now c.loop-handler.handler-index (subst (AreHandlersOf c.args.rules.now.program.now) (sym c.all-handlers.ensures) c.requires.rules.handlers) c.loop-handler-test.false)
