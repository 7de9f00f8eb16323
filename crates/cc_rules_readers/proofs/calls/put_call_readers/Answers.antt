use Rattle.std.proofs.Common.{◌++◌, append-nil, sym, ap, ◌∙◌}
use Rattle.std.specs.List.{filter, flat_map}
use Rattle.std.proofs.lemmas.Result.{on_ok_weaker}
use Rattle.cc_rules_again.specs.Again.{ids, call_readers}
use Rattle.cc_rules_readers.specs.declared.deeds.Called.{Called}
use Rattle.cc_rules_readers.specs.View.{calls_it}
use Rattle.cc_rules_readers.proofs.Rules.{none_called, each_called, one_called}
use Rattle.cc_rules_readers.proofs.Unstable.{functions_few}
use Rattle.cc_rules_readers.proofs.calls.put_call_readers.Goals as goal

pub returns-in-Nothing : goal.returns-in-Nothing
returns-in-Nothing g c =
    sym (append-nil c.args.list.now.items)
    ∙ (ap (λ xs. c.args.list.now.items ++ flat_map (call_readers c.args.rules.now.program.now c.args.facts.now) xs) (sym (none_called (ids c.args.rules.now.program.now)))
    ∙ ap (λ (x : Called). c.args.list.now.items ++ flat_map (call_readers c.args.rules.now.program.now c.args.facts.now) (filter (calls_it x) (ids c.args.rules.now.program.now))) (sym c.in-Nothing.is))

pub put_called-requires : goal.put_called-requires
put_called-requires g c = record { rules = c.requires.rules; index = c.requires.index }

pub returns-in-Function : goal.returns-in-Function
returns-in-Function g c =
    on_ok_weaker c.put_called.result
    (λ h. h ∙ (ap (λ xs. c.args.list.now.items ++ flat_map (call_readers c.args.rules.now.program.now c.args.facts.now) xs) (sym (one_called c.args.rules.now.program.now c.args.rules.now.functions c.requires.rules.functions c.in-Function.g))
    ∙ ap (λ (x : Called). c.args.list.now.items ++ flat_map (call_readers c.args.rules.now.program.now c.args.facts.now) (filter (calls_it x) (ids c.args.rules.now.program.now))) (sym c.in-Function.is)))
    c.put_called.ensures

pub put_all_called-requires : goal.put_all_called-requires
put_all_called-requires g c = record { rules = c.requires.rules; index = c.requires.index; few = functions_few c.args.rules.now.program.now c.args.rules.now c.args.index.now c.requires.rules c.requires.index }

pub returns-in-Each : goal.returns-in-Each
returns-in-Each g c =
    on_ok_weaker c.put_all_called.result
    (λ h. h ∙ (ap (λ xs. c.args.list.now.items ++ flat_map (call_readers c.args.rules.now.program.now c.args.facts.now) xs) (sym (each_called c.args.rules.now.program.now))
    ∙ ap (λ (x : Called). c.args.list.now.items ++ flat_map (call_readers c.args.rules.now.program.now c.args.facts.now) (filter (calls_it x) (ids c.args.rules.now.program.now))) (sym c.in-Each.is)))
    c.put_all_called.ensures
