use Rattle.std.proofs.Common.{◌++◌, [], cond, append-nil, sym, ap, ◌∙◌}
use Rattle.std.specs.List.{flat_map}
use Rattle.cc_rules_again.specs.Again.{point_readers}
use Rattle.cc_rules_readers.specs.declared.deeds.Called.{Called}
use Rattle.cc_rules_readers.specs.View.{is_some_call}
use Rattle.cc_rules_readers.proofs.asking.put_back_readers.Goals as goal

pub returns-in-Nothing : goal.returns-in-Nothing
returns-in-Nothing c = sym (append-nil c.args.list.now.items) ∙ ap (λ (x : Called). c.args.list.now.items ++ cond (is_some_call x) (flat_map (point_readers c.args.rules.now.program.now) c.args.next.now) []) (sym c.in-Nothing.is)
